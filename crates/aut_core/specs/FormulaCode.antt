-- A code of conditions, their postfix notation, by which the prover compares them. It has no meaning beyond that.
use Rattle.std.specs.Prelude.{◌≡◌, ℕ, ◌==◌, true, false, if◌then◌else◌, List, [], ◌∷◌, refl}
use Rattle.std.specs.Coded.{Coded, code_by, coded×, coded_list, coded_ℕ}
use Rattle.std.proofs.Common.{◌∙◌}
use Rattle.aut_base.specs.Formula.{FormulaTree, FormulaTrees, True, False, Inf, Fin, And, Or, none, more}

-- the postfix notation of a condition, followed by other words: each is the kind of an operator or atom, and the number of a set
abbrev mutual
  pub words : FormulaTree → List (ℕ × ℕ) → List (ℕ × ℕ)
  words True rest = (0, 0) ∷ rest
  words False rest = (1, 0) ∷ rest
  words (Inf set false) rest = (2, set) ∷ rest
  words (Inf set true) rest = (3, set) ∷ rest
  words (Fin set false) rest = (4, set) ∷ rest
  words (Fin set true) rest = (5, set) ∷ rest
  words (And a b cs) rest = words a (words b (part_words cs ((6, 0) ∷ rest)))
  words (Or a b cs) rest = words a (words b (part_words cs ((7, 0) ∷ rest)))

  pub part_words : FormulaTrees → List (ℕ × ℕ) → List (ℕ × ℕ)
  part_words none rest = (8, 0) ∷ rest
  part_words (more f fs) rest = words f (part_words fs ((9, 0) ∷ rest))

-- the stack of a reader of the notation: conditions and lists of parts that aren't part of another yet, the last one first
pub record Read : Type 0 where
  pub conditions : List FormulaTree
  pub parts : List FormulaTrees

abbrev pub read_condition : FormulaTree → Read → Read
read_condition f r = record { conditions = f ∷ r.conditions; parts = r.parts }

abbrev pub join_parts : (FormulaTree → FormulaTree → FormulaTrees → FormulaTree) → List FormulaTree → List FormulaTrees → Read
join_parts make (b ∷ a ∷ fs) (cs ∷ ps) = record { conditions = make a b cs ∷ fs; parts = ps }
join_parts make _ _ = record { conditions = []; parts = [] }

abbrev pub add_part : List FormulaTree → List FormulaTrees → Read
add_part (f ∷ fs) (cs ∷ ps) = record { conditions = fs; parts = more f cs ∷ ps }
add_part _ _ = record { conditions = []; parts = [] }

abbrev pub read_word : ℕ × ℕ → Read → Read
read_word w r =
    if w.0 == 0 then read_condition True r else if w.0 == 1 then read_condition False r
    else if w.0 == 2 then read_condition (Inf w.1 false) r else if w.0 == 3 then read_condition (Inf w.1 true) r
    else if w.0 == 4 then read_condition (Fin w.1 false) r else if w.0 == 5 then read_condition (Fin w.1 true) r
    else if w.0 == 6 then join_parts And r.conditions r.parts else if w.0 == 7 then join_parts Or r.conditions r.parts
    else if w.0 == 8 then record { conditions = r.conditions; parts = none ∷ r.parts } else add_part r.conditions r.parts

abbrev pub read_words : List (ℕ × ℕ) → Read → Read
read_words [] r = r
read_words (w ∷ ws) r = read_words ws (read_word w r)

abbrev pub last_condition : List FormulaTree → FormulaTree
last_condition [] = True
last_condition (f ∷ fs) = f

abbrev pub condition_of : List (ℕ × ℕ) → FormulaTree
condition_of ws = last_condition (read_words ws (record { conditions = []; parts = [] })).conditions

mutual
  pub read_words-words : (f : FormulaTree) (ws : List (ℕ × ℕ)) (fs : List FormulaTree) (ps : List FormulaTrees)
      → read_words (words f ws) (record { conditions = fs; parts = ps }) ≡ read_words ws (record { conditions = f ∷ fs; parts = ps })
  read_words-words True ws fs ps = refl
  read_words-words False ws fs ps = refl
  read_words-words (Inf set false) ws fs ps = refl
  read_words-words (Inf set true) ws fs ps = refl
  read_words-words (Fin set false) ws fs ps = refl
  read_words-words (Fin set true) ws fs ps = refl
  read_words-words (And a b cs) ws fs ps = read_words-words a _ fs ps ∙ (read_words-words b _ (a ∷ fs) ps ∙ read_words-part_words cs ((6, 0) ∷ ws) (b ∷ a ∷ fs) ps)
  read_words-words (Or a b cs) ws fs ps = read_words-words a _ fs ps ∙ (read_words-words b _ (a ∷ fs) ps ∙ read_words-part_words cs ((7, 0) ∷ ws) (b ∷ a ∷ fs) ps)

  pub read_words-part_words : (cs : FormulaTrees) (ws : List (ℕ × ℕ)) (fs : List FormulaTree) (ps : List FormulaTrees)
      → read_words (part_words cs ws) (record { conditions = fs; parts = ps }) ≡ read_words ws (record { conditions = fs; parts = cs ∷ ps })
  read_words-part_words none ws fs ps = refl
  read_words-part_words (more f cs) ws fs ps = read_words-words f _ fs ps ∙ read_words-part_words cs ((9, 0) ∷ ws) (f ∷ fs) ps

pub condition_of-words : (f : FormulaTree) → condition_of (words f []) ≡ f
condition_of-words f = λ i. last_condition (read_words-words f [] [] [] i).conditions

abbrev pub formula_code : Coded FormulaTree
formula_code = code_by (List (ℕ × ℕ)) (coded_list (coded× coded_ℕ coded_ℕ)) (λ f. words f []) condition_of condition_of-words
