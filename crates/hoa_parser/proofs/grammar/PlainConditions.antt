-- An acceptance condition is written down as a phrase of the grammar, which opens no more than any other that means the
-- same.
use Rattle.std.proofs.Common.{◌≡◌, ℕ, suc, ◌≤◌, ◌∷◌, ◌++◌, refl, ◌∙◌, arith}
use Rattle.std.proofs.Math.Path.{ap₂}
use Rattle.std.proofs.lemmas.List.{append-nil}
use Rattle.hoa_lexer.specs.declared.token.Token.TheVariants.{Amp}
use Rattle.aut_base.specs.Formula as formula
use Rattle.aut_base.specs.Formula.{FormulaTree, FormulaTrees, trees}
use Rattle.hoa_parser.specs.Phrases.{Condition, ConditionWithin, Fands, FandsWithin, Fatom, FatomWithin, Fatoms, FatomsWithin, formula_conjunction}
use Rattle.hoa_parser.specs.Phrases.{condition_meaning, condition_tokens, fands_meaning, fands_tokens, fatom_meaning, fatom_tokens, fatoms_meaning}
use Rattle.hoa_parser.specs.Phrases.{fatoms_tokens}
use Rattle.hoa_parser.specs.Phrases.Condition.{condition}
use Rattle.hoa_parser.specs.Phrases.Fands.{no_fand, or_fand}
use Rattle.hoa_parser.specs.Phrases.Fatoms.{no_fatom, and_fatom}
use Rattle.hoa_parser.specs.Phrases.Fatom.{true_condition, false_condition, infinitely, finitely, condition_group}
use Rattle.hoa_parser.proofs.grammar.JoinedParts.{ap₃}
use Rattle.hoa_parser.specs.WrittenDown.{written_formula, written_atoms, written_conjunctions}
use Rattle.hoa_parser.specs.WrittenDown.Cursor.{Alone, InOr, InAnd}
use Rattle.hoa_parser.proofs.grammar.PlainLabels.{and_line, or_line, more_line, in_group}

-- the factors of a phrase, where a conjunction in parentheses is taken out of them, and the condition that it is alone
abbrev head_of : Fatom → Fatom
head_of (condition_group (condition f fs no_fand)) = f
head_of f = f

abbrev tail_of : Fatom → Fatoms
tail_of (condition_group (condition f fs no_fand)) = fs
tail_of f = no_fatom

abbrev condition_of : Fatom → Condition
condition_of (condition_group l) = l
condition_of f = condition f no_fatom no_fand

-- the phrases of a tree between `&`, between `|` (a first factor and more), and alone
abbrev mutual
  pub plain_fatom : FormulaTree → Fatom
  plain_fatom formula.True = true_condition
  plain_fatom formula.False = false_condition
  plain_fatom (formula.Inf set neg) = infinitely set neg
  plain_fatom (formula.Fin set neg) = finitely set neg
  plain_fatom (formula.And t u ts) = condition_group (condition (plain_fatom t) (and_fatom (plain_fatom u) (plain_fatoms ts)) no_fand)
  plain_fatom (formula.Or t u ts) =
      condition_group (condition (head_of (plain_fatom t)) (tail_of (plain_fatom t)) (or_fand (head_of (plain_fatom u)) (tail_of (plain_fatom u)) (plain_fands ts)))

  pub plain_fatoms : FormulaTrees → Fatoms
  plain_fatoms formula.none = no_fatom
  plain_fatoms (formula.more t ts) = and_fatom (plain_fatom t) (plain_fatoms ts)

  pub plain_fands : FormulaTrees → Fands
  plain_fands formula.none = no_fand
  plain_fands (formula.more t ts) = or_fand (head_of (plain_fatom t)) (tail_of (plain_fatom t)) (plain_fands ts)

abbrev pub plain_head : FormulaTree → Fatom
plain_head t = head_of (plain_fatom t)

abbrev pub plain_tail : FormulaTree → Fatoms
plain_tail t = tail_of (plain_fatom t)

abbrev pub plain_condition : FormulaTree → Condition
plain_condition t = condition_of (plain_fatom t)

-- their tokens

mutual
  fatom_spells : (t : FormulaTree) → fatom_tokens (plain_fatom t) ≡ written_formula InAnd t
  fatom_spells formula.True = refl
  fatom_spells formula.False = refl
  fatom_spells (formula.Inf set neg) = refl
  fatom_spells (formula.Fin set neg) = refl
  fatom_spells (formula.And t u ts) = in_group _ _ (and_line _ _ _ _ _ _ (fatom_spells t) (fatom_spells u) (fatoms_spells ts))
  fatom_spells (formula.Or t u ts) = in_group _ _ (or_line _ _ _ _ _ _ _ _ (fand_spells t) (fand_spells u) (fands_spells ts))

  fand_spells : (t : FormulaTree) → fatom_tokens (plain_head t) ++ fatoms_tokens (plain_tail t) ≡ written_formula InOr t
  fand_spells formula.True = refl
  fand_spells formula.False = refl
  fand_spells (formula.Inf set neg) = append-nil (fatom_tokens (infinitely set neg))
  fand_spells (formula.Fin set neg) = append-nil (fatom_tokens (finitely set neg))
  fand_spells (formula.And t u ts) = ap₃ (λ x y z. x ++ Amp ∷ (y ++ z)) (fatom_spells t) (fatom_spells u) (fatoms_spells ts)
  fand_spells (formula.Or t u ts) = append-nil _ ∙ in_group _ _ (or_line _ _ _ _ _ _ _ _ (fand_spells t) (fand_spells u) (fands_spells ts))

  fatoms_spells : (ts : FormulaTrees) → fatoms_tokens (plain_fatoms ts) ≡ written_atoms ts
  fatoms_spells formula.none = refl
  fatoms_spells (formula.more t ts) = ap₂ (λ y z. Amp ∷ (y ++ z)) (fatom_spells t) (fatoms_spells ts)

  fands_spells : (ts : FormulaTrees) → fands_tokens (plain_fands ts) ≡ written_conjunctions ts
  fands_spells formula.none = refl
  fands_spells (formula.more t ts) = more_line _ _ _ _ _ (fand_spells t) (fands_spells ts)

pub condition_spells : (t : FormulaTree) → condition_tokens (plain_condition t) ≡ written_formula Alone t
condition_spells formula.True = refl
condition_spells formula.False = refl
condition_spells (formula.Inf set neg) = append-nil (fatom_tokens (infinitely set neg))
condition_spells (formula.Fin set neg) = append-nil (fatom_tokens (finitely set neg))
condition_spells (formula.And t u ts) = and_line _ _ _ _ _ _ (fatom_spells t) (fatom_spells u) (fatoms_spells ts)
condition_spells (formula.Or t u ts) = or_line _ _ _ _ _ _ _ _ (fand_spells t) (fand_spells u) (fands_spells ts)

-- what they mean, which is the same between `|` and alone as between `&`

head_means : (t : FormulaTree) → formula_conjunction (fatom_meaning (plain_head t)) (fatoms_meaning (plain_tail t)) ≡ fatom_meaning (plain_fatom t)
head_means formula.True = refl
head_means _ = refl

mutual
  fatom_means : (t : FormulaTree) → fatom_meaning (plain_fatom t) ≡ t
  fatom_means (formula.And t u ts) = ap₃ formula.And (fatom_means t) (fatom_means u) (fatoms_mean ts)
  fatom_means (formula.Or t u ts) = ap₃ formula.Or (head_means t ∙ fatom_means t) (head_means u ∙ fatom_means u) (fands_mean ts)
  fatom_means _ = refl

  fatoms_mean : (ts : FormulaTrees) → trees (fatoms_meaning (plain_fatoms ts)) ≡ ts
  fatoms_mean formula.none = refl
  fatoms_mean (formula.more t ts) = ap₂ formula.more (fatom_means t) (fatoms_mean ts)

  fands_mean : (ts : FormulaTrees) → trees (fands_meaning (plain_fands ts)) ≡ ts
  fands_mean formula.none = refl
  fands_mean (formula.more t ts) = ap₂ formula.more (head_means t ∙ fatom_means t) (fands_mean ts)

pub condition_means : (t : FormulaTree) → condition_meaning (plain_condition t) ≡ t
condition_means formula.True = refl
condition_means t = fatom_means t

-- where more may be open, or fewer are open around it

mutual
  pub condition_laxer : (m n d e : ℕ) (l : Condition) → m ≤ n → e ≤ d → ConditionWithin m d l → ConditionWithin n e l
  condition_laxer m n d e (condition f fs ls) j k h = (fatom_laxer m n d e f j k h.0, fatoms_laxer m n d e fs j k h.1, fands_laxer m n d e ls j k h.2)

  fands_laxer : (m n d e : ℕ) (ls : Fands) → m ≤ n → e ≤ d → FandsWithin m d ls → FandsWithin n e ls
  fands_laxer m n d e no_fand j k h = tt
  fands_laxer m n d e (or_fand f fs ls) j k h = (fatom_laxer m n d e f j k h.0, fatoms_laxer m n d e fs j k h.1, fands_laxer m n d e ls j k h.2)

  fatoms_laxer : (m n d e : ℕ) (fs : Fatoms) → m ≤ n → e ≤ d → FatomsWithin m d fs → FatomsWithin n e fs
  fatoms_laxer m n d e no_fatom j k h = tt
  fatoms_laxer m n d e (and_fatom f fs) j k h = (fatom_laxer m n d e f j k h.0, fatoms_laxer m n d e fs j k h.1)

  fatom_laxer : (m n d e : ℕ) (f : Fatom) → m ≤ n → e ≤ d → FatomWithin m d f → FatomWithin n e f
  fatom_laxer m n d e (condition_group l) j k h = (omega (arith, j, k, h.0), condition_laxer m n (suc d) (suc e) l j (omega (arith, k)) h.1)
  fatom_laxer m n d e _ j k h = tt

-- what is within between `&` is within alone, and between `|`

alone_within : (m d : ℕ) (t : FormulaTree) → FatomWithin m d (plain_fatom t) → ConditionWithin m d (plain_condition t)
alone_within m d (formula.And t u ts) h = condition_laxer m m (suc d) d (plain_condition (formula.And t u ts)) (omega arith) (omega arith) h.1
alone_within m d (formula.Or t u ts) h = condition_laxer m m (suc d) d (plain_condition (formula.Or t u ts)) (omega arith) (omega arith) h.1
alone_within m d _ h = (h, tt, tt)

abbrev FandWithin : ℕ → ℕ → FormulaTree → Type 0
FandWithin m d t = FatomWithin m d (plain_head t) × FatomsWithin m d (plain_tail t)

fand_within : (m d : ℕ) (t : FormulaTree) → FatomWithin m d (plain_fatom t) → FandWithin m d t
fand_within m d (formula.And t u ts) h =
    let l = condition_laxer m m (suc d) d (plain_condition (formula.And t u ts)) (omega arith) (omega arith) h.1 in
    (l.0, l.1)
fand_within m d _ h = (h, tt)

-- what is within alone, behind one more `(`, is within between `&`
grouped_within : (m d : ℕ) (t : FormulaTree) → suc d ≤ m → ConditionWithin m (suc d) (plain_condition t) → FatomWithin m d (plain_fatom t)
grouped_within m d (formula.And t u ts) k h = (k, h)
grouped_within m d (formula.Or t u ts) k h = (k, h)
grouped_within m d _ k h = h.0

-- the parts of a conjunction
chain_within : (m d : ℕ) (f : Fatom) (fs : Fatoms) → FatomWithin m d (plain_fatom (fatom_meaning f)) → FatomsWithin m d (plain_fatoms (trees (fatoms_meaning fs)))
    → FandWithin m d (formula_conjunction (fatom_meaning f) (fatoms_meaning fs))
chain_within m d f no_fatom h k = fand_within m d (fatom_meaning f) h
chain_within m d f (and_fatom g gs) h k = (h, k)

-- the parts of a disjunction
chains_within : (m d : ℕ) (f : Fatom) (fs : Fatoms) (ls : Fands) → FatomWithin m d (plain_fatom (fatom_meaning f)) → FatomsWithin m d (plain_fatoms (trees (fatoms_meaning fs)))
    → FandsWithin m d (plain_fands (trees (fands_meaning ls))) → ConditionWithin m d (plain_condition (condition_meaning (condition f fs ls)))
chains_within m d f no_fatom no_fand h k l = alone_within m d (fatom_meaning f) h
chains_within m d f (and_fatom g gs) no_fand h k l = (h, k, tt)
chains_within m d f fs (or_fand g gs ls) h k l = let first = chain_within m d f fs h k in (first.0, first.1, l)

mutual
  pub condition_within : (m d : ℕ) (l : Condition) → ConditionWithin m d l → ConditionWithin m d (plain_condition (condition_meaning l))
  condition_within m d (condition f fs ls) h = chains_within m d f fs ls (fatom_within m d f h.0) (fatoms_within m d fs h.1) (fands_within m d ls h.2)

  fands_within : (m d : ℕ) (ls : Fands) → FandsWithin m d ls → FandsWithin m d (plain_fands (trees (fands_meaning ls)))
  fands_within m d no_fand h = tt
  fands_within m d (or_fand f fs ls) h =
      let first = chain_within m d f fs (fatom_within m d f h.0) (fatoms_within m d fs h.1) in
      (first.0, first.1, fands_within m d ls h.2)

  fatoms_within : (m d : ℕ) (fs : Fatoms) → FatomsWithin m d fs → FatomsWithin m d (plain_fatoms (trees (fatoms_meaning fs)))
  fatoms_within m d no_fatom h = tt
  fatoms_within m d (and_fatom f fs) h = (fatom_within m d f h.0, fatoms_within m d fs h.1)

  fatom_within : (m d : ℕ) (f : Fatom) → FatomWithin m d f → FatomWithin m d (plain_fatom (fatom_meaning f))
  fatom_within m d (condition_group l) h = grouped_within m d (condition_meaning l) h.0 (condition_within m (suc d) l h.1)
  fatom_within m d _ h = tt
