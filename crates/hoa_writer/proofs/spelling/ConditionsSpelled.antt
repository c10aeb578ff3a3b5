-- The text of an acceptance condition is spelled by a phrase of the grammar whose meaning is the condition.
use Rattle.std.proofs.Common.{◌≡◌, ℕ, ◌^◌, ◌<◌, ◌≤◌, Bool, true, false, List, [], ◌∷◌, ◌++◌, refl, sym, subst, arith}
use Rattle.std.specs.Prelude.{codes}
use Rattle.std.proofs.lemmas.List.{append-nil}
use Rattle.aut_base.specs.Formula as formula
use Rattle.aut_base.specs.Formula.{FormulaTree, FormulaTrees, SetsBelow, EachSetsBelow, trees}
use Rattle.hoa_lexer.specs.declared.token.Token.{Token}
use Rattle.hoa_lexer.specs.declared.token.Token.TheVariants.{Identifier, Int, Amp, Bar, LeftParen, RightParen}
use Rattle.hoa_parser.specs.Grammar.{bang_tokens, set_tokens}
use Rattle.hoa_parser.specs.Phrases.{Condition, Fands, Fatom, Fatoms, condition_meaning, condition_tokens, fands_meaning}
use Rattle.hoa_parser.specs.Phrases.{fands_tokens, fatom_meaning, fatom_tokens, fatoms_meaning, fatoms_tokens}
use Rattle.hoa_parser.specs.Phrases.Condition.{condition}
use Rattle.hoa_parser.specs.Phrases.Fands.{no_fand, or_fand}
use Rattle.hoa_parser.specs.Phrases.Fatoms.{no_fatom, and_fatom}
use Rattle.hoa_parser.specs.Phrases.Fatom.{true_condition, false_condition, infinitely, finitely, condition_group}
use Rattle.hoa_writer.specs.CanonicalText.{set_text, part, formula_text, parts_text}
use Rattle.hoa_writer.proofs.spelling.SpelledOut.{Free, Held, Stops, free_free, free_held, held_free, held_held, as_held, free_one, free_none, held_identifier, held_ended}
use Rattle.hoa_writer.proofs.spelling.WordsSpelled.{number, bang, amp_apart, bar_apart}

-- the phrase of a condition; a part that is a conjunction or disjunction is a group
abbrev mutual
  pub part_atom : FormulaTree → Fatom
  part_atom formula.True = true_condition
  part_atom formula.False = false_condition
  part_atom (formula.Inf set neg) = infinitely set neg
  part_atom (formula.Fin set neg) = finitely set neg
  part_atom (formula.And t u ts) = condition_group (condition (part_atom t) (and_fatom (part_atom u) (part_atoms ts)) no_fand)
  part_atom (formula.Or t u ts) = condition_group (condition (part_atom t) no_fatom (or_fand (part_atom u) no_fatom (part_fands ts)))

  pub part_atoms : FormulaTrees → Fatoms
  part_atoms formula.none = no_fatom
  part_atoms (formula.more t ts) = and_fatom (part_atom t) (part_atoms ts)

  pub part_fands : FormulaTrees → Fands
  part_fands formula.none = no_fand
  part_fands (formula.more t ts) = or_fand (part_atom t) no_fatom (part_fands ts)

abbrev pub text_condition : FormulaTree → Condition
text_condition (formula.And t u ts) = condition (part_atom t) (and_fatom (part_atom u) (part_atoms ts)) no_fand
text_condition (formula.Or t u ts) = condition (part_atom t) no_fatom (or_fand (part_atom u) no_fatom (part_fands ts))
text_condition t = condition (part_atom t) no_fatom no_fand

-- what it means

mutual
  atom_means : (t : FormulaTree) → fatom_meaning (part_atom t) ≡ t
  atom_means formula.True = refl
  atom_means formula.False = refl
  atom_means (formula.Inf set neg) = refl
  atom_means (formula.Fin set neg) = refl
  atom_means (formula.And t u ts) =
      let first = atom_means t in
      let second = atom_means u in
      let others = atoms_mean ts in
      cc
  atom_means (formula.Or t u ts) =
      let first = atom_means t in
      let second = atom_means u in
      let others = fands_mean ts in
      cc

  atoms_mean : (ts : FormulaTrees) → trees (fatoms_meaning (part_atoms ts)) ≡ ts
  atoms_mean formula.none = refl
  atoms_mean (formula.more t ts) =
      let first = atom_means t in
      let others = atoms_mean ts in
      cc

  fands_mean : (ts : FormulaTrees) → trees (fands_meaning (part_fands ts)) ≡ ts
  fands_mean formula.none = refl
  fands_mean (formula.more t ts) =
      let first = atom_means t in
      let others = fands_mean ts in
      cc

pub text_condition_means : (t : FormulaTree) → condition_meaning (text_condition t) ≡ t
text_condition_means formula.True = refl
text_condition_means formula.False = refl
text_condition_means (formula.Inf set neg) = refl
text_condition_means (formula.Fin set neg) = refl
text_condition_means (formula.And t u ts) =
    let first = atom_means t in
    let second = atom_means u in
    let others = atoms_mean ts in
    cc
text_condition_means (formula.Or t u ts) =
    let first = atom_means t in
    let second = atom_means u in
    let others = fands_mean ts in
    cc

-- how it is spelled

left : Free (LeftParen ∷ []) (codes "(")
left = free_one LeftParen (codes "(") refl (λ rest. tt)

right : Free (RightParen ∷ []) (codes ")")
right = free_one RightParen (codes ")") refl (λ rest. tt)

set_spelled : (set : ℕ) (neg : Bool) → set < 2 ^ 32 → Held (bang_tokens neg ++ Int set ∷ []) (set_text set neg)
set_spelled set true h = free_held bang (number set h)
set_spelled set false h = number set h

-- `Inf(` or `Fin(`, and the set
named_spelled : (name : List ℕ) (set : ℕ) (neg : Bool) → set < 2 ^ 32 → Held (Identifier name ∷ []) name
    → Free (Identifier name ∷ set_tokens set neg) (name ++ (codes "(" ++ (set_text set neg ++ codes ")")))
named_spelled name set true h k = held_free k (λ rest. (refl, refl)) (free_free left (held_free (set_spelled set true h) (λ rest. (refl, refl)) right))
named_spelled name set false h k = held_free k (λ rest. (refl, refl)) (free_free left (held_free (set_spelled set false h) (λ rest. (refl, refl)) right))

grouped : {ts : List Token} {text : List ℕ} → Held ts text → Held (LeftParen ∷ (ts ++ RightParen ∷ [])) (codes "(" ++ (text ++ codes ")"))
grouped h = as_held (free_free left (held_free h (λ rest. (refl, refl)) right))

-- parts, and each part after a sign

conjoined : {a b c : List Token} {x y z : List ℕ} → Held a x → Held b y → Held c z → ((rest : List ℕ) → Stops rest → Stops (z ++ rest))
    → Held (a ++ ((Amp ∷ (b ++ c)) ++ [])) (x ++ (codes " & " ++ (y ++ z)))
conjoined {a} {b} {c} {x} {y} {z} f g h stops =
    subst (λ (ts : List Token). Held (a ++ ts) (x ++ (codes " & " ++ (y ++ z)))) (sym (append-nil (Amp ∷ (b ++ c))))
    (held_held f (λ rest s. (refl, refl)) (free_held amp_apart (held_held g stops h)))

disjoined : {a b c : List Token} {x y z : List ℕ} → Held a x → Held b y → Held c z → ((rest : List ℕ) → Stops rest → Stops (z ++ rest)) → Held (a ++ (Bar ∷ (b ++ c))) (x ++ (codes " | " ++ (y ++ z)))
disjoined f g h stops = held_held f (λ rest s. (refl, refl)) (free_held bar_apart (held_held g stops h))

ands_stop : (ts : FormulaTrees) (rest : List ℕ) → Stops rest → Stops (parts_text (codes " & ") ts ++ rest)
ands_stop formula.none rest s = s
ands_stop (formula.more t ts) rest s = (refl, refl)

ors_stop : (ts : FormulaTrees) (rest : List ℕ) → Stops rest → Stops (parts_text (codes " | ") ts ++ rest)
ors_stop formula.none rest s = s
ors_stop (formula.more t ts) rest s = (refl, refl)

true_spelled : Held (Identifier (codes "t") ∷ []) (codes "t")
true_spelled = held_identifier (codes "t") (refl, refl)

false_spelled : Held (Identifier (codes "f") ∷ []) (codes "f")
false_spelled = held_identifier (codes "f") (refl, refl)

inf_spelled : (set : ℕ) (neg : Bool) → set < 2 ^ 32 → Held (fatom_tokens (infinitely set neg)) (formula_text (formula.Inf set neg))
inf_spelled set neg h = as_held (named_spelled (codes "Inf") set neg h (held_identifier (codes "Inf") (refl, refl)))

fin_spelled : (set : ℕ) (neg : Bool) → set < 2 ^ 32 → Held (fatom_tokens (finitely set neg)) (formula_text (formula.Fin set neg))
fin_spelled set neg h = as_held (named_spelled (codes "Fin") set neg h (held_identifier (codes "Fin") (refl, refl)))

mutual
  atom_spelled : (n : ℕ) (t : FormulaTree) → n ≤ 2 ^ 32 → SetsBelow n t → Held (fatom_tokens (part_atom t)) (part t (formula_text t))
  atom_spelled n formula.True l h = true_spelled
  atom_spelled n formula.False l h = false_spelled
  atom_spelled n (formula.Inf set neg) l h = inf_spelled set neg (omega arith)
  atom_spelled n (formula.Fin set neg) l h = fin_spelled set neg (omega arith)
  atom_spelled n (formula.And t u ts) l h = grouped (conjoined (atom_spelled n t l h.0) (atom_spelled n u l h.1) (atoms_spelled n ts l h.2) (ands_stop ts))
  atom_spelled n (formula.Or t u ts) l h = grouped (disjoined (atom_spelled n t l h.0) (atom_spelled n u l h.1) (fands_spelled n ts l h.2) (ors_stop ts))

  atoms_spelled : (n : ℕ) (ts : FormulaTrees) → n ≤ 2 ^ 32 → EachSetsBelow n ts → Held (fatoms_tokens (part_atoms ts)) (parts_text (codes " & ") ts)
  atoms_spelled n formula.none l h = as_held free_none
  atoms_spelled n (formula.more t ts) l h = free_held amp_apart (held_held (atom_spelled n t l h.0) (ands_stop ts) (atoms_spelled n ts l h.1))

  fands_spelled : (n : ℕ) (ts : FormulaTrees) → n ≤ 2 ^ 32 → EachSetsBelow n ts → Held (fands_tokens (part_fands ts)) (parts_text (codes " | ") ts)
  fands_spelled n formula.none l h = as_held free_none
  fands_spelled n (formula.more t ts) l h = free_held bar_apart (held_held (atom_spelled n t l h.0) (ors_stop ts) (fands_spelled n ts l h.1))

pub condition_spelled : (n : ℕ) (t : FormulaTree) → n ≤ 2 ^ 32 → SetsBelow n t → Held (condition_tokens (text_condition t)) (formula_text t)
condition_spelled n formula.True l h = true_spelled
condition_spelled n formula.False l h = false_spelled
condition_spelled n (formula.Inf set neg) l h = held_ended (inf_spelled set neg (omega arith))
condition_spelled n (formula.Fin set neg) l h = held_ended (fin_spelled set neg (omega arith))
condition_spelled n (formula.And t u ts) l h = conjoined (atom_spelled n t l h.0) (atom_spelled n u l h.1) (atoms_spelled n ts l h.2) (ands_stop ts)
condition_spelled n (formula.Or t u ts) l h = disjoined (atom_spelled n t l h.0) (atom_spelled n u l h.1) (fands_spelled n ts l h.2) (ors_stop ts)
