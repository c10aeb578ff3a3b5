-- Laws of canonical labels: they keep the truth, equal truth is one label, and automata with them accept the same words.
use Rattle.std.specs.Prelude.{◌≡◌, ◌≢◌, ◌↔◌, ℕ, Bool, List, ◌++◌, length, All, AllPairs}
use Rattle.aut_base.specs.Acceptance.{Accepts}
use Rattle.aut_base.specs.Automaton.{Automaton, IsWellFormed}
use Rattle.aut_base.specs.CanonicalLabel.{canonical, canonical_label}
use Rattle.aut_base.specs.Label.{AllBelow, LabelTree, holds_at, truth}
use Rattle.aut_base.specs.Valuation.{truth_on}
use Rattle.aut_base.specs.Word.{NameSet}

-- The canonical form of a label is true exactly where the label is, whatever says which propositions hold: any
-- function, a letter, or a valuation.
pub record CanonicalLabelKeepsTruth : Type 0 where
  pub anywhere : (n : ℕ) (t : LabelTree) (holds : ℕ → Bool) → AllBelow n t → truth holds (canonical_label n t) ≡ truth holds t
  pub at_letters : (names : List (List ℕ)) (t : LabelTree) (letter : NameSet) → AllBelow (length names) t
      → truth (holds_at names letter) (canonical_label (length names) t) ≡ truth (holds_at names letter) t
  pub on_valuations : (n : ℕ) (t : LabelTree) (v : List Bool) → length v ≡ n → truth_on (canonical_label n t) v ≡ truth_on t v

-- Labels have one canonical form exactly where they are true at the same letters.
abbrev pub SameTruthSameLabel : Type 0
SameTruthSameLabel = (names : List (List ℕ)) (t u : LabelTree) → AllPairs (λ p q. p ≢ q) names → AllBelow (length names) t → AllBelow (length names) u
    → (canonical_label (length names) t ≡ canonical_label (length names) u) ↔ ((letter : NameSet) → truth (holds_at names letter) t ≡ truth (holds_at names letter) u)

-- each proposition of the automaton's labels has a name
abbrev pub LabelsBelow : Automaton → Type 0
LabelsBelow a = All (λ e. AllBelow (length a.names) e.label) a.edges

-- An automaton accepts the same words once each of its labels is replaced by its canonical form. It stays well formed, and
-- canonical labels are their own canonical forms.
pub record CanonicalAcceptsTheSame (a : Automaton) : Type 0 where
  pub accepts : LabelsBelow a → (u v : List NameSet) → Accepts (canonical a) u v ↔ Accepts a u v
  pub well_formed : IsWellFormed a → IsWellFormed (canonical a)
  pub settled : canonical (canonical a) ≡ canonical a

-- Further propositions, which occur in no label, don't change which words an automaton accepts.
abbrev pub OtherNamesPlayNoPart : Type 0
OtherNamesPlayNoPart = (a : Automaton) (others : List (List ℕ)) → LabelsBelow a → (u v : List NameSet) → Accepts (record a { names = a.names ++ others }) u v ↔ Accepts a u v
