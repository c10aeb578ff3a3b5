-- The joint list of names of two automata, an automaton over more names than its own, and language equivalence.
use Rattle.std.specs.Prelude.{ℕ, Bool, not, List, ◌++◌, length, map, filter, All, Contains, ◌↔◌}
use Rattle.std.specs.List.{list_any}
use Rattle.aut_base.specs.Acceptance.{Accepts}
use Rattle.aut_base.specs.Automaton.{Automaton, LabelledEdge}
use Rattle.aut_base.specs.CanonicalLabel.{label_of_truth}
use Rattle.aut_base.specs.Label.{LabelTree, holds_at, truth}
use Rattle.aut_base.specs.Text.{same_text}
use Rattle.aut_base.specs.Valuation.{letter_of}
use Rattle.aut_base.specs.Word.{NameSet}

-- whether the name is in the list
abbrev pub is_among : List (List ℕ) → List ℕ → Bool
is_among names name = list_any (same_text name) names

-- the names of the first, then those of the second that the first lacks
abbrev pub joined_names : List (List ℕ) → List (List ℕ) → List (List ℕ)
joined_names a b = a ++ filter (λ name. not (is_among a name)) b

-- the names include those of both lists
pub record HaveBoth (a b names : List (List ℕ)) : Type 0 where
  pub first : All (Contains names) a
  pub second : All (Contains names) b

-- The canonical label over new names that is equivalent to this one over the old names: it is true on a valuation
-- exactly where this one is true at the letter of the valuation.
abbrev pub label_over : List (List ℕ) → List (List ℕ) → LabelTree → LabelTree
label_over old new t = label_of_truth (length new) (λ v. truth (holds_at old (letter_of new v)) t)

-- the same automaton over these names
abbrev pub over_names : List (List ℕ) → Automaton → Automaton
over_names names a = record a { names = names; edges = map (λ (e : LabelledEdge). record e { label = label_over a.names names e.label }) a.edges }

-- both accept the same lasso words
abbrev pub AcceptTheSame : Automaton → Automaton → Type 0
AcceptTheSame a b = (u v : List NameSet) → Accepts a u v ↔ Accepts b u v
