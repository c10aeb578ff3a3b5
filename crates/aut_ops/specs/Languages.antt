-- Intersection and union of the languages of two automata, over all lasso words.
use Rattle.std.specs.Prelude.{◌≡◌, ◌↔◌, ◌⊎◌, ℕ, List, [], ◌∷◌, Some, slice_get}
use Rattle.aut_base.specs.Acceptance.{Accepts}
use Rattle.aut_base.specs.Automaton.{Automaton}
use Rattle.aut_base.specs.Word.{NameSet}

-- the automaton `made` accepts exactly the words that both accept
abbrev pub AcceptsBoth : Automaton → Automaton → Automaton → Type 0
AcceptsBoth made a b = (u v : List NameSet) → Accepts made u v ↔ (Accepts a u v × Accepts b u v)

-- it accepts exactly the words that at least one of the two accepts
abbrev pub AcceptsEither : Automaton → Automaton → Automaton → Type 0
AcceptsEither made a b = (u v : List NameSet) → Accepts made u v ↔ (Accepts a u v ⊎ Accepts b u v)

-- the automaton with this state as its only start
abbrev pub begun : ℕ → Automaton → Automaton
begun p a = record a { starts = p ∷ [] }

-- With a state for its only start, which is a pair of states, it accepts exactly the words that both accept with these for theirs.
abbrev pub ArePairwise : Automaton → List (ℕ × ℕ) → Automaton → Automaton → Type 0
ArePairwise made pairs a b = (k p q : ℕ) → slice_get pairs k ≡ Some (p, q) → AcceptsBoth (begun k made) (begun p a) (begun q b)
