-- Which lasso words match a pattern, and the automaton of a pattern.
use Rattle.std.specs.Prelude.{◌≡◌, ℕ, ◌+◌, ◌<◌, ◌==◌, true, if◌then◌else◌, List, [], ◌∷◌, ◌++◌, length}
use Rattle.std.specs.List.{AllZip}
use Rattle.aut_base.specs.Acceptance.{Accepts}
use Rattle.aut_base.specs.Automaton.{Automaton, LabelledEdge}
use Rattle.aut_base.specs.Formula as formula
use Rattle.aut_base.specs.Label.{LabelTree, holds_at, truth}
use Rattle.aut_base.specs.Word.{NameSet, copies}
use Rattle.word_syntax.specs.Grammar.{WordPattern}

-- the lists are of one length, and each letter satisfies the formula at the same index
abbrev pub AllMeet : List (List ℕ) → List NameSet → List LabelTree → Type 0
AllMeet names = AllZip (λ letter t. truth (holds_at names letter) t ≡ true)

-- The lasso word matches the pattern: its stem is the pattern's stem and some copies of its cycle, and its cycle is one
-- or more copies of the pattern's cycle.
pub record Matches (p : WordPattern) (u v : List NameSet) : Type 0 where
  pub stem_rounds : ℕ
  pub cycle_rounds : ℕ
  pub some : 0 < cycle_rounds
  pub stem : AllMeet p.names u (p.stem ++ copies stem_rounds p.cycle)
  pub cycle : AllMeet p.names v (copies cycle_rounds p.cycle)

-- a word that both automata accept
pub record AcceptTogether (a b : Automaton) : Type 0 where
  pub stem : List NameSet
  pub cycle : List NameSet
  pub first : Accepts a stem cycle
  pub second : Accepts b stem cycle

-- a word that matches the pattern and that the automaton accepts
pub record AcceptsPattern (p : WordPattern) (b : Automaton) : Type 0 where
  pub stem : List NameSet
  pub cycle : List NameSet
  pub matches : Matches p stem cycle
  pub accepts : Accepts b stem cycle

-- the successor of a state, which for the last state is the state `back`
abbrev pub next_state : ℕ → ℕ → ℕ → ℕ
next_state back total place = if place + 1 == total then back else place + 1

-- an edge for each label, from each state to its successor
abbrev pub edges_along : ℕ → ℕ → ℕ → List LabelTree → List LabelledEdge
edges_along back total place [] = []
edges_along back total place (t ∷ ts) = record { from = place; label = t; to = next_state back total place; marks = [] } ∷ edges_along back total (place + 1) ts

-- The automaton of a pattern: a state for each letter in order, an edge from each to the next, the last back to the first
-- letter of the cycle, no sets and the condition `t`.
abbrev pub word_automaton : WordPattern → Automaton
word_automaton p = record {
  names = p.names;
  starts = 0 ∷ [];
  states = length (p.stem ++ p.cycle);
  edges = edges_along (length p.stem) (length (p.stem ++ p.cycle)) 0 (p.stem ++ p.cycle);
  sets = 0;
  formula = formula.True;
}
