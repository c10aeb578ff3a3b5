-- Deterministic complete automata with the condition parity min odd, and a bound on the number of their sets. Both hold of
-- every parity automaton that is made.
use Rattle.std.specs.Prelude.{◌≡◌, ◌+◌, ◌<◌, ◌≤◌, ℕ, All, Bool, List, filter, length, max}
use Rattle.std.specs.List.{range_with_len}
use Rattle.acc_forms.specs.Parity.{parity_min_odd}
use Rattle.aut_base.specs.Automaton.{Automaton}
use Rattle.aut_core.specs.Deterministic.{IsComplete, IsDeterministic}
use Rattle.aut_ops.specs.Satisfiable.{is_flagged}
use Rattle.aut_ops.specs.Pruning.{AreUseful}
use Rattle.degeneralise.specs.Buchi.{buchi}
use Rattle.parity_det.specs.Determinisation.{IsDeterminisation}

-- deterministic and complete, with one mark on each edge and 2N + 1 sets for some N above 0, and the condition parity min
-- odd: the least set that a run is in again and again has to be odd
pub record IsParityMinOdd (a : Automaton) : Type 0 where
  pub deterministic : IsDeterministic a
  pub complete : IsComplete a
  pub half : ℕ
  pub some : 0 < half
  pub sets : a.sets ≡ half + half + 1
  pub formula : a.formula ≡ parity_min_odd a.sets
  pub marked : All (λ edge. length edge.marks ≡ 1) a.edges

-- it has 2N + 1 sets, where N is at least 1, and at most the greater of 1 and the number of useful states of the Büchi
-- automaton
pub record HasFewSets (b made : Automaton) : Type 0 where
  pub useful : List Bool
  pub are : AreUseful b useful
  pub half : ℕ
  pub some : 0 < half
  pub sets : made.sets ≡ half + half + 1
  pub few : half ≤ max 1 (length (filter (is_flagged useful) (range_with_len 0 b.states)))

-- The parity automaton of an automaton has all this, where N is at most the greater of 1 and the number of useful states of
-- its Büchi form.
abbrev pub ParityHasFewSets : Type 0
ParityHasFewSets = (a made : Automaton) → IsDeterminisation (buchi a) made → IsParityMinOdd made × HasFewSets (buchi a) made
