use Rattle.std.proofs.Common.{◌≡◌, map, drop, List, ℕ, Bor}
use Rattle.std.specs.List.{list_all}
use Rattle.hoa_reader.proofs.validity.RuleParts.{is_one_state}
use Rattle.hoa_reader.proofs.elaborate.rules.start_in_single_states.Given as goal

abbrev pub invariant-starts : goal.invariant-starts
invariant-starts l = list_all is_one_state (map (λ (s : Bor (List ℕ)). s.now) (drop l.states-index l.starts)) ≡ list_all is_one_state (map (λ (s : Bor (List ℕ)). s.now) l.starts)
