use Rattle.std.proofs.Common.{◌≡◌, ◌&&◌, true, map, List, ℕ, ap, sym, ◌∙◌}
use Rattle.std.specs.Borrow.{Bor}
use Rattle.std.specs.List.{list_all}
use Rattle.hoa_parser.specs.Raw.{WrittenEdge, WrittenState, written}
use Rattle.hoa_reader.specs.Validity.{edges_written, starts_written}
use Rattle.hoa_reader.proofs.validity.RuleParts.{is_one_state}
use Rattle.hoa_reader.proofs.counting.BodySums.{body_single}
use Rattle.hoa_reader.specs.declared.elaborate.sums.Sums.{Sums}
use Rattle.hoa_reader.proofs.elaborate.broken.names_single_states.Goals as goal
use Rattle.aut_base.proofs.lists.Lists.{list_all-flat_map}

pub returns-then-start_in_single_states : goal.returns-then-start_in_single_states
returns-then-start_in_single_states c =
    let w = written c.args.raw.now in
    let starts : list_all is_one_state (starts_written w) ≡ true =
    ap (list_all is_one_state) (sym (ap (map (λ (s : Bor (List ℕ)). s.now)) c.deref.ensures.value ∙ c.requires.starts)) ∙ sym c.start_in_single_states.ensures ∙ c.if-start_in_single_states.true in
    ap (λ (s : Sums). s.single) c.requires.sums
    ∙ sym (body_single _ w.states)
    ∙ sym (list_all-flat_map (λ (e : WrittenEdge). is_one_state e.to) (λ (s : WrittenState). s.edges) w.states)
    ∙ ap (λ b. b && list_all (λ (e : WrittenEdge). is_one_state e.to) (edges_written w)) (sym starts)
