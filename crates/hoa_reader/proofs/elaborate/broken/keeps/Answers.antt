use Rattle.std.proofs.Common.{map, List, ap, sym, ◌∙◌, nat_le}
use Rattle.std.specs.Prelude.{filter_map}
use Rattle.std.specs.List.{list_all}
use Rattle.hoa_reader.proofs.counting.AfterAll.{numbers_below-after}
use Rattle.hoa_reader.proofs.counting.BodySums.{body_letters, body_one_way}
use Rattle.hoa_reader.specs.declared.elaborate.sums.Sums.{Sums}
use Rattle.hoa_parser.specs.Raw.{written, written_item, written_state}
use Rattle.hoa_reader.specs.Validity.{keeps_rule, numbers_below, states_item, used_states}
use Rattle.hoa_reader.specs.declared.elaborate.Rule.{Rule}
use Rattle.hoa_parser.specs.declared.raw.Item.{Item}
use Rattle.hoa_parser.specs.declared.raw.RawState.{RawState}
use Rattle.hoa_reader.specs.inner.PickedOut.{numbers}
use Rattle.hoa_reader.specs.inner.Rising.{rises_from}
use Rattle.hoa_reader.proofs.elaborate.broken.keeps.Goals as goal
use Rattle.aut_base.proofs.lists.Lists.{list_all-same}

pub returns-in-V6 : goal.returns-in-V6
returns-in-V6 c =
    let w = written c.args.raw.now in
    c.are_counted.ensures
    ∙ ap (λ (is : List Item). list_all (nat_le c.args.parts.now.after) (filter_map states_item (map written_item is))) c.as_slice-items.ensures
    ∙ ap (λ n. list_all (nat_le n) (filter_map states_item w.items)) c.requires.after
    ∙ list_all-same (nat_le _) (λ n. numbers_below n (used_states w)) (λ n. sym (numbers_below-after n (used_states w))) (filter_map states_item w.items)
    ∙ ap (λ (r : Rule). keeps_rule r w) (sym c.in-V6.is)

pub numbers_differ-requires : goal.numbers_differ-requires
numbers_differ-requires c = c.requires.rising ∙ sym (ap (λ (ss : List RawState). rises_from 0 (numbers (map written_state ss))) c.as_slice-states.ensures)

pub returns-in-V11 : goal.returns-in-V11
returns-in-V11 c =
    let w = written c.args.raw.now in
    ap (λ (s : Sums). s.one_way) c.requires.sums ∙ sym (body_one_way _ w.states) ∙ ap (λ (r : Rule). keeps_rule r w) (sym c.in-V11.is)

pub returns-in-V12 : goal.returns-in-V12
returns-in-V12 c =
    let w = written c.args.raw.now in
    ap (λ (s : Sums). s.letters) c.requires.sums ∙ sym (body_letters _ w.states) ∙ ap (λ (r : Rule). keeps_rule r w) (sym c.in-V12.is)
