use Rattle.std.proofs.Common.{◌∙◌, ◌<◌, All, List, ap, arith, map, subst, sym}
use Rattle.std.specs.List.{AllByRecursion}
use Rattle.hoa_parser.specs.Raw.{WrittenState, written, written_item, written_state}
use Rattle.hoa_parser.specs.declared.raw.Item.{Item}
use Rattle.hoa_reader.proofs.counting.EdgeCounts.{states_below}
use Rattle.hoa_reader.proofs.description.Built.{few_names, stand_for}
use Rattle.hoa_reader.proofs.description.Framed.{framed_labels, framed_marks}
use Rattle.hoa_reader.proofs.description.OneWay.{implicit_in}
use Rattle.hoa_reader.specs.inner.Frames.{IsSharedBy}
use Rattle.hoa_reader.specs.inner.TreeEdges.{HasLabelsBelow}
use Rattle.hoa_reader.proofs.elaborate.body.body_of.Goals as goal

pub new-requires : goal.new-requires
new-requires c =
    let few = few_names (written c.args.raw) c.requires.within in
    let count = c.requires.count in
    omega (arith, few, count)

pub links_of-requires-clause-within : goal.links_of-requires-clause-within
links_of-requires-clause-within c =
    let w = written c.args.raw in
    subst (λ n. AllByRecursion (λ (s : WrittenState). s.number < n) w.states) (sym c.requires.states) (states_below w c.requires.valid.1.1.1.1.1.0)

pub links_of-requires-clause-linked : goal.links_of-requires-clause-linked
links_of-requires-clause-linked c =
    let w = written c.args.raw in
    let f = c.args.frame in
    let shared = c.in_ok-shared.shared in
    let by = subst (λ (is : List Item). IsSharedBy f (map written_item is) shared) c.as_slice-2.ensures c.in_ok-shared.ensures in
    let names = c.in_ok-guards.ensures.names in
    record {
      known = by.known;
      names = names ∙ sym by.count;
      marks = framed_marks w f shared c.requires by;
      below = subst (λ n. All (HasLabelsBelow shared n) w.states) (sym (names ∙ c.requires.count)) (framed_labels w f shared c.requires by);
    }

pub returns-clause-body : goal.returns-clause-body
returns-clause-body c =
    let w = written c.args.raw in
    let f = c.args.frame in
    let shared = c.in_ok-shared.shared in
    let by = subst (λ (is : List Item). IsSharedBy f (map written_item is) shared) c.as_slice-2.ensures c.in_ok-shared.ensures in
    let names = c.in_ok-guards.ensures.names in
    record {
      valid = c.requires.valid;
      within = c.requires.within;
      starts = c.requires.starts;
      states = c.requires.states;
      sets = c.requires.sets;
      count = c.links_of.ensures.names ∙ (names ∙ c.requires.count);
      stand = stand_for w f shared c.in_ok-links.links _ c.links_of.new.guards c.requires by names c.in_ok-links.ensures.stand;
      implicit = λ yes. implicit_in w f _ c.requires (ap (map written_state) c.as_slice.ensures) (c.are_implicit-implicit.ensures yes);
    }
