use Rattle.std.proofs.Common.{◌≡◌, ◌∙◌, Bool, List, ap, length, refl, subst, sym}
use Rattle.aut_core.specs.SymbolicAutomata.{AreSymbolicParts, automaton_of}
use Rattle.aut_ops.specs.Paired.{symbolic_of_pairs}
use Rattle.unambiguous.proofs.parting.Parted.{begun_parts, grown_parts, grown_same, no_more_pairs, states_within}
use Rattle.unambiguous.specs.Parted.{ArePartings, IsParted}
use Rattle.unambiguous.proofs.parted.parted_square.Goals as goal

pub partings-requires-clause-within : goal.partings-requires-clause-within
partings-requires-clause-within c = states_within c.args.a.now c.well_formedness.ensures c.in_ok-made.made.pairs.keys c.in_ok-made.ensures.pairs (length c.as_slice.result.now)
    (ap (λ (fs : List Bool). length fs) c.as_slice.ensures.value ∙ c.in_ok-flags.ensures.ends.size)

pub from_parts-requires : goal.from_parts-requires
from_parts-requires c =
    let m = symbolic_of_pairs c.in_ok-made.made in
    let begun = begun_parts m c.as_slice.result.now c.in_ok-made.made.pairs.keys c.in_ok-starts.starts refl c.in_ok-made.ensures.parts c.in_ok-starts.ensures in
    let store = c.twin_ends.new.guards in
    subst (λ n. AreSymbolicParts (record m { starts = c.in_ok-starts.starts; states = n; store = store })) (sym c.len-states.ensures.len)
    (grown_parts (record m { starts = c.in_ok-starts.starts }) store c.twin_ends.ensures.keeps begun)

pub returns-clause-parted : goal.returns-clause-parted
returns-clause-parted c =
    let m = symbolic_of_pairs c.in_ok-made.made in
    let pairs = c.in_ok-made.made.pairs.keys in
    let starts = c.in_ok-starts.starts in
    let store = c.twin_ends.new.guards in
    let begun = begun_parts m c.as_slice.result.now pairs starts refl c.in_ok-made.ensures.parts c.in_ok-starts.ensures in
    let begin = subst (λ fs. ArePartings fs pairs (length pairs) starts) c.as_slice.ensures.value c.in_ok-starts.ensures in
    let is : c.in_ok-from_parts.field-0 ≡ record m { starts = starts; store = store } =
    c.in_ok-from_parts.ensures ∙ (λ i. record m { starts = starts; states = c.len-states.ensures.len i; store = store }) in
    subst (IsParted c.args.a.now) (sym (ap automaton_of is ∙ grown_same (record m { starts = starts }) store c.twin_ends.ensures.keeps begun)) (record {
      pairs = pairs;
      listed = c.in_ok-made.ensures.pairs;
      pairwise = c.in_ok-made.ensures.accepts;
      flags = c.in_ok-flags.flags.items;
      ends = c.in_ok-flags.ensures.ends;
      flagged = c.in_ok-flags.ensures.flagged;
      starts = begin;
    })

pub returns-clause-few : goal.returns-clause-few
returns-clause-few c = no_more_pairs c.args.a.now c.in_ok-made.made.pairs.keys c.in_ok-made.ensures.pairs c.in_ok-made.ensures.few
