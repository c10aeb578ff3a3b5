use Rattle.std.proofs.Common.{arith}
use Rattle.aut_ops.proofs.pairs.Explorations.{explored_all, explored_beyond, explored_more, explored_none, pair_within, row_steps, rows_can}
use Rattle.aut_base.proofs.Outcomes.{passed_on}
use Rattle.aut_base.specs.declared.limit.TheConstants.{MOST_PAIRS}
use Rattle.aut_ops.proofs.breadth_first.explore.Goals as goal

pub pairs-init : goal.pairs-init
pairs-init c = explored_none MOST_PAIRS c.args.a.now c.args.b.now c.well_formedness.ensures c.well_formedness-2.ensures c.requires.names c.requires.sets c.args.pairing.now c.requires.first
    c.requires.second
    c.requires.starts c.requires.links c.requires.few

pub links_of-requires : goal.links_of-requires
links_of-requires c = (pair_within MOST_PAIRS c.args.a.now c.args.b.now c.well_formedness.ensures c.well_formedness-2.ensures c.requires.names c.requires.sets c.args.pairing.now
    c.pairs.pairing c.pairs.done
    c.pair_at-p.result.0 c.pair_at-p.result.1 c.pairs.invariant c.pair_at-p.ensures).0

pub links_of-requires-in-pairs : goal.links_of-requires-in-pairs
links_of-requires-in-pairs c = (pair_within MOST_PAIRS c.args.a.now c.args.b.now c.well_formedness.ensures c.well_formedness-2.ensures c.requires.names c.requires.sets c.args.pairing.now
    c.pairs.pairing
    c.pairs.done c.pair_at-p.result.0 c.pair_at-p.result.1 c.pairs.invariant c.pair_at-p.ensures).1

pub spread-requires-clause-meet : goal.spread-requires-clause-meet
spread-requires-clause-meet c = rows_can MOST_PAIRS c.args.a.now c.args.b.now c.well_formedness.ensures c.well_formedness-2.ensures c.requires.names c.requires.sets c.pairs.pairing c.pairs.done
    c.pair_at-p.result.0 c.pair_at-p.result.1 c.sets.result c.links_of.result.now c.links_of-in-pairs.result.now c.pairs.invariant.first c.pairs.invariant.second c.sets.ensures
    c.pair_at-p.ensures c.links_of.ensures c.links_of-in-pairs.ensures

pub returns-in_err-spread-clause-many : goal.returns-in_err-spread-clause-many
returns-in_err-spread-clause-many c is =
    let same = row_steps MOST_PAIRS c.args.a.now c.args.b.now c.well_formedness.ensures c.well_formedness-2.ensures c.requires.names c.requires.sets c.pairs.pairing.store c.pair_at-p.result.0
    c.pair_at-p.result.1 c.sets.result c.links_of.result.now c.links_of-in-pairs.result.now c.pairs.invariant.first c.pairs.invariant.second c.sets.ensures c.links_of.ensures
    c.links_of-in-pairs.ensures in
    explored_beyond MOST_PAIRS c.args.a.now c.args.b.now c.well_formedness.ensures c.well_formedness-2.ensures c.requires.names c.requires.sets c.args.pairing.now c.pairs.pairing c.pairs.done
    c.pair_at-p.result.0 c.pair_at-p.result.1 _ c.pairs.invariant c.pair_at-p.ensures same (c.in_err-spread.ensures.many (passed_on c.from_residual.result _ _ c.from_residual.ensures.1 is))

pub pairs-preserved : goal.pairs-preserved
pairs-preserved c =
    let same = row_steps MOST_PAIRS c.args.a.now c.args.b.now c.well_formedness.ensures c.well_formedness-2.ensures c.requires.names c.requires.sets c.pairs.pairing.store c.pair_at-p.result.0
    c.pair_at-p.result.1 c.sets.result c.links_of.result.now c.links_of-in-pairs.result.now c.pairs.invariant.first c.pairs.invariant.second c.sets.ensures c.links_of.ensures
    c.links_of-in-pairs.ensures in
    explored_more MOST_PAIRS c.args.a.now c.args.b.now c.well_formedness.ensures c.well_formedness-2.ensures c.requires.names c.requires.sets c.args.pairing.now c.pairs.pairing
    c.spread.new.self c.pairs.done
    c.pair_at-p.result.0 c.pair_at-p.result.1 _ c.pairs.invariant c.pair_at-p.ensures c.in_ok-spread.ensures.adds same c.in_ok-spread.ensures.few

pub returns-clause-pairs : goal.returns-clause-pairs
returns-clause-pairs c = (explored_all MOST_PAIRS c.args.a.now c.args.b.now c.well_formedness.ensures c.well_formedness-2.ensures c.requires.names c.requires.sets c.args.pairing.now c.pairs.pairing
    c.pairs.done
    c.pairs.invariant (omega (arith, c.len.ensures, c.pairs-test.false))).0

pub returns-clause-edges : goal.returns-clause-edges
returns-clause-edges c = (explored_all MOST_PAIRS c.args.a.now c.args.b.now c.well_formedness.ensures c.well_formedness-2.ensures c.requires.names c.requires.sets c.args.pairing.now c.pairs.pairing
    c.pairs.done
    c.pairs.invariant (omega (arith, c.len.ensures, c.pairs-test.false))).1
