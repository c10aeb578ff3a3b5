use Rattle.std.proofs.Common.{◌+◌, max, drop, List, ℕ, ap, ◌∙◌}
use Rattle.hoa_reader.proofs.counting.AfterAll.{after_more}
use Rattle.hoa_reader.specs.inner.Numbers.{after_all}
use Rattle.hoa_reader.specs.inner.PickedOut.{starts_named}
use Rattle.hoa_reader.proofs.elaborate.used.after_starts.Goals as goal
use Rattle.aut_base.proofs.lists.Lists.{drop-at}

pub starts-preserved : goal.starts-preserved
starts-preserved c =
    let starts = c.args.starts.now in
    let i = c.starts.states-index in
    after_more c.states-item.result.now (starts_named (drop (i + 1) starts)) (starts_named (drop i starts)) c.starts.after
    (max c.args.least (after_all (starts_named starts))) c.after_numbers-after.result
    (ap starts_named (drop-at starts i c.states-item.result c.starts-test.true c.states-item.is)) c.starts.invariant
    (c.after_numbers-after.ensures ∙ ap (λ (ns : List ℕ). max c.starts.after (after_all ns)) c.as_slice.ensures)
