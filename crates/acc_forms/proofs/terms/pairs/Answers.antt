use Rattle.acc_forms.proofs.TermLists.{pairs_more}
use Rattle.acc_forms.proofs.terms.pairs.Goals as goal

pub firsts-preserved : goal.firsts-preserved
firsts-preserved c =
    pairs_more c.as_slice-first-items.result.now c.args.seconds.now c.firsts.first-index c.first-item.result _ _ c.firsts-test.true c.first-item.is c.firsts.invariant c.in_ok-push_joined.ensures
