use Rattle.std.proofs.Common.{◌≡◌, ◌∙◌, IfOk, refl, subst}
use Rattle.std.proofs.lemmas.Iterator.{items_from_collect}
use Rattle.std.proofs.lemmas.Iterator.Adapters.{YieldsList-from_vec}
use Rattle.std.specs.Vec.Iter.{into_iter_items}
use Rattle.autfilt_run.specs.Words.{words_in}
use Rattle.autfilt_run.proofs.system.call.words_from.Goals as goal

pub returns : goal.returns
returns c counted =
    let all = into_iter_items c.args.args in
    let got = items_from_collect c.collect.result c.collect.ensures.ran (YieldsList-from_vec all refl counted) in
    let same = subst (λ r. IfOk r (λ w. w.items ≡ all)) c.in_ok-args.was got in
    subst (λ xs. IfOk c.words_behind.result (λ words. words ≡ words_in xs)) (c.deref.ensures.value ∙ same) c.words_behind.ensures
