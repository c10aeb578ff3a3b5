use Rattle.std.proofs.Common.{◌∙◌, ◌↔◌, IsTrue, ap, not, subst}
use Rattle.aut_ops.proofs.links.Labels.{never_is}
use Rattle.aut_ops.specs.Labels.{is_never}
use Rattle.label_guards.specs.Guards.{IsNeverMet}
use Rattle.label_guards.specs.Store.{Store, label_in}
use Rattle.aut_ops.proofs.passable.is_satisfiable.Goals as goal

pub returns : goal.returns
returns c =
    let guard = c.args.link.now.guard in
    let never = subst (λ (s : Store). IsTrue c.is_false.result ↔ IsNeverMet s guard) c.guards.ensures c.is_false.ensures.valuations in
    ap not (never_is c.args.a.now.store guard c.is_false.result never ∙ ap (λ n. is_never n (label_in c.args.a.now.store guard)) c.well_formedness.ensures.parts.store_names)
