use Rattle.std.proofs.Common.{◌∙◌, sym}
use Rattle.std.proofs.lemmas.Slice.Eq.{slice_eq-Decides}
use Rattle.std.specs.Cmp.{booleans_Decides}
use Rattle.filter_plan.proofs.form.form_with.Goals as goal

pub returns-then-eq-clause-form : goal.returns-then-eq-clause-form
returns-then-eq-clause-form c = sym c.flags.ensures ∙ (slice_eq-Decides booleans_Decides c.flags.result c.args.standing c.eq.result c.eq.ensures).0 c.if-eq.true
