use Rattle.std.proofs.Common.{◌≡◌, ◌<◌, ℕ, get_or}
use Rattle.filter_plan.specs.declared.plan.Form.{Form}
use Rattle.filter_plan.specs.inner.Forms.{flags_of}
use Rattle.filter_plan.proofs.form.form_with.Given as goal

abbrev pub invariant-forms : goal.invariant-forms
invariant-forms l = (k : ℕ) (d : Form) → k < l.form-index → flags_of (get_or l.form-items k d) ≡ l.standing → ⊥
