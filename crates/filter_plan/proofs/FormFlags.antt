-- The flags of forms, and the form that they make.
use Rattle.std.proofs.Common.{◌≡◌, Bool, true, false, IsTrue, List, refl, rules, sym, true≢false}
use Rattle.std.specs.Prelude.{◌↔◌}
use denote.Enum.Bare.{sameb, true_same, false_same}
use Rattle.clap.specs.Words.{Row}
use Rattle.filter_plan.specs.contracts.plan.Form.{the_type}
use Rattle.filter_plan.specs.declared.plan.Form.{Form}
use Rattle.filter_plan.specs.declared.plan.Form.TheVariants.{Deterministic, Parity, Buchi, RemoveFin, Dnf, Monitor}
use Rattle.filter_plan.specs.inner.Forms.{IsForm, flags_of, standing}

one_flag : (on : Bool) (form other : Form) → IsTrue on ↔ (form ≡ other) → sameb the_type form other ≡ on
one_flag true form other h = true_same the_type form other (h.0 refl)
one_flag false form other h = false_same the_type (search rules) form other (λ e. true≢false (sym (h.1 e)))

pub flags_of_form : (rows : List Row) (form : Form) → IsForm rows form → flags_of form ≡ standing rows
flags_of_form rows form h =
    let a = one_flag _ form Deterministic h.deterministic in
    let b = one_flag _ form Parity h.parity in
    let c = one_flag _ form Buchi h.buchi in
    let d = one_flag _ form RemoveFin h.remove_fin in
    let e = one_flag _ form Dnf h.dnf in
    let f = one_flag _ form Monitor h.monitor in
    cc
