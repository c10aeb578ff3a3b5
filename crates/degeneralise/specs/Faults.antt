-- The faults of listing terms, as faults of the Büchi form.
use Rattle.std.specs.Prelude.{◌≡◌}
use Rattle.acc_forms.specs.declared.fault.FormFault.{FormFault}
use Rattle.acc_forms.specs.declared.fault.FormFault.TheVariants as form
use Rattle.degeneralise.specs.declared.fault.BuchiFault.{BuchiFault}
use Rattle.degeneralise.specs.declared.fault.BuchiFault.TheVariants as fault

abbrev pub IsFaultOf : FormFault → BuchiFault → Type 0
IsFaultOf form.Terms f = f ≡ fault.Terms
IsFaultOf form.Memory f = f ≡ fault.Memory
