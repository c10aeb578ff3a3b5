-- What holds of the fault of an inner call holds of the fault that is passed on.
use Rattle.std.proofs.Common.{◌≡◌, ◌⊎◌, IfErr, Result, Ok, Err, inl, inr, subst, sym}
use Rattle.std.specs.Result.{IsErrAnd}
use Rattle.aut_base.proofs.Outcomes.{hands_on}
use Rattle.exploration.specs.Faults.{fault_of_step}
use Rattle.exploration.specs.TransitionFunctions.{StepFailed, IsStepAnswer, StepOutcome}
use Rattle.exploration.specs.declared.fault.Fault.{Fault}
use Rattle.exploration.specs.declared.fault.Fault.TheVariants as fault
use Rattle.exploration.specs.declared.fault.StepFault.{StepFault}
use Rattle.exploration.specs.declared.fault.StepFault.TheVariants as step

pub err_is : {T : Type 0} (P : Fault → Type 0) (r : Result T Fault) (came : Fault) → IsErrAnd r (λ y. y ≡ came) → P came → IfErr r P
err_is P r came e p = hands_on r came (λ x. IfErr x P) e p

pub step_met : {T X : Type 0} (N : Type 0) (seen : T → X) (P : Fault → Type 0) (move : StepOutcome X) (came : StepFault) → IsStepAnswer {N = N} seen move (Err came)
    → (move ≡ StepFailed → P fault.StepFailed) → P fault.Memory → P (fault_of_step came)
step_met N seen P move step.Failed is fails memory = fails is
step_met N seen P move step.Memory is fails memory = memory

pub list_met : (P : Fault → Type 0) (Q : Type 0) (came : Fault) → (came ≡ fault.Memory) ⊎ ((came ≡ fault.States) × Q) → (Q → P fault.States) → P fault.Memory → P came
list_met P Q came is full memory = elim is [
  | inl e ↦ subst P (sym e) memory
  | inr e ↦ subst P (sym e.0) (full e.1)
]

pub if_err_map : {T : Type 0} (P Q : Fault → Type 0) (r : Result T Fault) → ((f : Fault) → P f → Q f) → IfErr r P → IfErr r Q
if_err_map P Q (Ok x) h p = tt
if_err_map P Q (Err y) h p = h y p
