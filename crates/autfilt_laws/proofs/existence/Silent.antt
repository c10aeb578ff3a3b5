-- Under a plan that prints nothing of an automaton the text that is due is empty.
use Rattle.std.proofs.Common.{◌≡◌, ℕ, Bool, false, List, [], inl, refl, subst, sym}
use Rattle.std.specs.Prelude.{MatchBool}
use Rattle.autfilt_laws.specs.Runs.{IsAlwaysDue}
use Rattle.autfilt_run.specs.Due.{IsPrinted}
use Rattle.autfilt_run.specs.OperandEvents.{operands_read}
use Rattle.autfilt_run.specs.Plans.{prints_each}
use Rattle.filter_plan.specs.declared.plan.Plan.{Plan}

pub silent : (plan : Plan) → prints_each plan ≡ false → IsAlwaysDue plan
silent p off taken good w valid within kept none = none (inl ([], subst (λ (b : Bool). MatchBool b (IsPrinted p.output p (operands_read taken) w []) (◌≡◌ {A = List ℕ} [] [])) (sym off) refl))
