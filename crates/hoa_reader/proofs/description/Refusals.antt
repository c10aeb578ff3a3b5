-- Why what was read is refused is why nothing is described or built of it.
use Rattle.std.proofs.Common.{◌≡◌, Result, Ok, Err, subst, sym}
use Rattle.std.specs.Prelude.{IsErrAnd}
use Rattle.aut_base.specs.declared.description.Description.{Description}
use Rattle.hoa_parser.specs.Raw.{Written}
use Rattle.hoa_reader.specs.Elaborating.{Builds, Elaborates, IsRefusedFor}
use Rattle.hoa_reader.specs.declared.elaborate.ElabFault.{ElabFault}
use Rattle.hoa_reader.specs.declared.elaborate.Named.{Named}
use Rattle.hoa_reader.specs.declared.elaborate.frame.Frame.{Frame}
use Rattle.hoa_reader.specs.inner.Frames.{ExaminesText}

same_fault : (g f : ElabFault) (w : Written) → g ≡ f → IsRefusedFor f w → IsRefusedFor g w
same_fault g f w same is = subst (λ (x : ElabFault). IsRefusedFor x w) (sym same) is

pub describes_none : (r : Result Description ElabFault) (f : ElabFault) (w : Written) → IsErrAnd r (λ y. y ≡ f) → IsRefusedFor f w → Elaborates r w
describes_none (Ok d) f w never is = absurd never
describes_none (Err g) f w same is = same_fault g f w same is

pub builds_none : (r : Result Named ElabFault) (f : ElabFault) (w : Written) → IsErrAnd r (λ y. y ≡ f) → IsRefusedFor f w → Builds r w
builds_none (Ok named) f w never is = absurd never
builds_none (Err g) f w same is = same_fault g f w same is

pub frame_none : (r : Result Frame ElabFault) (f : ElabFault) (w : Written) → IsErrAnd r (λ y. y ≡ f) → IsRefusedFor f w → ExaminesText r w
frame_none (Ok frame) f w never is = absurd never
frame_none (Err g) f w same is = same_fault g f w same is
