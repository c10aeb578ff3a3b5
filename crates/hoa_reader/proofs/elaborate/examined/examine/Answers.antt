use Rattle.hoa_parser.specs.Raw.{written}
use Rattle.hoa_reader.proofs.description.Refusals.{frame_none}
use Rattle.hoa_reader.specs.declared.elaborate.ElabFault.TheVariants as fault
use Rattle.hoa_reader.proofs.elaborate.examined.examine.Goals as goal

pub first_passed-requires-clause-valid : goal.first_passed-requires-clause-valid
first_passed-requires-clause-valid c = rw c.in_default.is at c.in_ok-rule.ensures

pub frame_of-requires-clause-valid : goal.frame_of-requires-clause-valid
frame_of-requires-clause-valid c = rw c.in_default.is at c.in_ok-rule.ensures

pub frame_of-requires-clause-within : goal.frame_of-requires-clause-within
frame_of-requires-clause-within c = rw c.in_default-first_passed.is at c.first_passed.ensures

pub returns-in_err-frame_of : goal.returns-in_err-frame_of
returns-in_err-frame_of c = frame_none c.from_residual-in_err-frame_of.result fault.Memory (written c.args.raw.now) c.from_residual-in_err-frame_of.ensures.1 tt
