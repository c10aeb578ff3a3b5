use Rattle.hoa_parser.specs.Raw.{written}
use Rattle.hoa_reader.proofs.description.Refusals.{builds_none}
use Rattle.hoa_reader.specs.declared.elaborate.ElabFault.TheVariants as fault
use Rattle.hoa_reader.proofs.elaborate.build.Goals as goal

pub returns-in_err-frame : goal.returns-in_err-frame
returns-in_err-frame c =
    builds_none c.from_residual.result c.in_err-frame.field-0.0 (written c.args.raw) c.from_residual.ensures.1 c.in_err-frame.ensures

pub returns-in_err-built : goal.returns-in_err-built
returns-in_err-built c = builds_none c.from_residual-in_err-built.result fault.Memory (written c.args.raw) c.from_residual-in_err-built.ensures.1 tt
