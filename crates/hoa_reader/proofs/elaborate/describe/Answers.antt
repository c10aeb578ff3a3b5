use Rattle.std.proofs.Common.{subst, sym}
use Rattle.aut_base.specs.Automaton.{IsWellFormed}
use Rattle.hoa_parser.specs.Raw.{written}
use Rattle.hoa_reader.proofs.description.Refusals.{describes_none}
use Rattle.hoa_reader.proofs.description.WellFormed.{valid_is_well_formed}
use Rattle.hoa_reader.specs.declared.elaborate.ElabFault.TheVariants as fault
use Rattle.hoa_reader.proofs.elaborate.describe.Goals as goal

pub returns-in_err-frame : goal.returns-in_err-frame
returns-in_err-frame c =
    describes_none c.from_residual.result c.in_err-frame.field-0.0 (written c.args.raw.now) c.from_residual.ensures.1
    c.in_err-frame.ensures

pub returns-in_err-description : goal.returns-in_err-description
returns-in_err-description c =
    describes_none c.from_residual-in_err-description.result fault.Memory (written c.args.raw.now) c.from_residual-in_err-description.ensures.1 tt

pub returns : goal.returns
returns c = record {
  valid = c.in_ok-frame.ensures.valid;
  within = c.in_ok-frame.ensures.within;
  same = c.in_ok-description.ensures;
  formed = subst IsWellFormed (sym c.in_ok-description.ensures) (valid_is_well_formed (written c.args.raw.now) c.in_ok-frame.ensures.valid);
}
