use Rattle.hoa_parser.specs.Raw.{written}
use Rattle.autfilt_run.proofs.handling.Taking.{read_as}
use Rattle.autfilt_run.proofs.taken.automaton_taken.Goals as goal

pub returns : goal.returns
returns c = (read_as (written c.args.raw) c.in_ok-build.field-0 c.in_ok-build.ensures, c.in_ok-build.ensures.named)
