use Rattle.hoa_parser.proofs.grammar.WrittenDown.{can_be_written_down}
use Rattle.hoa_parser.proofs.laws.can_be_written_down.Goals as goal

pub returns : goal.returns
returns c = can_be_written_down
