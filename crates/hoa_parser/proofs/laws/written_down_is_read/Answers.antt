use Rattle.hoa_parser.proofs.grammar.WrittenDown.{written_down_is_read}
use Rattle.hoa_parser.proofs.laws.written_down_is_read.Goals as goal

pub returns : goal.returns
returns c = written_down_is_read
