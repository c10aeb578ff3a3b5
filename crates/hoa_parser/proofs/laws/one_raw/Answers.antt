use Rattle.hoa_parser.proofs.grammar.OneRaw.{one_raw}
use Rattle.hoa_parser.proofs.laws.one_raw.Goals as goal

pub returns : goal.returns
returns c = one_raw
