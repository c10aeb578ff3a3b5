use Rattle.hoa_parser.proofs.grammar.OneRaw.{whole_goes_no_further}
use Rattle.hoa_parser.proofs.laws.whole_goes_no_further.Goals as goal

pub returns : goal.returns
returns c = whole_goes_no_further
