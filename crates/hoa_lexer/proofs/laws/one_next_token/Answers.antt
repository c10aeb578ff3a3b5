use Rattle.hoa_lexer.proofs.next_token.Unique.{one_next_token}
use Rattle.hoa_lexer.proofs.laws.one_next_token.Goals as goal

pub returns : goal.returns
returns c = one_next_token
