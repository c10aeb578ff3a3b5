use Rattle.hoa_lexer.proofs.next_token.Cases.{some_next}
use Rattle.hoa_lexer.proofs.laws.some_next.Goals as goal

pub returns : goal.returns
returns c = some_next
