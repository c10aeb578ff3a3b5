use Rattle.hoa_lexer.proofs.next_token.Cases.{one_next}
use Rattle.hoa_lexer.proofs.laws.one_next.Goals as goal

pub returns : goal.returns
returns c = one_next
