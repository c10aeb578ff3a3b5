use Rattle.hoa_lexer.proofs.next_token.Asked.{last_is_asked_for}
use Rattle.hoa_lexer.proofs.laws.last_is_asked_for.Goals as goal

pub returns : goal.returns
returns c = last_is_asked_for
