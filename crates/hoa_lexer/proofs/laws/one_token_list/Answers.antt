use Rattle.hoa_lexer.proofs.next_token.Unique.{one_token_list}
use Rattle.hoa_lexer.proofs.laws.one_token_list.Goals as goal

pub returns : goal.returns
returns c = one_token_list
