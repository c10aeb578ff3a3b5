use Rattle.hoa_lexer.proofs.spelling.Apart.{spelled_apart_is_read}
use Rattle.hoa_lexer.proofs.laws.spelled_apart_is_read.Goals as goal

pub returns : goal.returns
returns c = spelled_apart_is_read
