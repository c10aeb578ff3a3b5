use Rattle.word_syntax.proofs.printing.PrintedWords.{printed_is_read_back}
use Rattle.word_syntax.proofs.law.printed_is_read_back.Goals as goal

pub returns : goal.returns
returns c = printed_is_read_back
