use Rattle.hoa_lexer.proofs.next_token.TokenExamples as examples
use Rattle.hoa_lexer.proofs.laws.token_examples.Goals as goal

pub returns : goal.returns
returns c = examples.token_examples
