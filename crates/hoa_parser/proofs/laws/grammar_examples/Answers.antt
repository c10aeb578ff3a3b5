use Rattle.hoa_parser.proofs.grammar.GrammarExamples.{grammar_examples}
use Rattle.hoa_parser.proofs.laws.grammar_examples.Goals as goal

pub returns : goal.returns
returns c = grammar_examples
