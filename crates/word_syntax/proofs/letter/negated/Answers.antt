use Rattle.word_syntax.proofs.grammar.Nots.{nots_more}
use Rattle.word_syntax.proofs.letter.negated.Goals as goal

pub nots-preserved : goal.nots-preserved
nots-preserved c = nots_more c.args.times c.nots.counter c.in_ok-new.field-0 c.nots.negated _ c.nots-test.true c.in_ok-new.ensures.ok c.nots.invariant
