use Rattle.aut_base.proofs.words.SameWord as law
use Rattle.aut_base.proofs.law.same_word_same_verdict.Goals as goal

pub returns : goal.returns
returns c = law.same_word_same_verdict
