use Rattle.word_syntax.proofs.lassos.OneReduced.{one_reduced_lasso}
use Rattle.word_syntax.proofs.law.one_reduced_lasso.Goals as goal

pub returns : goal.returns
returns c = one_reduced_lasso
