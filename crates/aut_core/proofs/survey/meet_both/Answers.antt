use Rattle.aut_core.proofs.Growth.{keeps_on}
use Rattle.aut_core.proofs.survey.meet_both.Goals as goal

pub returns-in_err-guard-clause-keeps : goal.returns-in_err-guard-clause-keeps
returns-in_err-guard-clause-keeps c = keeps_on c.still_apart.ensures.keeps c.or.ensures.keeps

pub returns-clause-keeps : goal.returns-clause-keeps
returns-clause-keeps c = keeps_on c.still_apart.ensures.keeps c.or.ensures.keeps
