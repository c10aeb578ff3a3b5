use Rattle.aut_core.proofs.Growth.{keeps_on}
use Rattle.ap_project.proofs.guards.either.Goals as goal

pub returns-clause-keeps : goal.returns-clause-keeps
returns-clause-keeps c = keeps_on c.fix.ensures.keeps (keeps_on c.fix-2.ensures.keeps c.or.ensures.keeps)

pub returns-in_err-present-clause-keeps : goal.returns-in_err-present-clause-keeps
returns-in_err-present-clause-keeps c = keeps_on c.fix.ensures.keeps c.fix-2.ensures.keeps
