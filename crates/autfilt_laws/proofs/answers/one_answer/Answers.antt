use Rattle.autfilt_laws.proofs.alike.Answers as laws
use Rattle.autfilt_laws.proofs.answers.one_answer.Goals as goal

pub returns : goal.returns
returns c = laws.one_answer c.one_standing.ensures c.one_plan.ensures c.runs_end_alike.ensures
