use Rattle.autfilt_laws.proofs.existence.SomeAnswers as laws
use Rattle.autfilt_laws.proofs.answers.some_answer.Goals as goal

pub returns : goal.returns
returns c = laws.some_answer c.a_run_exists.ensures
