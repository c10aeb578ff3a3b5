use Rattle.autfilt_laws.proofs.alike.Answers as laws
use Rattle.autfilt_laws.proofs.answers.answer_completes.Goals as goal

pub returns : goal.returns
returns c = laws.answer_completes c.one_plan.ensures c.good_texts_are_read.ensures
