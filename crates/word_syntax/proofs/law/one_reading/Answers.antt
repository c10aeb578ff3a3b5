use Rattle.word_syntax.proofs.texts.Readings.{one_reading}
use Rattle.word_syntax.proofs.law.one_reading.Goals as goal

pub returns : goal.returns
returns c = one_reading
