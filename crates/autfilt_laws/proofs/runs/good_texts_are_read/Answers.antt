use Rattle.autfilt_laws.proofs.alike.Readable.{completes}
use Rattle.autfilt_laws.proofs.runs.good_texts_are_read.Goals as goal

pub returns : goal.returns
returns c = completes c.one_standing.ensures
