use Rattle.autfilt_laws.proofs.due.Due as laws
use Rattle.autfilt_laws.proofs.runs.each_is_due.Goals as goal

pub returns : goal.returns
returns c = laws.each_is_due c.canonical_text_reads_back.ensures
