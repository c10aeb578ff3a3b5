use Rattle.hoa_writer.proofs.round_trip.ReadBack.{text_reads_back}
use Rattle.hoa_writer.proofs.law.canonical_text_reads_back.Goals as goal

pub returns : goal.returns
returns c = text_reads_back
