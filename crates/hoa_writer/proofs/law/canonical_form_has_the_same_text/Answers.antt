use Rattle.hoa_writer.proofs.text.Settled.{canonical_form_has_the_same_text}
use Rattle.hoa_writer.proofs.law.canonical_form_has_the_same_text.Goals as goal

pub returns : goal.returns
returns c = canonical_form_has_the_same_text
