use Rattle.std.proofs.Common.{lit<, refl}
use Rattle.std.proofs.lemmas.Fmt.{decimal_digit}
use Rattle.hoa_writer.proofs.law.canonical_text_examples.Goals as goal

pub returns : goal.returns
returns c = record { whole = rw (decimal_digit 0 (lit< tt), decimal_digit 1 (lit< tt), decimal_digit 2 (lit< tt)) refl }
