use Rattle.std.proofs.Common.{lit<, refl}
use Rattle.std.proofs.lemmas.Fmt.{decimal_digit}
use Rattle.made_stream.proofs.made.made_examples.Goals as goal

pub returns : goal.returns
returns c = record {
  one = rw (decimal_digit 0 (lit< tt), decimal_digit 1 (lit< tt)) refl;
  two = rw (decimal_digit 0 (lit< tt), decimal_digit 1 (lit< tt), decimal_digit 2 (lit< tt)) refl;
  both = rw (decimal_digit 0 (lit< tt), decimal_digit 1 (lit< tt), decimal_digit 2 (lit< tt)) refl;
  most = refl;
}
