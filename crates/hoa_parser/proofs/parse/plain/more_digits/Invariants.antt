use Rattle.std.proofs.Common.{◌^◌, ◌<◌, length}
use Rattle.hoa_lexer.proofs.spelling.Numbers.{IsDigits}
use Rattle.hoa_parser.proofs.parse.plain.more_digits.Given as goal

abbrev pub invariant-digits : goal.invariant-digits
invariant-digits l = record {
  digits : IsDigits l.first l.value l.bytes l.left;
  fits : l.value < 2 ^ 32;
}

abbrev pub decreases-digits : goal.decreases-digits
decreases-digits l = length l.left
