use Rattle.std.proofs.Common.{◌∷◌, sym, subst, ◌∙◌, arith}
use Rattle.hoa_lexer.specs.Text.{IsFront}
use Rattle.hoa_lexer.specs.declared.token.Token.TheVariants as token
use Rattle.hoa_lexer.proofs.spelling.Numbers.{digits_push, number_token}
use Rattle.hoa_parser.proofs.parse.plain.more_digits.Goals as goal

pub returns-then-not-is_digit : goal.returns-then-not-is_digit
returns-then-not-is_digit c = subst (λ w. IsFront (c.args.first ∷ c.args.bytes.now) (token.Int c.digits.value) w) (sym c.in_ok-byte.ensures)
    (number_token c.args.first c.digits.value c.in_ok-byte.byte c.args.bytes.now c.digits.left.now c.in_ok-byte.rest.now c.requires.digit c.requires.some c.digits.invariant.fits
    c.digits.invariant.digits c.in_ok-byte.ensures (sym c.is_digit.ensures ∙ c.if-not-is_digit.true))

pub digits-preserved : goal.digits-preserved
digits-preserved c = record {
  digits = digits_push c.args.first c.digits.value _ c.in_ok-byte.byte c.args.bytes.now c.digits.left.now c.in_ok-byte.rest.now c.digits.invariant.digits
      c.in_ok-byte.ensures (sym c.is_digit.ensures ∙ c.if-not-is_digit.false) (omega (arith, c.from.ensures));
  fits = omega arith;
}
