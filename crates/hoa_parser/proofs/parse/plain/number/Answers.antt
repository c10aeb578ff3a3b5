use Rattle.std.proofs.Common.{◌-◌, refl, sym, subst, ◌∙◌, arith}
use Rattle.hoa_lexer.specs.Text.{IsFront}
use Rattle.hoa_lexer.specs.declared.token.Token.TheVariants as token
use Rattle.hoa_lexer.proofs.spelling.Numbers.{number_zero}
use Rattle.hoa_parser.proofs.parse.plain.number.Goals as goal

pub returns-then-first-eq48 : goal.returns-then-first-eq48
returns-then-first-eq48 c = subst (λ w. IsFront w (token.Int 0) c.in_ok-first.rest.now) (sym c.in_ok-first.ensures)
    (number_zero c.in_ok-first.first (c.in_ok-first.first - 48) c.in_ok-first.rest.now (sym c.is_digit.ensures ∙ c.if-not-is_digit.false) refl (omega (arith, c.if-first-eq48.true)))
