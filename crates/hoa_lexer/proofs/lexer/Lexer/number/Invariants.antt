use Rattle.std.proofs.Common.{◌≡◌, ◌+◌, ◌-◌, ◌^◌, ◌<◌, None}
use Rattle.hoa_lexer.specs.Reading.{held_count, Between}
use Rattle.hoa_lexer.specs.Moves.{Elsewhere}
use Rattle.hoa_lexer.specs.inner.Steps.{AdvancesLexer}
use Rattle.hoa_lexer.proofs.spelling.Numbers.{IsDigits}
use Rattle.hoa_lexer.proofs.lexer.Lexer.number.Given as goal

abbrev pub invariant-digits : goal.invariant-digits
invariant-digits g l = record {
  answers : Between (g.I.Inputs.seen l.fn.inputs).left (g.I.Inputs.seen l.inputs).left (λ old new. IsDigits l.fn.first l.value old new);
  advances : AdvancesLexer Elsewhere l.fn.self l.self (g.I.Inputs.seen l.fn.inputs) (g.I.Inputs.seen l.inputs);
  held : l.self.held ≡ None;
  stays : l.token ≡ l.fn.token;
  some : 0 < l.value;
  fits : l.value < 2 ^ 32;
  used : l.fn.self.taken < l.self.taken + held_count l.fn.self.held;
}

abbrev pub decreases-digits : goal.decreases-digits
decreases-digits g l = l.self.most - l.self.taken
