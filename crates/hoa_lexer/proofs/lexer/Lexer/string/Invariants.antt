use Rattle.std.proofs.Common.{◌≡◌, ◌+◌, ◌-◌, ◌<◌, List, ℕ, ◌++◌, None}
use Rattle.hoa_lexer.specs.Reading.{held_count, Between}
use Rattle.hoa_lexer.specs.Moves.{Elsewhere}
use Rattle.hoa_lexer.specs.inner.Steps.{AdvancesLexer}
use Rattle.hoa_lexer.specs.Spelling.{Quotes}
use Rattle.hoa_lexer.proofs.lexer.Lexer.string.Given as goal

abbrev pub invariant-string : goal.invariant-string
invariant-string g l = record {
  answers : Between (g.I.Inputs.seen l.fn.inputs).left (g.I.Inputs.seen l.inputs).left (λ old new. (inner : List ℕ) × Quotes inner l.text × (old ≡ inner ++ new));
  advances : AdvancesLexer Elsewhere l.fn.self l.self (g.I.Inputs.seen l.fn.inputs) (g.I.Inputs.seen l.inputs);
  held : l.self.held ≡ None;
  stays : l.token ≡ l.fn.token;
  used : l.fn.self.taken + held_count l.self.held < l.self.taken + held_count l.fn.self.held;
}

abbrev pub decreases-string : goal.decreases-string
decreases-string g l = (l.self.most + held_count l.self.held) - l.self.taken
