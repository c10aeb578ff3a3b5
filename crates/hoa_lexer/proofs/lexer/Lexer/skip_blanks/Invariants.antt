use Rattle.std.proofs.Common.{◌+◌, ◌-◌}
use Rattle.hoa_lexer.specs.Reading.{held_count, unread, Between}
use Rattle.hoa_lexer.specs.Moves.{Elsewhere}
use Rattle.hoa_lexer.specs.inner.Steps.{AdvancesLexer, PassesBlanks}
use Rattle.hoa_lexer.proofs.lexer.Lexer.skip_blanks.Given as goal

abbrev pub invariant-blanks : goal.invariant-blanks
invariant-blanks g l = record {
  answers : Between (g.I.Inputs.seen l.fn.inputs).left (g.I.Inputs.seen l.inputs).left (λ old new. PassesBlanks (unread l.fn.self.held old) (unread l.self.held new));
  advances : AdvancesLexer Elsewhere l.fn.self l.self (g.I.Inputs.seen l.fn.inputs) (g.I.Inputs.seen l.inputs);
}

abbrev pub decreases-blanks : goal.decreases-blanks
decreases-blanks g l = (l.self.most + held_count l.self.held) - l.self.taken
