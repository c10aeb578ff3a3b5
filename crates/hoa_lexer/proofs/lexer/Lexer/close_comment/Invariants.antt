use Rattle.std.proofs.Common.{◌≡◌, ◌+◌, ◌-◌, ◌<◌, List, ℕ, ◌++◌}
use Rattle.hoa_lexer.specs.Reading.{held_count, unread, Between}
use Rattle.hoa_lexer.specs.Moves.{Elsewhere}
use Rattle.hoa_lexer.specs.inner.Steps.{AdvancesLexer, closing}
use Rattle.hoa_lexer.proofs.lexer.Lexer.close_comment.Given as goal

abbrev pub invariant-comment : goal.invariant-comment
invariant-comment g l = record {
  answers : Between (g.I.Inputs.seen l.fn.inputs).left (g.I.Inputs.seen l.inputs).left
      (λ old new. (closing l.depth (unread l.self.held new) ≡ closing 1 old) × (seen : List ℕ) × (old ≡ seen ++ unread l.self.held new));
  advances : AdvancesLexer Elsewhere l.fn.self l.self (g.I.Inputs.seen l.fn.inputs) (g.I.Inputs.seen l.inputs);
  room : l.depth + held_count l.self.held < l.self.taken;
}

abbrev pub decreases-comment : goal.decreases-comment
decreases-comment g l = (l.self.most + held_count l.self.held) - l.self.taken
