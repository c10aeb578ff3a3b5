use Rattle.std.proofs.Common.{◌≡◌, ◌++◌, None, take}
use Rattle.hoa_lexer.specs.Reading.{Between}
use Rattle.hoa_lexer.specs.Moves.{Elsewhere}
use Rattle.hoa_lexer.specs.inner.Steps.{AdvancesLexer}
use Rattle.hoa_lexer.proofs.lexer.Lexer.expect.Given as goal

abbrev pub invariant-word : goal.invariant-word
invariant-word g l = record {
  answers : Between (g.I.Inputs.seen l.fn.inputs).left (g.I.Inputs.seen l.inputs).left (λ old new. old ≡ take l.wanted-index l.word ++ new);
  advances : AdvancesLexer Elsewhere l.fn.self l.self (g.I.Inputs.seen l.fn.inputs) (g.I.Inputs.seen l.inputs);
  held : l.self.held ≡ None;
}
