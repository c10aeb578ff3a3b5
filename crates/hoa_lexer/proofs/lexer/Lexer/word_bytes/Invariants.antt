use Rattle.std.proofs.Common.{◌≡◌, ◌-◌, None}
use Rattle.hoa_lexer.specs.Reading.{Between}
use Rattle.hoa_lexer.specs.Moves.{Elsewhere}
use Rattle.hoa_lexer.specs.inner.Steps.{AdvancesLexer, AddsWord}
use Rattle.hoa_lexer.proofs.lexer.Lexer.word_bytes.Given as goal

abbrev pub invariant-bytes : goal.invariant-bytes
invariant-bytes g l = record {
  answers : Between (g.I.Inputs.seen l.fn.inputs).left (g.I.Inputs.seen l.inputs).left (λ old new. AddsWord l.fn.name l.name old new);
  advances : AdvancesLexer Elsewhere l.fn.self l.self (g.I.Inputs.seen l.fn.inputs) (g.I.Inputs.seen l.inputs);
  held : l.self.held ≡ None;
}

abbrev pub decreases-bytes : goal.decreases-bytes
decreases-bytes g l = l.self.most - l.self.taken
