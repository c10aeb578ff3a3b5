use Rattle.std.proofs.Common.{sym}
use Rattle.word_syntax.proofs.lassos.LetterSame.{letters_same, letters_within}
use Rattle.word_syntax.proofs.letters.is_same.Goals as goal

pub returns-then-is_within : goal.returns-then-is_within
returns-then-is_within c = (
  λ h. letters_same c.args.a.now c.args.b.now (c.is_within.ensures.0 c.if-is_within.true) (c.is_within-then-is_within.ensures.0 h),
  λ e. c.is_within-then-is_within.ensures.1 (letters_within c.args.b.now c.args.a.now (sym e)),
)
