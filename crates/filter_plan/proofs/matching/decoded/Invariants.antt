use Rattle.std.proofs.Common.{◌≡◌, map, take}
use Rattle.std.specs.Prelude.{All}
use Rattle.filter_plan.specs.Words.{IsText}
use Rattle.filter_plan.proofs.matching.decoded.Given as goal

abbrev pub invariant-words : goal.invariant-words
invariant-words l = (map (λ t. t.now) l.texts.items ≡ take l.word-index l.words) × All IsText (take l.word-index l.words)
