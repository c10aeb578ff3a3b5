use Rattle.std.proofs.Common.{◌≡◌, ◌++◌, take}
use Rattle.word_syntax.proofs.letters.push_copies.Given as goal

abbrev pub invariant-letters : goal.invariant-letters
invariant-letters l = l.letters ≡ l.fn.letters ++ take l.letter-index l.more
