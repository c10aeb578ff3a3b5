use Rattle.std.proofs.Common.{◌≡◌, ◌++◌, codes, take}
use Rattle.std.specs.Prelude.{flat_map}
use Rattle.word_syntax.specs.Printing as printing
use Rattle.word_syntax.proofs.print.push_stem.Given as goal

abbrev pub invariant-letters : goal.invariant-letters
invariant-letters l = l.text ≡ l.fn.text ++ flat_map (λ letter. printing.letter_text l.names letter ++ codes "; ") (take l.letter-index l.letters)
