use Rattle.std.proofs.Common.{◌≡◌, ◌++◌, codes, map, take}
use Rattle.aut_base.specs.LabelText.{joined}
use Rattle.word_syntax.specs.Printing as printing
use Rattle.word_syntax.proofs.print.push_cycle.Given as goal

abbrev pub invariant-letters : goal.invariant-letters
invariant-letters l = l.text ≡ l.fn.text ++ joined (codes "; ") (map (printing.letter_text l.names) (take l.place l.letters))
