use Rattle.std.proofs.Common.{◌≡◌, ◌++◌, codes, map, take}
use Rattle.aut_base.specs.LabelText.{joined}
use Rattle.word_syntax.specs.Printing as printing
use Rattle.word_syntax.proofs.print.push_literals.Given as goal

abbrev pub invariant-names : goal.invariant-names
invariant-names l = l.text ≡ l.fn.text ++ joined (codes " & ") (map (printing.name_literal_text l.letter) (take l.place l.names))
