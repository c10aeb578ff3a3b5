use Rattle.std.proofs.Common.{◌≡◌, take}
use Rattle.std.specs.FinSet as set
use Rattle.word_syntax.proofs.letters.copy_letter.Given as goal

abbrev pub invariant-names : goal.invariant-names
invariant-names l = l.new ≡ set.from_list (take l.name-index l.name-items)
