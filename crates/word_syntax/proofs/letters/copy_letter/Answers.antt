use Rattle.std.proofs.Common.{List, ap, ℕ, ◌∙◌}
use Rattle.std.specs.FinSet as set
use Rattle.word_syntax.proofs.lassos.LetterSame.{name_copied}
use Rattle.word_syntax.proofs.letters.copy_letter.Goals as goal

pub names-preserved : goal.names-preserved
names-preserved c = name_copied c.as_slice-name-items.result.now c.names.name-index c.name-item.result c.names.new c.add.new.self c.names-test.true c.name-item.is c.names.invariant
    (c.in_ok-add.ensures.ok ∙ ap (λ (x : List ℕ). set.insert c.names.new x) c.in_ok-copy.ensures)
