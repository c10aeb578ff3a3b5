use Rattle.std.proofs.Common.{◌≡◌, ◌-◌}
use Rattle.aut_base.specs.Label.{label_tree}
use Rattle.word_syntax.specs.inner.Machine as machine
use Rattle.word_syntax.proofs.letter.negated.Given as goal

-- the label so far with the `!` that are left before it is the whole label
abbrev pub invariant-nots : goal.invariant-nots
invariant-nots l = machine.nots_on (l.times - l.counter) (label_tree l.negated) ≡ machine.nots_on l.times (label_tree l.fn.label)
