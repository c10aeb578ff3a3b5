use Rattle.std.proofs.Common.{refl}
use Rattle.word_syntax.proofs.printing.OverNames.{all_held, held_more, members_of, not_held}
use Rattle.word_syntax.proofs.over.holds_only.Goals as goal

pub returns-then-not-has : goal.returns-then-not-has
returns-then-not-has c = (
  (λ h. cc),
  λ h.
      absurd (not_held c.args.names.now c.as_slice-name-items.result.now c.args.letter.now c.names.name-index c.name-item.result c.names-test.true c.name-item.is
      (members_of c.args.letter.now c.names-2.result.now c.as_slice-name-items.result.now c.as_slice-name-items.ensures.items c.names-2.ensures.members) c.if-not-has.ensures h),
)

pub names-preserved : goal.names-preserved
names-preserved c = held_more c.args.names.now c.as_slice-name-items.result.now c.names.name-index c.name-item.result c.names-test.true c.name-item.is c.names.invariant c.if-not-has.ensures

pub returns : goal.returns
returns c = (
  (λ h. all_held c.args.names.now c.as_slice-name-items.result.now c.args.letter.now c.names.name-index c.names-test.false c.names.invariant
      (members_of c.args.letter.now c.names-2.result.now c.as_slice-name-items.result.now c.as_slice-name-items.ensures.items c.names-2.ensures.members)),
  λ h. refl,
)
