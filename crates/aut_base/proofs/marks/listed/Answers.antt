use Rattle.std.proofs.Common.{◌∙◌, ◌∷◌, ◌++◌, [], ap, sym}
use Rattle.std.proofs.lemmas.Nat.Bits.{shr_and_one}
use Rattle.aut_base.proofs.order.SetBits.{bits_none, bits_set, bits_unset}
use Rattle.aut_base.proofs.marks.listed.Goals as goal
use Rattle.aut_base.proofs.marks.listed.Goals.{then-word-number-eq1+in_ok-push, else-word-number-eq1}

pub numbers-init : goal.numbers-init
numbers-init c = c.new-numbers.ensures ∙ sym (bits_none c.args.word)

pub numbers-preserved : goal.numbers-preserved
numbers-preserved c = elim c.if-word-number-eq1.branch [
  | then-word-number-eq1+in_ok-push w ↦
      let set = sym (shr_and_one c.args.word c.numbers.number) ∙ w.if-word-number-eq1.true in
      w.numbers-is ∙ (w.in_ok-push.ensures.ok ∙ (ap (λ xs. xs ++ c.numbers.number ∷ []) c.numbers.invariant ∙ sym (bits_set c.args.word c.numbers.number set)))
  | else-word-number-eq1 w ↦
      w.numbers-is ∙ (c.numbers.invariant
      ∙ sym (bits_unset c.args.word c.numbers.number (λ set. w.if-word-number-eq1.false (shr_and_one c.args.word c.numbers.number ∙ set))))
]
