use Rattle.std.proofs.Common.{◌∙◌, ap, arith, length, sym}
use Rattle.std.proofs.lemmas.List.{length_push}
use Rattle.std.proofs.lemmas.Nat.Bits.{shr_and_one}
use Rattle.aut_base.proofs.order.SetBits.{bit_at_place, bits_none, bits_set, bits_unset, fewer}
use Rattle.aut_base.specs.HeldMarks.{bits_below}
use Rattle.aut_base.proofs.marks.bit_number.Goals as goal
use Rattle.aut_base.proofs.marks.bit_number.Goals.{then-word-number-eq1+else-left-eq0, else-word-number-eq1}

pub numbers-init : goal.numbers-init
numbers-init c = (omega (arith, ap length (bits_none c.args.word)), omega arith)

pub returns-then-left-eq0-clause-value : goal.returns-then-left-eq0-clause-value
returns-then-left-eq0-clause-value c =
    let less = fewer c.args.word c.numbers.number c.args.place c.requires (omega (arith, c.numbers.invariant.0)) c.numbers.invariant.1 in
    let set = sym (shr_and_one c.args.word c.numbers.number) ∙ c.if-word-number-eq1.true in
    bit_at_place c.args.word c.numbers.number c.args.place less set (omega (arith, c.numbers.invariant.0, c.if-left-eq0.true))

pub numbers-preserved : goal.numbers-preserved
numbers-preserved c =
    let less = fewer c.args.word c.numbers.number c.args.place c.requires (omega (arith, c.numbers.invariant.0)) c.numbers.invariant.1 in
    elim c.if-word-number-eq1.branch [
      | then-word-number-eq1+else-left-eq0 w ↦
          let set = sym (shr_and_one c.args.word c.numbers.number) ∙ w.if-word-number-eq1.true in
          let long = ap length (bits_set c.args.word c.numbers.number set) ∙ length_push (bits_below c.numbers.number c.args.word) c.numbers.number in
          (omega (arith, long, c.numbers.invariant.0, w.left-is, w.if-left-eq0.false), omega (arith, less))
      | else-word-number-eq1 w ↦
          let long = ap length (bits_unset c.args.word c.numbers.number (λ set. w.if-word-number-eq1.false (shr_and_one c.args.word c.numbers.number ∙ set))) in
          (omega (arith, long, c.numbers.invariant.0, w.left-is), omega (arith, less))
    ]
