use Rattle.std.proofs.Common.{List, ap, arith, codes, ℕ, ◌++◌, ◌∙◌}
use Rattle.word_syntax.proofs.printing.Joining.{joined_more}
use Rattle.word_syntax.specs.Printing as printing
use Rattle.word_syntax.proofs.print.push_cycle.Goals as goal

pub letters-preserved : goal.letters-preserved
letters-preserved c = joined_more (codes "; ") (printing.letter_text c.args.names.now) c.args.letters.now c.letters.place c.index-letters-place.result c.args.text.now c.letters.text _
    (omega arith) (omega arith) c.index-letters-place.is c.letters.invariant
    (c.in_ok-push_letter-2.ensures ∙ ap (λ (x : List ℕ). x ++ printing.letter_text c.args.names.now c.index-letters-place.result) c.in_ok-extend.ensures.ok)
