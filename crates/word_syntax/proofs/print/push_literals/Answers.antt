use Rattle.std.proofs.Common.{List, ap, arith, codes, ℕ, ◌++◌, ◌∙◌}
use Rattle.word_syntax.proofs.printing.Joining.{joined_more}
use Rattle.word_syntax.specs.Printing as printing
use Rattle.word_syntax.proofs.print.push_literals.Goals as goal

pub names-preserved : goal.names-preserved
names-preserved c = joined_more (codes " & ") (printing.name_literal_text c.args.letter.now) c.args.names.now c.names.place c.index-names-place.result c.args.text.now c.names.text _ (omega arith)
    (omega arith) c.index-names-place.is c.names.invariant
    (c.in_ok-push_literal-2.ensures ∙ ap (λ (x : List ℕ). x ++ printing.name_literal_text c.args.letter.now c.index-names-place.result) c.in_ok-extend.ensures.ok)
