use Rattle.std.proofs.lemmas.Result.{on_ok_weaker}
use Rattle.std.specs.Fmt.{decimal}
use Rattle.std.specs.Prelude.{codes}
use Rattle.aut_base.specs.Formula.{formula_tree}
use Rattle.hoa_writer.specs.CanonicalText.{formula_text}
use Rattle.hoa_writer.proofs.text.JoinedTexts.{line_written}
use Rattle.hoa_writer.proofs.write.push_acceptance.Goals as goal

pub returns : goal.returns
returns c =
    on_ok_weaker c.push-2.result
    (λ e. line_written c.args.out.now c.extend.new.self c.push_number.new.out c.push.new.self c.push_formula.new.out _ (codes "Acceptance: ") (decimal c.args.sets) (codes " ")
    (formula_text (formula_tree c.args.formula.now)) (codes "\n") c.in_ok-extend.ensures.ok c.in_ok-push_number.ensures c.in_ok-push.ensures.ok c.in_ok-push_formula.ensures e)
    c.push-2.ensures.ok
