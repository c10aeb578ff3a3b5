use Rattle.std.proofs.Common.{◌∙◌, sym, ap, arith, refl, ◌++◌, take}
use Rattle.std.proofs.lemmas.Result.{on_ok_weaker}
use Rattle.std.specs.Prelude.{codes}
use Rattle.aut_base.proofs.trees.FormulaSizes.{formula_size-And, formula_size-Or, formula_size-at}
use Rattle.aut_base.specs.Formula.{formula_list, formula_size, formula_tree}
use Rattle.aut_base.proofs.trees.FormulaTrees.{formula_tree-Inf, formula_tree-Fin}
use Rattle.hoa_writer.specs.CanonicalText.{formula_text, set_text}
use Rattle.hoa_writer.specs.inner.JoinedTexts.{list_text, part_text}
use Rattle.hoa_writer.proofs.text.Formulas.{text-And, text-Or, list_more}
use Rattle.hoa_writer.proofs.text.JoinedTexts.{two_written}
use Rattle.hoa_writer.proofs.formula.+formula_text.Goals as goal

pub push_formula-push_parts-requires : goal.push_formula-push_parts-requires
push_formula-push_parts-requires t c =
    let larger = formula_size-And c.in-And.parts in
    let same = ap (λ f. formula_size (formula_tree f)) c.in-And.is in
    (omega arith, tt)

pub push_formula-push_parts-requires-in-Or : goal.push_formula-push_parts-requires-in-Or
push_formula-push_parts-requires-in-Or t c =
    let larger = formula_size-Or c.in-Or.parts in
    let same = ap (λ f. formula_size (formula_tree f)) c.in-Or.is in
    (omega arith, tt)

pub push_formula-returns-in_ok-extend-in-Inf : goal.push_formula-returns-in_ok-extend-in-Inf
push_formula-returns-in_ok-extend-in-Inf t c =
    on_ok_weaker c.push_set.result
    (λ e. two_written c.args.out.now c.extend.new.self _ (codes "Inf(") (set_text c.in-Inf.set c.in-Inf.neg ++ codes ")") _ c.in_ok-extend-in-Inf.ensures.ok e
    (sym (ap formula_text (ap formula_tree c.in-Inf.is ∙ formula_tree-Inf c.in-Inf.set c.in-Inf.neg))))
    c.push_set.ensures

pub push_formula-returns-in_ok-extend-in-Fin : goal.push_formula-returns-in_ok-extend-in-Fin
push_formula-returns-in_ok-extend-in-Fin t c =
    on_ok_weaker c.push_set-in-Fin.result
    (λ e. two_written c.args.out.now c.extend-in-Fin.new.self _ (codes "Fin(") (set_text c.in-Fin.set c.in-Fin.neg ++ codes ")") _ c.in_ok-extend-in-Fin.ensures.ok e
    (sym (ap formula_text (ap formula_tree c.in-Fin.is ∙ formula_tree-Fin c.in-Fin.set c.in-Fin.neg))))
    c.push_set-in-Fin.ensures

pub push_formula-returns-in-And : goal.push_formula-returns-in-And
push_formula-returns-in-And t c =
    on_ok_weaker c.push_parts.result
    (λ e. e ∙ ap (λ x. c.args.out.now ++ x) (sym (ap (λ f. formula_text (formula_tree f)) c.in-And.is ∙ text-And c.in-And.parts)))
    c.push_parts.ensures

pub push_formula-returns-in-Or : goal.push_formula-returns-in-Or
push_formula-returns-in-Or t c =
    on_ok_weaker c.push_parts-in-Or.result
    (λ e. e ∙ ap (λ x. c.args.out.now ++ x) (sym (ap (λ f. formula_text (formula_tree f)) c.in-Or.is ∙ text-Or c.in-Or.parts)))
    c.push_parts-in-Or.ensures

pub push_parts-push_part-requires-in-parts : goal.push_parts-push_part-requires-in-parts
push_parts-push_part-requires-in-parts t c =
    let smaller = formula_size-at (formula_list c.args.parts.now) c.parts.place (formula_tree c.at-in-parts.result.now) c.at-in-parts.ensures in
    (omega arith, tt)

pub push_parts-parts-preserved : goal.push_parts-parts-preserved
push_parts-parts-preserved t c =
    let part = formula_tree c.at-in-parts.result.now in
    let more = list_more c.args.separator.now (formula_list c.args.parts.now) c.parts.place part (omega arith) c.at-in-parts.ensures in
    let done = list_text c.args.separator.now (take c.parts.place (formula_list c.args.parts.now)) in
    let both = two_written c.parts.out c.extend.new.self c.push_part-in-parts.new.out c.args.separator.now (part_text part) (c.args.separator.now ++ part_text part) c.in_ok-extend.ensures.ok
    c.in_ok-push_part-2.ensures refl in
    two_written c.args.out.now c.parts.out c.push_part-in-parts.new.out done (c.args.separator.now ++ part_text part) _ c.parts.invariant both (sym more)
