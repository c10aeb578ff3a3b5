use Rattle.std.proofs.Common.{◌∙◌, ◌≤◌, ◌++◌, ℕ, List, ap, length, subst, sym}
use Rattle.std.proofs.lemmas.Result.{on_ok_weaker}
use Rattle.std.specs.Fmt.{decimal}
use Rattle.std.specs.Option.{option_copied}
use Rattle.std.specs.Prelude.{codes}
use Rattle.aut_base.specs.Formula.{formula_tree}
use Rattle.aut_base.specs.declared.limit.TheConstants.{MOST_NAMES}
use Rattle.aut_base.specs.Text.{line}
use Rattle.hoa_writer.specs.CanonicalText.{formula_text}
use Rattle.hoa_writer.specs.inner.Lines.{name_line, start_lines, names_line}
use Rattle.hoa_writer.proofs.text.JoinedTexts.{seven_written}
use Rattle.hoa_writer.proofs.write.push_header.Goals as goal

pub push_names-requires : goal.push_names-requires
push_names-requires c = subst (λ (ns : List (List ℕ)). length ns ≤ MOST_NAMES) (sym (c.as_slice-2.ensures.items ∙ c.names.ensures)) c.well_formedness.ensures.parts.few

pub returns : goal.returns
returns c =
    let a = c.args.a.now in
    let states = c.in_ok-push_numbered.ensures ∙ ap (λ n. c.push_name.new.out ++ line (codes "States: " ++ decimal n)) c.states.ensures in
    let starts = c.in_ok-push_starts.ensures ∙ ap (λ s. c.push_numbered.new.out ++ start_lines s) (c.as_slice.ensures ∙ c.starts.ensures) in
    let names = c.in_ok-push_names.ensures ∙ ap (λ s. c.push_starts.new.out ++ names_line s) (c.as_slice-2.ensures.items ∙ c.names.ensures) in
    let acceptance = c.in_ok-push_acceptance.ensures
    ∙ ap (λ n. c.push_names.new.out ++ line (codes "Acceptance: " ++ (decimal n ++ (codes " " ++ formula_text (formula_tree c.formula.result.now))))) c.sets.ensures
    ∙ ap (λ f. c.push_names.new.out ++ line (codes "Acceptance: " ++ (decimal a.sets ++ (codes " " ++ formula_text f)))) c.formula.ensures in
    on_ok_weaker c.extend-2.result
    (λ e. seven_written c.args.out.now c.extend.new.self c.push_name.new.out c.push_numbered.new.out c.push_starts.new.out c.push_names.new.out c.push_acceptance.new.out _
    (line (codes "HOA: v1")) (name_line (option_copied c.args.name)) (line (codes "States: " ++ decimal a.states)) (start_lines a.starts) (names_line a.names)
    (line (codes "Acceptance: " ++ (decimal a.sets ++ (codes " " ++ formula_text a.formula)))) (line (codes "properties: trans-labels explicit-labels trans-acc"))
    c.in_ok-extend.ensures.ok c.in_ok-push_name.ensures states starts names acceptance e)
    c.extend-2.ensures.ok
