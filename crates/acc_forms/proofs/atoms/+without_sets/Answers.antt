use Rattle.std.specs.Bool.{beq}
use Rattle.std.proofs.Common.{◌≡◌, ◌∙◌, Bool, true, false, not, ap, refl, sym, [], ◌∷◌}
use Rattle.aut_base.specs.Formula.{formula_tree, formula_list, met}
use Rattle.acc_forms.proofs.JoinLaws.{decided_here, pass_more}
use Rattle.acc_forms.proofs.Parts.{met-And, met-Or}
use Rattle.acc_forms.proofs.atoms.+without_sets.Goals as goal

pub holds_without_sets-returns-in-And : goal.holds_without_sets-returns-in-And
holds_without_sets-returns-in-And t c =
    c.parts_hold_without_sets.ensures ∙ sym (ap (λ f. met ([] ∷ []) (formula_tree f)) c.in-And.is ∙ met-And ([] ∷ []) c.in-And.parts)

pub holds_without_sets-returns-in-Or : goal.holds_without_sets-returns-in-Or
holds_without_sets-returns-in-Or t c =
    c.parts_hold_without_sets-in-Or.ensures ∙ sym (ap (λ f. met ([] ∷ []) (formula_tree f)) c.in-Or.is ∙ met-Or ([] ∷ []) c.in-Or.parts)

differs : (a b : Bool) → not (beq a b) ≡ true → a ≡ not b
differs true true h = sym h
differs true false h = refl
differs false true h = refl
differs false false h = h

agrees : (a b : Bool) → not (beq a b) ≡ false → a ≡ b
agrees true true h = refl
agrees true false h = h
agrees false true h = sym h
agrees false false h = refl

pub parts_hold_without_sets-returns-then-holds_without_sets-all :
    goal.parts_hold_without_sets-returns-then-holds_without_sets-all
parts_hold_without_sets-returns-then-holds_without_sets-all t c =
    ap not c.is_all-all.ensures
    ∙ decided_here c.args.join (met ([] ∷ [])) (formula_list c.args.parts.now) c.parts.place (formula_tree c.at.result.now) c.at.ensures c.parts.invariant
    (sym c.holds_without_sets.ensures ∙ differs _ _ c.if-holds_without_sets-all.true ∙ ap not c.is_all-all.ensures)

pub parts_hold_without_sets-parts-preserved : goal.parts_hold_without_sets-parts-preserved
parts_hold_without_sets-parts-preserved t c =
    pass_more c.args.join (met ([] ∷ [])) (formula_list c.args.parts.now) c.parts.place (formula_tree c.at.result.now) c.at.ensures c.parts.invariant
    (sym c.holds_without_sets.ensures ∙ agrees _ _ c.if-holds_without_sets-all.false ∙ c.is_all-all.ensures)
