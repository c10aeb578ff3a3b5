use Rattle.std.proofs.Common.{◌∙◌, List, ap, arith, map, subst, sym}
use Rattle.std.specs.List.{All, Contains}
use Rattle.std.specs.Prelude.{OnOk}
use Rattle.aut_base.proofs.lists.Members.{all_passes_at}
use Rattle.aut_base.proofs.Outcomes.{ok_weaker}
use Rattle.aut_base.specs.Formula.{formula_list, formula_size, formula_tree, met}
use Rattle.aut_base.specs.declared.formula.Formula.{Formula}
use Rattle.aut_base.proofs.trees.FormulaSizes.{formula_size-And, formula_size-Or, formula_size-at}
use Rattle.aut_base.proofs.trees.FormulaTrees.{formula_tree-Fin, formula_tree-True}
use Rattle.acc_forms.proofs.Parts.{met-And, met-Or}
use Rattle.lasso_emptiness.specs.declared.live.EdgeRef.{EdgeRef}
use Rattle.lasso_emptiness.specs.inner.Edges.{marks_of, met_along}
use Rattle.lasso_emptiness.specs.inner.Needed.{Serves, ServesAll}
use Rattle.lasso_emptiness.proofs.conditions.Sufficient.{fin_fewer, serves-And, serves-Or, suits_all_more, suits_same}
use Rattle.lasso_emptiness.proofs.needed.+needed.Goals as goal

pub add_for_all-add_needed-requires : goal.add_for_all-add_needed-requires
add_for_all-add_needed-requires t c =
    let part = formula_tree c.at.result.now in
    let smaller = formula_size-at (formula_list c.args.parts.now) c.parts.place part c.at.ensures in (
      omega arith,
      (
        c.requires.within,
        (
          all_passes_at (met (map (marks_of c.args.links.now) c.args.edges.now)) (formula_list c.args.parts.now) c.parts.place part c.at.ensures c.requires.met,
          c.parts.invariant.inside,
        ),
      ),
    )

pub add_for_all-parts-preserved : goal.add_for_all-parts-preserved
add_for_all-parts-preserved t c =
    suits_all_more c.args.links.now c.args.edges.now (formula_list c.args.parts.now) c.parts.place (formula_tree c.at.result.now) _ _ _ c.at.ensures c.parts.invariant c.in_ok-add_needed.ensures

pub add_needed-add_for_all-requires : goal.add_needed-add_for_all-requires
add_needed-add_for_all-requires t c =
    let smaller = ap (λ (f : Formula). formula_size (formula_tree f)) c.in-And.is ∙ formula_size-And c.in-And.parts in
    let parts = sym (ap (λ (f : Formula). met_along c.args.links.now c.args.edges.now (formula_tree f)) c.in-And.is ∙ met-And (map (marks_of c.args.links.now) c.args.edges.now) c.in-And.parts) in
    (omega arith, (c.requires.within, (parts ∙ c.requires.met, c.requires.inside)))

pub add_needed-met_part-requires : goal.add_needed-met_part-requires
add_needed-met_part-requires t c =
    record {
      within = c.requires.within;
      met = sym (ap (λ (f : Formula). met_along c.args.links.now c.args.edges.now (formula_tree f)) c.in-Or.is ∙ met-Or (map (marks_of c.args.links.now) c.args.edges.now) c.in-Or.parts)
          ∙ c.requires.met;
    }

pub add_needed-add_needed-requires : goal.add_needed-add_needed-requires
add_needed-add_needed-requires t c =
    let whole = ap (λ (f : Formula). formula_size (formula_tree f)) c.in-Or.is ∙ formula_size-Or c.in-Or.parts in
    let part = c.met_part.ensures.part in
    let smaller = formula_size-at (formula_list c.in-Or.parts) part.0 (formula_tree c.met_part.result.now) part.1 in
    (omega arith, (c.requires.within, (c.met_part.ensures.met, c.requires.inside)))

pub add_needed-returns-in-True : goal.add_needed-returns-in-True
add_needed-returns-in-True t c =
    suits_same c.args.links.now c.args.edges.now _ c.args.needed.now c.requires.inside
    (λ cycle within has. ap (λ (f : Formula). met_along c.args.links.now cycle (formula_tree f)) c.in-True.is ∙ ap (met_along c.args.links.now cycle) formula_tree-True)

pub add_needed-returns-in-Fin : goal.add_needed-returns-in-Fin
add_needed-returns-in-Fin t c =
    let fin = ap formula_tree c.in-Fin.is ∙ formula_tree-Fin c.in-Fin.set c.in-Fin.neg in
    suits_same c.args.links.now c.args.edges.now _ c.args.needed.now c.requires.inside
    (λ cycle within has. ap (met_along c.args.links.now cycle) fin
    ∙ fin_fewer c.args.links.now c.args.edges.now c.in-Fin.set c.in-Fin.neg cycle within (sym (ap (met_along c.args.links.now c.args.edges.now) fin) ∙ c.requires.met))

pub add_needed-returns-in-And : goal.add_needed-returns-in-And
add_needed-returns-in-And t c =
    let links = c.args.links.now in
    let edges = c.args.edges.now in
    ok_weaker c.add_for_all.result (ServesAll links edges (formula_list c.in-And.parts) c.args.needed.now c.add_for_all.new.needed)
    (Serves links edges (formula_tree c.args.condition.now) c.args.needed.now c.add_for_all.new.needed)
    (λ parts. subst (λ (f : Formula). Serves links edges (formula_tree f) c.args.needed.now c.add_for_all.new.needed) (sym c.in-And.is)
    (serves-And links edges c.in-And.parts c.args.needed.now c.add_for_all.new.needed parts))
    c.add_for_all.ensures

pub add_needed-returns-in-Or : goal.add_needed-returns-in-Or
add_needed-returns-in-Or t c =
    let links = c.args.links.now in
    let edges = c.args.edges.now in
    let part = formula_tree c.met_part.result.now in
    ok_weaker c.add_needed.result (Serves links edges part c.args.needed.now c.add_needed.new.needed) (Serves links edges (formula_tree c.args.condition.now) c.args.needed.now c.add_needed.new.needed)
    (λ served. subst (λ (f : Formula). Serves links edges (formula_tree f) c.args.needed.now c.add_needed.new.needed) (sym c.in-Or.is)
    (serves-Or links edges c.in-Or.parts part c.args.needed.now c.add_needed.new.needed c.met_part.ensures.part served))
    c.add_needed.ensures
