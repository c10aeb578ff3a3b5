use Rattle.std.proofs.Common.{arith, map, subst, sym}
use Rattle.aut_base.proofs.lists.Members.{any_at}
use Rattle.aut_base.specs.Formula.{formula_tree, formula_list}
use Rattle.aut_base.specs.declared.formula.Formula.{Formula}
use Rattle.lasso_emptiness.specs.inner.Edges.{marks_of}
use Rattle.lasso_emptiness.specs.inner.Judged.{IsJudged}
use Rattle.lasso_emptiness.proofs.conditions.Judgements.{all_never, all_open, all_so_far_more, one_so_far_never, one_so_far_open}
use Rattle.lasso_emptiness.proofs.conditions.Parts.{judged-And, judged-Or}
use Rattle.aut_base.specs.Formula.{met}
use Rattle.lasso_emptiness.proofs.judge.+judge.Goals as goal

pub judge-returns-in-And : goal.judge-returns-in-And
judge-returns-in-And t c =
    let cycle = map (marks_of c.args.links.now) c.args.edges.now in
    subst (λ (f : Formula). IsJudged cycle (formula_tree f) c.judge_all.result) (sym c.in-And.is) (judged-And cycle c.in-And.parts c.judge_all.result c.judge_all.ensures)

pub judge-returns-in-Or : goal.judge-returns-in-Or
judge-returns-in-Or t c =
    let cycle = map (marks_of c.args.links.now) c.args.edges.now in
    subst (λ (f : Formula). IsJudged cycle (formula_tree f) c.judge_some.result) (sym c.in-Or.is) (judged-Or cycle c.in-Or.parts c.judge_some.result c.judge_some.ensures)

pub judge_all-parts-preserved-in-Met : goal.judge_all-parts-preserved-in-Met
judge_all-parts-preserved-in-Met t c =
    all_so_far_more (map (marks_of c.args.links.now) c.args.edges.now) (formula_list c.args.parts.now) c.parts.place (formula_tree c.at.result.now) c.parts.undecided c.at.ensures
    c.parts.invariant c.in-Met.ensures

pub judge_all-returns-in-Never : goal.judge_all-returns-in-Never
judge_all-returns-in-Never t c =
    all_never (map (marks_of c.args.links.now) c.args.edges.now) (formula_list c.args.parts.now) c.parts.place (formula_tree c.at.result.now) c.at.ensures c.in-Never.ensures

pub judge_all-parts-preserved : goal.judge_all-parts-preserved
judge_all-parts-preserved t c =
    all_open (map (marks_of c.args.links.now) c.args.edges.now) (formula_list c.args.parts.now) c.parts.place (formula_tree c.at.result.now) c.in-Open.side c.at.ensures c.in-Open.ensures.0
    c.in-Open.ensures.1

pub judge_some-returns-in-Met : goal.judge_some-returns-in-Met
judge_some-returns-in-Met t c =
    any_at (met (map (marks_of c.args.links.now) c.args.edges.now)) (formula_list c.args.parts.now) c.parts.place (formula_tree c.at.result.now) c.at.ensures c.in-Met.ensures

pub judge_some-parts-preserved-in-Never : goal.judge_some-parts-preserved-in-Never
judge_some-parts-preserved-in-Never t c =
    one_so_far_never (map (marks_of c.args.links.now) c.args.edges.now) (formula_list c.args.parts.now) c.parts.place (formula_tree c.at.result.now) c.parts.undecided c.at.ensures
    c.parts.invariant c.in-Never.ensures

pub judge_some-parts-preserved : goal.judge_some-parts-preserved
judge_some-parts-preserved t c =
    one_so_far_open (map (marks_of c.args.links.now) c.args.edges.now) (formula_list c.args.parts.now) c.parts.place (formula_tree c.at.result.now) c.parts.undecided c.in-Open.side
    c.at.ensures c.parts.invariant c.in-Open.ensures.0 c.in-Open.ensures.1
