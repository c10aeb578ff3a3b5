use Rattle.std.proofs.Common.{◌∙◌, ◌+◌, ◌-◌, ℕ, List, [], arith, length, subst, sym}
use Rattle.aut_base.proofs.Outcomes.{passed_on}
use Rattle.aut_base.specs.Formula.{formula_tree}
use Rattle.aut_core.specs.SymbolicAutomata.{SymbolicAutomaton, automaton_of}
use Rattle.aut_ops.proofs.pairs.Explorations.{starts_beyond}
use Rattle.aut_ops.proofs.links.Linked.{sets_within}
use Rattle.aut_ops.proofs.joint_runs.MadeProducts.{made_is_product}
use Rattle.aut_ops.specs.Products.{ArePairs}
use Rattle.aut_ops.specs.inner.Parts.{all_pairs}
use Rattle.aut_base.specs.declared.limit.TheConstants.{MOST_PAIRS}
use Rattle.aut_ops.specs.inner.Joins.{IsProductCore}
use Rattle.aut_ops.specs.inner.Pairings.{AreBeyond, ArePlacesOfPairs}
use Rattle.label_guards.specs.Store.{Keeps}
use Rattle.aut_ops.proofs.products.product_parts.Goals as goal

pub returns-in_err-starts-clause-many : goal.returns-in_err-starts-clause-many
returns-in_err-starts-clause-many c is =
    let many = c.in_err-starts.ensures.many (passed_on c.from_residual-in_err-starts.result _ _ c.from_residual-in_err-starts.ensures.1 is) in
    starts_beyond MOST_PAIRS c.args.a.now c.args.b.now c.well_formedness.ensures c.well_formedness-2.ensures c.requires.names c.requires.sets
    (subst (AreBeyond MOST_PAIRS []) (λ i. all_pairs (c.starts.ensures i) (c.starts-2.ensures i)) many)

pub condition-requires : goal.condition-requires
condition-requires c = sets_within c.args.b.now c.well_formedness-2.ensures (4294967296 - c.sets-sets.result) (formula_tree c.formula-2.result.now)
    (omega (arith, c.sets-sets.ensures, c.requires.sets)) c.formula-2.ensures

pub returns-clause-made : goal.returns-clause-made
returns-clause-made c =
    let kept = c.into_parts-guards.ensures in
    let stage = c.explore.new.pairing in
    let a = c.args.a.now in
    let b = c.args.b.now in
    let is = made_is_product c.args.join a b stage c.list_starts.new.pairing.pairs c.in_ok-names.names c.in_ok-starts.starts
    c.sets-sets.result c.sets.result (formula_tree c.in_ok-formula.formula) (formula_tree c.formula.result.now) (formula_tree c.formula-2.result.now) c.into_parts-guards.result.0
    c.into_parts-guards.result.1 c.well_formedness.ensures c.well_formedness-2.ensures c.requires.names c.in_ok-explore.ensures.keeps c.in_ok-explore.ensures.pairs c.in_ok-explore.ensures.edges
    c.in_ok-explore.ensures.longer (subst (ArePlacesOfPairs c.list_starts.new.pairing.pairs c.in_ok-starts.starts) (λ i. all_pairs (c.starts.ensures i) (c.starts-2.ensures i))
    c.in_ok-starts.ensures.places) (c.in_ok-names.ensures ∙ c.names.ensures) c.sets-sets.ensures c.sets.ensures c.formula.ensures c.formula-2.ensures
    c.in_ok-formula.ensures kept.store kept.links in
    let core : List (ℕ × ℕ) → SymbolicAutomaton = λ pairs. record {
      names = c.in_ok-names.names;
      starts = c.in_ok-starts.starts;
      states = length pairs;
      links = c.into_parts-guards.result.1;
      sets = c.sets-sets.result + c.sets.result;
      formula = formula_tree c.in_ok-formula.formula;
      store = c.into_parts-guards.result.0;
    } in
    subst (λ (pairs : List (ℕ × ℕ)). IsProductCore c.args.join a b pairs (core pairs)) (sym kept.pairs) is

pub returns-clause-pairs : goal.returns-clause-pairs
returns-clause-pairs c = subst (ArePairs (automaton_of c.args.a.now) (automaton_of c.args.b.now)) (sym c.into_parts-guards.ensures.pairs) c.in_ok-explore.ensures.pairs

pub returns-clause-keeps : goal.returns-clause-keeps
returns-clause-keeps c = subst (Keeps c.args.b.now.store) (sym c.into_parts-guards.ensures.store) c.in_ok-explore.ensures.keeps
