use Rattle.std.proofs.Common.{Err, ap, refl, subst, sym}
use Rattle.aut_base.proofs.Outcomes.{told_fault}
use Rattle.aut_base.specs.Automaton.{Automaton}
use Rattle.aut_core.proofs.Growth.{keeps_none}
use Rattle.aut_core.specs.SymbolicAutomata.{automaton_of}
use Rattle.aut_ops.proofs.joint_runs.PairRuns.{product_pairwise}
use Rattle.aut_ops.proofs.pairs.Faults.{never_names, pairs_fault}
use Rattle.aut_ops.specs.Languages.{ArePairwise}
use Rattle.aut_ops.proofs.products.square.Goals as goal

pub product_parts-requires-clause-store : goal.product_parts-requires-clause-store
product_parts-requires-clause-store c = keeps_none c.args.a.now.store

pub returns-clause-accepts : goal.returns-clause-accepts
returns-clause-accepts c =
    let a = automaton_of c.args.a.now in
    let formed = c.well_formedness.ensures.well_formed in
    let made = c.in_ok-product_parts.ensures in
    subst (λ (m : Automaton). ArePairwise m c.in_ok-product_parts.field-0.pairs.keys a a) (sym made.made.shape)
    (product_pairwise a a refl formed formed c.in_ok-product_parts.field-0.pairs.keys made.pairs)

pub returns-clause-parts : goal.returns-clause-parts
returns-clause-parts c = c.in_ok-product_parts.ensures.made.parts

pub returns-in_err-product_parts-clause-named : goal.returns-in_err-product_parts-clause-named
returns-in_err-product_parts-clause-named c is = never_names c.in_err-product_parts.field-0.0
    (told_fault c.from_residual.result _ _ c.from_residual.ensures.1 is)

pub returns-in_err-product_parts-clause-many : goal.returns-in_err-product_parts-clause-many
returns-in_err-product_parts-clause-many c is =
    c.in_err-product_parts.ensures.many (ap Err (pairs_fault c.in_err-product_parts.field-0.0 (told_fault c.from_residual.result _ _ c.from_residual.ensures.1 is)))
