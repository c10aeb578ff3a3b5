use Rattle.std.proofs.Common.{◌≡◌, ◌∙◌, ◌≤◌, Err, List, ℕ, All, Contains, ap, arith, length, subst, sym}
use Rattle.aut_base.proofs.Outcomes.{told_fault}
use Rattle.aut_base.specs.Automaton.{Automaton}
use Rattle.aut_base.specs.declared.limit.TheConstants.{MOST_NAMES}
use Rattle.aut_core.specs.SymbolicAutomata.{SymbolicAutomaton, automaton_of}
use Rattle.aut_core.specs.OtherNames.{AcceptTheSame, joined_names, over_names}
use Rattle.aut_ops.proofs.joint_runs.MadeProducts.{accepts_over}
use Rattle.aut_ops.proofs.pairs.Faults.{never_names, pairs_fault}
use Rattle.aut_ops.specs.Products.{HasMorePairs, IsProduct, over_both}
use Rattle.aut_base.specs.declared.limit.TheConstants.{MOST_PAIRS}
use Rattle.aut_ops.specs.inner.Joins.{join_of}
use Rattle.aut_ops.proofs.products.product_by.Goals as goal

pub product_over-requires-clause-sets : goal.product_over-requires-clause-sets
product_over-requires-clause-sets c =
    let within = subst (λ (ns : List (List ℕ)). length ns ≤ MOST_NAMES) (λ i. joined_names (c.names.ensures i) (c.names-2.ensures i)) c.in_ok-names.ensures.within in
    let first = ap (λ (x : Automaton). x.sets) c.in_ok-both.ensures.first in
    let second = ap (λ (x : Automaton). x.sets) (ap automaton_of c.second.ensures ∙ c.in_ok-both.ensures.second) in
    omega (arith, c.requires.sets within, first, second)

pub returns-clause-shape : goal.returns-clause-shape
returns-clause-shape c =
    let a = automaton_of c.args.a.now in
    let b = automaton_of c.args.b.now in
    let names : c.in_ok-names.names ≡ joined_names a.names b.names = c.in_ok-names.ensures.joined ∙ (λ i. joined_names (c.names.ensures i) (c.names-2.ensures i)) in
    let first : automaton_of c.in_ok-both.both.first ≡ over_both a b a = c.in_ok-both.ensures.first ∙ (λ i. over_names (names i) a) in
    let second : automaton_of c.second.result.now ≡ over_both a b b = ap automaton_of c.second.ensures ∙ (c.in_ok-both.ensures.second ∙ (λ i. over_names (names i) b)) in
    let made = automaton_of c.in_ok-product_over.field-0 in
    subst (λ (x : Automaton). IsProduct (join_of c.args.join) x (over_both a b b) made) first
    (subst (λ (y : Automaton). IsProduct (join_of c.args.join) (automaton_of c.in_ok-both.both.first) y made) second c.in_ok-product_over.ensures.shape)

pub returns-clause-accepts : goal.returns-clause-accepts
returns-clause-accepts c =
    let a = automaton_of c.args.a.now in
    let b = automaton_of c.args.b.now in
    let names = c.in_ok-names.names in
    let has : All (Contains c.in_ok-names.names) c.args.a.now.names = subst (λ (ns : List (List ℕ)). All (Contains names) ns) c.names.ensures c.in_ok-names.ensures.both.first in
    let has_too : All (Contains c.in_ok-names.names) c.args.b.now.names = subst (λ (ns : List (List ℕ)). All (Contains names) ns) c.names-2.ensures c.in_ok-names.ensures.both.second in
    let differ = c.as_slice-distinct.ensures.distinct in
    accepts_over c.args.join (automaton_of c.in_ok-product_over.field-0) a b (automaton_of c.in_ok-both.both.first) (automaton_of c.second.result.now) names
    (record { differ = differ; has = has }) (record { differ = differ; has = has_too }) c.well_formedness.ensures.well_formed c.well_formedness-2.ensures.well_formed c.in_ok-both.ensures.first
    (ap automaton_of c.second.ensures ∙ c.in_ok-both.ensures.second) c.in_ok-both.ensures.first_accepts
    (subst (λ (x : SymbolicAutomaton). AcceptTheSame (automaton_of x) b) (sym c.second.ensures) c.in_ok-both.ensures.second_accepts) c.in_ok-product_over.ensures.accepts

pub returns-clause-within : goal.returns-clause-within
returns-clause-within c = subst (λ (ns : List (List ℕ)). length ns ≤ MOST_NAMES) (λ i. joined_names (c.names.ensures i) (c.names-2.ensures i)) c.in_ok-names.ensures.within

pub returns-in_err-product_over-clause-names : goal.returns-in_err-product_over-clause-names
returns-in_err-product_over-clause-names c is = absurd (never_names c.in_err-product_over.field-0.0
    (told_fault c.from_residual-in_err-product_over.result _ _ c.from_residual-in_err-product_over.ensures.1 is))

pub returns-in_err-product_over-clause-pairs : goal.returns-in_err-product_over-clause-pairs
returns-in_err-product_over-clause-pairs c is =
    let told = pairs_fault c.in_err-product_over.field-0.0 (told_fault c.from_residual-in_err-product_over.result _ _ c.from_residual-in_err-product_over.ensures.1 is) in
    let a = automaton_of c.args.a.now in
    let b = automaton_of c.args.b.now in
    let names : c.in_ok-names.names ≡ joined_names a.names b.names = c.in_ok-names.ensures.joined ∙ (λ i. joined_names (c.names.ensures i) (c.names-2.ensures i)) in
    let first : automaton_of c.in_ok-both.both.first ≡ over_both a b a = c.in_ok-both.ensures.first ∙ (λ i. over_names (names i) a) in
    let second : automaton_of c.second.result.now ≡ over_both a b b = ap automaton_of c.second.ensures ∙ (c.in_ok-both.ensures.second ∙ (λ i. over_names (names i) b)) in
    subst (λ (x : Automaton). HasMorePairs MOST_PAIRS x (over_both a b b)) first
    (subst (λ (y : Automaton). HasMorePairs MOST_PAIRS (automaton_of c.in_ok-both.both.first) y) second (c.in_err-product_over.ensures.pairs (ap Err told)))
