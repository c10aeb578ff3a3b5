use Rattle.std.proofs.Common.{◌≡◌, [], ◌∷◌, Some, map, refl}
use Rattle.aut_core.specs.SymbolicAutomata.{automaton_of}
use Rattle.plan_meaning.proofs.filters.Kept.{are_from, operand_is}
use Rattle.plan_meaning.proofs.StandingLists.{by_flag, by_option, of_any, of_flag, of_option, same_standing}
use Rattle.plan_meaning.specs.Filters.{AcceptsWord, Edges, EquivalentTo, IncludedIn, Intersects, Names, RejectsWord, Sets, States, filter_options}
use Rattle.plan_meaning.specs.Operands.{IsOfReadSize, operand_at, place_of_equivalent_to, place_of_included_in}
use Rattle.plan_meaning.specs.declared.judging.filter.Filter.TheVariants as code
use Rattle.plan_meaning.specs.inner.Judging.{IsFrom, filter_of}
use Rattle.word_syntax.specs.Writing.{word_pattern}
use Rattle.plan_meaning.proofs.judging.filter.filters.Goals as goal

pub returns-clause-list : goal.returns-clause-list
returns-clause-list c =
    let p = c.args.plan.now in
    let accepts = by_option filter_of (λ x. x.now) code.AcceptsWord (λ w. AcceptsWord (word_pattern w)) (λ x. refl) c.as_ref.result p.accept_word c.map.result c.map.ensures.cases
    c.as_ref.ensures.value in
    let rejects = by_option filter_of (λ x. x.now) code.RejectsWord (λ w. RejectsWord (word_pattern w)) (λ x. refl) c.as_ref-2.result p.reject_word c.map-2.result c.map-2.ensures.cases
    c.as_ref-2.ensures.value in
    let empty = by_flag filter_of p.is_empty code.IsEmpty c.then_some.result c.then_some.ensures in
    let included = by_option filter_of (λ x. automaton_of x.now) code.IncludedIn IncludedIn (λ x. refl) c.included_in_operand.result _ c.map-3.result c.map-3.ensures.cases
    c.included_in_operand.ensures.is in
    let equivalent = by_option filter_of (λ x. automaton_of x.now) code.EquivalentTo EquivalentTo (λ x. refl) c.equivalent_to_operand.result _ c.map-4.result c.map-4.ensures.cases
    c.equivalent_to_operand.ensures.is in
    let intersects = by_option filter_of (λ x. automaton_of x.now) code.Intersects Intersects (λ x. refl) c.intersect_operand.result _ c.map-5.result c.map-5.ensures.cases
    c.intersect_operand.ensures.is in
    let deterministic = by_flag filter_of p.is_deterministic code.IsDeterministic c.then_some-2.result c.then_some-2.ensures in
    let complete = by_flag filter_of p.is_complete code.IsComplete c.then_some-3.result c.then_some-3.ensures in
    let unambiguous = by_flag filter_of p.is_unambiguous code.IsUnambiguous c.then_some-4.result c.then_some-4.ensures in
    let states = by_option filter_of (λ x. x.now) code.States States (λ x. refl) c.as_ref-3.result p.states c.map-6.result c.map-6.ensures.cases c.as_ref-3.ensures.value in
    let edges = by_option filter_of (λ x. x.now) code.Edges Edges (λ x. refl) c.as_ref-4.result p.edges c.map-7.result c.map-7.ensures.cases c.as_ref-4.ensures.value in
    let sets = by_option filter_of (λ x. x.now) code.Sets Sets (λ x. refl) c.as_ref-5.result p.acc_sets c.map-8.result c.map-8.ensures.cases c.as_ref-5.ensures.value in
    let names = by_option filter_of (λ x. x.now) code.Names Names (λ x. refl) c.as_ref-6.result p.ap c.map-9.result c.map-9.ensures.cases c.as_ref-6.ensures.value in
    same_standing filter_of (c.map.result ∷ c.map-2.result ∷ c.then_some.result ∷ c.map-3.result ∷ c.map-4.result ∷ c.map-5.result ∷ c.then_some-2.result ∷ c.then_some-3.result
    ∷ c.then_some-4.result ∷ c.map-6.result ∷ c.map-7.result ∷ c.map-8.result ∷ c.map-9.result ∷ []) (filter_options p (map automaton_of c.args.operands.now))
    (λ i. accepts i ∷ rejects i ∷ empty i ∷ included i ∷ equivalent i ∷ intersects i ∷ deterministic i ∷ complete i ∷ unambiguous i ∷ states i ∷ edges i ∷ sets i ∷ names i ∷ [])

pub returns-clause-from : goal.returns-clause-from
returns-clause-from c =
    let p = c.args.plan.now in
    let ops = map automaton_of c.args.operands.now in
    let P = IsFrom p ops in
    let accepts = of_any P code.AcceptsWord (λ x. tt) c.as_ref.result c.map.result c.map.ensures.cases in
    let rejects = of_any P code.RejectsWord (λ x. tt) c.as_ref-2.result c.map-2.result c.map-2.ensures.cases in
    let empty = of_flag P p.is_empty code.IsEmpty c.then_some.result c.then_some.ensures tt in
    let included_is = operand_is (λ x. IsOfReadSize (automaton_of x.now)) (λ x. automaton_of x.now) c.included_in_operand.result (operand_at p.included_in place_of_included_in ops)
    c.included_in_operand.ensures.is c.included_in_operand.ensures.sized in
    let included = of_option (λ x. IsOfReadSize (automaton_of x.now) × (operand_at p.included_in place_of_included_in ops ≡ Some (automaton_of x.now))) P code.IncludedIn (λ x h. h)
    c.included_in_operand.result c.map-3.result c.map-3.ensures.cases included_is in
    let equivalent_is = operand_is (λ x. IsOfReadSize (automaton_of x.now)) (λ x. automaton_of x.now) c.equivalent_to_operand.result
    (operand_at p.equivalent_to (place_of_equivalent_to p) ops) c.equivalent_to_operand.ensures.is c.equivalent_to_operand.ensures.sized in
    let equivalent = of_option (λ x. IsOfReadSize (automaton_of x.now) × (operand_at p.equivalent_to (place_of_equivalent_to p) ops ≡ Some (automaton_of x.now))) P code.EquivalentTo
    (λ x h. h) c.equivalent_to_operand.result c.map-4.result c.map-4.ensures.cases equivalent_is in
    let intersects = of_option (λ x. IsOfReadSize (automaton_of x.now)) P code.Intersects (λ x h. h) c.intersect_operand.result c.map-5.result c.map-5.ensures.cases
    c.intersect_operand.ensures.sized in
    let deterministic = of_flag P p.is_deterministic code.IsDeterministic c.then_some-2.result c.then_some-2.ensures tt in
    let complete = of_flag P p.is_complete code.IsComplete c.then_some-3.result c.then_some-3.ensures tt in
    let unambiguous = of_flag P p.is_unambiguous code.IsUnambiguous c.then_some-4.result c.then_some-4.ensures tt in
    let states = of_any P code.States (λ x. tt) c.as_ref-3.result c.map-6.result c.map-6.ensures.cases in
    let edges = of_any P code.Edges (λ x. tt) c.as_ref-4.result c.map-7.result c.map-7.ensures.cases in
    let sets = of_any P code.Sets (λ x. tt) c.as_ref-5.result c.map-8.result c.map-8.ensures.cases in
    let names = of_any P code.Names (λ x. tt) c.as_ref-6.result c.map-9.result c.map-9.ensures.cases in
    are_from p ops (c.map.result ∷ c.map-2.result ∷ c.then_some.result ∷ c.map-3.result ∷ c.map-4.result ∷ c.map-5.result ∷ c.then_some-2.result ∷ c.then_some-3.result ∷ c.then_some-4.result
    ∷ c.map-6.result ∷ c.map-7.result ∷ c.map-8.result ∷ c.map-9.result ∷ [])
    (accepts, (rejects, (empty, (included, (equivalent, (intersects, (deterministic, (complete, (unambiguous, (states, (edges, (sets, (names, tt)))))))))))))
