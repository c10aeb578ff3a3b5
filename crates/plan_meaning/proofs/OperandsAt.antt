-- Operands by their index.
use Rattle.std.proofs.Common.{◌≡◌, ◌∙◌, ℕ, ◌<◌, List, All, Some, ap, arith, length, length-append, map, subst}
use Rattle.std.specs.Prelude.{◌++◌}
use Rattle.std.specs.List.{slice_index_or}
use Rattle.std.proofs.lemmas.List.{get_or-map, length-map}
use Rattle.aut_core.specs.SymbolicAutomata.{SymbolicAutomaton, automaton_of}
use Rattle.filter_plan.specs.Table.{refuted}
use Rattle.filter_plan.specs.Words.{file_list, operands}
use Rattle.filter_plan.specs.declared.plan.Plan.{Plan}
use Rattle.plan_meaning.specs.Operands.{IsOfReadSize, place_of_refuted}

-- the operand of an index has the size of an automaton that is read
pub sized_at : (ops : List SymbolicAutomaton) (place : ℕ) (one : SymbolicAutomaton) → place < length ops → All IsOfReadSize (map automaton_of ops) → slice_index_or ops place one ≡ one
    → IsOfReadSize (automaton_of one)
sized_at ops place one within sized there = subst IsOfReadSize (get_or-map automaton_of ops place one (automaton_of one) within ∙ ap automaton_of there)
    (sized place (automaton_of one) (omega (arith, within, length-map ops automaton_of)))

-- where there is a refutation, the index of its operand is within the list
pub refuted_within : (p : Plan) (file : List ℕ) (ops : List SymbolicAutomaton) → length (map automaton_of ops) ≡ length (operands p) → refuted p.output ≡ Some file → place_of_refuted p < length ops
refuted_within p file ops number is =
    let last = file_list (refuted p.output) in
    let sums = file_list p.sum ++ last in
    let unions = file_list p.product_or ++ sums in
    let products = file_list p.product ++ unions in
    let met = file_list p.intersect ++ products in
    let compared = file_list p.equivalent_to ++ met in
    let one : length last ≡ 1 = ap (λ o. length (file_list o)) is in
    omega (
      arith,
      one,
      number,
      length-map ops automaton_of,
      length-append (file_list p.sum) last,
      length-append (file_list p.product_or) sums,
      length-append (file_list p.product) unions,
      length-append (file_list p.intersect) products,
      length-append (file_list p.equivalent_to) met,
      length-append (file_list p.included_in) compared,
    )
