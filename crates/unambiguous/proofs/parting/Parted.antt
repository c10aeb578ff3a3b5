-- The loop that lists the start pairs of the square, and the automaton that is made with them.
use Rattle.std.proofs.Common.{◌≡◌, ◌≢◌, ◌∙◌, ◌+◌, ◌<◌, ◌≤◌, ℕ, Bool, true, false, List, [], ◌∷◌, ◌++◌, All, Contains, Some, ap, arith, get_or, inl, inr, length, refl, slice_get, subst, sym}
use Rattle.std.proofs.lemmas.Bool.{cases_lt, false≢true}
use Rattle.std.proofs.lemmas.List.Elements.{All-contains, Contains-append_cases, Contains-append_left, Contains-get_or, Contains-push}
use Rattle.std.proofs.lemmas.List.Quantifiers.{all_pairs_push}
use Rattle.std.proofs.lemmas.Option.{same_Some}
use Rattle.aut_base.proofs.lists.Members.{each_there, none_there, there_cases}
use Rattle.aut_base.specs.declared.limit.TheConstants.{MOST_PAIRS}
use Rattle.aut_base.specs.Automaton.{Automaton, LabelledEdge}
use Rattle.aut_core.proofs.Growth.{kept_edges}
use Rattle.aut_core.specs.SymbolicAutomata.{AreSymbolicParts, SymbolicAutomaton, IsWellFormedSymbolic, automaton_of}
use Rattle.aut_ops.proofs.joint_runs.JointEdges.{reached_within}
use Rattle.aut_ops.proofs.pairs.Laws.{few_pairs_exclude_more}
use Rattle.aut_ops.specs.BreadthFirst.{IsReachedFrom}
use Rattle.aut_ops.specs.Products.{ArePairs, HasMorePairs, next_pairs, product_on, start_pairs}
use Rattle.label_guards.specs.Store.{Keeps, Store}
use Rattle.unambiguous.specs.Parted.{ArePartings, parts}

module _ (flags : List Bool) (pairs : List (ℕ × ℕ)) (n : ℕ) (pair : ℕ × ℕ) (here : slice_get pairs n ≡ Some pair) (starts : List ℕ) (so_far : ArePartings flags pairs n starts) where
  pub one_less : parts flags pair ≡ false → ArePartings flags pairs (n + 1) starts
  one_less none = record {
    differ = so_far.differ;
    sound = λ k there. let early : k < n = (so_far.sound k there).0 in (omega (arith, early), (so_far.sound k there).1);
    whole = λ k other less at apart. elim (cases_lt k n) [
      | inl early ↦ so_far.whole k other early at apart
      | inr late ↦
          (let same : k ≡ n = omega (arith, less, late) in
          let is : other ≡ pair = same_Some other pair (sym at ∙ (ap (slice_get pairs) same ∙ here)) in
          absurd (false≢true (sym none ∙ (ap (parts flags) (sym is) ∙ apart))))
    ];
  }

  pub one_more : parts flags pair ≡ true → ArePartings flags pairs (n + 1) (starts ++ n ∷ [])
  one_more some = record {
    differ = all_pairs_push (λ p q. p ≢ q) starts n so_far.differ (λ k d within e.
        let early : get_or starts k d < n = (so_far.sound (get_or starts k d) (Contains-get_or starts k d within)).0 in omega (arith, early, e));
    sound = λ k there. elim (Contains-append_cases starts (n ∷ []) k there) [
      | inl old ↦ (let early : k < n = (so_far.sound k old).0 in (omega (arith, early), (so_far.sound k old).1))
      | inr new ↦
          (let same : n ≡ k = elim (there_cases n [] k new) [ inl is ↦ is | inr none ↦ absurd (none_there k none) ] in
          (omega (arith, same), λ other at. ap (parts flags) (same_Some other pair (sym at ∙ (ap (slice_get pairs) (sym same) ∙ here))) ∙ some))
    ];
    whole = λ k other less at apart. elim (cases_lt k n) [
      | inl early ↦ Contains-append_left starts (n ∷ []) k (so_far.whole k other early at apart)
      | inr late ↦ (let same : n ≡ k = omega (arith, less, late) in subst (λ j. Contains (starts ++ n ∷ []) j) same (Contains-push starts n))
    ];
  }

-- with these starts the parts of the square still make a well-formed automaton
pub begun_parts : (m : SymbolicAutomaton) (flags : List Bool) (pairs : List (ℕ × ℕ)) (starts : List ℕ) → m.states ≡ length pairs → AreSymbolicParts m → ArePartings flags pairs (length pairs) starts
    → AreSymbolicParts (record m { starts = starts })
begun_parts m flags pairs starts states are begin = record {
  few = are.few;
  store_names = are.store_names;
  starts_differ = begin.differ;
  starts = each_there (λ p. p < m.states) starts (λ k there. let within : k < length pairs = (begin.sound k there).0 in omega (arith, states, within));
  in_order = are.in_order;
  links = λ k d within. let was = are.links k d within in record { from = was.from; guard = was.guard; to = was.to; marks = was.marks };
  formula = are.formula;
}

-- with a store that has grown they make the same automaton
pub grown_parts : (m : SymbolicAutomaton) (t : Store) → Keeps m.store t → AreSymbolicParts m → AreSymbolicParts (record m { store = t })
grown_parts m t keeps are = record {
  few = are.few;
  store_names = keeps.names ∙ are.store_names;
  starts_differ = are.starts_differ;
  starts = are.starts;
  in_order = are.in_order;
  links = λ k d within. let was = are.links k d within in record { from = was.from; guard = keeps.has (get_or m.links k d).guard was.guard; to = was.to; marks = was.marks };
  formula = are.formula;
}

pub grown_same : (m : SymbolicAutomaton) (t : Store) → Keeps m.store t → AreSymbolicParts m → automaton_of (record m { store = t }) ≡ automaton_of m
grown_same m t keeps are =
    let made : List LabelledEdge → Automaton = λ es. record { names = m.names; starts = m.starts; states = m.states; edges = es; sets = m.sets; formula = m.formula } in
    ap made (kept_edges m.links keeps (λ k d within. (are.links k d within).guard))

-- where the pairs are few, more aren't reached
pub no_more_pairs : (a : SymbolicAutomaton) (pairs : List (ℕ × ℕ)) → ArePairs (automaton_of a) (automaton_of a) pairs → length pairs ≤ MOST_PAIRS
    → HasMorePairs MOST_PAIRS (automaton_of a) (automaton_of a) → ⊥
no_more_pairs a pairs listed few =
    let x = automaton_of a in
    few_pairs_exclude_more (λ f g. f) x x (product_on (λ f g. f) pairs x x) MOST_PAIRS (record { pairs = pairs; in_order = listed; is = refl }) few

-- the states of the pairs are those of the automaton
pub states_within : (a : SymbolicAutomaton) → IsWellFormedSymbolic a → (pairs : List (ℕ × ℕ)) → ArePairs (automaton_of a) (automaton_of a) pairs → (n : ℕ) → n ≡ a.states
    → All (λ pair. pair.0 < n) pairs
states_within a core pairs listed n is = each_there (λ (pair : ℕ × ℕ). pair.0 < n) pairs (λ pair there.
    let x = automaton_of a in
    let reached = All-contains (IsReachedFrom (start_pairs x x) (next_pairs x x)) pairs pair listed.reached there in
    let within : pair.0 < a.states = (reached_within x x core.well_formed core.well_formed pair reached).0 in
    omega (arith, within, is))
