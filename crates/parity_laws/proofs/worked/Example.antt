-- The worked example is explored class by class.
use Rattle.parity_laws.specs.Complement.{dualised}
use Rattle.std.proofs.lemmas.List.Elements.{All-contains}
use Rattle.aut_base.proofs.runs.Examples.{off_a, on_a}
use Rattle.aut_base.specs.Examples.{edge, off, on}
use Rattle.aut_base.specs.Acceptance.{Accepts}
use Rattle.std.proofs.Common.{◌≡◌, ◌∙◌, ◌⊎◌, ◌<◌, ◌≤◌, ℕ, zero, suc, Bool, true, false, cond, not, List, []}
use Rattle.std.proofs.Common.{◌∷◌, All, Contains, Some, ap, arith, inl, inr, length, map, nat_eq, refl, slice_index_or, subst, sym}
use Rattle.std.proofs.lemmas.Bool.{cases_Bool, true≢false}
use Rattle.std.proofs.lemmas.Option.{none-some, same_Some}
use Rattle.aut_base.proofs.lists.Members.{each_there, first_there, later_there, none_there, placed_there, there_cases}
use Rattle.aut_base.specs.Automaton.{LabelledEdge}
use Rattle.aut_base.specs.Label.{LabelTree, truth}
use Rattle.safra_trees.specs.Step.{IsTree}
use Rattle.safra_trees.specs.declared.moves.Move.{Move}
use Rattle.safra_laws.specs.Rounds.{next_tree}
use Rattle.std.specs.List.{range_with_len}
use Rattle.safra_laws.proofs.TreesAfter.{after_is_tree}
use Rattle.safra_laws.proofs.invariant.FirstTree.{first_is_tree}
use Rattle.safra_laws.specs.Example.{letter_a, tree_of_start}
use Rattle.parity_laws.proofs.classes.Explored.{explored_is_determinised}
use Rattle.parity_laws.proofs.directions.Both.{accepts_the_same, determinised_dual}
use Rattle.parity_laws.specs.Buchi.{IsBuchiForm}
use Rattle.parity_laws.specs.Classes.{AreClassesOf, MeetsClass}
use Rattle.parity_laws.specs.Determinised.{tree_at}
use Rattle.parity_laws.specs.Example.{WorkedDeterminisation, determinised, finitely_often, its_trees, when_a, when_not_a}
use Rattle.aut_core.specs.Surveys.{edges_from}
use Rattle.parity_laws.specs.Explored.{IsExpanded, IsTreeExploration, tree_class_edge, root_labels, root_moves}

-- it holds of each item
abbrev EachOf : {X : Type 0} → (X → Type 0) → List X → Type 0
EachOf P [] = Unit {0}
EachOf P (x ∷ xs) = P x × EachOf P xs

each_of : {X : Type 0} (P : X → Type 0) (xs : List X) → EachOf P xs → (x : X) → Contains xs x → P x
each_of P [] all x there = absurd (none_there x there)
each_of P (y ∷ ys) all x there = elim (there_cases y ys x there) [ inl same ↦ subst P same all.0 | inr later ↦ each_of P ys all.1 x later ]

-- the two classes: without `a`, and with
abbrev two : List LabelTree
two = when_not_a ∷ when_a ∷ []

not_true : (c : Bool) → not c ≡ true → c ≡ false
not_true true h = absurd (true≢false (sym h))
not_true false h = refl

which : (on : ℕ → Bool) (i : ℕ) → MeetsClass two on i → ((i ≡ 0) × (on 0 ≡ false)) ⊎ ((i ≡ 1) × (on 0 ≡ true))
which on zero meets = inl (refl, not_true (on 0) (same_Some (not (on 0)) true meets))
which on (suc zero) meets = inr (refl, same_Some (on 0) true meets)
which on (suc (suc i)) meets = absurd (none-some true meets)

-- the labels of the list tell letters with `a` from those without, and tell nothing else apart
record TellsA (list : List LabelTree) : Type 0 where
  there : Contains list when_a
  alike : (on also : ℕ → Bool) → on 0 ≡ also 0 → All (λ l. truth on l ≡ truth also l) list

two_classes : (list : List LabelTree) → TellsA list → AreClassesOf list two
two_classes list tells =
    let differ : (on also : ℕ → Bool) → on 0 ≡ true → also 0 ≡ false → All (λ l. truth on l ≡ truth also l) list → ⊥ = λ on also yes no all.
    true≢false (sym yes ∙ (All-contains (λ l. truth on l ≡ truth also l) list when_a all tells.there ∙ no)) in
    let other : (on also : ℕ → Bool) → on 0 ≡ false → also 0 ≡ true → All (λ l. truth on l ≡ truth also l) list → ⊥ = λ on also no yes all.
    true≢false (sym yes ∙ (sym (All-contains (λ l. truth on l ≡ truth also l) list when_a all tells.there) ∙ no)) in
    record {
      every = λ on. elim (cases_Bool (on 0)) [ inl h ↦ (1, ap Some h) | inr h ↦ (0, ap (λ (c : Bool). Some (not c)) h) ];
      alike = λ on also i j one two. elim (which on i one) [
        | inl a ↦ (elim (which also j two) [
          | inl c ↦ ((λ e. tells.alike on also (a.1 ∙ sym c.1)), (λ all. a.0 ∙ sym c.0))
          | inr c ↦ ((λ e. absurd (omega (arith, e, a.0, c.0))), (λ all. absurd (other on also a.1 c.1 all)))
        ])
        | inr a ↦ (elim (which also j two) [
          | inl c ↦ ((λ e. absurd (omega (arith, e, a.0, c.0))), (λ all. absurd (differ on also a.1 c.1 all)))
          | inr c ↦ ((λ e. tells.alike on also (a.1 ∙ sym c.1)), (λ all. a.0 ∙ sym c.0))
        ])
      ];
    }

tells_two : TellsA (LabelTree.True ∷ when_a ∷ [])
tells_two = record {
  there = later_there LabelTree.True (when_a ∷ []) when_a (first_there when_a []);
  alike = λ on also same. (let P : LabelTree → Type 0 = λ l. truth on l ≡ truth also l in each_there P (LabelTree.True ∷ when_a ∷ []) (each_of P (LabelTree.True ∷ when_a ∷ []) (refl, (same, tt))));
}

tells_three : TellsA (LabelTree.True ∷ when_a ∷ when_a ∷ [])
tells_three = record {
  there = later_there LabelTree.True (when_a ∷ when_a ∷ []) when_a (first_there when_a (when_a ∷ []));
  alike = λ on also same. (let P : LabelTree → Type 0 = λ l. truth on l ≡ truth also l in
      each_there P (LabelTree.True ∷ when_a ∷ when_a ∷ []) (each_of P (LabelTree.True ∷ when_a ∷ when_a ∷ []) (refl, (same, (same, tt)))));
}

at_two : (P : ℕ → Type 0) → P 0 → P 1 → (k : ℕ) → k < 2 → P k
at_two P a b zero less = a
at_two P a b (suc zero) less = b
at_two P a b (suc (suc k)) less = absurd (omega (arith, less))

at_three : (P : ℕ → Type 0) → P 0 → P 1 → P 2 → (k : ℕ) → k < 3 → P k
at_three P a b c zero less = a
at_three P a b c (suc zero) less = b
at_three P a b c (suc (suc zero)) less = c
at_three P a b c (suc (suc (suc k))) less = absurd (omega (arith, less))

-- where the classes of a state lead, and what is true in them
abbrev leads_to : ℕ → ℕ → ℕ
leads_to state k = cond (nat_eq k 1) state 0

abbrev in_class : ℕ → ℕ → Bool
in_class k i = nat_eq k 1

abbrev moves_of_class : ℕ → ℕ → List Move
moves_of_class i k = root_moves finitely_often (tree_at its_trees i) (in_class k)

abbrev TreeOf : ℕ → ℕ → ℕ → Type 0
TreeOf i state k = tree_at its_trees (leads_to state k) ≡ next_tree 2 (moves_of_class i k) (tree_at its_trees i)

abbrev edges_of : ℕ → ℕ → List LabelledEdge
edges_of i state = map (λ k. tree_class_edge finitely_often (tree_at its_trees i) 2 i (slice_index_or two k LabelTree.True) (leads_to state k) (moves_of_class i k)) (range_with_len 0 2)

expanded_by : (i state : ℕ) → TellsA (root_labels finitely_often (tree_at its_trees i)) → state < 3 → TreeOf i state 0 → TreeOf i state 1
    → edges_from i determinised.edges ≡ edges_of i state → IsExpanded finitely_often determinised its_trees 2 i
expanded_by i state tells less first second edges = record {
  classes = two;
  are = two_classes (root_labels finitely_often (tree_at its_trees i)) tells;
  valuation = in_class;
  met = at_two (λ k. MeetsClass two (in_class k) k) refl refl;
  to = leads_to state;
  below = at_two (λ k. leads_to state k < 3) (omega arith) less;
  tree = at_two (TreeOf i state) first second;
  edges = edges;
}

explored : IsTreeExploration finitely_often determinised its_trees 2
explored = record {
  names = refl;
  states = refl;
  starts = refl;
  some = omega arith;
  first = refl;
  are_trees = at_three (λ i. IsTree (tree_at its_trees i)) (first_is_tree 2 (0 ∷ []))
      (after_is_tree 2 tree_of_start (letter_a ∷ []) (first_is_tree 2 (0 ∷ [])))
      (after_is_tree 2 tree_of_start (letter_a ∷ letter_a ∷ []) (first_is_tree 2 (0 ∷ [])));
  few = at_three (λ i. length (tree_at its_trees i) ≤ 2) (omega arith) (omega arith) (omega arith);
  from = each_of (λ (e : LabelledEdge). e.from < 3) determinised.edges (omega arith, (omega arith, (omega arith, (omega arith, (omega arith, (omega arith, tt))))));
  expanded = at_three (IsExpanded finitely_often determinised its_trees 2)
      (expanded_by 0 1 tells_two (omega arith) refl refl refl)
      (expanded_by 1 2 tells_three (omega arith) refl refl refl)
      (expanded_by 2 2 tells_three (omega arith) refl refl refl);
  formula = refl;
}

buchi : IsBuchiForm finitely_often
buchi = record {
  formula = refl;
  starts = each_of (λ s. s < 2) (0 ∷ []) (omega arith, tt);
  ends = each_of (λ (e : LabelledEdge). e.to < 2) finitely_often.edges (omega arith, (omega arith, (omega arith, tt)));
}

-- through the second state to the third, which has the cycle
always_accepted : Accepts determinised [] (on ∷ [])
always_accepted = record {
  endless = omega arith;
  start = 0;
  state = 2;
  stem_rounds = 2;
  cycle_rounds = 1;
  path_edges = edge 0 when_a 1 (4 ∷ []) ∷ edge 1 when_a 2 (4 ∷ []) ∷ [];
  cycle = edge 2 when_a 2 (3 ∷ []) ∷ [];
  is_start = first_there 0 [];
  leads = (refl, placed_there determinised.edges 1 (edge 0 when_a 1 (4 ∷ [])) refl, on_a, (refl, placed_there determinised.edges 3 (edge 1 when_a 2 (4 ∷ [])) refl, on_a, refl));
  positive = omega arith;
  returns = (refl, placed_there determinised.edges 5 (edge 2 when_a 2 (3 ∷ [])) refl, on_a, refl);
  meets = refl;
}

never_accepted : Accepts (dualised determinised) [] (off ∷ [])
never_accepted = record {
  endless = omega arith;
  start = 0;
  state = 0;
  stem_rounds = 0;
  cycle_rounds = 1;
  path_edges = [];
  cycle = edge 0 when_not_a 0 (4 ∷ []) ∷ [];
  is_start = first_there 0 [];
  leads = refl;
  positive = omega arith;
  returns = (refl, placed_there determinised.edges 0 (edge 0 when_not_a 0 (4 ∷ [])) refl, ap not off_a, refl);
  meets = refl;
}

pub worked_determinisation : WorkedDeterminisation
worked_determinisation =
    let made = explored_is_determinised finitely_often determinised its_trees 2 explored in
    let complement = determinised_dual finitely_often determinised its_trees 2 buchi made in
    record {
      buchi = buchi;
      explored = explored;
      is_determinised = made;
      dual = complement;
      always = (accepts_the_same finitely_often determinised its_trees 2 buchi made [] (on ∷ [])).0 always_accepted;
      always_too = always_accepted;
      never = (complement.exactly [] (off ∷ []) (omega arith)).0 never_accepted;
      never_dual = never_accepted;
    }
