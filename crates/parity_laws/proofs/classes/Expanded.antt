-- A state that is expanded class by class: each letter meets exactly one of its edges, and that edge is a step.
use Rattle.std.proofs.Common.{◌≡◌, ◌∙◌, ◌<◌, ◌==◌, ℕ, zero, suc, Bool, true, List, [], ◌∷◌, All, AllPairs, Contains, Some, ap, arith, get_or, length, refl, slice_index_or, subst, sym}
use Rattle.std.proofs.lemmas.Bool.{eq-eqb}
use Rattle.std.proofs.lemmas.List.FromFn.{get_or-range_with_len, length-range_with_len}
use Rattle.std.proofs.lemmas.Option.{none-some, same_Some}
use Rattle.std.specs.List.{range_with_len}
use Rattle.aut_base.proofs.order.AllPairsOf.{pairs_map}
use Rattle.aut_base.proofs.lists.Members.{from_filter, from_map, from_range, there_filter, there_map, there_range_zero}
use Rattle.aut_base.specs.Automaton.{Automaton, LabelledEdge}
use Rattle.aut_base.specs.Label.{LabelTree, True, holds_at, truth}
use Rattle.aut_base.specs.Word.{NameSet}
use Rattle.aut_core.specs.Deterministic.{AreApart, HasSuccessor, is_met}
use Rattle.aut_core.specs.Surveys.{AreAllApart, edges_from}
use Rattle.safra_trees.specs.Step.{IsTree}
use Rattle.safra_trees.specs.Trees.{Node}
use Rattle.safra_laws.proofs.invariant.RootMoves.{root_moves_are_enough}
use Rattle.safra_laws.specs.Trees.{SameRootMoves}
use Rattle.parity_laws.proofs.classes.RootMoves.{same_root_moves}
use Rattle.parity_laws.specs.Buchi.{moves_at}
use Rattle.parity_laws.specs.Classes.{MeetsClass}
use Rattle.parity_laws.specs.Determinised.{IsStepEdge, tree_at}
use Rattle.parity_laws.specs.Explored.{IsExpanded, tree_class_edge, root_labels, root_moves}

meets_within : (classes : List LabelTree) (on : ℕ → Bool) (k : ℕ) → MeetsClass classes on k → k < length classes
meets_within [] on k meets = absurd (none-some true meets)
meets_within (c ∷ cs) on zero meets = omega arith
meets_within (c ∷ cs) on (suc k) meets = omega (arith, meets_within cs on k meets)

meets_is : (classes : List LabelTree) (on : ℕ → Bool) (k : ℕ) → MeetsClass classes on k → truth on (slice_index_or classes k True) ≡ true
meets_is [] on k meets = absurd (none-some true meets)
meets_is (c ∷ cs) on zero meets = same_Some (truth on c) true meets
meets_is (c ∷ cs) on (suc k) meets = meets_is cs on k meets

is_meets : (classes : List LabelTree) (on : ℕ → Bool) (k : ℕ) → k < length classes → truth on (slice_index_or classes k True) ≡ true → MeetsClass classes on k
is_meets [] on k less is = absurd (omega (arith, less))
is_meets (c ∷ cs) on zero less is = ap Some is
is_meets (c ∷ cs) on (suc k) less is = is_meets cs on k (omega (arith, less)) is

module _ (b d : Automaton) (trees : List (List Node)) (most i : ℕ) (x : IsExpanded b d trees most i) where
  abbrev t : List Node
  t = tree_at trees i

  abbrev edge_for : ℕ → LabelledEdge
  edge_for k = tree_class_edge b t most i (slice_index_or x.classes k True) (x.to k) (root_moves b t (x.valuation k))

  -- an edge of the state is that of a class
  record OfClass (e : LabelledEdge) : Type 0 where
    place : ℕ
    below : place < length x.classes
    is : edge_for place ≡ e

  of_class : (e : LabelledEdge) → Contains d.edges e → e.from ≡ i → OfClass e
  of_class e there from =
      let inside = subst (λ es. Contains es e) x.edges (there_filter (λ (f : LabelledEdge). f.from == i) d.edges e there (eq-eqb e.from i from)) in
      let found = from_map edge_for (range_with_len 0 (length x.classes)) e inside in
      record { place = found.0; below = omega (arith, (from_range 0 (length x.classes) found.0 found.1).1); is = found.2 }

  -- a letter is in the class whose edge it meets
  meets_place : (k : ℕ) → k < length x.classes → (letter : NameSet) → is_met d.names letter (edge_for k) ≡ true → MeetsClass x.classes (holds_at d.names letter) k
  meets_place k below letter meets = is_meets x.classes (holds_at d.names letter) k below meets

  one_place : (j k : ℕ) → j < length x.classes → k < length x.classes → (letter : NameSet) → is_met d.names letter (edge_for j) ≡ true → is_met d.names letter (edge_for k) ≡ true → j ≡ k
  one_place j k within below letter one two =
      let on = holds_at d.names letter in
      (x.are.alike on on j k (meets_place j within letter one) (meets_place k below letter two)).1 (λ m l less. refl)

  pub goes_on : (letter : NameSet) → HasSuccessor d i letter
  goes_on letter =
      let on = holds_at d.names letter in
      let found = x.are.every on in
      let k = found.0 in
      let within = meets_within x.classes on k found.1 in
      let inside = subst (λ es. Contains es (edge_for k)) (sym x.edges) (there_map edge_for (range_with_len 0 (length x.classes)) k (there_range_zero (length x.classes) k within)) in
      record {
        edge = edge_for k;
        is_edge = (from_filter (λ (f : LabelledEdge). f.from == i) d.edges (edge_for k) inside).0;
        from = refl;
        meets = meets_is x.classes on k found.1;
      }

  range_apart : AllPairs (λ j k. AreApart d.names (edge_for j) (edge_for k)) (range_with_len 0 (length x.classes))
  range_apart j k z less within letter one two =
      let n = length x.classes in
      let long : k < n = omega (arith, within, length-range_with_len 0 n) in
      let first : get_or (range_with_len 0 n) j z ≡ j = omega (arith, get_or-range_with_len 0 n j z (omega (arith, less, long))) in
      let second : get_or (range_with_len 0 n) k z ≡ k = omega (arith, get_or-range_with_len 0 n k z long) in
      let Meets : ℕ → Type 0 = λ m. is_met d.names letter (edge_for m) ≡ true in
      let same = one_place j k (omega (arith, less, long)) long letter (subst Meets first one) (subst Meets second two) in
      omega (arith, less, same)

  pub edges_apart : AreAllApart d.names (edges_from i d.edges)
  edges_apart = subst (AllPairs (AreApart d.names)) (sym x.edges) (pairs_map (AreApart d.names) edge_for (range_with_len 0 (length x.classes)) range_apart)

  same_moves : d.names ≡ b.names → (k : ℕ) → k < length x.classes → (letter : NameSet)
      → is_met d.names letter (edge_for k) ≡ true → SameRootMoves (moves_at b letter) (root_moves b t (x.valuation k)) t
  same_moves names k below letter meets =
      let each = (x.are.alike (holds_at d.names letter) (x.valuation k) k k (meets_place k below letter meets) (x.met k below)).0 refl in
      same_root_moves b t (x.valuation k) letter (subst (λ ns. All (λ l. truth (holds_at ns letter) l ≡ truth (x.valuation k) l) (root_labels b t)) names each)

  -- the edge of a class is a step under each letter of the class
  class_step : d.names ≡ b.names → IsTree t → (k : ℕ) → k < length x.classes → (letter : NameSet)
      → is_met d.names letter (edge_for k) ≡ true → IsStepEdge b trees most letter (edge_for k)
  class_step names tree k below letter meets =
      let same = root_moves_are_enough b.states most (moves_at b letter) (root_moves b t (x.valuation k)) t tree (same_moves names k below letter meets) in
      record { to = x.below k below; tree = x.tree k below ∙ sym same.0; marks = ap (λ (m : ℕ). m ∷ []) (sym same.1) }

  pub step_edge : d.names ≡ b.names → IsTree t → (e : LabelledEdge) → Contains d.edges e → e.from ≡ i → (letter : NameSet) → is_met d.names letter e ≡ true → IsStepEdge b trees most letter e
  step_edge names tree e there from letter meets =
      let c = of_class e there from in
      let here : is_met d.names letter (edge_for c.place) ≡ true = ap (is_met d.names letter) c.is ∙ meets in
      subst (IsStepEdge b trees most letter) c.is (class_step names tree c.place c.below letter here)
