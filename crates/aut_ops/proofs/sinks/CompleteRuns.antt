-- A complete automaton has a run over each lasso word, since of the states of a path after each turn of the cycle
-- two are the same.
use Rattle.std.proofs.Common.{◌≡◌, ◌∙◌, ◌⊎◌, ◌+◌, ◌-◌, ◌<◌, ◌≤◌, ℕ, zero, suc, true, false, List, [], ◌∷◌, ◌++◌, All, Contains, ap, arith, eqb, get_or, inl, inr, length, map, refl, subst, sym}
use Rattle.std.proofs.lemmas.Bool.{cases_Bool, cases_lt, eqb-true}
use Rattle.std.proofs.lemmas.List.{get_or_default}
use Rattle.std.proofs.lemmas.List.Elements.{All-contains}
use Rattle.std.proofs.lemmas.List.Folds.{Any-from_list_any}
use Rattle.std.proofs.lemmas.List.FromFn.{get_or-map-range_with_len, length-map-range_with_len}
use Rattle.std.proofs.lemmas.Map.Steps.{length-le_from_distinct_below}
use Rattle.std.specs.List.{AllByRecursion, IsDistinct, list_any, range_with_len}
use Rattle.aut_base.proofs.runs.Paths.{path_join}
use Rattle.aut_base.proofs.numbers.Truth.{left_of_or, right_of_or}
use Rattle.aut_base.specs.Acceptance.{IsPath}
use Rattle.aut_base.specs.Automaton.{Automaton, IsEdgeOf, IsWellFormed, LabelledEdge}
use Rattle.aut_base.specs.Word.{NameSet, copies}
use Rattle.aut_core.specs.Deterministic.{IsComplete}
use Rattle.aut_base.specs.Runs.{HasRun, HasRuns}

-- two indices of a list have the same number
record Twice (xs : List ℕ) : Type 0 where
  early : ℕ
  late : ℕ
  order : early < late
  within : late < length xs
  same : get_or xs early 0 ≡ get_or xs late 0

none_equal : (x : ℕ) (xs : List ℕ) → list_any (eqb x) xs ≡ false → AllByRecursion (λ y. eqb x y ≡ false) xs
none_equal x [] e = tt
none_equal x (y ∷ ys) e = (left_of_or (eqb x y) (list_any (eqb x) ys) e, none_equal x ys (right_of_or (eqb x y) (list_any (eqb x) ys) e))

distinct_or_twice : (xs : List ℕ) → IsDistinct eqb xs ⊎ Twice xs
unfolding IsDistinct
distinct_or_twice [] = inl tt
distinct_or_twice (x ∷ xs) = by_cases (distinct_or_twice xs) (cases_Bool (list_any (eqb x) xs))
  where
    by_cases : IsDistinct eqb xs ⊎ Twice xs → (list_any (eqb x) xs ≡ true) ⊎ (list_any (eqb x) xs ≡ false) → IsDistinct eqb (x ∷ xs) ⊎ Twice (x ∷ xs)
    by_cases rest (inl some) =
        let found = Any-from_list_any (eqb x) xs some in
        let same : x ≡ get_or xs found.0 0 = eqb-true x found.1 found.4 ∙ (sym found.3 ∙ get_or_default xs found.0 found.1 0 found.2) in
        inr (record { early = 0; late = suc found.0; order = omega arith; within = omega (arith, found.2); same = same })
    by_cases (inl distinct) (inr none) = inl (none_equal x xs none, distinct)
    by_cases (inr twice) (inr none) = inr (record { early = suc twice.early; late = suc twice.late; order = omega (arith, twice.order); within = omega (arith, twice.within); same = twice.same })

-- of more than n numbers below n two are the same
two_same : (n : ℕ) (xs : List ℕ) → All (λ x. x < n) xs → n < length xs → Twice xs
two_same n xs below long = by_cases (distinct_or_twice xs)
  where
    by_cases : IsDistinct eqb xs ⊎ Twice xs → Twice xs
    by_cases (inl distinct) =
        let few = length-le_from_distinct_below xs n distinct
        (λ q some. let found = Any-from_list_any (eqb q) xs some in let low = below found.0 found.1 found.2 in omega (arith, eqb-true q found.1 found.4, found.3, low)) in
        absurd (omega (arith, few, long))
    by_cases (inr twice) = twice

module _ (a : Automaton) (formed : IsWellFormed a) (complete : IsComplete a) where
  record From (p : ℕ) (xs : List NameSet) : Type 0 where
    state : ℕ
    edges : List LabelledEdge
    goes : IsPath a p xs edges state
    within : state < a.states

  from : (p : ℕ) (xs : List NameSet) → p < a.states → From p xs
  from p [] less = record { state = p; edges = []; goes = refl; within = less }
  from p (x ∷ xs) less =
      let on = complete.edges p less x in
      let rest = from on.edge.to xs (All-contains (IsEdgeOf a) a.edges on.edge formed.edges on.is_edge).to in
      record { state = rest.state; edges = on.edge ∷ rest.edges; goes = (sym on.from, on.is_edge, on.meets, rest.goes); within = rest.within }

  module _ (v : List NameSet) where
    -- the state after one turn of the cycle
    abbrev after : ℕ → ℕ
    after p = elim (cases_lt p a.states) [ inl less ↦ (from p v less).state | inr past ↦ p ]

    record Turn (p : ℕ) : Type 0 where
      edges : List LabelledEdge
      goes : IsPath a p v edges (after p)
      within : after p < a.states

    turn : (p : ℕ) → p < a.states → Turn p
    turn p less = by_cases (cases_lt p a.states) refl
      where
        by_cases : (c : (p < a.states) ⊎ (a.states ≤ p)) → c ≡ cases_lt p a.states → Turn p
        by_cases (inl inside) is =
            let same : (from p v inside).state ≡ after p = ap (λ (c : (p < a.states) ⊎ (a.states ≤ p)). elim c as (λ _. ℕ) [ inl less ↦ (from p v less).state | inr past ↦ p ]) is in
            record {
              edges = (from p v inside).edges;
              goes = subst (λ q. IsPath a p v (from p v inside).edges q) same (from p v inside).goes;
              within = subst (λ q. q < a.states) same (from p v inside).within;
            }
        by_cases (inr past) is = absurd (omega (arith, less, past))

    -- the state after this many turns
    abbrev stem_rounds : ℕ → ℕ → ℕ
    stem_rounds zero p = p
    stem_rounds (suc k) p = stem_rounds k (after p)

    turns_add : (j k p : ℕ) → stem_rounds (j + k) p ≡ stem_rounds k (stem_rounds j p)
    turns_add zero k p = let e : 0 + k ≡ k = omega arith in ap (λ n. stem_rounds n p) e
    turns_add (suc j) k p = let e : suc j + k ≡ suc (j + k) = omega arith in ap (λ n. stem_rounds n p) e ∙ turns_add j k (after p)

    record Turns (k p : ℕ) : Type 0 where
      edges : List LabelledEdge
      goes : IsPath a p (copies k v) edges (stem_rounds k p)
      within : stem_rounds k p < a.states

    all_turns : (k p : ℕ) → p < a.states → Turns k p
    all_turns zero p less = record { edges = []; goes = refl; within = less }
    all_turns (suc k) p less =
        let one = turn p less in
        let rest = all_turns k (after p) one.within in
        record { edges = one.edges ++ rest.edges; goes = path_join a p (after p) (stem_rounds k (after p)) v (copies k v) one.edges rest.edges one.goes rest.goes; within = rest.within }

    some_run : (u : List NameSet) → HasRun a u v
    some_run u =
        let start : ℕ = get_or a.starts 0 0 in
        let is_start : Contains a.starts start = (0, complete.start, get_or_default a.starts 0 start 0 complete.start) in
        let stem = from start u (All-contains (λ p. p < a.states) a.starts start formed.starts is_start) in
        let states : List ℕ = map (λ k. stem_rounds k stem.state) (range_with_len 0 (a.states + 1)) in
        let long : length states ≡ a.states + 1 = length-map-range_with_len (λ k. stem_rounds k stem.state) 0 (a.states + 1) in
        let at : (k : ℕ) → k < a.states + 1 → get_or states k 0 ≡ stem_rounds k stem.state = λ k less. get_or-map-range_with_len (λ k. stem_rounds k stem.state) 0 (a.states + 1) k k 0 less
        (omega arith) in
        let twice = two_same a.states states (λ k d within.
        let here = at k (omega (arith, within, long)) in
        let same = get_or_default states k d 0 within in
        let low = (all_turns k stem.state stem.within).within in
        omega (arith, here, same, low)) (omega (arith, long)) in
        let one = all_turns twice.early stem.state stem.within in
        let more : ℕ = twice.late - twice.early in
        let two = all_turns more (stem_rounds twice.early stem.state) one.within in
        let whole : twice.early + more ≡ twice.late = omega (arith, twice.order) in
        let back : stem_rounds more (stem_rounds twice.early stem.state) ≡ stem_rounds twice.early stem.state =
        sym (turns_add twice.early more stem.state)
        ∙ (ap (λ n. stem_rounds n stem.state) whole ∙ (sym (at twice.late (omega (arith, twice.within, long))) ∙ (sym twice.same ∙ at twice.early (omega (arith, twice.within, twice.order, long))))) in
        record {
          stem_rounds = twice.early;
          cycle_rounds = more;
          positive = omega (arith, twice.order);
          run = record {
            start = start;
            state = stem_rounds twice.early stem.state;
            path_edges = stem.edges ++ one.edges;
            cycle = two.edges;
            is_start = is_start;
            leads = path_join a start stem.state (stem_rounds twice.early stem.state) u (copies twice.early v) stem.edges one.edges stem.goes one.goes;
            returns = subst (λ q. IsPath a (stem_rounds twice.early stem.state) (copies more v) two.edges q) back two.goes;
          };
        }

  -- a run over each word
  pub complete_runs : HasRuns a
  complete_runs u v endless = some_run v u
