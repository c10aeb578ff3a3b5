-- The lists of the new tree are those of the surviving names.
use Rattle.aut_base.specs.declared.limit.TheConstants.{MOST_NODES}
use Rattle.safra_trees.specs.Trees.{root_states}
use Rattle.std.proofs.Common.{◌≡◌, ◌∙◌, ◌+◌, ◌<◌, ◌≤◌, ◌&&◌, ◌-◌, ℕ, zero, suc, Bool, List, [], ◌∷◌, ◌++◌, Some, ap, arith, inl, inr, length, map, nat_lt, not, refl, subst, sym, All}
use Rattle.std.proofs.lemmas.Bool.{cases_Bool, cases_eq, cases_lt, ltb-true}
use Rattle.std.proofs.lemmas.List.{length-map}
use Rattle.std.proofs.lemmas.List.FromFn.{length-range_with_len}
use Rattle.std.specs.List.{range_with_len}
use Rattle.aut_base.proofs.lists.Members.{from_filter, from_range, map_alike}
use Rattle.safra_trees.proofs.flat_step.Gathered.{gathered, gathered_stored, new_parents, new_places, new_states}
use Rattle.safra_trees.proofs.flat_step.Grown.{grown_by, grown_forest_of, grown_same}
use Rattle.safra_trees.proofs.flat_step.Owners.{IsPassed, green_flag}
use Rattle.safra_trees.proofs.flat_step.Placed.{nodes_length, range_at, stored_root}
use Rattle.safra_trees.proofs.list_step.Pruned.{pruned_length}
use Rattle.safra_trees.proofs.list_step.Ranks.{index_map, names_below, names_kept, names_left}
use Rattle.safra_trees.specs.Events.{least}
use Rattle.safra_trees.specs.Flat.{IsStored, at, nodes_of}
use Rattle.safra_trees.specs.Step.{Forest, covered, greens, grown, pruned, reds, survives}
use Rattle.safra_trees.specs.inner.Names.{names_where, rank}
use Rattle.safra_trees.specs.declared.moves.Move.{Move}
use Rattle.safra_trees.specs.inner.Claims.{grown_parent}
use Rattle.safra_trees.specs.inner.Free.{owner_below}
use Rattle.safra_trees.specs.inner.Passes.{ArePasses, flag}

pub names_alike : (p q : ℕ → Bool) (k : ℕ) → ((x : ℕ) → x < k → p x ≡ q x) → names_where p k ≡ names_where q k
names_alike p q zero same = refl
names_alike p q (suc k) same =
    let rest = names_alike p q k (λ x less. same x (omega (arith, less))) in
    elim (cases_Bool (p k)) [
      | inl is ↦ names_kept p k is ∙ (ap (λ xs. xs ++ k ∷ []) rest ∙ sym (names_kept q k (sym (same k (omega arith)) ∙ is)))
      | inr isnt ↦ names_left p k isnt ∙ (rest ∙ sym (names_left q k (sym (same k (omega arith)) ∙ isnt)))
    ]

rank_alike : (p q : ℕ → Bool) (k : ℕ) → ((x : ℕ) → x < k → p x ≡ q x) → rank p k ≡ rank q k
rank_alike p q k same = ap length (names_alike p q k same)

mapped_at : (g : ℕ → ℕ) (n i : ℕ) → i < n → at (map g (range_with_len 0 n)) i ≡ g i
mapped_at g n i less = let e : 0 + i ≡ i = omega arith in index_map g (range_with_len 0 n) i i 0 (range_at 0 n i less ∙ ap Some e)

pub record IsFinish (n : ℕ) (ms : List Move) (parents states places claims : List ℕ) (own : List Bool) (owners : List ℕ) (stay : List Bool) (count : ℕ)
    (ranks new_p new_s new_o : List ℕ) : Type 0 where
  pub passes : ArePasses (grown n ms (nodes_of parents states places)) claims own owners stay
  pub counts : count ≡ rank (flag stay) (length stay)
  pub ranked : ranks ≡ map (rank (flag stay)) (range_with_len 0 (length stay))
  pub parents_are : new_p ≡ map (λ y. at ranks (grown_parent parents y)) (names_where (flag stay) (length stay))
  pub states_are : new_s ≡ names_where (λ s. nat_lt (at claims s) (length owners)) (length claims)
  pub places_are : new_o ≡ map (λ s. at ranks (at owners (at claims s))) (names_where (λ s. nat_lt (at claims s) (length owners)) (length claims))

passed_of : (n : ℕ) (ms : List Move) (parents states places claims : List ℕ) (own : List Bool) (owners : List ℕ) (stay : List Bool) → IsStored parents states places → ArePasses
    (grown n ms (nodes_of parents states places)) claims own owners stay → IsPassed (grown n ms (nodes_of parents states places)) claims own owners
passed_of n ms parents states places claims own owners stay is passes = record {
  forest = grown_forest_of n ms parents states places is;
  claimed = passes.claimed;
  own_claims = passes.own_claims;
  size = passes.size;
  low = passes.low;
  are_homes = passes.are_homes;
}

-- the lists of the passes, in terms of the forest
stay_names : (f : Forest) (claims : List ℕ) (own : List Bool) (owners : List ℕ) (stay : List Bool) → ArePasses f claims own owners stay
    → names_where (flag stay) (length stay) ≡ names_where (survives f) f.size
stay_names f claims own owners stay passes = ap (names_where (flag stay)) passes.stay_size ∙ names_alike (flag stay) (survives f) f.size passes.stays

stay_rank : (f : Forest) (claims : List ℕ) (own : List Bool) (owners : List ℕ) (stay : List Bool) → ArePasses f claims own owners stay → (ranks : List ℕ) → ranks ≡ map (rank (flag stay))
    (range_with_len 0 (length stay)) → (y : ℕ) → y < f.size → at ranks y ≡ rank (survives f) y
stay_rank f claims own owners stay passes ranks ranked y less =
    ap (λ xs. at xs y) ranked ∙ (mapped_at (rank (flag stay)) (length stay) y (omega (arith, less, passes.stay_size))
    ∙ rank_alike (flag stay) (survives f) y (λ x low. passes.stays x (omega (arith, low, less))))

claim_at : (f : Forest) (claims : List ℕ) (own : List Bool) (owners : List ℕ) (stay : List Bool) → ArePasses f claims own owners stay → (s : ℕ) → s < f.bound → at claims s ≡ owner_below f f.size s
claim_at f claims own owners stay passes s less = ap (λ xs. at xs s) passes.claimed ∙ mapped_at (owner_below f f.size) f.bound s less

pub claims_length : (f : Forest) (claims : List ℕ) (own : List Bool) (owners : List ℕ) (stay : List Bool) → ArePasses f claims own owners stay → length claims ≡ f.bound
claims_length f claims own owners stay passes = ap length passes.claimed ∙ (length-map (range_with_len 0 f.bound) (owner_below f f.size) ∙ length-range_with_len 0 f.bound)

claim_states : (f : Forest) (claims : List ℕ) (own : List Bool) (owners : List ℕ) (stay : List Bool) → ArePasses f claims own owners stay → names_where (λ s. nat_lt (at claims s) (length owners))
    (length claims) ≡ new_states f
claim_states f claims own owners stay passes =
    ap (names_where (λ s. nat_lt (at claims s) (length owners))) (claims_length f claims own owners stay passes)
    ∙ names_alike (λ s. nat_lt (at claims s) (length owners)) (λ s. nat_lt (owner_below f f.size s) f.size) f.bound
    (λ s less. ap (λ x. nat_lt x (length owners)) (claim_at f claims own owners stay passes s less) ∙ ap (nat_lt (owner_below f f.size s)) passes.size)

root_parent : (n : ℕ) (ms : List Move) (parents states places : List ℕ) → IsStored parents states places → (grown n ms (nodes_of parents states places)).parent 0 ≡ 0
root_parent n ms parents states places is = elim (cases_lt 0 (length parents)) [
  | inl some ↦ (grown_same n ms parents states places).old 0 some ∙ is.root
  | inr none ↦ (let e : 0 - length parents ≡ 0 = omega arith in (grown_same n ms parents states places).fresh 0 none ∙ e)
]

pub finished_parents : (n : ℕ) (ms : List Move) (parents states places claims : List ℕ) (own : List Bool) (owners : List ℕ) (stay : List Bool) (count : ℕ) (ranks new_p new_s new_o : List ℕ)
    → IsStored parents states places
    → IsFinish n ms parents states places claims own owners stay count ranks new_p new_s new_o → new_p ≡ new_parents (grown n ms (nodes_of parents states places))
finished_parents n ms parents states places claims own owners stay count ranks new_p new_s new_o is finish =
    let f = grown n ms (nodes_of parents states places) in
    let many : f.size ≡ length parents + length parents = omega (arith, nodes_length parents states places) in
    let forest = grown_forest_of n ms parents states places is in
    finish.parents_are
    ∙ (ap (map (λ y. at ranks (grown_parent parents y))) (stay_names f claims own owners stay finish.passes)
    ∙ map_alike (λ y. at ranks (grown_parent parents y)) (λ y. rank (survives f) (f.parent y)) (names_where (survives f) f.size) (λ y there. (
    let parts = from_filter (survives f) (range_with_len 0 f.size) y there in
    let less : y < f.size = omega (arith, (from_range 0 f.size y parts.0).1) in
    let same : grown_parent parents y ≡ f.parent y = elim (cases_lt y (length parents)) [
      | inl old ↦ (grown_by parents).old y old ∙ sym ((grown_same n ms parents states places).old y old)
      | inr fresh ↦ (grown_by parents).fresh y fresh ∙ sym ((grown_same n ms parents states places).fresh y fresh)
    ] in
    let low : f.parent y < f.size = elim (cases_eq y 0) [
      | inl root ↦ (let e : f.parent y ≡ f.parent 0 = ap f.parent root in omega (arith, e, root_parent n ms parents states places is, less))
      | inr more ↦ omega (arith, forest.lower y (omega (arith, more)) less, less)
    ] in
    ap (at ranks) same ∙ stay_rank f claims own owners stay finish.passes ranks finish.ranked (f.parent y) low)))

pub finished_states : (n : ℕ) (ms : List Move) (parents states places claims : List ℕ) (own : List Bool) (owners : List ℕ) (stay : List Bool) (count : ℕ) (ranks new_p new_s new_o : List ℕ)
    → IsFinish n ms parents states places claims own owners stay count ranks new_p new_s new_o → new_s ≡ new_states (grown n ms (nodes_of parents states places))
finished_states n ms parents states places claims own owners stay count ranks new_p new_s new_o finish = finish.states_are ∙ claim_states
    (grown n ms (nodes_of parents states places)) claims own owners stay finish.passes

pub finished_places : (n : ℕ) (ms : List Move) (parents states places claims : List ℕ) (own : List Bool) (owners : List ℕ) (stay : List Bool) (count : ℕ) (ranks new_p new_s new_o : List ℕ)
    → IsFinish n ms parents states places claims own owners stay count ranks new_p new_s new_o → new_o ≡ new_places (grown n ms (nodes_of parents states places)) owners
finished_places n ms parents states places claims own owners stay count ranks new_p new_s new_o finish =
    let f = grown n ms (nodes_of parents states places) in
    finish.places_are
    ∙ (ap (map (λ s. at ranks (at owners (at claims s)))) (claim_states f claims own owners stay finish.passes)
    ∙ map_alike (λ s. at ranks (at owners (at claims s))) (λ s. rank (survives f) (at owners (owner_below f f.size s))) (new_states f) (λ s there. (
    let parts = from_filter (λ v. nat_lt (owner_below f f.size v) f.size) (range_with_len 0 f.bound) s there in
    let small : s < f.bound = omega (arith, (from_range 0 f.bound s parts.0).1) in
    let low : owner_below f f.size s < f.size = ltb-true (owner_below f f.size s) f.size parts.1 in
    ap (λ x. at ranks (at owners x)) (claim_at f claims own owners stay finish.passes s small)
    ∙ stay_rank f claims own owners stay finish.passes ranks finish.ranked (at owners (owner_below f f.size s)) (omega (arith, finish.passes.low (owner_below f f.size s) low, low)))))

pub finished_count : (n : ℕ) (ms : List Move) (parents states places claims : List ℕ) (own : List Bool) (owners : List ℕ) (stay : List Bool) (count : ℕ) → ArePasses
    (grown n ms (nodes_of parents states places)) claims own owners stay
    → count ≡ rank (flag stay) (length stay) → count ≡ length (pruned (grown n ms (nodes_of parents states places)))
finished_count n ms parents states places claims own owners stay count passes counts =
    let f = grown n ms (nodes_of parents states places) in
    counts ∙ (ap length (stay_names f claims own owners stay passes) ∙ sym (pruned_length f))

pub finished_tree : (n : ℕ) (ms : List Move) (parents states places claims : List ℕ) (own : List Bool) (owners : List ℕ) (stay : List Bool) (count : ℕ) (ranks new_p new_s new_o : List ℕ)
    → IsStored parents states places
    → IsFinish n ms parents states places claims own owners stay count ranks new_p new_s new_o → nodes_of new_p new_s new_o ≡ pruned (grown n ms (nodes_of parents states places))
finished_tree n ms parents states places claims own owners stay count ranks new_p new_s new_o is finish =
    let f = grown n ms (nodes_of parents states places) in
    ap (λ xs. nodes_of xs new_s new_o) (finished_parents n ms parents states places claims own owners stay count ranks new_p new_s new_o is finish)
    ∙ (ap (λ xs. nodes_of (new_parents f) xs new_o) (finished_states n ms parents states places claims own owners stay count ranks new_p new_s new_o finish)
    ∙ (ap (nodes_of (new_parents f) (new_states f)) (finished_places n ms parents states places claims own owners stay count ranks new_p new_s new_o finish)
    ∙ gathered f claims own owners (passed_of n ms parents states places claims own owners stay is finish.passes)))

pub finished_stored : (n : ℕ) (ms : List Move) (parents states places claims : List ℕ) (own : List Bool) (owners : List ℕ) (stay : List Bool) (count : ℕ) (ranks new_p new_s new_o : List ℕ)
    → IsStored parents states places
    → IsFinish n ms parents states places claims own owners stay count ranks new_p new_s new_o → count ≤ MOST_NODES → IsStored new_p new_s new_o
finished_stored n ms parents states places claims own owners stay count ranks new_p new_s new_o is finish few =
    let f = grown n ms (nodes_of parents states places) in
    let e = finished_count n ms parents states places claims own owners stay count finish.passes finish.counts in
    let made = gathered_stored f claims own owners (passed_of n ms parents states places claims own owners stay is finish.passes) (root_parent n ms parents states places is)
    (omega (arith, few, e, pruned_length f)) in
    let one = subst (λ xs. IsStored xs (new_states f) (new_places f owners)) (sym (finished_parents n ms parents states places claims own owners stay count ranks new_p new_s new_o is finish)) made in
    let two = subst (λ xs. IsStored new_p xs (new_places f owners)) (sym (finished_states n ms parents states places claims own owners stay count ranks new_p new_s new_o finish)) one in
    subst (λ xs. IsStored new_p new_s xs) (sym (finished_places n ms parents states places claims own owners stay count ranks new_p new_s new_o finish)) two

pub finished_red : (n : ℕ) (ms : List Move) (parents states places claims : List ℕ) (own : List Bool) (owners : List ℕ) (stay : List Bool) (m : ℕ) → ArePasses
    (grown n ms (nodes_of parents states places)) claims own owners stay
    → m ≡ length (nodes_of parents states places)
    → least (names_where (λ y. not (flag stay y)) m) ≡ least (reds (grown n ms (nodes_of parents states places)) (length (nodes_of parents states places)))
finished_red n ms parents states places claims own owners stay m passes size =
    let t = nodes_of parents states places in
    let f = grown n ms t in
    ap (λ k. least (names_where (λ y. not (flag stay y)) k)) size
    ∙ ap least (names_alike (λ y. not (flag stay y)) (λ y. not (survives f y)) (length t) (λ y less. ap not (passes.stays y (omega (arith, less)))))

pub finished_green : (n : ℕ) (ms : List Move) (parents states places claims : List ℕ) (own : List Bool) (owners : List ℕ) (stay : List Bool) → IsStored parents states places → ArePasses
    (grown n ms (nodes_of parents states places)) claims own owners stay
    → least (names_where (λ y. flag stay y && not (flag own y)) (length own)) ≡ least (greens (grown n ms (nodes_of parents states places)))
finished_green n ms parents states places claims own owners stay is passes =
    let f = grown n ms (nodes_of parents states places) in
    let passed = passed_of n ms parents states places claims own owners stay is passes in
    ap (λ k. least (names_where (λ y. flag stay y && not (flag own y)) k)) passes.own_size
    ∙ ap least (names_alike (λ y. flag stay y && not (flag own y)) (λ y. survives f y && covered f y) f.size
    (λ y less. ap (λ b. b && not (flag own y)) (passes.stays y less) ∙ ap (λ b. survives f y && b) (green_flag f claims own owners passed y less)))

pub stay_sized : (n : ℕ) (ms : List Move) (parents states places claims : List ℕ) (own : List Bool) (owners : List ℕ) (stay : List Bool) → ArePasses
    (grown n ms (nodes_of parents states places)) claims own owners stay → length stay ≡ length parents + length parents
stay_sized n ms parents states places claims own owners stay passes = let e = passes.stay_size in omega (arith, e, nodes_length parents states places)

pub own_sized : (n : ℕ) (ms : List Move) (parents states places claims : List ℕ) (own : List Bool) (owners : List ℕ) (stay : List Bool) → ArePasses
    (grown n ms (nodes_of parents states places)) claims own owners stay → length own ≡ length parents + length parents
own_sized n ms parents states places claims own owners stay passes = let e = passes.own_size in omega (arith, e, nodes_length parents states places)

pub homes_sized : (n : ℕ) (ms : List Move) (parents states places claims : List ℕ) (own : List Bool) (owners : List ℕ) (stay : List Bool) → ArePasses
    (grown n ms (nodes_of parents states places)) claims own owners stay → length owners ≡ length parents + length parents
homes_sized n ms parents states places claims own owners stay passes = let e = passes.size in omega (arith, e, nodes_length parents states places)

-- the results of the calls, and the slices that they were called with
pub record IsWritten (parents claims owners : List ℕ) (stay : List Bool) (count : ℕ) (ranks new_p new_s new_o : List ℕ) (stay_1 stay_2 : List Bool)
    (ranks_1 parents_1 claims_1 homes_1 ranks_2 : List ℕ) : Type 0 where
  pub stay_one : stay_1 ≡ stay
  pub stay_two : stay_2 ≡ stay
  pub ranks_one : ranks_1 ≡ ranks
  pub ranks_two : ranks_2 ≡ ranks
  pub parents_one : parents_1 ≡ parents
  pub claims_one : claims_1 ≡ claims
  pub homes_one : homes_1 ≡ owners
  pub counts : count ≡ rank (flag stay_1) (length stay_1)
  pub ranked : ranks ≡ map (rank (flag stay_1)) (range_with_len 0 (length stay_1))
  pub parents_are : new_p ≡ map (λ y. at ranks_1 (grown_parent parents_1 y)) (names_where (flag stay_2) (length stay_2))
  pub states_are : new_s ≡ names_where (λ s. nat_lt (at claims_1 s) (length homes_1)) (length claims_1)
  pub places_are : new_o ≡ map (λ s. at ranks_2 (at homes_1 (at claims_1 s))) (names_where (λ s. nat_lt (at claims_1 s) (length homes_1)) (length claims_1))

pub finish_of : (n : ℕ) (ms : List Move) (parents states places claims : List ℕ) (own : List Bool) (owners : List ℕ) (stay : List Bool) (count : ℕ) (ranks new_p new_s new_o : List ℕ)
    (stay_1 stay_2 : List Bool) (ranks_1 parents_1 claims_1 homes_1 ranks_2 : List ℕ)
    → ArePasses (grown n ms (nodes_of parents states places)) claims own owners stay
    → IsWritten parents claims owners stay count ranks new_p new_s new_o stay_1 stay_2 ranks_1 parents_1 claims_1 homes_1 ranks_2
    → IsFinish n ms parents states places claims own owners stay count ranks new_p new_s new_o
finish_of n ms parents states places claims own owners stay count ranks new_p new_s new_o stay_1 stay_2 ranks_1 parents_1 claims_1 homes_1 ranks_2 passes is = record {
  passes = passes;
  counts = is.counts ∙ ap (λ xs. rank (flag xs) (length xs)) is.stay_one;
  ranked = is.ranked ∙ ap (λ xs. map (rank (flag xs)) (range_with_len 0 (length xs))) is.stay_one;
  parents_are = is.parents_are
      ∙ (ap (λ xs. map (λ y. at xs (grown_parent parents_1 y)) (names_where (flag stay_2) (length stay_2))) is.ranks_one
      ∙ (ap (λ xs. map (λ y. at ranks (grown_parent xs y)) (names_where (flag stay_2) (length stay_2))) is.parents_one
      ∙ ap (λ xs. map (λ y. at ranks (grown_parent parents y)) (names_where (flag xs) (length xs))) is.stay_two));
  states_are = is.states_are
      ∙ (ap (λ xs. names_where (λ s. nat_lt (at xs s) (length homes_1)) (length xs)) is.claims_one
      ∙ ap (λ (xs : List ℕ). names_where (λ s. nat_lt (at claims s) (length xs)) (length claims)) is.homes_one);
  places_are = is.places_are
      ∙ (ap (λ xs. map (λ s. at xs (at homes_1 (at claims_1 s))) (names_where (λ s. nat_lt (at claims_1 s) (length homes_1)) (length claims_1))) is.ranks_two
      ∙ (ap (λ xs. map (λ s. at ranks (at homes_1 (at xs s))) (names_where (λ s. nat_lt (at xs s) (length homes_1)) (length xs))) is.claims_one
      ∙ ap (λ xs. map (λ s. at ranks (at xs (at claims s))) (names_where (λ s. nat_lt (at claims s) (length xs)) (length claims))) is.homes_one));
}

-- the states of the new tree are states of the automaton
pub finished_below : (n : ℕ) (ms : List Move) (parents states places claims : List ℕ) (own : List Bool) (owners : List ℕ) (stay : List Bool) (count : ℕ) (ranks new_p new_s new_o : List ℕ)
    → IsStored parents states places → IsFinish n ms parents states places claims own owners stay count ranks new_p new_s new_o → count ≤ MOST_NODES → All (λ s. s < n)
    (root_states (nodes_of new_p new_s new_o))
finished_below n ms parents states places claims own owners stay count ranks new_p new_s new_o is finish few =
    let f = grown n ms (nodes_of parents states places) in
    let stored = finished_stored n ms parents states places claims own owners stay count ranks new_p new_s new_o is finish few in
    let are : new_s ≡ new_states f = finished_states n ms parents states places claims own owners stay count ranks new_p new_s new_o finish in
    subst (λ xs. All (λ s. s < n) xs) (sym (stored_root new_p new_s new_o stored ∙ are)) (names_below (λ s. nat_lt (owner_below f f.size s) f.size) n)
