-- Grouping edges by the numbers of their components: each closed path is within one group.
use Rattle.std.proofs.Common.{if◌then◌else◌, ◌≡◌, ◌≢◌, ◌∙◌, ℕ, ◌+◌, ◌<◌, Bool, true, false, List, [], ◌∷◌, ◌++◌, length, get_or, map, nat_eq, take, inl, inr, refl, ap, arith, subst, sym}
use Rattle.std.specs.List.{All, Contains, filter}
use Rattle.std.proofs.lemmas.Bool.{and_from, and_parts, cases_lt, eq-eqb, eqb-true}
use Rattle.std.proofs.lemmas.List.{append-nil, get_or_default, get_or_past}
use Rattle.std.proofs.lemmas.List.Elements.{All-contains, filter-append}
use Rattle.aut_base.proofs.lists.Lists.{take-push}
use Rattle.aut_base.proofs.lists.Members.{from_filter, from_map, none_there, there_filter, there_map}
use Rattle.graph_walk.specs.Components.{AreComponents}
use Rattle.graph_walk.specs.Walk.{IsWalk, Reaches}
use Rattle.graph_walk.proofs.WalkLemmas.{reach_then}
use Rattle.lasso_emptiness.specs.declared.live.EdgeRef.{EdgeRef}
use Rattle.lasso_emptiness.specs.inner.Edges.{arc_of}
use Rattle.lasso_emptiness.specs.inner.Groups.{AreGroups, IsGroup, IsStronglyConnected, is_inside}
use Rattle.lasso_emptiness.specs.inner.Tours.{listed_edge}
use Rattle.lasso_emptiness.specs.inner.Trails.{IsTrail}
use Rattle.lasso_emptiness.proofs.trails.Trails.{trail_reaches}

inside_parts : (numbers : List ℕ) (k : ℕ) (e : EdgeRef) → is_inside numbers k e ≡ true → (get_or numbers e.from 0 ≡ k) × (get_or numbers e.to 0 ≡ k)
inside_parts numbers k e is =
    let both = and_parts (nat_eq (get_or numbers e.from 0) k) (nat_eq (get_or numbers e.to 0) k) is in
    (eqb-true (get_or numbers e.from 0) k both.0, eqb-true (get_or numbers e.to 0) k both.1)

inside_from : (numbers : List ℕ) (k : ℕ) (e : EdgeRef) → get_or numbers e.from 0 ≡ k → get_or numbers e.to 0 ≡ k → is_inside numbers k e ≡ true
inside_from numbers k e from to = and_from (nat_eq (get_or numbers e.from 0) k) (nat_eq (get_or numbers e.to 0) k) (eq-eqb (get_or numbers e.from 0) k from) (eq-eqb (get_or numbers e.to 0) k to)

-- an edge from one component to another is in no group
outside : (numbers : List ℕ) (k : ℕ) (e : EdgeRef) → get_or numbers e.from 0 ≢ get_or numbers e.to 0 → is_inside numbers k e ≡ false
outside numbers k e differ = go (is_inside numbers k e) refl
  where
    go : (b : Bool) → is_inside numbers k e ≡ b → is_inside numbers k e ≡ false
    go false is = is
    go true is = let both = inside_parts numbers k e is in absurd (differ (both.0 ∙ sym both.1))

only_there : (numbers : List ℕ) (number k : ℕ) (e : EdgeRef) → get_or numbers e.from 0 ≡ number → get_or numbers e.to 0 ≡ number → is_inside numbers k e ≡ nat_eq k number
only_there numbers number k e from to = go (nat_eq k number) refl
  where
    go : (b : Bool) → nat_eq k number ≡ b → is_inside numbers k e ≡ nat_eq k number
    go true is = let same = eqb-true k number is in inside_from numbers k e (from ∙ sym same) (to ∙ sym same) ∙ sym is
    go false is = go_inside (is_inside numbers k e) refl
      where
        go_inside : (b : Bool) → is_inside numbers k e ≡ b → is_inside numbers k e ≡ nat_eq k number
        go_inside false out = out ∙ sym is
        go_inside true there = let both = inside_parts numbers k e there in there ∙ sym (eq-eqb k number (sym both.0 ∙ from))

module _ (numbers : List ℕ) (edges : List EdgeRef) (i : ℕ) (within : i < length edges) where
  abbrev e : EdgeRef
  e = listed_edge edges i

  is : e ≡ get_or edges i e
  is = get_or_default edges i _ e within

  pub groups_skip : (groups : List (List EdgeRef)) → get_or numbers e.from 0 ≢ get_or numbers e.to 0 → ((k : ℕ) → get_or groups k [] ≡ filter (is_inside numbers k) (take i edges)) → (k : ℕ)
      → get_or groups k [] ≡ filter (is_inside numbers k) (take (i + 1) edges)
  groups_skip groups differ so_far k =
      so_far k ∙ sym (append-nil (filter (is_inside numbers k) (take i edges)))
      ∙ ap (λ b. filter (is_inside numbers k) (take i edges) ++ (if b then e ∷ [] else [])) (sym (outside numbers k e differ))
      ∙ sym (filter-append (is_inside numbers k) (take i edges) (e ∷ []))
      ∙ ap (filter (is_inside numbers k)) (sym (take-push edges i e within is))

  pub groups_more : (old new : List (List EdgeRef)) (number : ℕ) → get_or numbers e.from 0 ≡ number → get_or numbers e.to 0 ≡ number
      → ((k : ℕ) → get_or old k [] ≡ filter (is_inside numbers k) (take i edges)) → ((k : ℕ) → get_or new k [] ≡ (if nat_eq k number then get_or old k [] ++ e ∷ [] else get_or old k []))
      → (k : ℕ) → get_or new k [] ≡ filter (is_inside numbers k) (take (i + 1) edges)
  groups_more old new number from to so_far made k =
      made k
      ∙ cases (nat_eq k number) (get_or old k [])
      ∙ ap (λ b. get_or old k [] ++ (if b then e ∷ [] else [])) (sym (only_there numbers number k e from to))
      ∙ ap (λ es. es ++ (if is_inside numbers k e then e ∷ [] else [])) (so_far k)
      ∙ sym (filter-append (is_inside numbers k) (take i edges) (e ∷ []))
      ∙ ap (filter (is_inside numbers k)) (sym (take-push edges i e within is))
    where
      cases : (b : Bool) (es : List EdgeRef) → (if b then es ++ e ∷ [] else es) ≡ es ++ (if b then e ∷ [] else [])
      cases true es = refl
      cases false es = sym (append-nil es)

-- the groups of all edges
module _ (states : ℕ) (numbers : List ℕ) (edges : List EdgeRef) (groups : List (List EdgeRef)) (ends : All (λ (e : EdgeRef). (e.from < states) × (e.to < states)) edges)
    (are : AreComponents states (map arc_of edges) numbers) (made : (k : ℕ) → get_or groups k [] ≡ filter (is_inside numbers k) edges) where
  abbrev arcs : List (ℕ × ℕ)
  arcs = map arc_of edges

  ends_of : (e : EdgeRef) → Contains edges e → (e.from < states) × (e.to < states)
  ends_of e here = All-contains (λ (d : EdgeRef). (d.from < states) × (d.to < states)) edges e ends here

  group_at : (group : List EdgeRef) (h : Contains groups group) → group ≡ filter (is_inside numbers h.0) edges
  group_at group h = sym h.2 ∙ sym (get_or_default groups h.0 [] group h.1) ∙ made h.0

  -- a walk whose end reaches its start stays in its component
  stays : (k p q : ℕ) (walk : List (ℕ × ℕ)) → p < states → get_or numbers p 0 ≡ k → IsWalk arcs p walk q → Reaches arcs q p → IsWalk (map arc_of (filter (is_inside numbers k) edges)) p walk q
  stays k p q [] at number leads back = leads
  stays k p q (a ∷ walk) at number leads back =
      let found = from_map arc_of edges a leads.0 in
      let edge = found.0 in
      let both = ends_of edge found.1 in
      let tail : edge.from ≡ p = ap (λ (x : ℕ × ℕ). x.0) found.2 ∙ leads.1 in
      let head : edge.to ≡ a.1 = ap (λ (x : ℕ × ℕ). x.1) found.2 in
      let next : a.1 < states = subst (λ x. x < states) head both.1 in
      let on : Reaches arcs a.1 q = record { walk = walk; leads = leads.2 } in
      let home : Reaches arcs a.1 p = reach_then arcs a.1 q p on back in
      let out : Reaches arcs p a.1 = record { walk = a ∷ []; leads = (leads.0, leads.1, refl) } in
      let same : get_or numbers p 0 ≡ get_or numbers a.1 0 = (are.same p a.1 at next).1 (out, home) in
      let there : get_or numbers a.1 0 ≡ k = sym same ∙ number in
      let inside : is_inside numbers k edge ≡ true = inside_from numbers k edge (ap (λ x. get_or numbers x 0) tail ∙ number) (ap (λ x. get_or numbers x 0) head ∙ there) in (
        subst (Contains (map arc_of (filter (is_inside numbers k) edges))) found.2
            (there_map arc_of (filter (is_inside numbers k) edges) edge (there_filter (is_inside numbers k) edges edge found.1 inside)),
        leads.1,
        stays k a.1 q walk next there leads.2 (reach_then arcs q p a.1 back out),
      )

  joined_at : (k : ℕ) → IsStronglyConnected (filter (is_inside numbers k) edges)
  joined_at k d e here there =
      let first = from_filter (is_inside numbers k) edges d here in
      let second = from_filter (is_inside numbers k) edges e there in
      let from = inside_parts numbers k d first.1 in
      let to = inside_parts numbers k e second.1 in
      let ends_d = ends_of d first.0 in
      let ends_e = ends_of e second.0 in
      let both = (are.same d.to e.from ends_d.1 ends_e.0).0 (from.1 ∙ sym to.0) in
      record { walk = both.0.walk; leads = stays k d.to e.from both.0.walk ends_d.1 from.1 both.0.leads both.1 }

  -- the edges of a closed path are in one component
  one_component : (k p q : ℕ) (es : List EdgeRef) → p < states → get_or numbers p 0 ≡ k → IsTrail (Contains edges) p es q → Reaches arcs q p
      → IsTrail (Contains (filter (is_inside numbers k) edges)) p es q
  one_component k p q [] at number trail back = trail
  one_component k p q (e ∷ es) at number trail back =
      let both = ends_of e trail.0 in
      let arc : Contains arcs (p, e.to) = subst (λ x. Contains arcs (x, e.to)) trail.1 (there_map arc_of edges e trail.0) in
      let out : Reaches arcs p e.to = record { walk = (p, e.to) ∷ []; leads = (arc, refl, refl) } in
      let home : Reaches arcs e.to p = reach_then arcs e.to q p (trail_reaches edges e.to q es trail.2) back in
      let same : get_or numbers p 0 ≡ get_or numbers e.to 0 = (are.same p e.to at both.1).1 (out, home) in
      let there : get_or numbers e.to 0 ≡ k = sym same ∙ number in
      let inside : is_inside numbers k e ≡ true = inside_from numbers k e (ap (λ x. get_or numbers x 0) trail.1 ∙ number) there in
      (there_filter (is_inside numbers k) edges e trail.0 inside, trail.1, one_component k e.to q es both.1 there trail.2 (reach_then arcs q p e.to back out))

  whole : (state : ℕ) (cycle : List EdgeRef) → 0 < length cycle → IsTrail (Contains edges) state cycle state
      → (group : List EdgeRef) × Contains groups group × IsTrail (Contains group) state cycle state
  whole state [] some closed = absurd (omega arith)
  whole state (e ∷ es) some closed =
      let at : state < states = subst (λ x. x < states) closed.1 (ends_of e closed.0).0 in
      let k = get_or numbers state 0 in
      let trail = one_component k state state (e ∷ es) at refl closed (record { walk = []; leads = refl }) in
      let within : k < length groups = listed k (subst (λ es. Contains es e) (sym (made k)) trail.0) in
      (get_or groups k [], (k, within, get_or_default groups k (get_or groups k []) [] within), subst (λ g. IsTrail (Contains g) state (e ∷ es) state) (sym (made k)) trail)
    where
      listed : (k : ℕ) → Contains (get_or groups k []) e → k < length groups
      listed k here = elim (cases_lt k (length groups)) [
        | inl within ↦ within
        | inr past ↦ absurd (none_there e (subst (λ es. Contains es e) (get_or_past groups k [] past) here))
      ]

  pub are_groups : AreGroups edges groups
  are_groups = record {
    each = λ group h. subst (IsGroup edges) (sym (group_at group h)) (record {
      inside = λ e here. (from_filter (is_inside numbers h.0) edges e here).0;
      joined = joined_at h.0;
    });
    whole = whole;
  }

pub components_of : (nodes states : ℕ) (arcs others : List (ℕ × ℕ)) (numbers slice : List ℕ) → nodes ≡ states → arcs ≡ others → slice ≡ numbers → AreComponents nodes arcs numbers
    → AreComponents states others slice
components_of nodes states arcs others numbers slice nodes_are arcs_are same are =
    subst (λ n. AreComponents n others slice) nodes_are (subst (λ a. AreComponents nodes a slice) arcs_are (subst (λ ns. AreComponents nodes arcs ns) (sym same) are))
