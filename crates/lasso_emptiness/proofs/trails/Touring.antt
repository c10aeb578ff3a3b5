-- Closed paths through given edges, made of shortest paths between them.
use Rattle.std.proofs.Common.{◌≡◌, ◌∙◌, ℕ, ◌+◌, ◌<◌, ◌≤◌, List, [], ◌∷◌, ◌++◌, length, map, take, ap, arith, refl, subst, sym}
use Rattle.std.specs.List.{All, Contains}
use Rattle.std.proofs.lemmas.List.{get_or-map, get_or_default, length-map, take_all}
use Rattle.std.proofs.lemmas.List.Elements.{All-get_or, All-head, All-push, All-tail, All-weaker, Contains-append_left, Contains-get_or, Contains-push}
use Rattle.aut_base.proofs.lists.Lists.{take-push}
use Rattle.aut_base.proofs.lists.Members.{there_map}
use Rattle.graph_walk.specs.Path.{IsShortest}
use Rattle.graph_walk.specs.Walk.{IsWalk, Reaches, arc_at}
use Rattle.lasso_emptiness.specs.declared.live.EdgeRef.{EdgeRef}
use Rattle.lasso_emptiness.specs.inner.Edges.{arc_of}
use Rattle.lasso_emptiness.specs.inner.Groups.{IsStronglyConnected}
use Rattle.lasso_emptiness.specs.inner.Tours.{ExtendsPath, IsTour, listed_edge}
use Rattle.lasso_emptiness.specs.inner.Trails.{IsTrail}
use Rattle.lasso_emptiness.proofs.trails.Trails.{trail_then}

-- the arc at an index is that of the edge there
arc_there : (edges : List EdgeRef) (place : ℕ) → place < length edges → arc_at (map arc_of edges) place ≡ arc_of (listed_edge edges place)
arc_there edges place within =
    let inside : place < length (map arc_of edges) = omega (arith, within, length-map edges arc_of) in
    get_or_default (map arc_of edges) place (0, 0) (arc_of (listed_edge edges place)) inside ∙ get_or-map arc_of edges place (listed_edge edges place) _ within
    ∙ ap arc_of (sym (get_or_default edges place _ (listed_edge edges place) within))

-- a walk given by indices of arcs is a path
trail_at : (edges : List EdgeRef) (p q : ℕ) (places : List ℕ) → All (λ place. place < length edges) places → IsWalk (map arc_of edges) p (map (arc_at (map arc_of edges)) places) q
    → IsTrail (Contains edges) p (map (listed_edge edges) places) q
trail_at edges p q [] within walk = walk
trail_at edges p q (place ∷ places) within walk =
    let here : place < length edges = All-head (λ k. k < length edges) place places within in
    let same = arc_there edges place here in (
      Contains-get_or edges place _ here,
      sym (ap (λ (a : ℕ × ℕ). a.0) same) ∙ walk.1,
      trail_at edges (listed_edge edges place).to q places (All-tail (λ k. k < length edges) place places within)
          (subst (λ x. IsWalk (map arc_of edges) x (map (arc_at (map arc_of edges)) places) q) (ap (λ (a : ℕ × ℕ). a.1) same) walk.2),
    )

-- a shortest path was added
pub way_added : (edges : List EdgeRef) (arcs : List (ℕ × ℕ)) (found places : List ℕ) (p q : ℕ) (old new : List EdgeRef) → arcs ≡ map arc_of edges → places ≡ found
    → IsShortest arcs p q found → new ≡ old ++ map (listed_edge edges) places → ExtendsPath (Contains edges) p q old new
way_added edges arcs found places p q old new arcs_are same shortest made =
    let inside : All (λ place. place < length edges) places =
    subst (All (λ place. place < length edges)) (sym same)
    (All-weaker (λ place. place < length arcs) (λ place. place < length edges) (λ place below. let long : length arcs ≡ length edges = ap length arcs_are
    ∙ length-map edges arc_of in omega arith) found shortest.placed) in
    let walk = subst (λ ps. IsWalk (map arc_of edges) p (map (arc_at (map arc_of edges)) ps) q) (sym same) (subst (λ arcs. IsWalk arcs p (map (arc_at arcs) found) q) arcs_are shortest.walks) in
    record { path_edges = map (listed_edge edges) places; added = made; leads = trail_at edges p q places inside walk }

-- The path so far: it begins in `first`, the state that the first edge leaves, ends in `at`, and has the edges `done`.
pub record ToursSoFar (edges done cycle : List EdgeRef) (first at : ℕ) : Type 0 where
  pub leads : IsTrail (Contains edges) first cycle at
  pub passes : All (Contains cycle) done
  pub goes_on : (e : EdgeRef) → Contains edges e → Reaches (map arc_of edges) at e.from

pub tours_none : (edges : List EdgeRef) (e : EdgeRef) → IsStronglyConnected edges → Contains edges e → ToursSoFar edges [] [] e.from e.from
tours_none edges e joined here = record {
  leads = refl;
  passes = λ k d within. absurd (omega arith);
  goes_on = λ d there.
      let on = joined e d here there in
      record { walk = arc_of e ∷ on.walk; leads = (there_map arc_of edges e here, refl, on.leads) };
}

module _ (edges needed : List EdgeRef) (joined : IsStronglyConnected edges) (inside : All (Contains edges) needed) (i : ℕ) (within : i < length needed) where
  abbrev next : EdgeRef
  next = listed_edge needed i

  next_inside : Contains edges next
  next_inside = All-get_or (Contains edges) needed i _ within inside

  pub tours_reaches : (cycle : List EdgeRef) (first at : ℕ) → ToursSoFar edges (take i needed) cycle first at → Reaches (map arc_of edges) at next.from
  tours_reaches cycle first at so_far = so_far.goes_on next next_inside

  pub tours_more : (cycle mid new : List EdgeRef) (first at : ℕ) → ToursSoFar edges (take i needed) cycle first at → ExtendsPath (Contains edges) at next.from cycle mid → new ≡ mid ++ next ∷ []
      → ToursSoFar edges (take (i + 1) needed) new first next.to
  tours_more cycle mid new first at so_far on made =
      let whole : new ≡ (cycle ++ on.path_edges) ++ next ∷ [] = made ∙ ap (λ es. es ++ next ∷ []) on.added in
      subst (λ done. ToursSoFar edges done new first next.to) (sym (take-push needed i next within (get_or_default needed i _ next within)))
      (subst (λ es. ToursSoFar edges (take i needed ++ next ∷ []) es first next.to) (sym whole) (record {
        leads = trail_then (Contains edges) first next.from next.to (cycle ++ on.path_edges) (next ∷ []) (trail_then (Contains edges) first at next.from cycle on.path_edges so_far.leads on.leads)
            (next_inside, refl, refl);
        passes = All-push (Contains ((cycle ++ on.path_edges) ++ next ∷ [])) (take i needed) next
            (All-weaker (Contains cycle) (Contains ((cycle ++ on.path_edges) ++ next ∷ []))
            (λ e here. Contains-append_left (cycle ++ on.path_edges) (next ∷ []) e (Contains-append_left cycle on.path_edges e here)) (take i needed) so_far.passes)
            (Contains-push (cycle ++ on.path_edges) next);
        goes_on = λ e here. joined next e next_inside here;
      }))

-- the path is closed
pub tours_all : (edges needed cycle new : List EdgeRef) (i first at : ℕ) → 0 < length needed → length needed ≤ i → ToursSoFar edges (take i needed) cycle first at
    → ExtendsPath (Contains edges) at first cycle new → IsTour edges needed new
tours_all edges needed cycle new i first at some all so_far on =
    subst (IsTour edges needed) (sym on.added) (record {
      some = longer needed passes some;
      state = first;
      closed = trail_then (Contains edges) first at first cycle on.path_edges so_far.leads on.leads;
      passes = passes;
    })
  where
    passes : All (Contains (cycle ++ on.path_edges)) needed
    passes = All-weaker (Contains cycle) (Contains (cycle ++ on.path_edges)) (λ e here. Contains-append_left cycle on.path_edges e here) needed
        (subst (All (Contains cycle)) (take_all i needed all) so_far.passes)

    longer : (es : List EdgeRef) → All (Contains (cycle ++ on.path_edges)) es → 0 < length es → 0 < length (cycle ++ on.path_edges)
    longer [] passed some = absurd (omega arith)
    longer (e ∷ es) passed some = let here = All-head (Contains (cycle ++ on.path_edges)) e es passed in let below = here.1 in omega arith
