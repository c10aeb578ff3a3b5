-- Walks in the reversed graph.
use Rattle.std.proofs.Common.{◌≡◌, ◌∙◌, ◌↔◌, ℕ, ◌<◌, Bool, false, List, [], ◌∷◌, get_or, map, inl, inr, ap, refl, subst, sym}
use Rattle.std.specs.Prelude.{IsTrue}
use Rattle.std.specs.List.{All, Contains}
use Rattle.std.proofs.lemmas.List.Elements.{All-map, All-weaker}
use Rattle.aut_base.proofs.lists.Members.{first_there, from_map, none_there, there_cases, there_map}
use Rattle.graph_walk.specs.Reach.{AreReachFlags}
use Rattle.graph_walk.specs.Walk.{IsWalk, Reaches}
use Rattle.graph_walk.proofs.WalkLemmas.{reach_none, reach_then}
use Rattle.lasso_emptiness.specs.declared.live.EdgeRef.{EdgeRef}
use Rattle.lasso_emptiness.specs.inner.Edges.{arc_of, back_arc_of}

module _ (edges : List EdgeRef) (f g : EdgeRef → ℕ × ℕ) (tails : (e : EdgeRef) → (f e).0 ≡ (g e).1) (heads : (e : EdgeRef) → (f e).1 ≡ (g e).0) where
  turned_walk : (p q : ℕ) (walk : List (ℕ × ℕ)) → IsWalk (map f edges) p walk q → Reaches (map g edges) q p
  turned_walk p q [] leads = subst (λ x. Reaches (map g edges) x p) leads (reach_none (map g edges) p)
  turned_walk p q (a ∷ walk) leads =
      let found = from_map f edges a leads.0 in
      let e = found.0 in
      let begins : (g e).0 ≡ a.1 = sym (heads e) ∙ ap (λ (x : ℕ × ℕ). x.1) found.2 in
      let ends : (g e).1 ≡ p = sym (tails e) ∙ ap (λ (x : ℕ × ℕ). x.0) found.2 ∙ leads.1 in
      reach_then (map g edges) q a.1 p (turned_walk a.1 q walk leads.2) (record { walk = g e ∷ []; leads = (there_map g edges e found.1, begins, ends) })

  pub turned : (p q : ℕ) → Reaches (map f edges) p q → Reaches (map g edges) q p
  turned p q reaches = turned_walk p q reaches.walk reaches.leads

pub has_nodes_back : (nodes states : ℕ) (arcs : List (ℕ × ℕ)) (edges : List EdgeRef) → nodes ≡ states → arcs ≡ map back_arc_of edges
    → All (λ (e : EdgeRef). (e.from < states) × (e.to < states)) edges → All (λ (a : ℕ × ℕ). (a.0 < nodes) × (a.1 < nodes)) arcs
has_nodes_back nodes states arcs edges same made ends =
    subst (All (λ (a : ℕ × ℕ). (a.0 < nodes) × (a.1 < nodes))) (sym made)
    (subst (λ n. All (λ (a : ℕ × ℕ). (a.0 < n) × (a.1 < n)) (map back_arc_of edges)) (sym same)
    (All-map (λ (a : ℕ × ℕ). (a.0 < states) × (a.1 < states)) back_arc_of edges
    (All-weaker (λ (e : EdgeRef). (e.from < states) × (e.to < states)) (λ (e : EdgeRef). (e.to < states) × (e.from < states)) (λ e both. (both.1, both.0)) edges ends)))

-- a state that is reached from another in the reversed graph reaches it
pub reaching_exact : (nodes states : ℕ) (arcs : List (ℕ × ℕ)) (from : List ℕ) (edges : List EdgeRef) (state : ℕ) → nodes ≡ states → arcs ≡ map back_arc_of edges → from ≡ state ∷ []
    → (flags : List Bool) → AreReachFlags nodes arcs from flags → (p : ℕ) → p < states → IsTrue (get_or flags p false) ↔ Reaches (map arc_of edges) p state
reaching_exact nodes states arcs from edges state nodes_are arcs_are from_is flags are p below = (there, back)
  where
    inside : p < nodes
    inside = subst (λ n. p < n) (sym nodes_are) below

    there : IsTrue (get_or flags p false) → Reaches (map arc_of edges) p state
    there flag =
        let reached = (are.exact p inside).0 flag in
        let start : reached.start ≡ state = one (subst (λ s. Contains s reached.start) from_is reached.listed) in
        turned edges back_arc_of arc_of (λ e. refl) (λ e. refl) state p (subst (λ s. Reaches (map back_arc_of edges) s p) start (subst (λ arcs. Reaches arcs reached.start p) arcs_are reached.reached))
      where
        one : {x : ℕ} → Contains (state ∷ []) x → x ≡ state
        one {x} here = elim (there_cases state [] x here) [ inl same ↦ sym same | inr none ↦ absurd (none_there x none) ]

    back : Reaches (map arc_of edges) p state → IsTrue (get_or flags p false)
    back reaches = (are.exact p inside).1 (record {
      start = state;
      listed = subst (λ s. Contains s state) (sym from_is) (first_there state []);
      reached = subst (λ arcs. Reaches arcs state p) (sym arcs_are) (turned edges arc_of back_arc_of (λ e. refl) (λ e. refl) p state reaches);
    })
