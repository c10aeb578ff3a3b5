-- Adding edges of some kind, one after the other.
use Rattle.std.proofs.Common.{◌≡◌, ◌∙◌, ℕ, ◌+◌, ◌<◌, Bool, true, false, List, [], ◌∷◌, ◌++◌, length, get_or, map, take, inl, inr, ap, subst, sym}
use Rattle.std.specs.List.{All, Contains}
use Rattle.std.proofs.lemmas.List.{get_or_default}
use Rattle.std.proofs.lemmas.List.Elements.{All-contains, Contains-append_left, Contains-push, Contains-push_cases}
use Rattle.aut_base.proofs.lists.Lists.{take-push}
use Rattle.lasso_emptiness.specs.declared.live.EdgeRef.{EdgeRef}
use Rattle.graph_walk.specs.Reach.{AreReachFlags, ReachedFrom}
use Rattle.lasso_emptiness.specs.inner.Edges.{arc_of}
use Rattle.lasso_emptiness.specs.inner.Live.{AreReachedEdges}
use Rattle.lasso_emptiness.specs.inner.Picked.{Picks}
use Rattle.lasso_emptiness.specs.inner.Tours.{listed_edge}

module _ (Kind : EdgeRef → Type 0) (edges old : List EdgeRef) (i : ℕ) (within : i < length edges) where
  abbrev x : EdgeRef
  x = listed_edge edges i

  is : x ≡ get_or edges i x
  is = get_or_default edges i _ x within

  pub picks_more : (mid new : List EdgeRef) → Picks Kind (take i edges) old mid → Kind x → new ≡ mid ++ x ∷ [] → Picks Kind (take (i + 1) edges) old new
  picks_more mid new so_far kind made =
      subst (λ done. Picks Kind done old new) (sym (take-push edges i x within is)) (subst (Picks Kind (take i edges ++ x ∷ []) old) (sym made) (record {
        kept = λ e here. Contains-append_left mid (x ∷ []) e (so_far.kept e here);
        added = λ e here of_kind. elim (Contains-push_cases (take i edges) x e here) [
          | inl before ↦ Contains-append_left mid (x ∷ []) e (so_far.added e before of_kind)
          | inr same ↦ subst (Contains (mid ++ x ∷ [])) same (Contains-push mid x)
        ];
        nothing_else = λ e here. elim (Contains-push_cases mid x e here) [
          | inl before ↦ elim (so_far.nothing_else e before) [
            | inl there ↦ inl there
            | inr picked ↦ inr (Contains-append_left (take i edges) (x ∷ []) e picked.0, picked.1)
          ]
          | inr same ↦ inr (subst (Contains (take i edges ++ x ∷ [])) same (Contains-push (take i edges) x), subst Kind same kind)
        ];
      }))

  pub picks_skip : (mid : List EdgeRef) → Picks Kind (take i edges) old mid → (Kind x → ⊥) → Picks Kind (take (i + 1) edges) old mid
  picks_skip mid so_far other =
      subst (λ done. Picks Kind done old mid) (sym (take-push edges i x within is)) (record {
        kept = so_far.kept;
        added = λ e here of_kind. elim (Contains-push_cases (take i edges) x e here) [
          | inl before ↦ so_far.added e before of_kind
          | inr same ↦ absurd (other (subst Kind (sym same) of_kind))
        ];
        nothing_else = λ e here. elim (so_far.nothing_else e here) [
          | inl there ↦ inl there
          | inr picked ↦ inr (Contains-append_left (take i edges) (x ∷ []) e picked.0, picked.1)
        ];
      })

-- the same, by an equivalent kind
pub picks_alike : (K L : EdgeRef → Type 0) (edges old new : List EdgeRef) → ((e : EdgeRef) → Contains edges e → K e → L e) → ((e : EdgeRef) → Contains edges e → L e → K e)
    → Picks K edges old new → Picks L edges old new
picks_alike K L edges old new there back picks = record {
  kept = picks.kept;
  added = λ e here kind. picks.added e here (back e here kind);
  nothing_else = λ e here. elim (picks.nothing_else e here) [
    | inl before ↦ inl before
    | inr picked ↦ inr (picked.0, there e picked.0 picked.1)
  ];
}

-- the edges of flagged states, where exactly the reached states are flagged
pub flagged_are_reached : (nodes states : ℕ) (arcs : List (ℕ × ℕ)) (starts from : List ℕ) (flags slice : List Bool) (edges : List EdgeRef) → AreReachFlags nodes arcs from flags → slice ≡ flags
    → nodes ≡ states → arcs ≡ map arc_of edges → from ≡ starts → All (λ (e : EdgeRef). (e.from < states) × (e.to < states)) edges → (new : List EdgeRef)
    → Picks (λ (e : EdgeRef). get_or slice e.from false ≡ true) edges [] new → AreReachedEdges starts edges new
flagged_are_reached nodes states arcs starts from flags slice edges are same nodes_are arcs_are starts_are ends new picks =
    picks_alike (λ (e : EdgeRef). get_or slice e.from false ≡ true) (λ (e : EdgeRef). ReachedFrom (map arc_of edges) starts e.from) edges [] new
    (λ e here flag. subst (λ s. ReachedFrom (map arc_of edges) s e.from) starts_are
    (subst (λ a. ReachedFrom a from e.from) arcs_are ((are.exact e.from (within e here)).0 (ap (λ fs. get_or fs e.from false) (sym same) ∙ flag))))
    (λ e here reached. ap (λ fs. get_or fs e.from false) same
    ∙ (are.exact e.from (within e here)).1 (subst (λ a. ReachedFrom a from e.from) (sym arcs_are) (subst (λ s. ReachedFrom (map arc_of edges) s e.from) (sym starts_are) reached)))
    picks
  where
    within : (e : EdgeRef) → Contains edges e → e.from < nodes
    within e here = subst (λ n. e.from < n) (sym nodes_are) (All-contains (λ (d : EdgeRef). (d.from < states) × (d.to < states)) edges e ends here).0
