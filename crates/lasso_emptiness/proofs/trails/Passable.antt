-- The edges with satisfiable labels, collected link by link.
use Rattle.std.proofs.Common.{◌≡◌, ◌∙◌, ℕ, ◌+◌, ◌<◌, ◌≤◌, List, [], ◌∷◌, ◌++◌, length, Some, slice_get, inl, inr, ap, arith, refl, subst, sym}
use Rattle.std.specs.List.{Contains}
use Rattle.std.proofs.lemmas.Bool.{cases_lt}
use Rattle.std.proofs.lemmas.List.Elements.{Contains-append_left, Contains-push, Contains-push_cases}
use Rattle.std.proofs.lemmas.Option.{same_Some, slice_get_within}
use Rattle.aut_core.specs.SymbolicAutomata.{SymbolicAutomaton}
use Rattle.aut_core.specs.declared.link.Link.{Link}
use Rattle.label_guards.specs.Guards.{IsNeverMet}
use Rattle.lasso_emptiness.specs.declared.live.EdgeRef.{EdgeRef}
use Rattle.lasso_emptiness.specs.inner.Live.{ArePassable, IsPassable}

-- these are the edges with satisfiable labels of the links before an index
pub record PassableBelow (c : SymbolicAutomaton) (place : ℕ) (edges : List EdgeRef) : Type 0 where
  pub each : (e : EdgeRef) → Contains edges e → IsPassable c e
  pub whole : (e : EdgeRef) → IsPassable c e → e.link < place → Contains edges e

same_edge : (d e : EdgeRef) → d.from ≡ e.from → d.to ≡ e.to → d.link ≡ e.link → d ≡ e
same_edge d e from to link =
    ap (λ (x : ℕ). let made : EdgeRef = record { from = x; to = d.to; link = d.link } in made) from
    ∙ ap (λ (x : ℕ). let made : EdgeRef = record { from = e.from; to = x; link = d.link } in made) to
    ∙ ap (λ (x : ℕ). let made : EdgeRef = record { from = e.from; to = e.to; link = x } in made) link

-- the edge of a link
abbrev pub edge_from : Link → ℕ → EdgeRef
edge_from l place = record { from = l.from; to = l.to; link = place }

module _ (c : SymbolicAutomaton) (place : ℕ) (edges new : List EdgeRef) (l : Link) (is : slice_get c.links place ≡ Some l) (before : PassableBelow c place edges) where
  -- an edge of the link at the index
  is_here : (e : EdgeRef) (passable : IsPassable c e) → e.link ≡ place → passable.link ≡ l
  is_here e passable same = same_Some _ _ (sym passable.at.stands ∙ ap (slice_get c.links) same ∙ is)

  pub passable_pushed : new ≡ edges ++ edge_from l place ∷ [] → (IsNeverMet c.store l.guard → ⊥) → PassableBelow c (place + 1) new
  passable_pushed made some = subst (PassableBelow c (place + 1)) (sym made) (record { each = each; whole = whole })
    where
      each : (e : EdgeRef) → Contains (edges ++ edge_from l place ∷ []) e → IsPassable c e
      each e here = elim (Contains-push_cases edges (edge_from l place) e here) [
        | inl old ↦ before.each e old
        | inr same ↦ subst (IsPassable c) same (record { link = l; at = record { stands = is; from = refl; to = refl }; some = some })
      ]

      whole : (e : EdgeRef) → IsPassable c e → e.link < place + 1 → Contains (edges ++ edge_from l place ∷ []) e
      whole e passable below = elim (cases_lt e.link place) [
        | inl earlier ↦ Contains-append_left edges (edge_from l place ∷ []) e (before.whole e passable earlier)
        | inr later ↦ (let at : e.link ≡ place = omega arith in
            let link = is_here e passable at in
            let same : edge_from l place ≡ e = sym (same_edge e (edge_from l place) (passable.at.from ∙ ap (λ (m : Link). m.from) link) (passable.at.to ∙ ap (λ (m : Link). m.to) link) at) in
            subst (Contains (edges ++ edge_from l place ∷ [])) same (Contains-push edges (edge_from l place)))
      ]

  pub passable_skipped : IsNeverMet c.store l.guard → PassableBelow c (place + 1) edges
  passable_skipped never = record {
    each = before.each;
    whole = λ e passable below. elim (cases_lt e.link place) [
      | inl earlier ↦ before.whole e passable earlier
      | inr later ↦ (let at : e.link ≡ place = omega arith in absurd (passable.some (subst (λ (m : Link). IsNeverMet c.store m.guard) (sym (is_here e passable at)) never)))
    ];
  }

pub passable_all : (c : SymbolicAutomaton) (place : ℕ) (edges : List EdgeRef) → length c.links ≤ place → PassableBelow c place edges → ArePassable c edges
passable_all c place edges all below = record {
  each = below.each;
  whole = λ e passable. let within = slice_get_within c.links e.link passable.link passable.at.stands in below.whole e passable (omega arith);
}
