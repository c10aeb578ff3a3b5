-- Paths along edges: concatenation, edges of other kinds, and paths as walks of a graph.
use Rattle.std.proofs.Common.{◌≡◌, ℕ, ◌<◌, List, [], ◌∷◌, ◌++◌, map, inl, inr, sym, subst, arith}
use Rattle.std.specs.List.{All, Contains}
use Rattle.std.proofs.lemmas.List.Elements.{All-map}
use Rattle.aut_base.proofs.lists.Members.{first_there, later_there, there_cases, there_map}
use Rattle.graph_walk.specs.Walk.{IsWalk, Reaches}
use Rattle.lasso_emptiness.specs.declared.live.EdgeRef.{EdgeRef}
use Rattle.lasso_emptiness.specs.inner.Edges.{arc_of}
use Rattle.lasso_emptiness.specs.inner.Trails.{IsTrail}

pub trail_weaker : (K L : EdgeRef → Type 0) → ((e : EdgeRef) → K e → L e) → (p q : ℕ) (es : List EdgeRef) → IsTrail K p es q → IsTrail L p es q
trail_weaker K L weaker p q [] trail = trail
trail_weaker K L weaker p q (e ∷ es) trail = (weaker e trail.0, trail.1, trail_weaker K L weaker e.to q es trail.2)

-- the same path, of whose edges more is known
pub trail_with : (K L : EdgeRef → Type 0) (p q : ℕ) (es : List EdgeRef) → IsTrail K p es q → ((e : EdgeRef) → Contains es e → K e → L e) → IsTrail L p es q
trail_with K L p q [] trail with_more = trail
trail_with K L p q (e ∷ es) trail with_more =
    (with_more e (first_there e es) trail.0, trail.1, trail_with K L e.to q es trail.2 (λ d here kind. with_more d (later_there e es d here) kind))

pub trail_kind : (K : EdgeRef → Type 0) (p q : ℕ) (es : List EdgeRef) (e : EdgeRef) → IsTrail K p es q → Contains es e → K e
trail_kind K p q [] e trail here = let within = here.1 in absurd (omega arith)
trail_kind K p q (d ∷ ds) e trail here = elim (there_cases d ds e here) [
  | inl same ↦ subst K same trail.0
  | inr rest ↦ trail_kind K d.to q ds e trail.2 rest
]

pub trail_then : (K : EdgeRef → Type 0) (p q r : ℕ) (us vs : List EdgeRef) → IsTrail K p us q → IsTrail K q vs r → IsTrail K p (us ++ vs) r
trail_then K p q r [] vs first second = subst (λ x. IsTrail K x vs r) (sym first) second
trail_then K p q r (e ∷ us) vs first second = (first.0, first.1, trail_then K e.to q r us vs first.2 second)

-- a path along edges is a walk along their arcs
pub trail_reaches : (edges : List EdgeRef) (p q : ℕ) (es : List EdgeRef) → IsTrail (Contains edges) p es q → Reaches (map arc_of edges) p q
trail_reaches edges p q es trail = record { walk = map arc_of es; leads = walk_of p q es trail }
  where
    walk_of : (p q : ℕ) (es : List EdgeRef) → IsTrail (Contains edges) p es q → IsWalk (map arc_of edges) p (map arc_of es) q
    walk_of p q [] trail = trail
    walk_of p q (e ∷ es) trail = (there_map arc_of edges e trail.0, trail.1, walk_of e.to q es trail.2)

-- the states of the edges are nodes of their graph
pub has_nodes : (nodes states : ℕ) (arcs : List (ℕ × ℕ)) (edges : List EdgeRef) → nodes ≡ states → arcs ≡ map arc_of edges
    → All (λ (e : EdgeRef). (e.from < states) × (e.to < states)) edges → All (λ (a : ℕ × ℕ). (a.0 < nodes) × (a.1 < nodes)) arcs
has_nodes nodes states arcs edges same made ends =
    subst (All (λ (a : ℕ × ℕ). (a.0 < nodes) × (a.1 < nodes))) (sym made)
    (subst (λ n. All (λ (a : ℕ × ℕ). (a.0 < n) × (a.1 < n)) (map arc_of edges)) (sym same) (All-map (λ (a : ℕ × ℕ). (a.0 < states) × (a.1 < states)) arc_of edges ends))
