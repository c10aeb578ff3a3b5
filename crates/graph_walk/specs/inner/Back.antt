-- The shortest walk to a node, traced back along the arcs by which the breadth-first search found its nodes.
use Rattle.std.specs.Prelude.{◌≡◌, ℕ, ◌+◌, ◌<◌, true, List, [], ◌∷◌, length, map, reverse, All}
use Rattle.graph_walk.specs.Walk.{IsWalk, arc_at}
use Rattle.graph_walk.specs.inner.Places.{flag}
use Rattle.graph_walk.specs.inner.Search.{IsSearched}
use Rattle.graph_walk.specs.declared.search.Search.{Search}

-- the arcs at these indices, from the last to the first, are the end of a shortest walk from p to q: the part from `at` on
pub record LeadsBack (nodes : ℕ) (arcs : List (ℕ × ℕ)) (p q : ℕ) (s : Search) (places : List ℕ) (at : ℕ) : Type 0 where
  pub searched : IsSearched nodes arcs (p ∷ []) s
  pub marked : flag s.seen.items at ≡ true
  pub deep : searched.searching.known.depth at + length places ≡ searched.searching.known.depth q
  pub reached : flag s.seen.items q ≡ true
  pub walks : IsWalk arcs at (map (arc_at arcs) (reverse places)) q
  pub placed : All (λ place. place < length arcs) places
