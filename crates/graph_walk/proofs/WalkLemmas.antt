-- Concatenation of walks, and the arcs of walks.
use Rattle.std.proofs.Common.{◌≡◌, ◌∙◌, ℕ, ◌<◌, List, [], ◌∷◌, ◌++◌, length, refl, sym, subst}
use Rattle.std.specs.List.{Contains}
use Rattle.std.proofs.lemmas.List.{get_or_default}
use Rattle.std.proofs.lemmas.List.Elements.{Contains-get_or}
use Rattle.graph_walk.specs.Walk.{IsWalk, Reaches, arc_at}
use Rattle.graph_walk.specs.inner.Chains.{head, tail}

pub walk_then : (arcs : List (ℕ × ℕ)) (p q r : ℕ) (us vs : List (ℕ × ℕ)) → IsWalk arcs p us q → IsWalk arcs q vs r → IsWalk arcs p (us ++ vs) r
walk_then arcs p q r [] vs first second = subst (λ x. IsWalk arcs x vs r) (sym first) second
walk_then arcs p q r (a ∷ us) vs first second = (first.0, first.1, walk_then arcs a.1 q r us vs first.2 second)

pub reach_none : (arcs : List (ℕ × ℕ)) (p : ℕ) → Reaches arcs p p
reach_none arcs p = record { walk = []; leads = refl }

pub reach_then : (arcs : List (ℕ × ℕ)) (p q r : ℕ) → Reaches arcs p q → Reaches arcs q r → Reaches arcs p r
reach_then arcs p q r first second =
    record { walk = first.walk ++ second.walk; leads = walk_then arcs p q r first.walk second.walk first.leads second.leads }

-- the arc at an index is one of the graph
pub contains_place : (arcs : List (ℕ × ℕ)) (place : ℕ) → place < length arcs → Contains arcs (arc_at arcs place)
contains_place arcs place within = Contains-get_or arcs place (0, 0) within

pub reach_place : (arcs : List (ℕ × ℕ)) (place p q : ℕ) → place < length arcs → tail arcs place ≡ p → head arcs place ≡ q → Reaches arcs p q
reach_place arcs place p q within leaves enters =
    record { walk = arc_at arcs place ∷ []; leads = (contains_place arcs place within, leaves, enters) }

-- an arc of the graph has an index
pub placed : (arcs : List (ℕ × ℕ)) (a : ℕ × ℕ) → Contains arcs a → (place : ℕ) × (place < length arcs) × (arc_at arcs place ≡ a)
placed arcs a within = (within.0, within.1, get_or_default arcs within.0 (0, 0) a within.1 ∙ within.2)
