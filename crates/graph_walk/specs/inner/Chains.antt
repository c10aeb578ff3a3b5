-- Linked lists of the arcs that leave each node, from the last to the first.
use Rattle.std.specs.Prelude.{◌≡◌, ℕ, ◌-◌, ◌<◌, ◌≤◌, List, length, slice_index}
use Rattle.graph_walk.specs.Walk.{arc_at}
use Rattle.graph_walk.specs.declared.chains.Chains.{Chains}

abbrev pub tail : List (ℕ × ℕ) → ℕ → ℕ
tail arcs place = (arc_at arcs place).0

abbrev pub head : List (ℕ × ℕ) → ℕ → ℕ
head arcs place = (arc_at arcs place).1

-- c is the index plus one of the last arc that leaves p among those before the index `end`, or 0 where none does
pub record IsLastArc (arcs : List (ℕ × ℕ)) (p end c : ℕ) : Type 0 where
  pub within : c ≤ end
  pub leaves : 0 < c → tail arcs (c - 1) ≡ p
  pub no_other : (place : ℕ) → c ≤ place → place < end → tail arcs place ≡ p → ⊥

-- the arcs before the index `end` are in the lists
pub record AreChained (nodes : ℕ) (arcs : List (ℕ × ℕ)) (end : ℕ) (last before : List ℕ) : Type 0 where
  pub nodes_size : length last ≡ nodes
  pub arcs_size : length before ≡ end
  pub lasts : (p : ℕ) → p < nodes → IsLastArc arcs p end (slice_index last p)
  pub befores : (place : ℕ) → place < end → IsLastArc arcs (tail arcs place) place (slice_index before place)

-- all arcs are in the lists
abbrev pub AreChains : ℕ → List (ℕ × ℕ) → Chains → Type 0
AreChains nodes arcs chains = AreChained nodes arcs (length arcs) chains.last.items chains.before.items
