-- The step of a tree under the moves of a letter (Safra 1988; with accepting edges and names that close up, Piterman 2007).
use Rattle.std.specs.Prelude.{◌≡◌, ◌+◌, ◌-◌, ◌<◌, ◌==◌, ◌&&◌, ℕ, zero, suc, Bool, false, true, cond, not, List, [], ◌∷◌, filter, length, map, nat_lt}
use Rattle.std.specs.List.{list_all, list_any, range_with_len}
use Rattle.safra_trees.specs.Trees.{Node, holds, node_at}
use Rattle.safra_trees.specs.declared.moves.Move.{Move}

-- a forest of the names below `size`, with states below `bound`: parents, and what the nodes hold
pub record Forest : Type 0 where
  pub bound : ℕ
  pub size : ℕ
  pub parent : ℕ → ℕ
  pub holds : ℕ → ℕ → Bool

-- whether a move, or an accepting move, leads to state s from a state that node x holds
abbrev pub goes : List Move → List Node → ℕ → ℕ → Bool
goes ms t x s = list_any (λ m. holds t x m.from && (m.to == s)) ms

abbrev pub goes_accepting : List Move → List Node → ℕ → ℕ → Bool
goes_accepting ms t x s = list_any (λ m. m.accepting && (holds t x m.from && (m.to == s))) ms

-- each node holds the successors of its states, and gets a fresh youngest child, which holds their successors by accepting
-- moves
abbrev pub grown : ℕ → List Move → List Node → Forest
grown n ms t = record {
  bound = n;
  size = length t + length t;
  parent = λ y. cond (nat_lt y (length t)) (node_at t y).parent (y - length t);
  holds = λ y s. cond (nat_lt y (length t)) (goes ms t y s) (goes_accepting ms t (y - length t) s);
}

-- the proper ancestors, the nearest first
abbrev pub above : (ℕ → ℕ) → ℕ → ℕ → List ℕ
above parent zero y = []
above parent (suc k) zero = []
above parent (suc k) (suc y) = parent (suc y) ∷ above parent k (parent (suc y))

abbrev pub ancestors : Forest → ℕ → List ℕ
ancestors f y = above f.parent y y

abbrev pub is_child : Forest → ℕ → ℕ → Bool
is_child f x y = nat_lt 0 y && (f.parent y == x)

-- an older sibling holds the state
abbrev pub held_by_older : Forest → ℕ → ℕ → Bool
held_by_older f s y = list_any (λ z. is_child f (f.parent y) z && f.holds z s) (range_with_len 0 y)

-- horizontal merge: a node keeps a state that it holds where no older sibling of it or of an ancestor holds that state
abbrev pub retains : Forest → ℕ → ℕ → Bool
retains f y s = f.holds y s && not (list_any (held_by_older f s) (y ∷ ancestors f y))

-- the children together keep all that the node keeps; by the vertical merge they are then removed
abbrev pub covered : Forest → ℕ → Bool
covered f x = list_all (λ s. list_any (λ z. is_child f x z && retains f z s) (range_with_len 0 f.size)) (filter (retains f x) (range_with_len 0 f.bound))

abbrev pub survives : Forest → ℕ → Bool
survives f y = list_any (retains f y) (range_with_len 0 f.bound) && not (list_any (covered f) (ancestors f y))

-- the node after the step, whose name is the number of those that survive before it; so is its parent's
abbrev pub renamed : Forest → ℕ → Node
renamed f y = record { parent = length (filter (survives f) (range_with_len 0 (f.parent y))); states = filter (retains f y) (range_with_len 0 f.bound) }

abbrev pub pruned : Forest → List Node
pruned f = map (renamed f) (filter (survives f) (range_with_len 0 f.size))

abbrev pub greens : Forest → List ℕ
greens f = filter (λ y. survives f y && covered f y) (range_with_len 0 f.size)

abbrev pub reds : Forest → ℕ → List ℕ
reds f m = filter (λ y. not (survives f y)) (range_with_len 0 m)

-- a state of x that no child of it holds
pub record Own (t : List Node) (x : ℕ) : Type 0 where
  pub state : ℕ
  pub here : holds t x state ≡ true
  pub nowhere : (c : ℕ) → 0 < c → c < length t → (node_at t c).parent ≡ x → holds t c state ≡ false

-- the invariant of trees: parents have lower names, children hold only what their parents hold, siblings share nothing, and
-- no node is empty or covered by its children
pub record IsTree (t : List Node) : Type 0 where
  pub lower : (c : ℕ) → 0 < c → c < length t → (node_at t c).parent < c
  pub inside : (c s : ℕ) → 0 < c → c < length t → holds t c s ≡ true → holds t (node_at t c).parent s ≡ true
  pub apart : (c d s : ℕ) → 0 < c → c < d → d < length t → (node_at t c).parent ≡ (node_at t d).parent → holds t c s ≡ true → holds t d s ≡ true → ⊥
  pub own : (x : ℕ) → x < length t → Own t x
