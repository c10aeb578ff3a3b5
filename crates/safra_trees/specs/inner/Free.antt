-- The horizontal merge as a pass over the names in their order: which states are still free, and which name has each state
-- in the end.
use Rattle.std.specs.Prelude.{◌&&◌, ◌||◌, ◌==◌, ℕ, zero, suc, Bool, cond, not}
use Rattle.std.specs.List.{list_any, range_with_len}
use Rattle.safra_trees.specs.Step.{Forest, is_child, retains}

-- a child of x with a name below y keeps the state
abbrev pub given : Forest → ℕ → ℕ → ℕ → Bool
given f x y s = list_any (λ z. is_child f x z && retains f z s) (range_with_len 0 y)

-- x keeps the state, and no child of it with a name below y does
abbrev pub free : Forest → ℕ → ℕ → ℕ → Bool
free f x y s = retains f x s && not (given f x y s)

-- one pass over the names in their order: where each state is, the last name below y that took it, or `size` where none
-- did; a name takes what it holds and what is at its parent just then
abbrev pub owner_below : Forest → ℕ → ℕ → ℕ
owner_below f zero s = f.size
owner_below f (suc y) s = cond (f.holds y s && ((y == 0) || (owner_below f y s == f.parent y))) y (owner_below f y s)

abbrev pub takes : Forest → ℕ → ℕ → Bool
takes f y s = f.holds y s && ((y == 0) || (owner_below f y s == f.parent y))
