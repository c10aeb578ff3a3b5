-- The results of the passes over the names.
use Rattle.std.specs.Prelude.{◌≡◌, ◌<◌, ◌≤◌, ◌==◌, ◌&&◌, ◌||◌, ℕ, Bool, false, List, cond, length, map, nat_lt, slice_index_or}
use Rattle.std.specs.List.{range_with_len}
use Rattle.safra_trees.specs.Flat.{at}
use Rattle.safra_trees.specs.Step.{Forest, survives}
use Rattle.safra_trees.specs.inner.Names.{has}
use Rattle.safra_trees.specs.inner.Free.{owner_below}

abbrev pub flag : List Bool → ℕ → Bool
flag xs i = slice_index_or xs i false

-- whether x owns its states, so that it isn't merged into an ancestor: it is the root, or its parent owns its own and
-- claims some state, so that it isn't covered
abbrev pub is_owner : List Bool → (ℕ → ℕ) → List ℕ → ℕ → Bool
is_owner own parent owners x = (x == 0) || ((at owners (parent x) == parent x) && flag own (parent x))

-- the owner of each name below k: the name itself, or the owner of its parent
abbrev pub AreOwners : List Bool → (ℕ → ℕ) → ℕ → List ℕ → Type 0
AreOwners own parent k owners = (x : ℕ) → x < k → at owners x ≡ cond (is_owner own parent owners x) x (at owners (parent x))

-- whether x owns the claim c
abbrev pub ends_at : List ℕ → ℕ → ℕ → Bool
ends_at owners x c = nat_lt c (length owners) && (at owners c == x)

-- The results of the passes of a step: which name claims each state, which names claim some, which node owns the states of
-- a name, and which names survive.
pub record ArePasses (f : Forest) (claims : List ℕ) (own : List Bool) (owners : List ℕ) (stay : List Bool) : Type 0 where
  pub claimed : claims ≡ map (owner_below f f.size) (range_with_len 0 f.bound)
  pub own_size : length own ≡ f.size
  pub own_claims : (y : ℕ) → y < f.size → flag own y ≡ has claims y
  pub size : length owners ≡ f.size
  pub low : (x : ℕ) → x < f.size → at owners x ≤ x
  pub are_homes : AreOwners own f.parent f.size owners
  pub stay_size : length stay ≡ f.size
  pub stays : (y : ℕ) → y < f.size → flag stay y ≡ survives f y
