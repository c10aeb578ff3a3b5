-- What the operations on the places of a store give.
use Rattle.std.specs.Prelude.{◌≡◌, ◌⊎◌, ℕ, ◌<◌, ◌≤◌, min, Bool, true, false, not, ◌&&◌, ◌||◌}
use Rattle.label_guards.specs.declared.guards.Operation.{Operation}
use Rattle.label_guards.specs.declared.guards.Operation.TheVariants.{And, Or, Xor}
use Rattle.label_guards.specs.Nodes.{level}
use Rattle.label_guards.specs.Store.{Store, HasPlace, outcome}

abbrev pub differs : Bool → Bool → Bool
differs true b = not b
differs false b = b

abbrev pub joins : Operation → Bool → Bool → Bool
joins And a b = a && b
joins Or a b = a || b
joins Xor a b = differs a b

-- a result that needs no look at the nodes
pub record IsShort (operation : Operation) (g h place : ℕ) : Type 0 where
  pub one_of : ((place ≡ g) ⊎ (place ≡ h)) ⊎ (place < 2)
  pub joins : (truth : ℕ → Bool) → truth 0 ≡ false → truth 1 ≡ true → truth place ≡ joins operation (truth g) (truth h)

pub record IsJoin (s : Store) (operation : Operation) (g h place : ℕ) : Type 0 where
  pub left : HasPlace s g
  pub right : HasPlace s h
  pub has : HasPlace s place
  pub later : min (level s g) (level s h) ≤ level s place
  pub truth : (on : ℕ → Bool) → outcome s.nodes on place ≡ joins operation (outcome s.nodes on g) (outcome s.nodes on h)

-- the place that is true where this says
pub record IsPlaceOf (s : Store) (says : (ℕ → Bool) → Bool) (place : ℕ) : Type 0 where
  pub has : HasPlace s place
  pub truth : (on : ℕ → Bool) → outcome s.nodes on place ≡ says on
