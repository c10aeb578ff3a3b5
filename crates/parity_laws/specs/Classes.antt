-- Classes of valuations that a list of labels doesn't tell apart.
use Rattle.std.specs.Prelude.{◌≡◌, ◌↔◌, ℕ, Bool, true, List, All, Some, map, slice_get}
use Rattle.aut_base.specs.Label.{LabelTree, truth}
use Rattle.label_guards.specs.Classes.{AreClasses}
use Rattle.label_guards.specs.Store.{Store, label_in}
use Rattle.label_guards.specs.declared.guard.Guard.{Guard}

-- the valuation `on` is in the class of this index: the label of the class is true on it
abbrev pub MeetsClass : List LabelTree → (ℕ → Bool) → ℕ → Type 0
MeetsClass classes on place = slice_get (map (truth on) classes) place ≡ Some true

-- One label for each class: each valuation is in one of the classes, and two valuations are in the same one exactly where
-- each label of the list has the same truth on both.
pub record AreClassesOf (list classes : List LabelTree) : Type 0 where
  pub every : (on : ℕ → Bool) → (place : ℕ) × MeetsClass classes on place
  pub alike : (on also : ℕ → Bool) (i j : ℕ) → MeetsClass classes on i → MeetsClass classes also j → (i ≡ j) ↔ All (λ l. truth on l ≡ truth also l) list

-- Classes of guards are classes of the labels of these guards.
abbrev pub ClassesOfGuards : Type 0
ClassesOfGuards = (s : Store) (list : List Guard) (most : ℕ) (classes : List Guard) → AreClasses s list most classes → AreClassesOf (map (label_in s) list) (map (label_in s) classes)
