-- The classes of letters that satisfy the same guards of a list, and the cache of such classes.
use Rattle.std.specs.Prelude.{◌≡◌, ℕ, All, Bool, List, Some, cond, length, nat_eq, slice_get}
use Rattle.std.specs.Cmp.Lexicographic.{pointwise}
use Rattle.std.specs.Map.{lookup}
use Rattle.aut_base.specs.Valuation.{IsLeast, truth_on}
use Rattle.exploration.specs.TransitionFunctions.{AreClassHandles}
use Rattle.label_guards.specs.ClassLeasts.{class_leasts, labels_in}
use Rattle.label_guards.specs.Store.{Has, Store, label_in}
use Rattle.label_guards.specs.declared.guard.Guard.{Guard}
use Rattle.letter_classes.specs.SetClasses.{class_label}

-- the guard is that of the class of this number, of the classes of the list
pub record IsListClass (s : Store) (list : List Guard) (k : ℕ) (g : Guard) : Type 0 where
  pub valuation : List Bool
  pub at : slice_get (class_leasts s.names (labels_in s list)) k ≡ Some valuation
  pub has : Has s g
  pub least : IsLeast s.names (truth_on (label_in s g)) valuation
  pub label : label_in s g ≡ class_label s.names (labels_in s list) valuation

-- the store has the list, and these are the guards of all its classes, in order
pub record IsKnown (s : Store) (list classes : List Guard) : Type 0 where
  pub has : All (Has s) list
  pub are : AreClassHandles (IsListClass s list) (length (class_leasts s.names (labels_in s list))) classes

-- whether the lists have the same guards in the same order
abbrev pub same_list : List Guard → List Guard → Bool
same_list = pointwise (λ (g h : Guard). nat_eq g.place h.place)

-- the cache once the classes of a list are inserted
abbrev pub AreClassesInserted : (old new : List (List Guard × List Guard)) (list classes : List Guard) → Type 0
AreClassesInserted old new list classes = (q : List Guard) → lookup (same_list q) new ≡ cond (same_list list q) (Some classes) (lookup (same_list q) old)

-- the cache has right classes for each of its lists
abbrev pub AreClassesKnown : Store → List (List Guard × List Guard) → Type 0
AreClassesKnown s known = (list classes : List Guard) → lookup (same_list list) known ≡ Some classes → IsKnown s list classes
