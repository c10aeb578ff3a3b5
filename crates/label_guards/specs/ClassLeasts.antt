-- The classes of valuations that a list of labels tells apart, by the least valuation of each.
use Rattle.std.specs.Prelude.{◌≡◌, ℕ, ◌<◌, Bool, not, ◌&&◌, List, filter, length, map, nat_lt, slice_get, Some}
use Rattle.std.specs.Bool.{beq}
use Rattle.std.specs.List.{list_all, list_any}
use Rattle.aut_base.specs.Label.{LabelTree, truth}
use Rattle.aut_base.specs.Valuation.{IsLeast, holds_in, number_of, truth_on, valuations}
use Rattle.label_guards.specs.declared.guard.Guard.{Guard}
use Rattle.label_guards.specs.Classes.{AreClasses, HasMoreLetterClasses}
use Rattle.label_guards.specs.Guards.{truth_in}
use Rattle.label_guards.specs.Store.{Store, label_in}

-- each label of the list has the same truth, whichever of the two says what holds
abbrev pub are_alike : List LabelTree → (ℕ → Bool) → (ℕ → Bool) → Bool
are_alike labels on also = list_all (λ t. beq (truth on t) (truth also t)) labels

-- no valuation with a lesser number is alike
abbrev pub is_least_alike : ℕ → List LabelTree → List Bool → Bool
is_least_alike n labels v = not (list_any (λ w. nat_lt (number_of w) (number_of v) && are_alike labels (holds_in w) (holds_in v)) (valuations n))

-- The least valuation of each class of what is alike under the list, over n propositions, in the order of their numbers.
abbrev pub class_leasts : ℕ → List LabelTree → List (List Bool)
class_leasts n labels = filter (is_least_alike n labels) (valuations n)

abbrev pub labels_in : Store → List Guard → List LabelTree
labels_in s list = map (label_in s) list

-- The classes are those of these valuations, each in its place: a guard is true where all is alike to its valuation.
pub record AreClassesAtLeasts (s : Store) (list : List Guard) (classes : List Guard) : Type 0 where
  pub count : length classes ≡ length (class_leasts s.names (labels_in s list))
  pub least : (k : ℕ) (g : Guard) (v : List Bool) → slice_get classes k ≡ Some g → slice_get (class_leasts s.names (labels_in s list)) k ≡ Some v → IsLeast s.names (truth_on (label_in s g)) v
  pub truth : (k : ℕ) (g : Guard) (v : List Bool) → slice_get classes k ≡ Some g → slice_get (class_leasts s.names (labels_in s list)) k ≡ Some v →
      (on : ℕ → Bool) → truth_in s g on ≡ are_alike (labels_in s list) (holds_in v) on

-- What are classes of a list are those of its least valuations.
abbrev pub ClassesByLeasts : Type 0
ClassesByLeasts = (s : Store) (list : List Guard) (most : ℕ) (classes : List Guard) → AreClasses s list most classes → AreClassesAtLeasts s list classes

-- Where there are more than `most` classes, there are as many least valuations.
abbrev pub MoreClassesByLeasts : Type 0
MoreClassesByLeasts = (s : Store) (list : List Guard) (most : ℕ) → HasMoreLetterClasses s list most → most < length (class_leasts s.names (labels_in s list))
