-- The items of a list of options that are given, in order.
use Rattle.std.specs.Prelude.{List, Option, filter_map}

abbrev pub those_standing : {A : Type 0} → List (Option A) → List A
those_standing = filter_map (λ item. item)
