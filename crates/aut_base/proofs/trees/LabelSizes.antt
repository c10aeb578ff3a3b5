-- A label is larger than its parts, so a recursion over them ends. For two mutually recursive functions, one over labels and one
-- over the parts of a conjunction or disjunction, the measures are 2 * label_size (label_tree l) for the first
-- and 2 * labels_size (trees (label_list ls)) + 1 for the second.
use Rattle.std.proofs.Common.{◌≡◌, ℕ, zero, suc, ◌≤◌, List, [], ◌∷◌, Some, slice_get, ap, arith}
use Rattle.std.proofs.lemmas.Option.{same_Some, none-some}
use Rattle.aut_base.specs.Label.{LabelTree, label_size, labels_size, trees}

-- the part at an index
pub label_size-at : (parts : List LabelTree) (place : ℕ) (part : LabelTree) → slice_get parts place ≡ Some part → label_size part ≤ labels_size (trees parts)
label_size-at [] place part is = absurd (none-some part is)
label_size-at (x ∷ xs) zero part is = let same : label_size x ≡ label_size part = ap label_size (same_Some x part is) in omega arith
label_size-at (x ∷ xs) (suc place) part is = let rest = label_size-at xs place part is in omega arith
