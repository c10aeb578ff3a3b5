-- What is compared and hashed of a tree in fewer bytes is what its list of nodes says.
use Rattle.std.proofs.Common.{◌≡◌, ◌∙◌, ◌&&◌, ◌++◌, ◌^◌, ℕ, Bool, true, List, [], ◌∷◌, ap, filter, nat_eq, sym}
use Rattle.std.proofs.lemmas.Bool.{and_from, and_parts}
use Rattle.std.proofs.lemmas.List.Sums.{fold-append}
use Rattle.std.specs.Cmp.Lexicographic.{pointwise}
use Rattle.std.specs.Hash as fed
use Rattle.std.specs.List.{fold}
use Rattle.aut_base.proofs.words.Texts.{same_text}
use Rattle.safra_trees.proofs.flat_step.Placed.{stored_root}
use Rattle.safra_trees.proofs.laws.EqualTrees.{list_text, places_read, same_bools}
use Rattle.safra_trees.proofs.laws.SameTrees.{parents_read, same_lists}
use Rattle.safra_trees.specs.Flat.{is_high, is_low, nodes_of}
use Rattle.safra_trees.specs.Same.{packed_hashed, same_nodes, same_tells}
use Rattle.safra_trees.specs.Trees.{root_states}
use Rattle.safra_trees.specs.View.{listed_tree, packed_tree}
use Rattle.safra_trees.specs.declared.lists.TreeLists.{TreeLists}
use Rattle.safra_trees.specs.declared.packed.PackedTree.{PackedTree}

-- the nodes of two trees are as many, with the same parents and places, and their states are the same
abbrev shapes_same : TreeLists → TreeLists → Bool
shapes_same one other = pointwise nat_eq one.parents other.parents && pointwise nat_eq one.places other.places

abbrev states_same : TreeLists → TreeLists → Bool
states_same one other = pointwise nat_eq one.low other.low && pointwise nat_eq one.rest other.rest

packed_told : (one other : TreeLists) → (states_same one other && shapes_same one other) ≡ true → listed_tree one ≡ listed_tree other
packed_told one other is =
    let parts = and_parts (states_same one other) (shapes_same one other) is in
    let shape = and_parts (pointwise nat_eq one.parents other.parents) (pointwise nat_eq one.places other.places) parts.1 in
    let states = and_parts (pointwise nat_eq one.low other.low) (pointwise nat_eq one.rest other.rest) parts.0 in
    ap (λ xs. nodes_of xs (one.low ++ one.rest) one.places) (same_text one.parents other.parents shape.0)
    ∙ (ap (λ xs. nodes_of other.parents (xs ++ one.rest) one.places) (same_text one.low other.low states.0)
    ∙ (ap (λ xs. nodes_of other.parents (other.low ++ xs) one.places) (same_text one.rest other.rest states.1)
    ∙ ap (nodes_of other.parents (other.low ++ other.rest)) (same_text one.places other.places shape.1)))

packed_tell : (one other : PackedTree) → packed_tree one ≡ packed_tree other → (states_same one.lists other.lists && shapes_same one.lists other.lists) ≡ true
packed_tell one other same =
    let a = one.lists in
    let b = other.lists in
    let are = same_lists a.parents (a.low ++ a.rest) a.places b.parents (b.low ++ b.rest) b.places a.stored b.stored same in
    let low : a.low ≡ b.low = one.split.low_are ∙ (ap (filter (is_low (2 ^ 16))) are.states ∙ sym other.split.low_are) in
    let rest : a.rest ≡ b.rest = one.split.rest_are ∙ (ap (filter (is_high (2 ^ 16))) are.states ∙ sym other.split.rest_are) in
    and_from (states_same a b) (shapes_same a b)
    (and_from (pointwise nat_eq a.low b.low) (pointwise nat_eq a.rest b.rest) (list_text a.low b.low low) (list_text a.rest b.rest rest))
    (and_from (pointwise nat_eq a.parents b.parents) (pointwise nat_eq a.places b.places) (list_text a.parents b.parents are.parents) (list_text a.places b.places are.places))

-- the lists are the same where the nodes are
pub packed_say : (one other : PackedTree) → (states_same one.lists other.lists && shapes_same one.lists other.lists) ≡ same_nodes (packed_tree one) (packed_tree other)
packed_say one other =
    let tells = same_tells (packed_tree one) (packed_tree other) in
    same_bools (states_same one.lists other.lists && shapes_same one.lists other.lists) (same_nodes (packed_tree one) (packed_tree other)) (λ is. tells.1 (packed_told one.lists other.lists is))
    (λ is. packed_tell one other (tells.0 is))

-- the states of the root, in their two lists
pub packed_root : (tree : PackedTree) → root_states (packed_tree tree) ≡ tree.lists.low ++ tree.lists.rest
packed_root tree = stored_root tree.lists.parents (tree.lists.low ++ tree.lists.rest) tree.lists.places tree.lists.stored

-- four lists are hashed one after the other
pub packed_in_turn : {S : Type 0} (write : S → List ℕ → S) (tree : PackedTree) (s t u v : S) → t ≡ fold write (write s tree.lists.parents) (fed.slice fed.u16 tree.lists.low)
    → u ≡ fold write t (fed.slice fed.u32 tree.lists.rest) → v ≡ write u tree.lists.places → v ≡ fold write s (packed_hashed (packed_tree tree))
packed_in_turn write tree s t u v first second third =
    let k = tree.lists in
    let p = parents_read k.parents (k.low ++ k.rest) k.places in
    let l : filter (is_low (2 ^ 16)) (root_states (packed_tree tree)) ≡ k.low = ap (filter (is_low (2 ^ 16))) (packed_root tree) ∙ sym tree.split.low_are in
    let r : filter (is_high (2 ^ 16)) (root_states (packed_tree tree)) ≡ k.rest = ap (filter (is_high (2 ^ 16))) (packed_root tree) ∙ sym tree.split.rest_are in
    let o = places_read k.parents (k.low ++ k.rest) k.places k.stored in
    let low = fed.slice fed.u16 k.low in
    let rest = fed.slice fed.u32 k.rest in
    let fields : packed_hashed (packed_tree tree) ≡ (k.parents ∷ []) ++ (low ++ (rest ++ (k.places ∷ []))) =
    λ i. (p i ∷ []) ++ (fed.slice fed.u16 (l i) ++ (fed.slice fed.u32 (r i) ++ (o i ∷ []))) in
    let begun = write s k.parents in
    third ∙ (ap (λ x. write x k.places) (second ∙ ap (λ x. fold write x rest) first)
    ∙ (sym (fold-append write (fold write begun low) rest (k.places ∷ []))
    ∙ (sym (fold-append write begun low (rest ++ (k.places ∷ []))) ∙ ap (fold write s) (sym fields))))
