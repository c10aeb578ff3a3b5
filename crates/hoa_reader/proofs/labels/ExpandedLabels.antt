-- Labels whose aliases are replaced, part by part.
use Rattle.std.proofs.Common.{◌≡◌, ◌<◌, ◌≤◌, ℕ, zero, suc, List, [], ◌∷◌, map, length, get_or, Option, Some, None, refl, ap, sym, ◌∙◌, arith}
use Rattle.std.specs.Global.{Global}
use Rattle.std.specs.declared.boxed.Box.{Box}
use Rattle.aut_base.proofs.trees.LabelTrees.{label_tree-And, label_tree-Or}
use Rattle.aut_base.specs.Label.{LabelTree, LabelTrees, label_list, label_size, label_tree, labels_size, trees}
use Rattle.aut_base.specs.declared.label.Label.TheVariants as label
use Rattle.aut_base.specs.declared.label.Labels.{Labels}
use Rattle.hoa_reader.specs.Described.{Meaning, each_expanded, expanded}
use Rattle.hoa_reader.specs.inner.Growing.{alias_bit}
use Rattle.hoa_parser.specs.Raw.{raw_tree, raw_trees}
use Rattle.hoa_parser.specs.declared.raw.RawLabel.{RawLabel}
use Rattle.hoa_parser.specs.declared.raw.RawLabels.{RawLabels}

pub size_pos : (t : LabelTree) → 1 ≤ label_size t
size_pos LabelTree.True = omega arith
size_pos LabelTree.False = omega arith
size_pos (LabelTree.Prop i) = omega arith
size_pos (LabelTree.Not t) = omega arith
size_pos (LabelTree.And a b cs) = omega arith
size_pos (LabelTree.Or a b cs) = omega arith

pub bit_small : (o : Option (List ℕ)) → alias_bit o ≤ 1
bit_small None = omega arith
bit_small (Some name) = omega arith

abbrev as_and : List LabelTree → LabelTree
as_and (a ∷ b ∷ cs) = LabelTree.And a b (trees cs)
as_and _ = LabelTree.True

abbrev as_or : List LabelTree → LabelTree
as_or (a ∷ b ∷ cs) = LabelTree.Or a b (trees cs)
as_or _ = LabelTree.True

pub and_of : (p : Box Labels Global) (a b : LabelTree) (cs : List LabelTree) → label_list p.value ≡ a ∷ b ∷ cs → label_tree (label.And p) ≡ LabelTree.And a b (trees cs)
and_of p a b cs e = label_tree-And p ∙ ap as_and e

pub or_of : (p : Box Labels Global) (a b : LabelTree) (cs : List LabelTree) → label_list p.value ≡ a ∷ b ∷ cs → label_tree (label.Or p) ≡ LabelTree.Or a b (trees cs)
or_of p a b cs e = label_tree-Or p ∙ ap as_or e

pub parts_expanded : (ms : List Meaning) (ps : List RawLabel) → each_expanded ms (raw_trees (map raw_tree ps)) ≡ trees (map (λ p. expanded ms (raw_tree p)) ps)
parts_expanded ms [] = refl
parts_expanded ms (p ∷ ps) = ap (LabelTrees.more (expanded ms (raw_tree p))) (parts_expanded ms ps)

-- a node over the parts that are replaced one by one, and the node of the parts with all replaced
pub expanded_node : (node : LabelTree → LabelTree → LabelTrees → LabelTree) (ms : List Meaning) (p : RawLabels) (new old : LabelTree)
    → new ≡ node (expanded ms (raw_tree p.first)) (expanded ms (raw_tree p.second)) (trees (map (λ q. expanded ms (raw_tree q)) p.others.items))
    → old ≡ node (expanded ms (raw_tree p.first)) (expanded ms (raw_tree p.second)) (each_expanded ms (raw_trees (map raw_tree p.others.items))) → new ≡ old
expanded_node node ms p new old made was = made ∙ ap (node (expanded ms (raw_tree p.first)) (expanded ms (raw_tree p.second))) (sym (parts_expanded ms p.others.items)) ∙ sym was

pub part_size : (ms : List Meaning) (ps : List RawLabel) (i : ℕ) (p : RawLabel) → i < length ps → p ≡ get_or ps i p
    → label_size (expanded ms (raw_tree p)) ≤ labels_size (each_expanded ms (raw_trees (map raw_tree ps)))
part_size ms [] i p l is = absurd (omega (arith, l))
part_size ms (q ∷ ps) zero p l is = let same : label_size (expanded ms (raw_tree p)) ≡ label_size (expanded ms (raw_tree q)) = ap (λ x. label_size (expanded ms (raw_tree x))) is in omega (arith, same)
part_size ms (q ∷ ps) (suc i) p l is = let rest = part_size ms ps i p (omega (arith, l)) is in omega (arith, rest)
