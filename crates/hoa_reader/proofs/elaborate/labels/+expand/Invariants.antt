use Rattle.std.proofs.Common.{◌≡◌, ◌+◌, ◌*◌, map, take, ◌∷◌, ℕ}
use Rattle.aut_base.specs.Label.{label_list, label_size, labels_size}
use Rattle.hoa_reader.specs.Described.{each_expanded, expanded}
use Rattle.hoa_reader.specs.inner.Growing.{meanings_by, expansion_steps}
use Rattle.hoa_parser.specs.Raw.{RawTree, raw_tree, raw_trees}
use Rattle.hoa_reader.proofs.elaborate.labels.+expand.Given as goal

abbrev pub invariant-expand_parts-others : goal.invariant-expand_parts-others
invariant-expand_parts-others l = label_list l.labels ≡ map (λ p. expanded (meanings_by l.defs) (raw_tree p)) (l.parts.first ∷ l.parts.second ∷ take l.part-index l.parts.others.items)

abbrev pub decreases-expand : goal.decreases-expand
decreases-expand l = expansion_steps l.defs.now (raw_tree l.label.now)

abbrev pub decreases-expand_parts : goal.decreases-expand_parts
decreases-expand_parts l =
    let size : RawTree → ℕ = λ t. label_size (expanded (meanings_by l.defs.now) t) in
    2 * (size (raw_tree l.parts.now.first) +
    (size (raw_tree l.parts.now.second) + labels_size (each_expanded (meanings_by l.defs.now) (raw_trees (map raw_tree l.parts.now.others.items))))) + 1
