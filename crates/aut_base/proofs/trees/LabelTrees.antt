-- The tree of a label, constructor by constructor.
use Rattle.std.proofs.Common.{◌≡◌, ℕ, ◌∙◌, sym, ap, map, ◌∷◌}
use Rattle.std.specs.Global.{Global}
use Rattle.std.specs.declared.boxed.Box.{Box}
use Rattle.aut_base.specs.Label.{LabelTree, LabelParts, label_step, label_tree, label_parts, label_list, trees}
use Rattle.aut_base.specs.declared.label.Label.{Label}
use Rattle.aut_base.specs.declared.label.Label.TheVariants.{True, False, Prop, Negated, Not, And, Or, rolls-True, rolls-False, rolls-Prop, rolls-Negated, rolls-Not, rolls-And, rolls-Or}
use Rattle.aut_base.specs.declared.label.Label.TheOpen.{Label-F, Labels-F}
use Rattle.aut_base.specs.declared.label.Label.TheFolds.{fold-roll-Label, fold_out-Labels}
use Rattle.aut_base.specs.declared.label.Labels.{Labels}

-- the parts of one level, as trees
abbrev parts_step : Labels-F LabelTree LabelParts → LabelParts
parts_step ls = record { first = ls.first; second = ls.second; others = ls.others.items }

pub label_tree-True : label_tree True ≡ LabelTree.True
label_tree-True = ap label_tree (sym rolls-True) ∙ fold-roll-Label LabelTree LabelParts label_step parts_step Label-F.True

pub label_tree-False : label_tree False ≡ LabelTree.False
label_tree-False = ap label_tree (sym rolls-False) ∙ fold-roll-Label LabelTree LabelParts label_step parts_step Label-F.False

pub label_tree-Prop : (i : ℕ) → label_tree (Prop i) ≡ LabelTree.Prop i
label_tree-Prop i = ap label_tree (sym (rolls-Prop i)) ∙ fold-roll-Label LabelTree LabelParts label_step parts_step (Label-F.Prop i)

pub label_tree-Negated : (i : ℕ) → label_tree (Negated i) ≡ LabelTree.Not (LabelTree.Prop i)
label_tree-Negated i = ap label_tree (sym (rolls-Negated i)) ∙ fold-roll-Label LabelTree LabelParts label_step parts_step (Label-F.Negated i)

pub label_tree-Not : (inner : Box Label Global) → label_tree (Not inner) ≡ LabelTree.Not (label_tree inner.value)
label_tree-Not inner = ap label_tree (sym (rolls-Not inner)) ∙ fold-roll-Label LabelTree LabelParts label_step parts_step (Label-F.Not inner)

pub label_tree-And : (p : Box Labels Global) → label_tree (And p) ≡ LabelTree.And (label_parts p.value).first (label_parts p.value).second (trees (label_parts p.value).others)
label_tree-And p = ap label_tree (sym (rolls-And p)) ∙ fold-roll-Label LabelTree LabelParts label_step parts_step (Label-F.And p)

pub label_tree-Or : (p : Box Labels Global) → label_tree (Or p) ≡ LabelTree.Or (label_parts p.value).first (label_parts p.value).second (trees (label_parts p.value).others)
label_tree-Or p = ap label_tree (sym (rolls-Or p)) ∙ fold-roll-Label LabelTree LabelParts label_step parts_step (Label-F.Or p)

-- the parts, by the fields
pub label_parts-fields : (p : Labels) → label_parts p ≡ record { first = label_tree p.first; second = label_tree p.second; others = map label_tree p.others.items }
label_parts-fields p = fold_out-Labels LabelTree LabelParts label_step parts_step p

-- the list of parts, by the fields
pub label_list-fields : (p : Labels) → label_list p ≡ label_tree p.first ∷ label_tree p.second ∷ map label_tree p.others.items
label_list-fields p = ap (λ parts. parts.first ∷ parts.second ∷ parts.others) (label_parts-fields p)

-- The trees of a conjunction and of a disjunction, by the fields.
pub label_tree-And-fields : (p : Box Labels Global) → label_tree (And p) ≡ LabelTree.And (label_tree p.value.first) (label_tree p.value.second) (trees (map label_tree p.value.others.items))
label_tree-And-fields p = label_tree-And p ∙ ap (λ parts. LabelTree.And parts.first parts.second (trees parts.others)) (label_parts-fields p.value)

pub label_tree-Or-fields : (p : Box Labels Global) → label_tree (Or p) ≡ LabelTree.Or (label_tree p.value.first) (label_tree p.value.second) (trees (map label_tree p.value.others.items))
label_tree-Or-fields p = label_tree-Or p ∙ ap (λ parts. LabelTree.Or parts.first parts.second (trees parts.others)) (label_parts-fields p.value)

-- These equations as one rule set for tactics.
pub ruleset label_trees = (label_tree-True, label_tree-False, label_tree-Prop, label_tree-Negated, label_tree-Not, label_tree-And-fields, label_tree-Or-fields)
