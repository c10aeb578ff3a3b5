-- The tree of a label as it is written, constructor by constructor.
use Rattle.std.proofs.Common.{◌≡◌, ℕ, ◌∙◌, sym, ap, map, List, ◌∷◌}
use Rattle.std.specs.Global.{Global}
use Rattle.std.specs.declared.boxed.Box.{Box}
use Rattle.hoa_parser.specs.Raw.{RawTree, RawParts, all_literals, raw_all, raw_step, raw_tree, raw_parts, raw_list, raw_trees}
use Rattle.hoa_parser.specs.declared.raw.RawLabel.{RawLabel}
use Rattle.hoa_parser.specs.declared.raw.RawLabel.TheVariants.{True, False, Prop, Negated, Cube, Alias, Not, And, Or, rolls-True, rolls-False, rolls-Prop}
use Rattle.hoa_parser.specs.declared.raw.RawLabel.TheVariants.{rolls-Negated, rolls-Cube, rolls-Alias, rolls-Not, rolls-And, rolls-Or}
use Rattle.hoa_parser.specs.declared.raw.RawLabel.TheOpen.{RawLabel-F, RawLabels-F}
use Rattle.hoa_parser.specs.declared.raw.RawLabel.TheFolds.{fold-roll-RawLabel, fold_out-RawLabels}
use Rattle.hoa_parser.specs.declared.raw.RawLabels.{RawLabels}

-- the trees of one layer of parts
abbrev parts_step : RawLabels-F RawTree RawParts → RawParts
parts_step ls = record { first = ls.first; second = ls.second; others = ls.others.items }

pub raw_tree-True : raw_tree True ≡ RawTree.True
raw_tree-True = ap raw_tree (sym rolls-True) ∙ fold-roll-RawLabel RawTree RawParts raw_step parts_step RawLabel-F.True

pub raw_tree-False : raw_tree False ≡ RawTree.False
raw_tree-False = ap raw_tree (sym rolls-False) ∙ fold-roll-RawLabel RawTree RawParts raw_step parts_step RawLabel-F.False

pub raw_tree-Prop : (i : ℕ) → raw_tree (Prop i) ≡ RawTree.Prop i
raw_tree-Prop i = ap raw_tree (sym (rolls-Prop i)) ∙ fold-roll-RawLabel RawTree RawParts raw_step parts_step (RawLabel-F.Prop i)

pub raw_tree-Negated : (i : ℕ) → raw_tree (Negated i) ≡ RawTree.Not (RawTree.Prop i)
raw_tree-Negated i = ap raw_tree (sym (rolls-Negated i)) ∙ fold-roll-RawLabel RawTree RawParts raw_step parts_step (RawLabel-F.Negated i)

pub raw_tree-Cube : (names values : ℕ) → raw_tree (Cube names values) ≡ raw_all (all_literals names values)
raw_tree-Cube names values = ap raw_tree (sym (rolls-Cube names values)) ∙ fold-roll-RawLabel RawTree RawParts raw_step parts_step (RawLabel-F.Cube names values)

pub raw_tree-Alias : (name : Box (List ℕ) Global) → raw_tree (Alias name) ≡ RawTree.Alias name.value
raw_tree-Alias name = ap raw_tree (sym (rolls-Alias name)) ∙ fold-roll-RawLabel RawTree RawParts raw_step parts_step (RawLabel-F.Alias name)

pub raw_tree-Not : (inner : Box RawLabel Global) → raw_tree (Not inner) ≡ RawTree.Not (raw_tree inner.value)
raw_tree-Not inner = ap raw_tree (sym (rolls-Not inner)) ∙ fold-roll-RawLabel RawTree RawParts raw_step parts_step (RawLabel-F.Not inner)

pub raw_tree-And : (p : Box RawLabels Global) → raw_tree (And p) ≡ RawTree.And (raw_parts p.value).first (raw_parts p.value).second (raw_trees (raw_parts p.value).others)
raw_tree-And p = ap raw_tree (sym (rolls-And p)) ∙ fold-roll-RawLabel RawTree RawParts raw_step parts_step (RawLabel-F.And p)

pub raw_tree-Or : (p : Box RawLabels Global) → raw_tree (Or p) ≡ RawTree.Or (raw_parts p.value).first (raw_parts p.value).second (raw_trees (raw_parts p.value).others)
raw_tree-Or p = ap raw_tree (sym (rolls-Or p)) ∙ fold-roll-RawLabel RawTree RawParts raw_step parts_step (RawLabel-F.Or p)

-- the parts, by what the fields hold
pub raw_parts-fields : (p : RawLabels) → raw_parts p ≡ record { first = raw_tree p.first; second = raw_tree p.second; others = map raw_tree p.others.items }
raw_parts-fields p = fold_out-RawLabels RawTree RawParts raw_step parts_step p

-- the list of parts, by what the fields hold
pub raw_list-fields : (p : RawLabels) → raw_list p ≡ raw_tree p.first ∷ raw_tree p.second ∷ map raw_tree p.others.items
raw_list-fields p = ap (λ parts. parts.first ∷ parts.second ∷ parts.others) (raw_parts-fields p)

-- What a conjunction and a disjunction say, by what the fields hold.
pub raw_tree-And-fields : (p : Box RawLabels Global) → raw_tree (And p) ≡ RawTree.And (raw_tree p.value.first) (raw_tree p.value.second) (raw_trees (map raw_tree p.value.others.items))
raw_tree-And-fields p = raw_tree-And p ∙ ap (λ parts. RawTree.And parts.first parts.second (raw_trees parts.others)) (raw_parts-fields p.value)

pub raw_tree-Or-fields : (p : Box RawLabels Global) → raw_tree (Or p) ≡ RawTree.Or (raw_tree p.value.first) (raw_tree p.value.second) (raw_trees (map raw_tree p.value.others.items))
raw_tree-Or-fields p = raw_tree-Or p ∙ ap (λ parts. RawTree.Or parts.first parts.second (raw_trees parts.others)) (raw_parts-fields p.value)

-- All of them under one name, for tactics.
pub ruleset raw_tree_rules = (raw_tree-True, raw_tree-False, raw_tree-Prop, raw_tree-Negated, raw_tree-Cube, raw_tree-Alias, raw_tree-Not, raw_tree-And-fields, raw_tree-Or-fields)
