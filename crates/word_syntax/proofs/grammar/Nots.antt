-- Repeated negation of a label.
use Rattle.std.proofs.Common.{◌≡◌, ◌∙◌, ◌+◌, ◌-◌, ◌<◌, ap, arith, suc, sym, ℕ}
use Rattle.std.specs.Global.{Global}
use Rattle.std.specs.declared.boxed.Box.{Box}
use Rattle.aut_base.proofs.trees.LabelTrees.{label_tree-Not}
use Rattle.aut_base.specs.Label as label
use Rattle.aut_base.specs.Label.{LabelTree, label_tree}
use Rattle.aut_base.specs.declared.label.Label.{Label}
use Rattle.aut_base.specs.declared.label.Label.TheVariants.{Not}
use Rattle.word_syntax.specs.inner.Machine.{nots_on}

nots_step : (times i : ℕ) (t : LabelTree) → i < times → nots_on (times - (i + 1)) (label.Not t) ≡ nots_on (times - i) t
nots_step times i t within = let e : times - i ≡ suc (times - (i + 1)) = omega arith in sym (ap (λ (n : ℕ). nots_on n t) e)

pub nots_more : (times i : ℕ) (inner : Box Label Global) (before : Label) (all : LabelTree) → i < times → inner.value ≡ before → nots_on (times - i) (label_tree before) ≡ all
    → nots_on (times - (i + 1)) (label_tree (Not inner)) ≡ all
nots_more times i inner before all within is so_far =
    ap (nots_on (times - (i + 1))) (label_tree-Not inner ∙ ap (λ (l : Label). label.Not (label_tree l)) is) ∙ (nots_step times i (label_tree before) within ∙ so_far)
