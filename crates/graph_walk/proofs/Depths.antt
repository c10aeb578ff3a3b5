-- Changing the depth of one node.
use Rattle.std.proofs.Common.{◌≡◌, ◌≢◌, ℕ, Bool, true, false, cond, eqb, List, refl, sym, ap, ◌∙◌}
use Rattle.std.proofs.lemmas.Bool.{eq-eqb, eqb-true, false≢true}
use Rattle.graph_walk.specs.inner.Places.{flag}

-- the depth of w is d, and that of each other node as before
pub with_depth : (ℕ → ℕ) → ℕ → ℕ → ℕ → ℕ
with_depth depth w d x = cond (eqb x w) d (depth x)

pub with_depth_there : (depth : ℕ → ℕ) (w d x : ℕ) → x ≡ w → with_depth depth w d x ≡ d
unfolding with_depth
with_depth_there depth w d x same = rw (eq-eqb x w same) refl

by_test : (depth : ℕ → ℕ) (w d x : ℕ) (b : Bool) → eqb x w ≡ b → x ≢ w → cond b d (depth x) ≡ depth x
by_test depth w d x true is other = absurd (other (eqb-true x w is))
by_test depth w d x false is other = refl

pub with_depth_elsewhere : (depth : ℕ → ℕ) (w d x : ℕ) → x ≢ w → with_depth depth w d x ≡ depth x
unfolding with_depth
with_depth_elsewhere depth w d x other = by_test depth w d x (eqb x w) refl other

-- a node that was marked before keeps its depth
pub depth_kept : (depth : ℕ → ℕ) (seen : List Bool) (w d x : ℕ) → flag seen w ≡ false → flag seen x ≡ true → with_depth depth w d x ≡ depth x
depth_kept depth seen w d x fresh marked =
    with_depth_elsewhere depth w d x (λ same. false≢true (sym fresh ∙ (ap (flag seen) (sym same) ∙ marked)))
