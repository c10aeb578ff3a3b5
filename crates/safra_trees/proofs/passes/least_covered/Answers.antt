use Rattle.std.proofs.Common.{◌≡◌, ◌∙◌, ◌&&◌, ℕ, Bool, false, true, ap, not, refl, sym}
use Rattle.safra_trees.proofs.flat_step.Loops.{first_name, names_without}
use Rattle.safra_trees.specs.inner.Passes.{flag}
use Rattle.safra_trees.proofs.passes.least_covered.Goals as goal
use Rattle.safra_trees.proofs.passes.least_covered.Goals.{else-stay-name-via-then-stay-name+else-not-own-name, else-stay-name-via-else-stay-name}

both : (a b : Bool) → a ≡ true → b ≡ false → (a && not b) ≡ true
both a b e f = ap (λ x. x && not b) e ∙ ap not f

not_owned : (a b : Bool) → b ≡ true → (a && not b) ≡ false
not_owned true b e = ap not e
not_owned false b e = refl

not_there : (a b : Bool) → a ≡ false → (a && not b) ≡ false
not_there a b e = ap (λ x. x && not b) e

pub returns-then-not-own-name : goal.returns-then-not-own-name
returns-then-not-own-name c =
    let stay = c.args.stay.now in
    let own = c.args.own.now in
    sym (first_name (λ y. flag stay y && not (flag own y)) _ c.names.name c.names.invariant
    (both (flag stay c.names.name) (flag own c.names.name) c.if-stay-name.true c.if-not-own-name.true) c.names-test.true)

pub names-preserved : goal.names-preserved
names-preserved c =
    let stay = c.args.stay.now in
    let own = c.args.own.now in
    let p : ℕ → Bool = λ y. flag stay y && not (flag own y) in
    elim c.else-stay-name.branch [
      | else-stay-name-via-then-stay-name+else-not-own-name w ↦ names_without p c.names.name (not_owned (flag stay c.names.name) (flag own c.names.name) w.if-not-own-name.false) ∙ c.names.invariant
      | else-stay-name-via-else-stay-name w ↦ names_without p c.names.name (not_there (flag stay c.names.name) (flag own c.names.name) w.if-stay-name.false) ∙ c.names.invariant
    ]
