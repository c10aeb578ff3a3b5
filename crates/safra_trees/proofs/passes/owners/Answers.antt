use Rattle.std.proofs.Common.{◌≡◌, ◌∙◌, List, ap, arith, cond, ℕ}
use Rattle.safra_trees.proofs.flat_step.OwnerSteps.{grown_lower, homes_more, low_more}
use Rattle.safra_trees.specs.Flat.{at}
use Rattle.safra_trees.specs.inner.Claims.{grown_parent}
use Rattle.safra_trees.specs.inner.Passes.{is_owner}
use Rattle.safra_trees.proofs.passes.owners.Goals as goal

pub names-preserved : goal.names-preserved
names-preserved c =
    let parent = grown_parent c.args.parents.now in
    let owners = c.names.owners.items in
    let k = c.names.name in
    let owner = c.owner_of-owner.result in
    let by : owner ≡ cond (is_owner c.args.own.now parent owners k) k (at owners (parent k)) =
    c.owner_of-owner.ensures.owner ∙ ap (λ (xs : List ℕ). cond (is_owner c.args.own.now parent xs k) k (at xs (parent k))) c.deref.ensures.value in
    record {
      size = omega (arith, c.in_ok-push.ensures.len, c.names.invariant.size);
      low = low_more owners c.push.new.self.items k owner c.names.invariant.size c.in_ok-push.ensures.items c.names.invariant.low c.owner_of-owner.ensures.low;
      owners = homes_more c.args.own.now parent owners c.push.new.self.items k owner c.names.invariant.size c.in_ok-push.ensures.items
          (λ x more less. grown_lower c.args.parents.now c.requires.lower x more (omega (arith, less, c.requires.size, c.names-test.true))) c.names.invariant.owners by;
    }
