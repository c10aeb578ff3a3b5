use Rattle.std.proofs.Common.{◌≡◌, ◌∙◌, ◌&&◌, false, true, nat_eq, sym}
use Rattle.std.specs.Cmp.Lexicographic.{pointwise}
use Rattle.safra_trees.proofs.laws.PackedTrees.{packed_say}
use Rattle.safra_trees.proofs.packed.PackedTreePartialEq.eq.Goals as goal

pub returns-then-same_states : goal.returns-then-same_states
returns-then-same_states c =
    let one = c.args.self.now.lists in
    let other = c.args.other.now.lists in
    let states : true ≡ (pointwise nat_eq one.low other.low && pointwise nat_eq one.rest other.rest) = sym c.if-same_states.true ∙ c.same_states.ensures in
    let shape = pointwise nat_eq one.parents other.parents && pointwise nat_eq one.places other.places in
    c.same_shape.ensures ∙ ((λ i. states i && shape) ∙ packed_say c.args.self.now c.args.other.now)

pub returns-else-same_states : goal.returns-else-same_states
returns-else-same_states c =
    let one = c.args.self.now.lists in
    let other = c.args.other.now.lists in
    let states : false ≡ (pointwise nat_eq one.low other.low && pointwise nat_eq one.rest other.rest) = sym c.if-same_states.false ∙ c.same_states.ensures in
    let shape = pointwise nat_eq one.parents other.parents && pointwise nat_eq one.places other.places in
    c.if-same_states.false ∙ ((λ i. states i && shape) ∙ packed_say c.args.self.now c.args.other.now)
