use Rattle.std.proofs.Common.{◌∙◌, ap}
use Rattle.std.specs.Hash as fed
use Rattle.std.specs.List.{fold}
use Rattle.safra_trees.proofs.laws.PackedTrees.{packed_in_turn}
use Rattle.safra_trees.proofs.packed.PackedTreeHash.hash.Goals as goal

pub returns : goal.returns
returns g c =
    let tree = c.args.self.now in
    let begun = c.write.ensures ∙ ap (g.H.Hasher.write c.args.state.now) c.as_bytes.ensures in
    packed_in_turn g.H.Hasher.write tree c.args.state.now c.hash.new.state c.hash-2.new.state c.write-2.new.self
    (c.hash.ensures ∙ ap (λ x. fold g.H.Hasher.write x (fed.slice fed.u16 tree.lists.low)) begun) c.hash-2.ensures
    (c.write-2.ensures ∙ ap (g.H.Hasher.write c.hash-2.new.state) c.as_bytes-2.ensures)
