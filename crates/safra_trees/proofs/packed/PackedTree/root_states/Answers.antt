use Rattle.std.proofs.Common.{◌≡◌, ◌∙◌, ◌++◌, List, ap, arith, sym, ℕ}
use Rattle.std.proofs.lemmas.List.{take_all}
use Rattle.safra_trees.proofs.laws.PackedTrees.{packed_root}
use Rattle.safra_trees.proofs.packed.PackedTree.root_states.Goals as goal

pub returns : goal.returns
returns c =
    let tree = c.args.self.now in
    let low = c.as_slice-low.result.now in
    let listed : c.states.states.items ≡ tree.lists.low = c.states.invariant ∙ (take_all c.states.state-index low (omega (arith, c.states-test.false)) ∙ c.as_slice-low.ensures) in
    c.from_vec.ensures ∙ (c.in_ok-extend_from_slice.ensures.items ∙ (ap (λ (xs : List ℕ). xs ++ c.as_slice.result.now) listed
    ∙ (ap (λ (xs : List ℕ). tree.lists.low ++ xs) c.as_slice.ensures ∙ sym (packed_root tree))))
