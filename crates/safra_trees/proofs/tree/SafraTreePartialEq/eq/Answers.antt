use Rattle.std.proofs.Common.{◌≡◌, ◌∙◌, ◌&&◌, true, false, nat_eq, sym}
use Rattle.std.proofs.lemmas.Bool.{both_ways}
use Rattle.std.specs.Cmp.Lexicographic.{pointwise}
use Rattle.safra_trees.proofs.laws.EqualTrees.{fields_say}
use Rattle.safra_trees.proofs.tree.SafraTreePartialEq.eq.Goals as goal
use Rattle.safra_trees.proofs.tree.SafraTreePartialEq.eq.Goals.{then-eq, else-eq}

pub returns-then-eq-2 : goal.returns-then-eq-2
returns-then-eq-2 c =
    let one = c.args.self.now in
    let other = c.args.other.now in
    let places = pointwise nat_eq one.places other.places in
    elim c.if-eq.branch [
      | then-eq w ↦ (
          let first : true ≡ pointwise nat_eq one.parents other.parents = sym w.if-eq.true ∙ c.eq.ensures in
          let second : true ≡ pointwise nat_eq one.states other.states = sym c.if-eq-2.true ∙ (w.value-is ∙ w.eq-then-eq.ensures) in
          c.eq-then-eq-2.ensures ∙ ((λ i. first i && (second i && places)) ∙ fields_say one other)
          )
      | else-eq w ↦ absurd (both_ways c.if-eq.value (w.value-is ∙ w.if-eq.false) c.if-eq-2.true)
    ]

pub returns-else-eq-2 : goal.returns-else-eq-2
returns-else-eq-2 c =
    let one = c.args.self.now in
    let other = c.args.other.now in
    let states = pointwise nat_eq one.states other.states in
    let places = pointwise nat_eq one.places other.places in
    elim c.if-eq.branch [
      | then-eq w ↦ (
          let first : true ≡ pointwise nat_eq one.parents other.parents = sym w.if-eq.true ∙ c.eq.ensures in
          let second : false ≡ states = sym c.if-eq-2.false ∙ (w.value-is ∙ w.eq-then-eq.ensures) in
          c.if-eq-2.false ∙ ((λ i. first i && (second i && places)) ∙ fields_say one other)
          )
      | else-eq w ↦ (
          let first : false ≡ pointwise nat_eq one.parents other.parents = sym w.if-eq.false ∙ c.eq.ensures in
          w.value-is ∙ w.if-eq.false ∙ ((λ i. first i && (states && places)) ∙ fields_say one other)
          )
    ]
