-- The numbers of the components, once all nodes are closed.
use Rattle.std.proofs.Common.{◌≡◌, ◌∙◌, ℕ, ◌<◌, List, length, map, get_or, refl, sym, ap, arith}
use Rattle.std.proofs.Math.ListN.{get_or-map}
use Rattle.std.proofs.lemmas.List.{length-map}
use Rattle.graph_walk.specs.Components.{AreComponents}
use Rattle.graph_walk.specs.declared.pass.Mark.{Mark}
use Rattle.graph_walk.specs.declared.pass.Mark.TheVariants.{Fresh, Open, Closed}
use Rattle.graph_walk.specs.declared.pass.Pass.{Pass}
use Rattle.graph_walk.specs.inner.Marks.{node_mark, component_number, IsInComponent, IsClosed}
use Rattle.graph_walk.specs.inner.Pass.{IsIdle}
use Rattle.graph_walk.proofs.MarkLemmas.{mark_within}

module _ (nodes : ℕ) (arcs : List (ℕ × ℕ)) (p : Pass) (numbers : List ℕ) (idle : IsIdle nodes arcs p) (entered : (x : ℕ) → x < nodes → node_mark p.marks.items x ≡ Fresh → ⊥)
    (are : numbers ≡ map component_number p.marks.items) where
  by_mark : (x : ℕ) (m : Mark) → x < nodes → node_mark p.marks.items x ≡ m → IsClosed p.marks.items x
  by_mark x Fresh within is = absurd (entered x within is)
  by_mark x (Open i) within is = let at = idle.keeps.stands x i is in absurd (omega (arith, at.0, ap length idle.no_order))
  by_mark x (Closed n) within is = (n, is)

  closed : (x : ℕ) → x < nodes → IsClosed p.marks.items x
  closed x within = by_mark x (node_mark p.marks.items x) within refl

  number_is : (x n : ℕ) → IsInComponent p.marks.items x n → get_or numbers x 0 ≡ n
  number_is x n is = ap (λ (l : List ℕ). get_or l x 0) are ∙ (get_or-map component_number p.marks.items x Fresh ∙ ap component_number is)

  inside : (x n : ℕ) → IsInComponent p.marks.items x n → x < nodes
  inside x n is = omega (arith, mark_within p.marks.items x (λ fresh. let e = is in cc), idle.size)

  pub are_components : AreComponents nodes arcs numbers
  are_components = record {
    size = ap length are ∙ (length-map p.marks.items component_number ∙ idle.size);
    same = λ x y below_x below_y.
        let m = closed x below_x in
        let n = closed y below_y in
        let both = idle.keeps.closed.same x y m.0 n.0 m.1 n.1 in
        (λ e. both.0 (sym (number_is x m.0 m.1) ∙ (e ∙ number_is y n.0 n.1)), λ r. number_is x m.0 m.1 ∙ (both.1 r ∙ sym (number_is y n.0 n.1)));
    count = p.count;
    below = λ x within. let m = closed x within in rw (number_is x m.0 m.1) (idle.keeps.closed.below x m.0 m.1);
    none_left_out = λ n lt. let found = idle.keeps.closed.all n lt in (found.0, inside found.0 n found.1, number_is found.0 n found.1);
  }
