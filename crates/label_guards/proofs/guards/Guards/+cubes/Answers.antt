use Rattle.std.proofs.Common.{◌≡◌, ◌∙◌, List, [], ◌∷◌, true, ap, map, subst, sym}
use Rattle.std.proofs.lemmas.Result.{IfOk-weaker}
use Rattle.aut_base.specs.CanonicalLabel.{Literal}
use Rattle.label_guards.specs.Pieces.{WritesCubes, literal_of, place_cubes}
use Rattle.label_guards.proofs.labelled.Pieces.{both_sides, none_written}
use Rattle.label_guards.proofs.labelled.PlaceCubes.{cubes_false, cubes_true, cubes_node}
use Rattle.label_guards.proofs.guards.Guards.+cubes.Goals as goal

pub push_place-returns-then-place-eq0-clause-cubes :
    goal.push_place-returns-then-place-eq0-clause-cubes
push_place-returns-then-place-eq0-clause-cubes t c =
    let literals = map literal_of c.args.cube.now.items in
    let none : place_cubes c.args.self.now c.args.place ≡ [] = ap (place_cubes c.args.self.now) c.if-place-eq0.true ∙ cubes_false c.args.self.now c.reduced.ensures in
    subst (λ (cs : List (List Literal)). WritesCubes literals cs c.args.is_written c.args.is_written c.args.out.now c.args.out.now) (sym none) (none_written literals c.args.is_written c.args.out.now)

pub push_place-returns-then-place-eq1-clause-cubes :
    goal.push_place-returns-then-place-eq1-clause-cubes
push_place-returns-then-place-eq1-clause-cubes t c =
    let literals = map literal_of c.args.cube.now.items in
    let one : place_cubes c.args.self.now c.args.place ≡ [] ∷ [] = ap (place_cubes c.args.self.now) c.if-place-eq1.true ∙ cubes_true c.args.self.now c.reduced.ensures in
    subst (λ (cs : List (List Literal)). WritesCubes literals cs c.args.is_written true c.args.out.now c.push_next.new.out) (sym one)
    (subst (λ (ls : List Literal). WritesCubes ls ([] ∷ []) c.args.is_written true c.args.out.now c.push_next.new.out) (ap (map literal_of) c.deref.ensures.value) c.in_ok-push_next.ensures.cubes)

pub push_place-returns-clause-cubes : goal.push_place-returns-clause-cubes
push_place-returns-clause-cubes t c =
    IfOk-weaker c.push_side-2.result _ _
    (λ now v.
    let same = rw c.in_ok-is_written.ensures.kept at v in
    both_sides (map literal_of c.args.cube.now.items) _ _ _ _ _ c.args.is_written c.in_ok-is_written.is_written now c.args.out.now c.push_side.new.out c.push_side-2.new.out
    (cubes_node c.args.self.now c.reduced.ensures c.args.place c.node_at-node.result c.node_at-node.ensures c.requires) c.in_ok-is_written.ensures.cubes same)
    c.push_side-2.ensures.cubes
