use Rattle.std.proofs.Common.{◌≡◌, ℕ, Some, slice_get, ◌&&◌, ◌+◌, Bool, true, false, drop, List, arith, sym, ap, ◌∙◌}
use Rattle.aut_base.proofs.trees.FormulaSizes.{formula_size-at}
use Rattle.aut_base.specs.Formula.{FormulaTree, formula_list, formula_tree, trees}
use Rattle.hoa_reader.specs.Validity.{all_sets_below, sets_below}
use Rattle.hoa_reader.proofs.elaborate.leaves.+sets_below.Goals as goal
use Rattle.aut_base.proofs.lists.Lists.{drop-slice_get}

pub all_sets_below-sets_below-requires : goal.all_sets_below-sets_below-requires
all_sets_below-sets_below-requires t c =
    let small = formula_size-at (formula_list c.args.parts.now) c.places.place (formula_tree c.at.result.now) c.at.ensures in
    (omega (arith, small, c.decreases), tt)

one_left : (n : ℕ) (xs : List FormulaTree) (i : ℕ) (x : FormulaTree) (b : Bool) → slice_get xs i ≡ Some x → b ≡ sets_below n x
    → all_sets_below n (trees (drop i xs)) ≡ (b && all_sets_below n (trees (drop (i + 1) xs)))
one_left n xs i x b is e = ap (λ ts. all_sets_below n (trees ts)) (drop-slice_get xs i x is) ∙ ap (λ y. y && all_sets_below n (trees (drop (i + 1) xs))) (sym e)

pub all_sets_below-returns-then-not-sets_below : goal.all_sets_below-returns-then-not-sets_below
all_sets_below-returns-then-not-sets_below t c =
    let no : c.sets_below.result ≡ false = grind arith in
    sym (sym c.places.invariant ∙ one_left c.args.sets (formula_list c.args.parts.now) c.places.place (formula_tree c.at.result.now) false c.at.ensures (sym no ∙ c.sets_below.ensures))

pub all_sets_below-places-preserved : goal.all_sets_below-places-preserved
all_sets_below-places-preserved t c =
    let yes : c.sets_below.result ≡ true = grind arith in
    sym (one_left c.args.sets (formula_list c.args.parts.now) c.places.place (formula_tree c.at.result.now) true c.at.ensures (sym yes ∙ c.sets_below.ensures)) ∙ c.places.invariant
