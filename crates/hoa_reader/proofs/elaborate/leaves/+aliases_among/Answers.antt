-- Each answer follows from the layer of the tree that it is about. Said here, it is found in a quarter of the time.
use Rattle.std.proofs.Common.{ℕ, List, arith, is_some, sym, true}
use Rattle.hoa_parser.proofs.grammar.RawTrees.{raw_tree_rules}
use Rattle.hoa_reader.proofs.labels.CubeShapes.{cube_leaves, cube_said}
use Rattle.hoa_reader.specs.Validity.{leaves_pass}
use Rattle.hoa_reader.specs.inner.Places.{place_in}
use Rattle.hoa_reader.proofs.elaborate.leaves.+aliases_among.Goals as goal

pub aliases_among-returns-in-True : goal.aliases_among-returns-in-True
aliases_among-returns-in-True t c = grind (arith, raw_tree_rules)

pub aliases_among-returns-in-False : goal.aliases_among-returns-in-False
aliases_among-returns-in-False t c = grind (arith, raw_tree_rules)

pub aliases_among-returns-in-Prop : goal.aliases_among-returns-in-Prop
aliases_among-returns-in-Prop t c = grind (arith, raw_tree_rules)

pub aliases_among-returns-in-Alias : goal.aliases_among-returns-in-Alias
aliases_among-returns-in-Alias t c = grind (arith, raw_tree_rules)

pub aliases_among-returns-in-Not : goal.aliases_among-returns-in-Not
aliases_among-returns-in-Not t c = grind (arith, raw_tree_rules)

pub aliases_among-returns-then-aliases_among-2 : goal.aliases_among-returns-then-aliases_among-2
aliases_among-returns-then-aliases_among-2 t c = grind (arith, raw_tree_rules)

pub aliases_among-returns-else-aliases_among-2 : goal.aliases_among-returns-else-aliases_among-2
aliases_among-returns-else-aliases_among-2 t c = grind (arith, raw_tree_rules)

pub aliases_among-returns-else-aliases_among : goal.aliases_among-returns-else-aliases_among
aliases_among-returns-else-aliases_among t c = grind (arith, raw_tree_rules)

pub aliases_among-returns-then-aliases_among-4 : goal.aliases_among-returns-then-aliases_among-4
aliases_among-returns-then-aliases_among-4 t c = grind (arith, raw_tree_rules)

pub aliases_among-returns-else-aliases_among-4 : goal.aliases_among-returns-else-aliases_among-4
aliases_among-returns-else-aliases_among-4 t c = grind (arith, raw_tree_rules)

pub aliases_among-returns-else-aliases_among-3 : goal.aliases_among-returns-else-aliases_among-3
aliases_among-returns-else-aliases_among-3 t c = grind (arith, raw_tree_rules)

pub aliases_among-returns-in-Cube : goal.aliases_among-returns-in-Cube
aliases_among-returns-in-Cube t c =
    cube_said (leaves_pass (λ i. true) (λ (name : List ℕ). is_some (place_in c.args.names.now name))) c.args.label.now _ _ _ c.in-Cube.is
    (sym (cube_leaves (λ (name : List ℕ). is_some (place_in c.args.names.now name)) _ _))
