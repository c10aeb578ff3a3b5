-- The literals so far are written.
use Rattle.std.proofs.Common.{◌≡◌, ◌++◌, take}
use Rattle.std.specs.List.{flat_map}
use Rattle.std.specs.Prelude.{codes}
use Rattle.aut_base.specs.LabelText.{literal_text}
use Rattle.label_guards.specs.Pieces.{literal_of}
use Rattle.label_guards.proofs.cubes.push_cube.Given as goal

abbrev pub invariant-others : goal.invariant-others
invariant-others l = l.out ≡ l.initial.out ++ flat_map (λ m. codes "&" ++ literal_text (literal_of m)) (take l.other-index l.others)
