-- The marks so far are written.
use Rattle.std.proofs.Common.{◌≡◌, ◌-◌, ◌++◌, drop, take}
use Rattle.std.specs.List.{flat_map}
use Rattle.std.specs.Prelude.{codes}
use Rattle.std.specs.Fmt.{decimal}
use Rattle.hoa_writer.proofs.parts.push_marks.Given as goal

abbrev pub invariant-others : goal.invariant-others
invariant-others l = l.out ≡ l.initial.out ++ flat_map (λ m. codes " " ++ decimal m) (take (l.place - 1) (drop 1 l.marks))
