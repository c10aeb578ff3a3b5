use Rattle.std.proofs.Common.{◌≡◌, ◌+◌, ◌++◌, map, take}
use Rattle.aut_base.proofs.marks.joint_one_by_one.Given as goal

abbrev pub invariant-others : goal.invariant-others
invariant-others l = l.all ≡ l.marks ++ map (λ mark. mark + l.by) (take l.place l.others)
