use Rattle.std.proofs.Common.{◌<◌, All, AllPairs, take}
use Rattle.aut_core.proofs.link.marks_rise.Given as goal

abbrev pub invariant-links : goal.invariant-links
invariant-links l = All (λ k. AllPairs (λ m n. m < n) k.marks) (take l.link-index l.links)
