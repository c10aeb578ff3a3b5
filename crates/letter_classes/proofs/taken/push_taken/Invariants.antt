use Rattle.std.proofs.Common.{◌≡◌, ◌++◌, take}
use Rattle.letter_classes.proofs.ReadEdges.{of_links}
use Rattle.letter_classes.specs.Taken.{reads_at}
use Rattle.letter_classes.proofs.taken.push_taken.Given as goal

abbrev pub invariant-links : goal.invariant-links
invariant-links g l = l.found ≡ l.fn.found ++ of_links g.T.Taking.taken (reads_at l.fn.a l.fn.number) l.fn.a (take l.link-index l.link-items)
