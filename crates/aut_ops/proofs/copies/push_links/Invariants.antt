use Rattle.std.proofs.Common.{◌≡◌, ◌++◌, take}
use Rattle.aut_ops.proofs.copies.push_links.Given as goal

abbrev pub invariant-links : goal.invariant-links
invariant-links l = l.links ≡ l.fn.links ++ take l.link-index l.more
