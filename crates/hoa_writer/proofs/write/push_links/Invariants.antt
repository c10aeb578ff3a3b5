-- The edges before this one are written.
use Rattle.std.proofs.Common.{◌≡◌, ◌++◌, take}
use Rattle.std.specs.List.{flat_map}
use Rattle.hoa_writer.specs.inner.Lines.{link_line}
use Rattle.hoa_writer.proofs.write.push_links.Given as goal

abbrev pub invariant-links : goal.invariant-links
invariant-links l = l.out ≡ l.initial.out ++ flat_map (link_line l.a.store) (take l.link-index l.links)
