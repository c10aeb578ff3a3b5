use Rattle.std.proofs.Common.{◌≡◌, filter, map, take}
use Rattle.aut_ops.specs.inner.Renumbering.{link_closes}
use Rattle.aut_ops.proofs.pruning.closing_sources.Given as goal

abbrev pub invariant-links : goal.invariant-links
invariant-links l = l.sources ≡ map (λ link. link.from) (filter (link_closes l.b l.numbers) (take l.link-index l.b.links))
