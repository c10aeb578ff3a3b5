use Rattle.std.proofs.Common.{◌≡◌, map, take}
use Rattle.letter_classes.specs.ClassForms.{link_of}
use Rattle.letter_classes.proofs.form.links_of.Given as goal

abbrev pub invariant-edges : goal.invariant-edges
invariant-edges g l = l.links ≡ map (link_of (g.M.Marking.marked l.fn.marking)) (take l.edge-index l.edges)
