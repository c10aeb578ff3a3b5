use Rattle.std.proofs.Common.{◌≡◌, map, take}
use Rattle.aut_core.specs.Links.{StandFor}
use Rattle.label_guards.specs.Store.{Keeps}
use Rattle.ap_project.specs.inner.HiddenGuards.{AreHidden, hidden_link}
use Rattle.ap_project.proofs.removal.add_hidden.Given as goal

abbrev pub invariant-links : goal.invariant-links
invariant-links l = record {
  given : Keeps l.a.store l.given;
  names : l.guards.names ≡ l.fn.guards.names;
  done : AreHidden l.given l.guards l.hiding.how l.hiding.prop l.hiding.to l.done.entries;
  links : StandFor l.guards l.links (map (hidden_link l.hiding.how l.hiding.prop l.a) (take l.link-index l.a.links));
}
