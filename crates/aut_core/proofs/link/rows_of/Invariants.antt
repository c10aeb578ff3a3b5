use Rattle.aut_core.specs.Index.{IsRowStart, IsIndex}
use Rattle.aut_core.proofs.link.rows_of.Given as goal

abbrev pub invariant-states : goal.invariant-states
invariant-states l = record {
  begins : IsRowStart l.links l.state l.start;
  rows : IsIndex l.links l.state l.rows.items;
}
