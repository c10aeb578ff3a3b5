use Rattle.std.proofs.Common.{◌≡◌, map, take, drop, true}
use Rattle.hoa_reader.specs.inner.Growing.{AreAliasesKnown, meanings_by}
use Rattle.hoa_reader.specs.inner.PickedOut.{alias_def, line_names}
use Rattle.hoa_reader.specs.Validity.{uses_earlier}
use Rattle.hoa_reader.proofs.elaborate.aliases.known_aliases.Given as goal

abbrev pub invariant-defs : goal.invariant-defs
invariant-defs l = record {
  place : l.place ≡ l.def-index;
  known : AreAliasesKnown (meanings_by (take l.def-index l.defs)) l.defs l.known;
  earlier : uses_earlier (line_names (map alias_def (take l.def-index l.defs))) (map alias_def (drop l.def-index l.defs)) ≡ true;
}
