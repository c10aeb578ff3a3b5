use Rattle.std.proofs.Common.{◌≡◌, true, is_some, [], map, take, drop, List, ℕ}
use Rattle.std.specs.List.{list_any}
use Rattle.hoa_reader.specs.inner.PickedOut.{alias_def, line_names}
use Rattle.hoa_reader.specs.inner.Places.{place_in}
use Rattle.aut_base.specs.Text.{same_text}
use Rattle.hoa_reader.specs.Validity.{all_differ, uses_earlier}
use Rattle.hoa_reader.proofs.elaborate.leaves.defined.Given as goal

abbrev pub invariant-defs : goal.invariant-defs
invariant-defs l = record {
  differ : all_differ same_text (line_names (map alias_def (take l.def-index l.defs))) ≡ true;
  earlier : uses_earlier (line_names (map alias_def (take l.def-index l.defs))) (map alias_def (drop l.def-index l.defs)) ≡ uses_earlier [] (map alias_def l.defs);
  names : (q : List ℕ) → is_some (place_in l.names q) ≡ list_any (λ x. same_text x q) (line_names (map alias_def (take l.def-index l.defs)));
}
