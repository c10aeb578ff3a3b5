use Rattle.std.proofs.Common.{◌≡◌, drop}
use Rattle.std.specs.Cmp.Lexicographic.{slice_cmp}
use Rattle.std.specs.FinMap.{find}
use Rattle.std.specs.List.{zip}
use Rattle.std.specs.Ordering.{nat_cmp}
use Rattle.aut_io.proofs.text_store.place_of.Given as goal

-- a search of the rest of the names finds what a search of all of them does
abbrev pub invariant-loop-place : goal.invariant-loop-place
invariant-loop-place l = find (slice_cmp nat_cmp) l.name (zip (drop l.place l.names) (drop l.place l.texts)) ≡ find (slice_cmp nat_cmp) l.name (zip l.names l.texts)
