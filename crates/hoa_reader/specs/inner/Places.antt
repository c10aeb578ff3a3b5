-- Texts, with what is known of each.
use Rattle.std.specs.Prelude.{ℕ, List, Option}
use Rattle.std.specs.BTreeMap as tree
use Rattle.std.specs.Cmp.Lexicographic.{slice_cmp}
use Rattle.std.specs.Ordering.{nat_cmp}
pub use Rattle.hoa_reader.specs.Validity.{is_listed}
use Rattle.hoa_reader.specs.declared.elaborate.places.Places.{Places}

-- what is known of the text, if it is there
abbrev pub place_in : {V : Type 0} → Places V → List ℕ → Option V
place_in p text = tree.get_by (λ k. slice_cmp nat_cmp text k.now) p.places
