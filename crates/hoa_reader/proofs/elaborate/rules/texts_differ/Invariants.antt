use Rattle.std.proofs.Common.{◌≡◌, true, is_some, take, List, ℕ}
use Rattle.std.specs.List.{list_any}
use Rattle.aut_base.specs.Text.{same_text}
use Rattle.hoa_reader.specs.Validity.{all_differ}
use Rattle.hoa_reader.specs.inner.Places.{place_in}
use Rattle.hoa_reader.proofs.elaborate.rules.texts_differ.Given as goal

abbrev pub invariant-texts : goal.invariant-texts
invariant-texts l = record {
  differ : all_differ same_text (take l.text-index l.texts) ≡ true;
  seen : (q : List ℕ) → is_some (place_in l.seen q) ≡ list_any (λ x. same_text x q) (take l.text-index l.texts);
}
