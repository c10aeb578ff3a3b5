use Rattle.std.proofs.Common.{◌≡◌, ◌+◌, take}
use Rattle.std.specs.List.{sum_by}
use Rattle.fin_removal.specs.Copies.{sets_of, term_copies}
use Rattle.fin_removal.proofs.term_copy.term_copies.Given as goal

abbrev pub invariant-terms : goal.invariant-terms
invariant-terms l = record {
  number : l.number ≡ 1 + l.term-index;
  first : l.first ≡ sum_by sets_of (take l.term-index l.term-items);
  copies : l.copies ≡ term_copies (take l.term-index l.term-items);
}
