use Rattle.std.proofs.Common.{◌≡◌, ◌∙◌, ◌+◌, [], ◌∷◌, ◌++◌, List, ap, arith, length, sym, take}
use Rattle.std.specs.List.{sum_by}
use Rattle.std.proofs.lemmas.List.{length-take-le}
use Rattle.std.proofs.lemmas.List.Sums.{sum_by_push}
use Rattle.aut_base.proofs.lists.Lists.{take-push}
use Rattle.fin_removal.specs.Copies.{sets_of, term_copies}
use Rattle.fin_removal.specs.Meeting.{literal_places}
use Rattle.fin_removal.specs.declared.term_copy.TermCopy.{TermCopy}
use Rattle.fin_removal.proofs.TermCopies.{copies_push}
use Rattle.fin_removal.proofs.term_copy.term_copies.Goals as goal

pub terms-preserved : goal.terms-preserved
terms-preserved c =
    let items = c.as_slice-term-items.result.now in
    let i = c.terms.term-index in
    let term = c.term-item.result in
    let so_far = c.terms.invariant in
    let more : take (i + 1) items ≡ take i items ++ term ∷ [] = take-push items i term c.terms-test.true c.term-item.is in
    let sets : c.sets.result ≡ sets_of term = c.sets.ensures ∙ ap literal_places c.in_ok-infs.ensures in
    let number : c.terms.number ≡ 1 + length (take i items) = omega (arith, so_far.number, length-take-le i items (omega (arith, c.terms-test.true))) in
    let first : c.terms.first ≡ 0 + sum_by sets_of (take i items) = omega (arith, so_far.first) in
    record {
      number = omega (arith, so_far.number);
      first = omega (arith, so_far.first, sets, ap (sum_by sets_of) more, sum_by_push sets_of (take i items) term);
      copies = c.in_ok-push.ensures.ok ∙ (ap (λ (cs : List TermCopy).
          cs ++ record { number = c.terms.number; first = c.terms.first; fins = c.in_ok-fins.field-0; infs = c.in_ok-infs.field-0 } ∷ []) so_far.copies
          ∙ ((λ j. term_copies (take i items) ++ record { number = number j; first = first j; fins = c.in_ok-fins.ensures j; infs = c.in_ok-infs.ensures j } ∷ [])
          ∙ sym (ap term_copies more ∙ copies_push 1 0 (take i items) term)));
    }
