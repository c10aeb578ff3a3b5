use Rattle.std.proofs.Common.{◌+◌, ◌^◌, ◌<◌, All, List, subst, sym, arith}
use Rattle.std.proofs.lemmas.List.Elements.{All-weaker}
use Rattle.fin_removal.specs.Meeting.{literal_places}
use Rattle.fin_removal.specs.declared.term_copy.TermCopy.{TermCopy}
use Rattle.fin_removal.specs.inner.Links.{IsCopyInRange}
use Rattle.fin_removal.proofs.TermCopies.{are_numbered}
use Rattle.fin_removal.proofs.term_copy.owned_sets.Goals as goal

pub sets_owned-requires : goal.sets_owned-requires
sets_owned-requires c =
    let numbered = are_numbered 0 c.args.terms.now (omega arith) c.requires.sets in
    subst (λ (cs : List TermCopy). All (λ copy. copy.first + literal_places copy.infs < 2 ^ 32) cs) (sym c.in_ok-copies.ensures)
    (All-weaker (IsCopyInRange 0) (λ copy. copy.first + literal_places copy.infs < 2 ^ 32) (λ copy h. h.sets) _ numbered)
