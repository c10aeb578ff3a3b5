-- An automaton that was read passes at most one limit of reading.
use Rattle.std.proofs.Common.{◌≡◌, ◌∷◌, true, nat_lt, sym, ap, ◌∙◌, subst}
use Rattle.std.specs.List.{AllByRecursion}
use Rattle.std.proofs.lemmas.Bool.{false≢true}
use Rattle.aut_base.proofs.lists.AllByRecursion.{AllByRecursion-right}
use Rattle.aut_base.specs.declared.limit.Limit.{Limit}
use Rattle.hoa_parser.specs.Raw.{Written}
use Rattle.hoa_reader.proofs.validity.FirstInList.{one_first_in}
use Rattle.hoa_reader.specs.Counts.{Counted, IsCountWithin, PassesNone}
use Rattle.hoa_reader.specs.Elaborating.{PassesLimit}

within_or_over : (c : Counted) → nat_lt c.most c.count ≡ true → IsCountWithin c → ⊥
within_or_over c passes within = false≢true (sym within ∙ passes)

pub no_count : (which : Limit) (w : Written) → PassesLimit which w → PassesNone w → ⊥
no_count which w a h =
    let (valid, c, first, passes, shown) = a in
    let all = subst (AllByRecursion IsCountWithin) first.all h in
    within_or_over c passes (AllByRecursion-right IsCountWithin first.before (c ∷ first.after) all).0

pub one_limit : (x y : Limit) (w : Written) → PassesLimit x w → PassesLimit y w → x ≡ y
one_limit x y w p q =
    let (valid, c, a, over, shown) = p in
    let (valid', d, b, over', shown') = q in
    let same = one_first_in IsCountWithin a.before a.after b.before b.after c d (sym a.all ∙ b.all) a.earlier b.earlier (within_or_over c over) (within_or_over d over') in
    shown ∙ ap (λ (one : Counted). one.which) same ∙ sym shown'
