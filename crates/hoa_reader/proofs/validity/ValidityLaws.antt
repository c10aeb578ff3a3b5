-- An automaton has one answer to the question of its validity.
use Rattle.std.proofs.Common.{◌≡◌, ◌∷◌, ◌∙◌, true, false, subst, sym}
use Rattle.std.proofs.lemmas.Bool.{false≢true}
use Rattle.std.specs.List.{AllByRecursion}
use Rattle.aut_base.proofs.lists.AllByRecursion.{AllByRecursion-right}
use Rattle.hoa_parser.specs.Raw.{Written}
use Rattle.hoa_reader.proofs.validity.FirstInList.{one_first_in}
use Rattle.hoa_reader.specs.Validity.{IsFirstBroken, IsValid, keeps_rule}
use Rattle.hoa_reader.specs.declared.elaborate.Rule.{Rule}

kept_or_broken : (r : Rule) (w : Written) → keeps_rule r w ≡ false → keeps_rule r w ≡ true → ⊥
kept_or_broken r w broken kept = false≢true (sym broken ∙ kept)

pub one_first : (r s : Rule) (w : Written) → IsFirstBroken r w → IsFirstBroken s w → r ≡ s
one_first r s w a b =
    one_first_in (λ rule. keeps_rule rule w ≡ true) a.0.before a.0.after b.0.before b.0.after r s (sym a.0.all ∙ b.0.all) a.0.earlier b.0.earlier (kept_or_broken r w a.1) (kept_or_broken s w b.1)

-- nothing is broken in what is valid
pub none_first : (r : Rule) (w : Written) → IsFirstBroken r w → IsValid w → ⊥
none_first r w a valid =
    let all = subst (AllByRecursion (λ rule. keeps_rule rule w ≡ true)) a.0.all valid in
    kept_or_broken r w a.1 (AllByRecursion-right (λ rule. keeps_rule rule w ≡ true) a.0.before (r ∷ a.0.after) all).0
