-- A table of results with one more, or under a larger store.
use Rattle.std.proofs.Common.{◌≡◌, ℕ, ◌∙◌, Bool, true, false, cond, nat_eq, Some, List, sym, refl, ap, subst}
use Rattle.std.specs.Map.{lookup}
use Rattle.std.proofs.lemmas.Option.{same_Some}
use Rattle.std.proofs.lemmas.Bool.{eqb-true}
use Rattle.label_guards.specs.Tables.{IsResultInserted, AreDone}

pub done_put : {V : Type 0} (IsRight : ℕ → V → Type 0) (old new : List (ℕ × V)) (place : ℕ) (found : V) → IsResultInserted old new place found → AreDone IsRight old → IsRight place found
    → AreDone IsRight new
done_put {V} IsRight old new place found put are right = λ p q h. by_cases p q (nat_eq place p) refl (sym (put p) ∙ h)
  where
    by_cases : (p : ℕ) (q : V) (b : Bool) → nat_eq place p ≡ b → cond (nat_eq place p) (Some found) (lookup (nat_eq p) old) ≡ Some q → IsRight p q
    by_cases p q false e h = are p q (sym (ap (λ c. cond c (Some found) (lookup (nat_eq p) old)) e) ∙ h)
    by_cases p q true e h =
        let same : found ≡ q = same_Some found q (sym (ap (λ c. cond c (Some found) (lookup (nat_eq p) old)) e) ∙ h) in
        subst (λ (x : ℕ). IsRight x q) (eqb-true place p e) (subst (IsRight place) same right)

pub done_under : {V : Type 0} {IsRight IsStill : ℕ → V → Type 0} (entries : List (ℕ × V)) → ((p : ℕ) (q : V) → IsRight p q → IsStill p q) → AreDone IsRight entries → AreDone IsStill entries
done_under entries under are = λ p q h. under p q (are p q h)
