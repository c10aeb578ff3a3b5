-- Numbers, and tests on them.
use Rattle.std.proofs.Common.{◌≡◌, ◌≢◌, ◌∙◌, ◌==◌, Bool, ap, arith, false, not, sym, true, ℕ}
use Rattle.std.proofs.lemmas.Bool.{eqb-false, eqb-true, false≢true}
use Rattle.std.proofs.lemmas.Bool.Decides.{Decides-eqb, nat_tests}
use Rattle.std.specs.Ordering.{is_eq, nat_cmp}

pub is_eq-nat_cmp : (a b : ℕ) → is_eq (nat_cmp a b) ≡ (a == b)
is_eq-nat_cmp a b = grind (arith, nat_tests)

pub eqb-comm_tests : (a b : ℕ) (s t : Bool) → (a == b) ≡ s → (b == a) ≡ t → (a == b) ≡ (b == a)
eqb-comm_tests a b true true p q = p ∙ sym q
eqb-comm_tests a b true false p q = absurd (eqb-false b a q (sym (eqb-true a b p)))
eqb-comm_tests a b false true p q = absurd (eqb-false a b p (sym (eqb-true b a q)))
eqb-comm_tests a b false false p q = p ∙ sym q

pub other_number : (x y : ℕ) → not (y == x) ≡ true → x ≢ y
other_number x y e same = false≢true (sym (ap not ((Decides-eqb y x).1 (sym same))) ∙ e)
