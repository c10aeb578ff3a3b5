-- Flags that are set exactly where a property holds are unique, and so are trimmed and pruned automata.
use Rattle.std.proofs.Common.{◌≡◌, ◌∙◌, ◌↔◌, ◌<◌, ℕ, zero, suc, Bool, true, false, IsTrue, List, [], ◌∷◌, ap, arith, length, refl, sym}
use Rattle.aut_ops.specs.Laws.{PrunedIsDetermined, TrimmedIsDetermined}
use Rattle.aut_ops.specs.Satisfiable.{between, is_flagged}
use Rattle.aut_ops.specs.Trimming.{renumbered}

same_flag : (p q : Bool) → (IsTrue p → IsTrue q) → (IsTrue q → IsTrue p) → p ≡ q
same_flag true q f g = sym (f refl)
same_flag false true f g = g refl
same_flag false false f g = refl

-- lists with the same flags
pub same_flags : (n : ℕ) (first second : List Bool) → length first ≡ n → length second ≡ n → ((q : ℕ) → q < n → is_flagged first q ≡ is_flagged second q) → first ≡ second
same_flags n [] [] long too same = refl
same_flags n [] (g ∷ second) long too same = absurd (omega (arith, long, too))
same_flags n (f ∷ first) [] long too same = absurd (omega (arith, long, too))
same_flags zero (f ∷ first) (g ∷ second) long too same = absurd (omega (arith, long))
same_flags (suc n) (f ∷ first) (g ∷ second) long too same =
    ap (λ b. b ∷ first) (same 0 (omega arith)) ∙ ap (λ fs. g ∷ fs) (same_flags n first second (omega (arith, long)) (omega (arith, too)) (λ q less. same (suc q) (omega (arith, less))))

-- lists of flags that are set exactly where the same property holds
pub exact_flags : (n : ℕ) (Is : ℕ → Type 0) (first second : List Bool) → length first ≡ n → length second ≡ n → ((q : ℕ) → q < n → IsTrue (is_flagged first q) ↔ Is q)
    → ((q : ℕ) → q < n → IsTrue (is_flagged second q) ↔ Is q) → first ≡ second
exact_flags n Is first second long too one other =
    same_flags n first second long too (λ q less. same_flag (is_flagged first q) (is_flagged second q) (λ flag. (other q less).1 ((one q less).0 flag))
    (λ flag. (one q less).1 ((other q less).0 flag)))

pub trimmed_is_determined : TrimmedIsDetermined
trimmed_is_determined a made other is also =
    let flags = exact_flags a.states _ is.flags also.flags is.reached.size also.reached.size is.reached.exact also.reached.exact in
    is.is ∙ (ap (λ fs. renumbered fs (between fs a)) flags ∙ sym also.is)

pub pruned_is_determined : PrunedIsDetermined
pruned_is_determined a made other is also =
    let flags = exact_flags a.states _ is.flags also.flags is.useful.size also.useful.size is.useful.exact also.useful.exact in
    is.is ∙ (ap (λ fs. between fs a) flags ∙ sym also.is)
