-- Valuations with one proposition set, and their numbers.
use Rattle.std.proofs.Common.{◌≡◌, ℕ, zero, suc, ◌+◌, ◌*◌, ◌/◌, ◌%◌, ◌^◌, ◌<◌, ◌≤◌, ◌∙◌, Bool, true, false, if◌then◌else◌, nat_eq, List, [], ◌∷◌, length, refl, sym, ap, arith}
use Rattle.std.proofs.Math.Nat.{div-div-eq-div-mul, pow-suc}
use Rattle.std.proofs.lemmas.Bool.{false≢true}
use Rattle.aut_base.specs.Valuation.{holds_in, number_of}
use Rattle.label_guards.specs.Leasts.{bits_of}

abbrev pub put : List Bool → ℕ → Bool → List Bool
put [] k b = []
put (x ∷ v) zero b = b ∷ v
put (x ∷ v) (suc k) b = x ∷ put v k b

pub length-put : (v : List Bool) (k : ℕ) (b : Bool) → length (put v k b) ≡ length v
length-put [] k b = refl
length-put (x ∷ v) zero b = refl
length-put (x ∷ v) (suc k) b = ap suc (length-put v k b)

pub put-at : (v : List Bool) (k : ℕ) (b : Bool) → k < length v → holds_in (put v k b) k ≡ b
put-at [] k b h = absurd (omega arith)
put-at (x ∷ v) zero b h = refl
put-at (x ∷ v) (suc k) b h = put-at v k b (omega arith)

pub put-other : (v : List Bool) (k : ℕ) (b : Bool) (i : ℕ) → (i ≡ k → ⊥) → holds_in (put v k b) i ≡ holds_in v i
put-other [] k b i h = refl
put-other (x ∷ v) zero b zero h = absurd (h refl)
put-other (x ∷ v) zero b (suc i) h = refl
put-other (x ∷ v) (suc k) b zero h = refl
put-other (x ∷ v) (suc k) b (suc i) h = put-other v k b i (λ e. h (ap suc e))

abbrev bit : Bool → ℕ
bit x = if x then 1 else 0

pub number-put_true : (v : List Bool) (k : ℕ) → k < length v → holds_in v k ≡ false → number_of (put v k true) ≡ number_of v + 2 ^ k
number-put_true [] k h e = absurd (omega arith)
number-put_true (x ∷ v) zero h e = let a : bit x ≡ 0 = ap bit e in omega arith
number-put_true (x ∷ v) (suc k) h e = let a = number-put_true v k (omega arith) e in let b : 2 ^ suc k ≡ 2 ^ k * 2 = pow-suc 2 k in omega arith

pub number-put_false : (v : List Bool) (k : ℕ) → holds_in v k ≡ true → number_of (put v k false) + 2 ^ k ≡ number_of v
number-put_false [] k e = absurd (false≢true e)
number-put_false (x ∷ v) zero e = let a : bit x ≡ 1 = ap bit e in omega arith
number-put_false (x ∷ v) (suc k) e = let a = number-put_false v k e in let b : 2 ^ suc k ≡ 2 ^ k * 2 = pow-suc 2 k in omega arith

bit_small : (x : Bool) → (if x then 1 else 0) ≤ 1
bit_small true = omega arith
bit_small false = omega arith

pub number_bound : (v : List Bool) → number_of v < 2 ^ length v
number_bound [] = omega arith
number_bound (x ∷ v) = let a = number_bound v in let b : 2 ^ suc (length v) ≡ 2 ^ length v * 2 = pow-suc 2 (length v) in let c = bit_small x in omega arith

pub length-bits_of : (n number : ℕ) → length (bits_of n number) ≡ n
length-bits_of zero number = refl
length-bits_of (suc n) number = ap suc (length-bits_of n (number / 2))

-- a valuation is that of its number
pub bits_of-number : (v : List Bool) (n : ℕ) → length v ≡ n → bits_of n (number_of v) ≡ v
bits_of-number [] zero e = refl
bits_of-number [] (suc n) e = absurd (omega arith)
bits_of-number (x ∷ v) zero e = absurd (omega arith)
bits_of-number (x ∷ v) (suc n) e = λ i. first x i ∷ (ap (bits_of n) (half x) ∙ bits_of-number v n (omega arith)) i
  where
    first : (y : Bool) → nat_eq (((if y then 1 else 0) + 2 * number_of v) % 2) 1 ≡ y
    first true = let r : (1 + 2 * number_of v) % 2 ≡ 1 = omega arith in ap (λ m. nat_eq m 1) r
    first false = let r : (0 + 2 * number_of v) % 2 ≡ 0 = omega arith in ap (λ m. nat_eq m 1) r

    half : (y : Bool) → ((if y then 1 else 0) + 2 * number_of v) / 2 ≡ number_of v
    half true = omega arith
    half false = omega arith

-- the truth of a proposition is a bit of the number
pub bits_of-at : (n number i : ℕ) → i < n → nat_eq (number / 2 ^ i % 2) 1 ≡ holds_in (bits_of n number) i
bits_of-at zero number i h = absurd (omega arith)
bits_of-at (suc n) number zero h = let e : number / 2 ^ 0 ≡ number = omega arith in ap (λ m. nat_eq (m % 2) 1) e
bits_of-at (suc n) number (suc i) h =
    let a : 2 ^ suc i ≡ 2 * 2 ^ i = let b : 2 ^ suc i ≡ 2 ^ i * 2 = pow-suc 2 i in omega arith in
    ap (λ m. nat_eq (number / m % 2) 1) a ∙ (ap (λ m. nat_eq (m % 2) 1) (sym (div-div-eq-div-mul number 2 (2 ^ i))) ∙ bits_of-at n (number / 2) i (omega arith))

-- valuations of one number are the same
pub same_valuation : (v w : List Bool) → length v ≡ length w → number_of v ≡ number_of w → v ≡ w
same_valuation v w size e = sym (bits_of-number v (length w) size) ∙ (ap (bits_of (length w)) e ∙ bits_of-number w (length w) refl)
