-- The text of a range, by its parts before and after the dots.
use Rattle.std.proofs.Common.{◌≡◌, ◌≢◌, ◌∙◌, ◌<◌, ℕ, List, [], ◌∷◌, ◌++◌, Option, Some, None, arith, codes, get_or, inl, inr, length, refl, subst, suc, sym, zero, ap}
use Rattle.std.specs.Char.{digit_value}
use Rattle.std.specs.Str.Parse.{AllDigits}
use Rattle.filter_plan.specs.Numbers.{IsNumber}
use Rattle.filter_plan.specs.Spans.{IsRange, one, between, from, up_to}
use Rattle.filter_plan.specs.declared.range.Range.{Range}
use Rattle.filter_plan.specs.inner.Bounds.{IsBounds, IsHigh, IsLow}

pub dot_is_no_digit : digit_value 46 < 10 → ⊥
dot_is_no_digit h = omega arith

pub no_dots : (a : List ℕ) → AllDigits 10 a → (i : ℕ) → i < length a → get_or a i 0 ≢ 46
no_dots [] digits i within = absurd (omega arith)
no_dots (c ∷ cs) digits zero within = λ e. dot_is_no_digit (subst (λ x. digit_value x < 10) e digits.0)
no_dots (c ∷ cs) digits (suc i) within = no_dots cs digits.1 i (omega arith)

pub digits_have_no_dot : (a b : List ℕ) → AllDigits 10 (a ++ 46 ∷ b) → ⊥
digits_have_no_dot [] b digits = dot_is_no_digit digits.0
digits_have_no_dot (c ∷ cs) b digits = digits_have_no_dot cs b digits.1

-- the ends make the range
pub range_of_bounds : (text a b : List ℕ) (r : Range) → text ≡ a ++ (codes ".." ++ b) → IsBounds a b r → IsRange text r
range_of_bounds text a b r is bounds = go r.low r.high refl bounds.low bounds.high
  where
    go : (low : ℕ) (high : Option ℕ) → r ≡ record { low = low; high = high } → IsLow a low → IsHigh b high → IsRange text r
    go low None e (inl none) h = absurd (bounds.one none.0 h)
    go low None e (inr number) h = from a low (is ∙ ap (λ x. a ++ (codes ".." ++ x)) h) number e
    go low (Some m) e (inl none) h = up_to b m (is ∙ ap (λ x. x ++ (codes ".." ++ b)) none.0) h (e ∙ ap (λ n. record r { low = n; high = Some m }) none.1)
    go low (Some m) e (inr number) h = between a b low m is number h e

-- the text has no other division into digits, dots and a rest
abbrev pub IsOnlyCut : List ℕ → List ℕ → List ℕ → Type 0
IsOnlyCut text a b = (c d : List ℕ) → AllDigits 10 c → text ≡ c ++ (codes ".." ++ d) → (a ≡ c) × (b ≡ d)

pub bounds_of_range : (text a b : List ℕ) (r : Range) → text ≡ a ++ (codes ".." ++ b) → IsOnlyCut text a b → IsRange text r → IsBounds a b r
bounds_of_range text a b r is only (one n number e) = absurd (digits_have_no_dot a (46 ∷ b) (subst (AllDigits 10) is number.0.1))
bounds_of_range text a b r is only (between c d n m split low high e) =
    let at = only c d low.0.1 split in
    record {
      low = inr (subst (λ t. IsNumber t r.low) (sym at.0) (subst (λ (s : Range). IsNumber c s.low) (sym e) low));
      high = subst (λ (s : Range). IsHigh b s.high) (sym e) (subst (λ t. IsNumber t m) (sym at.1) high);
      one = λ none other. absurd (no_digit c low (sym at.0 ∙ none));
    }
  where
    no_digit : (t : List ℕ) → IsNumber t n → t ≡ [] → ⊥
    no_digit t number empty = omega (arith, number.0.0, ap length empty)
bounds_of_range text a b r is only (from c n split low e) =
    let at = only c [] low.0.1 split in
    record {
      low = inr (subst (λ t. IsNumber t r.low) (sym at.0) (subst (λ (s : Range). IsNumber c s.low) (sym e) low));
      high = subst (λ (s : Range). IsHigh b s.high) (sym e) at.1;
      one = λ none other. absurd (no_digit c low (sym at.0 ∙ none));
    }
  where
    no_digit : (t : List ℕ) → IsNumber t n → t ≡ [] → ⊥
    no_digit t number empty = omega (arith, number.0.0, ap length empty)
bounds_of_range text a b r is only (up_to d m split high e) =
    let at = only [] d tt split in
    record {
      low = inl (at.0, ap (λ (s : Range). s.low) e);
      high = subst (λ (s : Range). IsHigh b s.high) (sym e) (subst (λ t. IsNumber t m) (sym at.1) high);
      one = λ none other. absurd (no_digit d high (sym at.1 ∙ other));
    }
  where
    no_digit : (t : List ℕ) → IsNumber t m → t ≡ [] → ⊥
    no_digit t number empty = omega (arith, number.0.0, ap length empty)

-- a text without dots is one number
pub single_of_range : (text : List ℕ) (r : Range) → ((a b : List ℕ) → AllDigits 10 a → text ≡ a ++ (codes ".." ++ b) → ⊥) → IsRange text r → IsNumber text r.low
single_of_range text r none (one n number e) = subst (λ (s : Range). IsNumber text s.low) (sym e) number
single_of_range text r none (between a b n m split low high e) = absurd (none a b low.0.1 split)
single_of_range text r none (from a n split low e) = absurd (none a [] low.0.1 split)
single_of_range text r none (up_to b m split high e) = absurd (none [] b tt split)

pub range_of_single : (text : List ℕ) (r : Range) → IsNumber text r.low × (r.high ≡ Some r.low) → IsRange text r
range_of_single text r h = one r.low h.0 (ap (λ n. record r { high = n }) h.1)
