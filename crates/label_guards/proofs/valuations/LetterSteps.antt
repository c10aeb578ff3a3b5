-- A letter is made of the names whose propositions hold, one after the other.
use Rattle.std.proofs.Common.{◌≡◌, ℕ, zero, suc, ◌+◌, ◌/◌, ◌%◌, ◌<◌, ◌∙◌, Bool, true, false, if◌then◌else◌, nat_eq, List, [], ◌∷◌, ◌++◌, drop, length, get_or, sym, refl, ap, arith, append_assoc}
use Rattle.std.specs.FinSet as set
use Rattle.aut_base.specs.Valuation.{names_on}
use Rattle.aut_base.specs.Word.{NameSet}
use Rattle.aut_base.proofs.words.LetterNames.{insert_pushed}
use Rattle.label_guards.specs.Leasts.{bits_of, IsLetterSoFar}

dropped : (names : List (List ℕ)) (i : ℕ) (name : List ℕ) → i < length names → name ≡ get_or names i name → drop i names ≡ name ∷ drop (i + 1) names
dropped [] i name h e = absurd (omega arith)
dropped (x ∷ names) zero name h e = λ j. sym e j ∷ names
dropped (x ∷ names) (suc i) name h e = let f : suc i + 1 ≡ suc (i + 1) = omega arith in dropped names i name (omega arith) e ∙ ap (λ (k : ℕ). name ∷ drop k (x ∷ names)) (sym f)

abbrev names_after : List (List ℕ) → ℕ → ℕ → List (List ℕ)
names_after names i rest = names_on (drop (i + 1) names) (bits_of (length (drop (i + 1) names)) (rest / 2))

pub midway_step : (names : List (List ℕ)) (number i rest : ℕ) (letter new : NameSet) (name : List ℕ) → IsLetterSoFar names number i rest letter → i < length names → name ≡ get_or names i name
    → new ≡ (if nat_eq (rest % 2) 1 then set.insert letter name else letter) → IsLetterSoFar names number (i + 1) (rest / 2) new
midway_step names number i rest letter new name mid within is e = by_cases (nat_eq (rest % 2) 1) refl
  where
    split : (b : Bool) → nat_eq (rest % 2) 1 ≡ b → names_on names (bits_of (length names) number) ≡ mid.done ++ ((if b then name ∷ [] else []) ++ names_after names i rest)
    split b f = mid.left ∙ (ap (λ l. mid.done ++ names_on l (bits_of (length l) rest)) (dropped names i name within is)
        ∙ ap (λ c. mid.done ++ ((if c then name ∷ [] else []) ++ names_after names i rest)) f)

    by_cases : (b : Bool) → nat_eq (rest % 2) 1 ≡ b → IsLetterSoFar names number (i + 1) (rest / 2) new
    by_cases true f = record {
      done = mid.done ++ name ∷ [];
      so_far = e ∙ (ap (λ c. if c then set.insert letter name else letter) f ∙ (ap (λ l. set.insert l name) mid.so_far ∙ sym (insert_pushed mid.done name)));
      left = split true f ∙ sym (append_assoc mid.done (name ∷ []) (names_after names i rest));
    }
    by_cases false f = record {
      done = mid.done;
      so_far = e ∙ (ap (λ c. if c then set.insert letter name else letter) f ∙ mid.so_far);
      left = split false f;
    }
