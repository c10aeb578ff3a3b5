-- The label of a letter is true at that letter alone.
use Rattle.std.proofs.Common.{◌≡◌, ◌∙◌, ◌&&◌, ◌++◌, ◌∷◌, [], ℕ, zero, suc, Bool, true, false, if◌then◌else◌, List, ap, map, not, refl, sym}
use Rattle.std.proofs.lemmas.List.{map-append}
use Rattle.std.specs.Bool.{beq}
use Rattle.aut_base.specs.CanonicalLabel.{all_of}
use Rattle.aut_base.specs.Label.{LabelTree, all_true, trees, truth}
use Rattle.hoa_reader.specs.Described.{below, letter_label, literal}
use Rattle.label_guards.specs.Numbers.{is_at, is_set}

pub with_nothing : (b : Bool) → (b && true) ≡ b
with_nothing true = refl
with_nothing false = refl

together : (a b c : Bool) → (a && (b && c)) ≡ ((a && b) && c)
together true b c = refl
together false b c = refl

pub all_of_truth : (on : ℕ → Bool) (ts : List LabelTree) → truth on (all_of ts) ≡ all_true on (trees ts)
all_of_truth on [] = refl
all_of_truth on (t ∷ []) = sym (with_nothing (truth on t))
all_of_truth on (t ∷ u ∷ ts) = refl

pub all_true_push : (on : ℕ → Bool) (ts : List LabelTree) (t : LabelTree) → all_true on (trees (ts ++ t ∷ [])) ≡ (all_true on (trees ts) && truth on t)
all_true_push on [] t = with_nothing (truth on t)
all_true_push on (u ∷ us) t = ap (λ b. truth on u && b) (all_true_push on us t) ∙ together (truth on u) (all_true on (trees us)) (truth on t)

literal_truth : (on : ℕ → Bool) (number k : ℕ) → truth on (literal number k) ≡ beq (on k) (is_set number k)
literal_truth on number k = by_bit (is_set number k)
  where
    holds : (b : Bool) → b ≡ beq b true
    holds true = refl
    holds false = refl

    fails : (b : Bool) → not b ≡ beq b false
    fails true = refl
    fails false = refl

    by_bit : (b : Bool) → truth on (if b then LabelTree.Prop k else LabelTree.Not (LabelTree.Prop k)) ≡ beq (on k) b
    by_bit true = holds (on k)
    by_bit false = fails (on k)

literals_truth : (on : ℕ → Bool) (number n : ℕ) → all_true on (trees (map (literal number) (below n))) ≡ is_at number n on
literals_truth on number zero = refl
literals_truth on number (suc n) =
    ap (λ ts. all_true on (trees ts)) (map-append (literal number) (below n) (n ∷ []))
    ∙ (all_true_push on (map (literal number) (below n)) (literal number n)
    ∙ (λ i. literals_truth on number n i && literal_truth on number n i))

pub letter_truth : (number n : ℕ) (on : ℕ → Bool) → truth on (letter_label n number) ≡ is_at number n on
letter_truth number n on = all_of_truth on (map (literal number) (below n)) ∙ literals_truth on number n
