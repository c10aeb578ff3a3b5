-- The numbers of the bits that are set in a word: they increase, and a number is among them exactly where its bit is set.
use Rattle.std.proofs.Common.{◌≡◌, ◌∙◌, ◌↔◌, ℕ, zero, suc, ◌+◌, ◌-◌, ◌*◌, ◌/◌, ◌%◌, ◌^◌, ◌==◌, ◌<◌, ◌≤◌, Bool, true, false, cond, IsTrue, List, [], ◌∷◌, ◌++◌, All, AllPairs, Contains, Some}
use Rattle.std.proofs.Common.{ap, arith, bit_and, bit_or, filter, get_or, inl, inr, length, map, nat_eq, refl, slice_get, subst, sym}
use Rattle.std.proofs.lemmas.Bool.{cases_eq, cases_lt, eq-eqb, eqb-true, false≢true, ne_eqb}
use Rattle.std.proofs.lemmas.List.{append-nil, length-append, map-id, nil_from_length}
use Rattle.std.proofs.lemmas.List.Elements.{All-contains, Contains-append_cases, Contains-append_left, Contains-append_right, filter-append}
use Rattle.std.proofs.lemmas.List.FromFn.{map-range_with_len_more}
use Rattle.std.proofs.lemmas.Nat.{mod-pow-add, mod_below, ones_cat, or_shifted, pow_below, pow_pos, shl_whole, shr-shr, shr_split, zero_from_ones}
use Rattle.std.proofs.lemmas.Nat.Bits.{bit_at-lt, bit_at-zero, bit_at_above, bit_at_cat_high, bit_at_cat_low, ones_shr, same_from_bits, shr_and_one}
use Rattle.std.specs.Int.{bit_at}
use Rattle.std.specs.Int.Count.{ones}
use Rattle.std.specs.List.{range_with_len}
use Rattle.aut_base.proofs.lists.Lists.{slice_get-push_last, slice_get-push_left}
use Rattle.aut_base.proofs.lists.Members.{any_found, any_from, each_there, from_filter, from_map, from_range, there_filter, there_map, there_range_zero}
use Rattle.aut_base.proofs.numbers.Truth.{same_truth}
use Rattle.aut_base.proofs.order.AllPairsOf.{pairs_append, pairs_map}
use Rattle.aut_base.proofs.order.Rising.{increases_kept, increases_range, increasing}
use Rattle.aut_base.proofs.order.RisingLists.{same_rising}
use Rattle.aut_base.specs.HeldMarks.{bits_below, held_marks}
use Rattle.aut_base.specs.Marks.{is_in}
use Rattle.aut_base.specs.declared.marks.HeldMarks.{HeldMarks}
use Rattle.aut_base.specs.declared.marks.HeldMarks.TheVariants as stored

-- one number more
range_more : (n : ℕ) → range_with_len 0 (n + 1) ≡ range_with_len 0 n ++ n ∷ []
range_more n = sym (map-id (range_with_len 0 (n + 1))) ∙ map-range_with_len_more (λ x. x) 0 n n (omega arith) ∙ ap (λ xs. xs ++ n ∷ []) (map-id (range_with_len 0 n))

bits_more : (w n : ℕ) → bits_below (n + 1) w ≡ bits_below n w ++ cond (bit_at w n == 1) (n ∷ []) []
unfolding bits_below
bits_more w n = ap (filter (λ k. bit_at w k == 1)) (range_more n) ∙ filter-append (λ k. bit_at w k == 1) (range_with_len 0 n) (n ∷ [])

pub bits_set : (w n : ℕ) → bit_at w n ≡ 1 → bits_below (n + 1) w ≡ bits_below n w ++ n ∷ []
bits_set w n is = bits_more w n ∙ ap (λ b. bits_below n w ++ cond b (n ∷ []) []) (eq-eqb (bit_at w n) 1 is)

pub bits_unset : (w n : ℕ) → (bit_at w n ≡ 1 → ⊥) → bits_below (n + 1) w ≡ bits_below n w
bits_unset w n not = bits_more w n ∙ (ap (λ b. bits_below n w ++ cond b (n ∷ []) []) (ne_eqb (bit_at w n) 1 not) ∙ append-nil (bits_below n w))

pub bits_none : (w : ℕ) → bits_below 0 w ≡ []
unfolding bits_below
bits_none w = refl

-- which numbers are among them
pub bit_there : (w n q : ℕ) → q < n → bit_at w q ≡ 1 → Contains (bits_below n w) q
unfolding bits_below
bit_there w n q less set = there_filter (λ k. bit_at w k == 1) (range_with_len 0 n) q (there_range_zero n q less) (eq-eqb (bit_at w q) 1 set)

pub from_bits : (w n q : ℕ) → Contains (bits_below n w) q → (q < n) × (bit_at w q ≡ 1)
unfolding bits_below
from_bits w n q there =
    let kept = from_filter (λ k. bit_at w k == 1) (range_with_len 0 n) q there in
    (omega (arith, (from_range 0 n q kept.0).1), eqb-true (bit_at w q) 1 kept.1)

pub bits_rise : (w n : ℕ) → AllPairs (λ a b. a < b) (bits_below n w)
unfolding bits_below
bits_rise w n = increasing 0 (filter (λ k. bit_at w k == 1) (range_with_len 0 n)) (increases_kept (λ k. bit_at w k == 1) 0 (range_with_len 0 n) (increases_range 0 n))

-- how many they are
ones_of_bit : (b : ℕ) → b < 2 → ones b ≡ length (cond (b == 1) (b ∷ []) [])
unfolding ones
ones_of_bit zero less = refl
ones_of_bit (suc zero) less = refl
ones_of_bit (suc (suc b)) less = absurd (omega (arith, less))

same_length : (b : Bool) (m n : ℕ) → length (cond b (m ∷ []) []) ≡ length (cond b (n ∷ []) [])
same_length true m n = refl
same_length false m n = refl

count_more : (w n : ℕ) → length (bits_below n w) ≡ ones (w % 2 ^ n) → length (bits_below (n + 1) w) ≡ ones (w % 2 ^ (n + 1))
count_more w n so_far =
    let last = bit_at w n in
    let own : length (cond (last == 1) (n ∷ []) []) ≡ ones last = same_length (last == 1) n last ∙ sym (ones_of_bit last (bit_at-lt w n)) in
    let parts : ones (last * 2 ^ n + w % 2 ^ n) ≡ ones last + ones (w % 2 ^ n) = ones_cat n last (w % 2 ^ n) (mod_below w (2 ^ n) (pow_pos n)) in
    let whole : w % 2 ^ (1 + n) ≡ last * 2 ^ n + w % 2 ^ n = mod-pow-add w 1 n in
    let turned : n + 1 ≡ 1 + n = omega arith in
    let long : length (bits_below (n + 1) w) ≡ length (bits_below n w) + length (cond (last == 1) (n ∷ []) []) =
    ap length (bits_more w n) ∙ length-append (bits_below n w) (cond (last == 1) (n ∷ []) []) in
    let sum : length (bits_below n w) + length (cond (last == 1) (n ∷ []) []) ≡ ones last + ones (w % 2 ^ n) = omega (arith, own, so_far) in
    long ∙ (sum ∙ (sym parts ∙ (ap ones (sym whole) ∙ ap (λ k. ones (w % 2 ^ k)) (sym turned))))

count_below : (w n : ℕ) → length (bits_below n w) ≡ ones (w % 2 ^ n)
unfolding ones
count_below w zero = let none : w % 2 ^ 0 ≡ 0 = omega arith in ap length (bits_none w) ∙ ap ones (sym none)
count_below w (suc n) =
    let next : suc n ≡ n + 1 = omega arith in
    subst (λ k. length (bits_below k w) ≡ ones (w % 2 ^ k)) (sym next) (count_more w n (count_below w n))

pub count_bits : (w : ℕ) → w < 2 ^ 64 → ones w ≡ length (bits_below 64 w)
count_bits w small = let whole : w % 2 ^ 64 ≡ w = omega (arith, small) in sym (count_below w 64 ∙ ap ones whole)

pub no_bits : bits_below 64 0 ≡ []
unfolding ones
no_bits = nil_from_length (bits_below 64 0) (sym (count_bits 0 (omega arith)))

pub is_none : (w : ℕ) → w < 2 ^ 64 → nat_eq w 0 ≡ (length (bits_below 64 w) == 0)
is_none w small = same_truth (nat_eq w 0) (length (bits_below 64 w) == 0)
    (λ e. (let none : length (bits_below 64 w) ≡ 0 = ap (λ v. length (bits_below 64 v)) (eqb-true w 0 e) ∙ ap length no_bits in eq-eqb (length (bits_below 64 w)) 0 none))
    (λ e. eq-eqb w 0 (zero_from_ones w (count_bits w small ∙ eqb-true (length (bits_below 64 w)) 0 e)))

-- the test of one
pub has_bit : (w set : ℕ) → set < 64 → nat_eq (bit_and (w / 2 ^ set) 1) 1 ≡ is_in set (bits_below 64 w)
has_bit w set less = same_truth (nat_eq (bit_and (w / 2 ^ set) 1) 1) (is_in set (bits_below 64 w))
    (λ e. any_from (λ mark. mark == set) (bits_below 64 w) set
    (bit_there w 64 set less (sym (shr_and_one w set) ∙ eqb-true (bit_and (w / 2 ^ set) 1) 1 e)) (eq-eqb set set refl))
    (λ e. (
    let found = any_found (λ mark. mark == set) (bits_below 64 w) e in
    let there = from_bits w 64 found.0 found.1 in
    let same : found.0 ≡ set = eqb-true found.0 set found.2 in
    eq-eqb (bit_and (w / 2 ^ set) 1) 1 (shr_and_one w set ∙ (ap (bit_at w) (sym same) ∙ there.1))
    ))

pub has_no_bit : (w set : ℕ) (b : Bool) → b ≡ false → 64 ≤ set → b ≡ is_in set (bits_below 64 w)
has_no_bit w set b is past = is ∙ same_truth false (is_in set (bits_below 64 w))
    (λ e. absurd (false≢true e))
    (λ e. (
    let found = any_found (λ mark. mark == set) (bits_below 64 w) e in
    let there = from_bits w 64 found.0 found.1 in
    let same : found.0 ≡ set = eqb-true found.0 set found.2 in
    absurd (omega (arith, there.0, same, past))
    ))

-- all are below a number
pub bits_below_from : (w n k : ℕ) → w < 2 ^ k → All (λ mark. mark < k) (bits_below n w)
bits_below_from w n k small = each_there (λ mark. mark < k) (bits_below n w)
    (λ q there. elim (cases_lt q k) [
      | inl less ↦ less
      | inr from ↦ absurd (omega (arith, (from_bits w n q there).1, bit_at_above w k q small from))
    ])

high_bit : (w k i : ℕ) → w < 2 ^ 64 → All (λ mark. mark < k) (bits_below 64 w) → k ≤ i → bit_at w i ≡ 0
high_bit w k i small all from = elim (cases_lt i 64) [
  | inr past ↦ bit_at_above w 64 i small past
  | inl less ↦ (elim (cases_eq (bit_at w i) 1) [
    | inl set ↦ absurd (omega (arith, from, All-contains (λ mark. mark < k) (bits_below 64 w) i all (bit_there w 64 i less set)))
    | inr not ↦ (let low = bit_at-lt w i in omega (arith, low, not))
  ])
]

shifted_out : (w k : ℕ) → w < 2 ^ 64 → All (λ mark. mark < k) (bits_below 64 w) → w / 2 ^ k ≡ 0
shifted_out w k small all = same_from_bits (w / 2 ^ k) 0
    (λ i. ap (λ n. n % 2) (shr-shr w k i) ∙ (high_bit w k (k + i) small all (omega arith) ∙ sym (bit_at-zero i)))

small_from : (w k : ℕ) → w / 2 ^ k ≡ 0 → w < 2 ^ k
small_from w k none =
    let split : w / 2 ^ k * 2 ^ k + w % 2 ^ k ≡ w = shr_split w k in
    let high : w / 2 ^ k * 2 ^ k ≡ 0 * 2 ^ k = ap (λ n. n * 2 ^ k) none in
    let nothing : 0 * 2 ^ k ≡ 0 = omega arith in
    let low : w % 2 ^ k < 2 ^ k = mod_below w (2 ^ k) (pow_pos k) in
    omega (arith, split, high, nothing, low)

pub small_word : (w k : ℕ) → w < 2 ^ 64 → All (λ mark. mark < k) (bits_below 64 w) → w < 2 ^ k
small_word w k small all = small_from w k (shifted_out w k small all)

pub are_bits_below : (w k : ℕ) → w < 2 ^ 64 → IsTrue (nat_eq (w / 2 ^ k) 0) ↔ All (λ mark. mark < k) (bits_below 64 w)
are_bits_below w k small = (
  λ e. bits_below_from w 64 k (small_from w k (eqb-true (w / 2 ^ k) 0 e)),
  λ all. eq-eqb (w / 2 ^ k) 0 (shifted_out w k small all),
)

pub below_all : (w k : ℕ) → 64 ≤ k → All (λ mark. mark < k) (bits_below 64 w)
below_all w k past = each_there (λ mark. mark < k) (bits_below 64 w) (λ q there. omega (arith, (from_bits w 64 q there).0, past))

-- the bits of two words in one

joint_rise : (xs ys : List ℕ) (k : ℕ) → AllPairs (λ a b. a < b) xs → AllPairs (λ a b. a < b) ys → All (λ mark. mark < k) xs → AllPairs (λ a b. a < b) (xs ++ map (λ mark. mark + k) ys)
joint_rise xs ys k first second low = pairs_append (λ a b. a < b) xs (map (λ mark. mark + k) ys) first
    (pairs_map (λ a b. a < b) (λ mark. mark + k) ys (λ i j d less within. omega (arith, second i j d less within)))
    (λ i d within. each_there (λ y. get_or xs i d < y) (map (λ mark. mark + k) ys) (λ y there. (
    let source = from_map (λ mark. mark + k) ys y there in
    omega (arith, low i d within, source.2)
    )))

pub joint_bits : (a b k : ℕ) → a < 2 ^ k → b < 2 ^ (64 - k) → k ≤ 64 → bits_below 64 (b * 2 ^ k + a) ≡ bits_below 64 a ++ map (λ mark. mark + k) (bits_below 64 b)
joint_bits a b k small fits within = same_rising (bits_below 64 (b * 2 ^ k + a)) (bits_below 64 a ++ map (λ mark. mark + k) (bits_below 64 b))
    (bits_rise (b * 2 ^ k + a) 64)
    (joint_rise (bits_below 64 a) (bits_below 64 b) k (bits_rise a 64) (bits_rise b 64) (bits_below_from a 64 k small))
    apart together
  where
    apart : (q : ℕ) → Contains (bits_below 64 (b * 2 ^ k + a)) q → Contains (bits_below 64 a ++ map (λ mark. mark + k) (bits_below 64 b)) q
    apart q there = let bit = from_bits (b * 2 ^ k + a) 64 q there in elim (cases_lt q k) [
      | inl less ↦ Contains-append_left (bits_below 64 a) (map (λ mark. mark + k) (bits_below 64 b)) q
          (bit_there a 64 q bit.0 (sym (bit_at_cat_low b k a q less) ∙ bit.1))
      | inr from ↦
          let back : q - k + k ≡ q = omega (arith, from) in
          Contains-append_right (bits_below 64 a) (map (λ mark. mark + k) (bits_below 64 b)) q
          (subst (Contains (map (λ mark. mark + k) (bits_below 64 b))) back
          (there_map (λ mark. mark + k) (bits_below 64 b) (q - k) (bit_there b 64 (q - k) (omega (arith, bit.0)) (sym (bit_at_cat_high b k a q small from) ∙ bit.1))))
    ]

    together : (q : ℕ) → Contains (bits_below 64 a ++ map (λ mark. mark + k) (bits_below 64 b)) q → Contains (bits_below 64 (b * 2 ^ k + a)) q
    together q there = elim (Contains-append_cases (bits_below 64 a) (map (λ mark. mark + k) (bits_below 64 b)) q there) [
      | inl first ↦
          let bit = from_bits a 64 q first in
          let less : q < k = All-contains (λ mark. mark < k) (bits_below 64 a) q (bits_below_from a 64 k small) first in
          bit_there (b * 2 ^ k + a) 64 q bit.0 (bit_at_cat_low b k a q less ∙ bit.1)
      | inr second ↦
          let source = from_map (λ mark. mark + k) (bits_below 64 b) q second in
          let bit = from_bits b 64 source.0 source.1 in
          let less : source.0 < 64 - k = All-contains (λ mark. mark < 64 - k) (bits_below 64 b) source.0 (bits_below_from b 64 (64 - k) fits) source.1 in
          let from : k ≤ q = omega (arith, source.2) in
          let at : q - k ≡ source.0 = omega (arith, source.2) in
          bit_there (b * 2 ^ k + a) 64 q (omega (arith, less, source.2)) (bit_at_cat_high b k a q small from ∙ (ap (bit_at b) at ∙ bit.1))
    ]

-- as the code computes it
pub joint_word_is : (a b k : ℕ) → a < 2 ^ k → k < 64 → b ≤ (2 ^ 64 - 1) / 2 ^ k → bits_below 64 (bit_or (b * 2 ^ k % 2 ^ 64) a) ≡ bits_below 64 a ++ map (λ mark. mark + k) (bits_below 64 b)
joint_word_is a b k small less fits =
    let most : (2 ^ 64 - 1) / 2 ^ k ≡ 2 ^ (64 - k) - 1 = ones_shr 64 k (omega (arith, less)) in
    let some : 0 < 2 ^ (64 - k) = pow_pos (64 - k) in
    let high : b < 2 ^ (64 - k) = omega (arith, fits, most, some) in
    let whole : b * 2 ^ k % 2 ^ 64 ≡ b * 2 ^ k = shl_whole b (64 - k) k 64 high (omega (arith, less)) in
    ap (λ n. bits_below 64 (bit_or n a)) whole ∙ (ap (bits_below 64) (or_shifted b k a small) ∙ joint_bits a b k small high (omega (arith, less)))

one_bit : bits_below 64 1 ≡ 0 ∷ []
one_bit = same_rising (bits_below 64 1) (0 ∷ []) (bits_rise 1 64) (λ i j d less within. absurd (omega (arith, less, within)))
    (λ q there. elim (cases_eq q 0) [
      | inl is ↦ (zero, omega arith, sym is)
      | inr other ↦ absurd (omega (arith, (from_bits 1 64 q there).1, bit_at_above 1 1 q (omega arith) (omega (arith, other))))
    ])
    (λ q there. (let is : q ≡ 0 = only q there in bit_there 1 64 q (omega (arith, is)) (ap (bit_at 1) is)))
  where
    only : (q : ℕ) → Contains (0 ∷ []) q → q ≡ 0
    only q (zero, within, is) = sym is
    only q (suc k, within, is) = absurd (omega (arith, within))

pub pushed_bit : (w k : ℕ) → w < 2 ^ k → k < 64 → bits_below 64 (bit_or (1 * 2 ^ k % 2 ^ 64) w) ≡ bits_below 64 w ++ k ∷ []
pushed_bit w k small less =
    let most : (2 ^ 64 - 1) / 2 ^ k ≡ 2 ^ (64 - k) - 1 = ones_shr 64 k (omega (arith, less)) in
    let room : 2 ^ 0 < 2 ^ (64 - k) = pow_below 0 (64 - k) (omega (arith, less)) in
    let only : 0 + k ≡ k = omega arith in
    joint_word_is w 1 k small less (omega (arith, most, room))
    ∙ (ap (λ ms. bits_below 64 w ++ map (λ mark. mark + k) ms) one_bit ∙ ap (λ m. bits_below 64 w ++ m ∷ []) only)

-- the one at an index
kept_at : (w n i x : ℕ) → slice_get (bits_below n w) i ≡ Some x → slice_get (bits_below (n + 1) w) i ≡ Some x
kept_at w n i x is = elim (cases_eq (bit_at w n) 1) [
  | inl set ↦ ap (λ ms. slice_get ms i) (bits_set w n set) ∙ slice_get-push_left (bits_below n w) n i x is
  | inr not ↦ ap (λ ms. slice_get ms i) (bits_unset w n not) ∙ is
]

kept_on : (w n m i x : ℕ) → slice_get (bits_below n w) i ≡ Some x → slice_get (bits_below (n + m) w) i ≡ Some x
kept_on w n zero i x is = let same : n ≡ n + 0 = omega arith in subst (λ k. slice_get (bits_below k w) i ≡ Some x) same is
kept_on w n (suc m) i x is =
    let next : n + m + 1 ≡ n + suc m = omega arith in
    subst (λ k. slice_get (bits_below k w) i ≡ Some x) next (kept_at w (n + m) i x (kept_on w n m i x is))

pub bit_at_place : (w n i : ℕ) → n < 64 → bit_at w n ≡ 1 → length (bits_below n w) ≡ i → Some n ≡ slice_get (bits_below 64 w) i
bit_at_place w n i less set long =
    let here : slice_get (bits_below (n + 1) w) i ≡ Some n = ap (λ ms. slice_get ms i) (bits_set w n set) ∙ slice_get-push_last (bits_below n w) n i long in
    let all : n + 1 + (63 - n) ≡ 64 = omega (arith, less) in
    sym (subst (λ k. slice_get (bits_below k w) i ≡ Some n) all (kept_on w (n + 1) (63 - n) i n here))

-- there are fewer than an index at which there is one
pub fewer : (w n i : ℕ) → i < length (bits_below 64 w) → length (bits_below n w) ≤ i → n ≤ 64 → n < 64
fewer w n i within long most = elim (cases_eq n 64) [
  | inl same ↦ absurd (omega (arith, within, long, ap (λ k. length (bits_below k w)) same))
  | inr other ↦ omega (arith, most, other)
]

-- the marks that are stored as a word
pub word_view : {held : HeldMarks} {word : ℕ} {marks : List ℕ} → held ≡ stored.Word word → held_marks held ≡ marks → bits_below 64 word ≡ marks
word_view is view = ap held_marks (sym is) ∙ view
