-- Reduced lassos of one infinite word are the same.
use Rattle.std.proofs.Common.{◌≡◌, ◌∙◌, ◌∷◌, ◌++◌, ◌+◌, ◌-◌, ◌*◌, ◌/◌, ◌%◌, ◌<◌, ◌≤◌, List, Option, Some, [], ap, arith, inl, inr, length, length-append, refl, slice_get, suc, sym, take, zero, ℕ}
use Rattle.std.proofs.Math.Nat.{mod-eq_of_lt, mod-lt}
use Rattle.std.proofs.lemmas.Bool.{cases_order}
use Rattle.std.proofs.lemmas.List.{length-take-le}
use Rattle.std.proofs.lemmas.Nat.{div-add-mod'}
use Rattle.std.proofs.lemmas.Option.{same_Some}
use Rattle.aut_base.proofs.lists.Copies.{length-copies}
use Rattle.aut_base.proofs.lists.Lists.{slice_get-push_last}
use Rattle.aut_base.proofs.words.Spelled.{stem_letter}
use Rattle.aut_base.specs.Word.{IsReduced, NameSet, copies, letter_at}
use Rattle.word_syntax.proofs.lassos.Cyclic.{at_cycle, copies_at, cyclic_again, slice_get-take}
use Rattle.word_syntax.specs.Words.{OneReducedLasso}
use Rattle.word_syntax.specs.inner.Periods.{cyclic}

-- lists with the same elements
pub lists_same : (xs ys : List NameSet) → length xs ≡ length ys → ((i : ℕ) → i < length xs → slice_get xs i ≡ slice_get ys i) → xs ≡ ys
lists_same [] [] long same = refl
lists_same [] (y ∷ ys) long same = absurd (omega arith)
lists_same (x ∷ xs) [] long same = absurd (omega arith)
lists_same (x ∷ xs) (y ∷ ys) long same =
    let first : x ≡ y = same_Some x y (same 0 (omega arith)) in
    let rest : xs ≡ ys = lists_same xs ys (omega arith) (λ i h. same (suc i) (omega arith)) in
    ap (λ (z : NameSet). z ∷ xs) first ∙ ap (λ (zs : List NameSet). y ∷ zs) rest

pub same_at : (w : ℕ → Option NameSet) (i j : ℕ) → i ≡ j → w i ≡ w j
same_at w i j e = ap w e

turn_times : (v : List NameSet) (e : ℕ) → ((i : ℕ) → cyclic v (i + e) ≡ cyclic v i) → (t r : ℕ) → cyclic v (t * e + r) ≡ cyclic v r
turn_times v e turn zero r = let f : 0 * e + r ≡ r = omega arith in same_at (cyclic v) (0 * e + r) r f
turn_times v e turn (suc t) r = let f : suc t * e + r ≡ t * e + r + e = omega arith in same_at (cyclic v) (suc t * e + r) (t * e + r + e) f ∙ (turn (t * e + r) ∙ turn_times v e turn t r)

-- a list that a rotation doesn't change is copies of a prefix
copies_of_turn : (v : List NameSet) (e k : ℕ) → 0 < e → e ≤ length v → length v ≡ k * e → ((i : ℕ) → cyclic v (i + e) ≡ cyclic v i) → v ≡ copies k (take e v)
copies_of_turn v e k some within long turn =
    let front : length (take e v) ≡ e = length-take-le e v within in
    let size : length (copies k (take e v)) ≡ k * length (take e v) = length-copies k (take e v) in
    let same : k * length (take e v) ≡ k * e = ap (λ (n : ℕ). k * n) front in
    lists_same v (copies k (take e v)) (omega arith) (λ i h.
    let below : i % e < e = mod-lt i some in
    let parts : i / e * e + i % e ≡ i = div-add-mod' i e in
    let inside : i < k * length (take e v) = omega arith in
    let inner : i % e < length v = omega arith in
    ap (slice_get v) (sym (mod-eq_of_lt h)) ∙ (same_at (cyclic v) i (i / e * e + i % e) (sym parts) ∙ (turn_times v e turn (i / e) (i % e) ∙ (ap (slice_get v) (mod-eq_of_lt inner)
    ∙ (sym (slice_get-take e v (i % e) below) ∙ (ap (λ (n : ℕ). slice_get (take e v) (i % n)) (sym front) ∙ sym (copies_at k (take e v) i inside)))))))

-- from some position on, the word has this period
abbrev pub Repeats : (ℕ → Option NameSet) → ℕ → ℕ → Type 0
Repeats w from e = (n : ℕ) → from ≤ n → w (n + e) ≡ w n

repeats_later : (w : ℕ → Option NameSet) (from later e : ℕ) → from ≤ later → Repeats w from e → Repeats w later e
repeats_later w from later e h r n k = r n (omega arith)

-- a common divisor of two periods that is a period too
record Common (w : ℕ → Option NameSet) (from a b : ℕ) : Type 0 where
  size : ℕ
  some : 0 < size
  repeats : Repeats w from size
  first : ℕ
  first_is : a ≡ first * size
  second : ℕ
  second_is : b ≡ second * size

common : (fuel : ℕ) (w : ℕ → Option NameSet) (from a b : ℕ) → a + b ≤ fuel → 0 < a → 0 < b → Repeats w from a → Repeats w from b → Common w from a b
common zero w from a b small some_a some_b r s = absurd (omega arith)
common (suc fuel) w from a b small some_a some_b r s = elim (cases_order a b) [
  | inl e ↦ record { size = a; some = some_a; repeats = r; first = 1; first_is = omega arith; second = 1; second_is = omega arith }
  | inr (inl less) ↦ (let c = common fuel w from a (b - a) (omega arith) some_a (omega arith) r (λ n h. let e : n + (b - a) + a ≡ n + b = omega arith in sym (r (n + (b - a)) (omega arith))
      ∙ (same_at w (n + (b - a) + a) (n + b) e ∙ s n h)) in
      record { size = c.size; some = c.some; repeats = c.repeats; first = c.first; first_is = c.first_is; second = c.first + c.second; second_is = omega (arith, c.first_is, c.second_is) })
  | inr (inr more) ↦ (let c = common fuel w from (a - b) b (omega arith) (omega arith) some_b (λ n h. let e : n + (a - b) + b ≡ n + a = omega arith in sym (s (n + (a - b)) (omega arith))
      ∙ (same_at w (n + (a - b) + b) (n + a) e ∙ r n h)) s in
      record { size = c.size; some = c.some; repeats = c.repeats; first = c.second + c.first; first_is = omega (arith, c.first_is, c.second_is); second = c.second; second_is = c.second_is })
]

pub cycle_repeats : (w : ℕ → Option NameSet) (u v : List NameSet) → ((n : ℕ) → w n ≡ letter_at u v n) → Repeats w (length u) (length v)
cycle_repeats w u v spells n h =
    let e : n + length v - length u ≡ 1 * length v + (n - length u) = omega arith in
    spells (n + length v) ∙ (at_cycle u v (n + length v) (omega arith) ∙ (cyclic_again v (n + length v - length u) (n - length u) 1 e ∙ (sym (at_cycle u v n h) ∙ sym (spells n))))

-- after the stem, the word is the cycle repeated
far_out : (w : ℕ → Option NameSet) (u v : List NameSet) → ((n : ℕ) → w n ≡ letter_at u v n) → (i t : ℕ) → w (length u + (t * length v + i)) ≡ cyclic v i
far_out w u v spells i t =
    let e : length u + (t * length v + i) - length u ≡ t * length v + i = omega arith in
    spells (length u + (t * length v + i)) ∙ (at_cycle u v (length u + (t * length v + i)) (omega arith) ∙ cyclic_again v (length u + (t * length v + i) - length u) i t e)

no_less : (w : ℕ → Option NameSet) (u v : List NameSet) (from g k : ℕ) → ((n : ℕ) → w n ≡ letter_at u v n) → IsReduced u v → 0 < length v → 0 < g → Repeats w from g → length v ≡ k * g → length v ≡ g
no_less w u v from g zero spells reduced some some_g r e = absurd (omega arith)
no_less w u v from g (suc zero) spells reduced some some_g r e = omega arith
no_less w u v from g (suc (suc k)) spells reduced some some_g r e =
    absurd (reduced.primitive (take g v) (suc (suc k)) (omega arith) (copies_of_turn v g (suc (suc k)) some_g (omega arith) e (λ i.
    let far : from ≤ length u + (from * length v + i) = far_enough from (length v) (length u) i some in
    let f : length u + (from * length v + (i + g)) ≡ length u + (from * length v + i) + g = omega arith in
    sym (far_out w u v spells (i + g) from) ∙ (same_at w (length u + (from * length v + (i + g))) (length u + (from * length v + i) + g) f
    ∙ (r (length u + (from * length v + i)) far ∙ far_out w u v spells i from)))))
  where
    grows : (n l : ℕ) → 0 < l → n ≤ n * l
    grows zero l some = omega arith
    grows (suc n) l some = let h = grows n l some in omega arith

    far_enough : (from l m i : ℕ) → 0 < l → from ≤ m + (from * l + i)
    far_enough from l m i some = omega (arith, grows from l some)

same_length : (w : ℕ → Option NameSet) (u v x y : List NameSet) → ((n : ℕ) → w n ≡ letter_at u v n) → ((n : ℕ) → w n ≡ letter_at x y n) → 0 < length v → 0 < length y → IsReduced u v
    → IsReduced x y → length v ≡ length y
same_length w u v x y one two some some' reduced reduced' =
    let from = length u + length x in
    let c = common (length v + length y) w (length u + length x) (length v) (length y) (omega arith) some some'
    (repeats_later w (length u) (length u + length x) (length v) (omega arith) (cycle_repeats w u v one))
    (repeats_later w (length x) (length u + length x) (length y) (omega arith) (cycle_repeats w x y two)) in
    no_less w u v (length u + length x) c.size c.first one reduced some c.some c.repeats c.first_is
    ∙ sym (no_less w x y (length u + length x) c.size c.second two reduced' some' c.some c.repeats c.second_is)

-- the last element of a list
record Last (xs : List NameSet) : Type 0 where
  front : List NameSet
  last : NameSet
  is : xs ≡ front ++ last ∷ []

last_of : (xs : List NameSet) → 0 < length xs → Last xs
last_of [] some = absurd (omega arith)
last_of (x ∷ []) some = record { front = []; last = x; is = refl }
last_of (x ∷ y ∷ ys) some = let l = last_of (y ∷ ys) (omega arith) in record { front = x ∷ l.front; last = l.last; is = ap (λ (zs : List NameSet). x ∷ zs) l.is }

last_stands : (xs : List NameSet) (l : Last xs) → (slice_get xs (length xs - 1) ≡ Some l.last)
last_stands xs l =
    let size : length xs - 1 ≡ length l.front = let e : length xs ≡ length (l.front ++ l.last ∷ []) = ap (λ (z : List NameSet). length z) l.is in omega (arith, length-append l.front (l.last ∷ [])) in
    ap (λ (z : List NameSet). slice_get z (length xs - 1)) l.is ∙ (ap (slice_get (l.front ++ l.last ∷ [])) size ∙ slice_get-push_last l.front l.last (length l.front) refl)

-- of two reduced lasso words of an infinite word, neither has the longer stem
no_longer : (w : ℕ → Option NameSet) (u v x y : List NameSet) → ((n : ℕ) → w n ≡ letter_at u v n) → ((n : ℕ) → w n ≡ letter_at x y n) → 0 < length v → length v ≡ length y → IsReduced u v
    → length x < length u → ⊥
no_longer w u v x y one two some same reduced longer =
    let a = last_of u (omega arith) in
    let b = last_of v some in
    let here : w (length u - 1) ≡ Some a.last = one (length u - 1) ∙ (stem_letter u v (length u - 1) (omega arith) ∙ last_stands u a) in
    let e : length u - 1 + length y ≡ length u + (0 * length v + (length v - 1)) = omega arith in
    let there : w (length u - 1 + length y) ≡ Some b.last = same_at w (length u - 1 + length y) (length u + (0 * length v + (length v - 1))) e
    ∙ (far_out w u v one (length v - 1) 0 ∙ (ap (slice_get v) (mod-eq_of_lt (omega arith)) ∙ last_stands v b)) in
    reduced.stem a.front b.front a.last b.last a.is b.is (same_Some a.last b.last (sym here ∙ (sym (cycle_repeats w x y two (length u - 1) (omega arith)) ∙ there)))

pub one_reduced_lasso : OneReducedLasso
one_reduced_lasso u v x y some some' reduced reduced' same =
    let w : ℕ → Option NameSet = letter_at u v in
    let one : (n : ℕ) → letter_at u v n ≡ letter_at u v n = λ n. refl in
    let cycles : length v ≡ length y = same_length (letter_at u v) u v x y one same some some' reduced reduced' in
    let stems : length u ≡ length x = elim (cases_order (length u) (length x)) [
      | inl e ↦ e
      | inr (inl less) ↦ absurd (no_longer (letter_at u v) x y u v same one some' (sym cycles) reduced' less)
      | inr (inr more) ↦ absurd (no_longer (letter_at u v) u v x y one same some cycles reduced more)
    ] in (
      lists_same u x stems (λ i h. sym (stem_letter u v i h) ∙ (same i ∙ stem_letter x y i (omega arith))),
      lists_same v y cycles (λ i h. let inside : i < length y = omega arith in
          ap (slice_get v) (sym (mod-eq_of_lt h)) ∙ (sym (far_out (letter_at u v) u v one i 0)
          ∙ (same_at (letter_at u v) (length u + (0 * length v + i)) (length x + (0 * length y + i)) (omega arith)
          ∙ (far_out (letter_at u v) x y same i 0 ∙ ap (slice_get y) (mod-eq_of_lt inside))))),
    )
