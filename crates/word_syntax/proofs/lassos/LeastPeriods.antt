-- Least periods of the prefixes of a list, each from those of shorter prefixes (Knuth, Morris and Pratt 1977).
use Rattle.std.proofs.Common.{◌≡◌, ◌≢◌, ◌∙◌, ◌+◌, ◌-◌, ◌*◌, ◌/◌, ◌%◌, ◌<◌, ◌≤◌, List, ap, arith, inl, inr, length, slice_get, suc, sym, zero, ℕ}
use Rattle.std.proofs.Math.Nat.{add-mod_right, mod-eq_of_lt, mod_self, mul-le-mul_right, mul-mod_right}
use Rattle.std.proofs.lemmas.Bool.{cases_lt, cases_eq}
use Rattle.std.proofs.lemmas.Nat.{div-add-mod', mul-mod}
use Rattle.aut_base.specs.Word.{NameSet}
use Rattle.word_syntax.proofs.lassos.Cyclic.{at_same}
use Rattle.word_syntax.specs.inner.Periods.{IsCandidate, IsLeastPeriod, IsPeriod, IsRoot}

-- a least period is no longer than its prefix, if that isn't empty
pub least_within : (v : List NameSet) (front p : ℕ) → 0 < front → IsLeastPeriod v front p → p ≤ front
least_within v front p some l = l.least front some (λ k h. absurd (omega arith))

pub least_small : (v : List NameSet) (front p : ℕ) → IsLeastPeriod v front p → p ≤ front + 1
least_small v zero p l = let one : p ≤ 1 = l.least 1 (omega arith) (λ k h. absurd (omega arith)) in omega arith
least_small v (suc n) p l = let h : p ≤ suc n = least_within v (suc n) p (omega arith) l in omega arith

pub candidate_start : (v : List NameSet) (front p : ℕ) → 0 < front → IsLeastPeriod v front p → IsCandidate v front p
candidate_start v front p some l = record {
  some = l.some;
  is = l.is;
  small = let h : p ≤ front = least_within v front p some l in omega arith;
  least = λ q pos per. l.least q pos (λ k h. per k (omega arith));
}

-- the next longer period of the prefix
pub candidate_next : (v : List NameSet) (front p b : ℕ) → p ≤ front → IsCandidate v front p → IsLeastPeriod v (front - p) b → slice_get v front ≢ slice_get v (front - p) → IsCandidate v front (p + b)
candidate_next v front p b within c l differ = record {
  some = omega (arith, c.some);
  is = λ k h. (let e : k + b + p ≡ k + (p + b) = omega arith in l.is k (omega arith) ∙ (c.is (k + b) (omega arith) ∙ at_same v (k + b + p) (k + (p + b)) e));
  small = let h : b ≤ front - p + 1 = least_small v (front - p) b l in omega arith;
  least = λ q pos per. (let longer : p ≤ q = c.least q pos per in elim (cases_eq p q) [
    | inl e ↦ (let back : front - p + p ≡ front = omega arith in
        let at : front - p + q ≡ front = omega arith in
        absurd (differ (sym (per (front - p) (omega arith) ∙ at_same v (front - p + q) front at))))
    | inr other ↦ (let more : 0 < q - p = omega (arith, other) in
        let least : b ≤ q - p = l.least (q - p) more (λ k h. (let e : k + (q - p) + p ≡ k + q = omega arith in
        per k (omega arith) ∙ (sym (at_same v (k + (q - p) + p) (k + q) e) ∙ sym (c.is (k + (q - p)) (omega arith))))) in
        omega arith)
  ]);
}

-- a candidate with which the next letter agrees
pub candidate_agrees : (v : List NameSet) (front p : ℕ) → p ≤ front → IsCandidate v front p → slice_get v front ≡ slice_get v (front - p) → IsLeastPeriod v (front + 1) p
candidate_agrees v front p within c same = record {
  some = c.some;
  is = λ k h. elim (cases_lt (k + p) front) [
    | inl inside ↦ c.is k inside
    | inr last ↦ (let e : k ≡ front - p = omega arith in let f : front ≡ k + p = omega arith in at_same v k (front - p) e ∙ (sym same ∙ at_same v front (k + p) f))
  ];
  least = c.least;
}

-- each element is that of the first period at its remainder
first_ones : (v : List NameSet) (n p : ℕ) → IsPeriod v n p → (t r : ℕ) → t * p + r < n → slice_get v (t * p + r) ≡ slice_get v r
first_ones v n p per zero r h = let e : 0 * p + r ≡ r = omega arith in at_same v (0 * p + r) r e
first_ones v n p per (suc t) r h =
    let e : t * p + r + p ≡ suc t * p + r = omega arith in
    sym (per (t * p + r) (omega arith) ∙ at_same v (t * p + r + p) (suc t * p + r) e) ∙ first_ones v n p per t r (omega arith)

by_remainder : (v : List NameSet) (n p : ℕ) → IsPeriod v n p → (i : ℕ) → i < n → slice_get v i ≡ slice_get v (i % p)
by_remainder v n p per i h =
    let split : i / p * p + i % p ≡ i = div-add-mod' i p in
    at_same v i (i / p * p + i % p) (sym split) ∙ first_ones v n p per (i / p) (i % p) (omega arith)

-- the least period divides each other period with which together it isn't longer than the list
divides : (fuel : ℕ) (v : List NameSet) (n p e : ℕ) → e ≤ fuel → IsLeastPeriod v n p → 0 < e → IsPeriod v n e → p + e ≤ n → e % p ≡ 0
divides zero v n p e small l some per room = absurd (omega arith)
divides (suc fuel) v n p e small l some per room =
    let longer : p ≤ e = l.least e some per in
    elim (cases_eq p e) [
      | inl same ↦ ap (λ (x : ℕ). x % p) (sym same) ∙ mod_self p
      | inr other ↦ (let more : 0 < e - p = omega (arith, other) in
          let back : e ≡ e - p + p = omega arith in
          let shorter : IsPeriod v n (e - p) = λ k h. elim (cases_lt (k + e) n) [
            | inl inside ↦ (let f : k + (e - p) + p ≡ k + e = omega arith in per k inside ∙ sym (l.is (k + (e - p)) (omega arith) ∙ at_same v (k + (e - p) + p) (k + e) f))
            | inr past ↦ (let f : k - p + p ≡ k = omega arith in let g : k - p + e ≡ k + (e - p) = omega arith in
                sym (l.is (k - p) (omega arith) ∙ at_same v (k - p + p) k f) ∙ (per (k - p) (omega arith) ∙ at_same v (k - p + e) (k + (e - p)) g))
          ] in
          ap (λ (x : ℕ). x % p) back ∙ (add-mod_right (e - p) p ∙ divides fuel v n p (e - p) (omega (arith, l.some)) l more shorter (omega arith)))
    ]

-- a rotation that changes nothing is a period
turn_period : (v : List NameSet) (size e : ℕ) → ((i : ℕ) → i < length v → slice_get v i ≡ slice_get v (i % size)) → ((i : ℕ) → slice_get v ((i + e) % size) ≡ slice_get v (i % size))
    → IsPeriod v (length v) e
turn_period v size e same turn k h = same k (omega arith) ∙ (sym (turn k) ∙ sym (same (k + e) h))

twice : (e k size : ℕ) → 2 ≤ k → size ≡ k * e → 2 * e ≤ size
twice e k size more is = let h : 2 * e ≤ k * e = mul-le-mul_right e more in omega arith

-- the least period divides the length
pub root_shorter : (v : List NameSet) (p : ℕ) → 0 < length v → IsLeastPeriod v (length v) p → length v % p ≡ 0 → IsRoot v p
root_shorter v p some l whole =
    let same : (i : ℕ) → i < length v → slice_get v i ≡ slice_get v (i % p) = by_remainder v (length v) p l.is in
    record {
      some = l.some;
      within = least_within v (length v) p some l;
      stem_rounds = length v / p;
      whole = omega (arith, div-add-mod' (length v) p, whole);
      same = same;
      least = λ e k pos more is turn. (let shorter : p ≤ e = l.least e pos (turn_period v p e same turn) in let two = twice e k p more is in omega arith);
    }

-- and where it doesn't, the list is no copies of a shorter one
pub root_whole : (v : List NameSet) (p : ℕ) → 0 < length v → IsLeastPeriod v (length v) p → (length v % p ≡ 0 → ⊥) → IsRoot v (length v)
root_whole v p some l uneven =
    let same : (i : ℕ) → i < length v → slice_get v i ≡ slice_get v (i % length v) = λ i h. at_same v i (i % length v) (sym (mod-eq_of_lt h)) in
    record {
      some = some;
      within = omega arith;
      stem_rounds = 1;
      whole = omega arith;
      same = same;
      least = λ e k pos more is turn. (
          let per : IsPeriod v (length v) e = turn_period v (length v) e same turn in
          let shorter : p ≤ e = l.least e pos per in
          let two = twice e k (length v) more is in
          let none : e % p ≡ 0 = divides e v (length v) p e (omega arith) l pos per (omega arith) in
          uneven (ap (λ (x : ℕ). x % p) is ∙ (mul-mod k e p ∙ (ap (λ (x : ℕ). (k % p * x) % p) none ∙ nothing (k % p) p))));
    }
  where
    nothing : (x p : ℕ) → (x * 0) % p ≡ 0
    nothing x p = let e : x * 0 ≡ p * 0 = omega arith in ap (λ (n : ℕ). n % p) e ∙ mul-mod_right p 0
