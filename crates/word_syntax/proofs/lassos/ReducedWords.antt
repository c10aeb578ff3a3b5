-- The kept stem and the rotated root of the cycle are the reduced lasso word of the same infinite word.
use Rattle.std.proofs.Common.{◌↔◌, ◌≡◌, ◌≢◌, ◌∙◌, ◌∷◌, ◌++◌, ◌+◌, ◌-◌, ◌*◌, ◌%◌, ◌<◌, ◌≤◌, ◌⊎◌, List, Some, [], ap, arith, drop, inl, inr, length}
use Rattle.std.proofs.Common.{length-append, refl, slice_get, subst, suc, sym, take, zero, ℕ}
use Rattle.std.proofs.Math.Nat.{add-mod_right, mod-eq_of_lt}
use Rattle.std.proofs.lemmas.Bool.{cases_lt}
use Rattle.std.proofs.lemmas.List.{length-take-le}
use Rattle.aut_base.proofs.lists.Copies.{length-copies}
use Rattle.aut_base.proofs.lists.Lists.{slice_get-push_last}
use Rattle.aut_base.proofs.words.SameWord as same_word
use Rattle.aut_base.proofs.words.Spelled.{stem_letter}
use Rattle.aut_base.specs.Acceptance.{Accepts}
use Rattle.aut_base.specs.Automaton.{Automaton}
use Rattle.aut_base.specs.Word.{IsReduced, NameSet, SpellsSame, copies, letter_at}
use Rattle.word_syntax.proofs.lassos.Cyclic.{at_cycle, at_same, copies_at, cyclic_again, length-turned, mod_of_multiple, slice_get-take, turned_at}
use Rattle.word_syntax.specs.inner.Periods.{IsMidShared, IsRoot, IsShared, cyclic}

cyclic_same : (v : List NameSet) (i j : ℕ) → i ≡ j → cyclic v i ≡ cyclic v j
cyclic_same v i j e = ap (cyclic v) e

cyclic_within : (v : List NameSet) (i : ℕ) → i < length v → cyclic v i ≡ slice_get v i
cyclic_within v i h = ap (slice_get v) (mod-eq_of_lt h)

-- another letter of the stem is dropped, where the rotated root doesn't begin at its first letter
pub shared_more : (stem root : List NameSet) (kept from : ℕ) → 0 < kept → 0 < from → IsMidShared stem root kept from → slice_get stem (kept - 1) ≡ slice_get root (from - 1)
    → IsMidShared stem root (kept - 1) (from - 1)
shared_more stem root kept from some begun m same = record {
  within = omega (arith, m.within);
  inside = omega (arith, m.inside);
  same = λ n h k. elim (cases_lt n kept) [
    | inl here ↦ (let at : n ≡ kept - 1 = omega arith in let zeros : from - 1 + (n - (kept - 1)) ≡ from - 1 = omega arith in
        at_same stem n (kept - 1) at ∙ (same ∙ (sym (cyclic_within root (from - 1) (omega (arith, m.inside))) ∙ cyclic_same root (from - 1) (from - 1 + (n - (kept - 1))) (sym zeros))))
    | inr past ↦ (let e : from + (n - kept) ≡ from - 1 + (n - (kept - 1)) = omega arith in m.same n past k ∙ cyclic_same root (from + (n - kept)) (from - 1 + (n - (kept - 1))) e)
  ];
  stem_rounds = m.stem_rounds;
  whole = omega (arith, m.whole, m.within);
}

-- and where it begins at its first letter
pub shared_around : (stem root : List NameSet) (kept : ℕ) → 0 < kept → IsMidShared stem root kept 0 → slice_get stem (kept - 1) ≡ slice_get root (length root - 1)
    → IsMidShared stem root (kept - 1) (length root - 1)
shared_around stem root kept some m same = record {
  within = omega (arith, m.within);
  inside = omega (arith, m.inside);
  same = λ n h k. elim (cases_lt n kept) [
    | inl here ↦ (let at : n ≡ kept - 1 = omega arith in let zeros : length root - 1 + (n - (kept - 1)) ≡ length root - 1 = omega arith in
        at_same stem n (kept - 1) at ∙ (same ∙ (sym (cyclic_within root (length root - 1) (omega (arith, m.inside)))
        ∙ cyclic_same root (length root - 1) (length root - 1 + (n - (kept - 1))) (sym zeros))))
    | inr past ↦ (let e : length root - 1 + (n - (kept - 1)) ≡ 1 * length root + (0 + (n - kept)) = omega (arith, m.inside) in
        m.same n past k ∙ sym (cyclic_again root (length root - 1 + (n - (kept - 1))) (0 + (n - kept)) 1 e))
  ];
  stem_rounds = m.stem_rounds + 1;
  whole = omega (arith, m.whole, m.within, m.inside);
}

-- the last letter of the rotated root
pub last_inside : (root : List NameSet) (from : ℕ) → 0 < from → from < length root → cyclic root (from + (length root - 1)) ≡ slice_get root (from - 1)
last_inside root from begun inside =
    let e : from + (length root - 1) ≡ 1 * length root + (from - 1) = omega arith in
    cyclic_again root (from + (length root - 1)) (from - 1) 1 e ∙ cyclic_within root (from - 1) (omega arith)

pub last_around : (root : List NameSet) → 0 < length root → cyclic root (0 + (length root - 1)) ≡ slice_get root (length root - 1)
last_around root some = let e : 0 + (length root - 1) ≡ length root - 1 = omega arith in cyclic_same root (0 + (length root - 1)) (length root - 1) e
    ∙ cyclic_within root (length root - 1) (omega arith)

-- the cycle repeated for ever is its root repeated for ever
root_cyclic : (cycle : List NameSet) (size x : ℕ) → (r : IsRoot cycle size) → cyclic cycle x ≡ slice_get cycle (x % size)
root_cyclic cycle size x r =
    r.same (x % length cycle) (mod_below_some x (length cycle) (omega (arith, r.some, r.within))) ∙ ap (slice_get cycle) (mod_of_multiple x (length cycle) r.stem_rounds size r.whole)
  where
    mod_below_some : (x n : ℕ) → 0 < n → x % n < n
    mod_below_some x n h = omega arith

front_cyclic : (cycle : List NameSet) (size x : ℕ) → IsRoot cycle size → cyclic (take size cycle) x ≡ slice_get cycle (x % size)
front_cyclic cycle size x r =
    let long : length (take size cycle) ≡ size = length-take-le size cycle r.within in
    let below : x % size < size = omega (arith, r.some) in
    ap (λ (n : ℕ). slice_get (take size cycle) (x % n)) long ∙ slice_get-take size cycle (x % size) below

-- the lasso word that is made
pub record Made (stem cycle new_stem new_cycle : List NameSet) : Type 0 where
  pub size : ℕ
  pub kept : ℕ
  pub from : ℕ
  pub root : IsRoot cycle size
  pub shared : IsShared stem (take size cycle) kept from
  pub stem_is : new_stem ≡ take kept stem
  pub cycle_is : new_cycle ≡ drop from (take size cycle) ++ take from (take size cycle)

turned_cyclic : (stem cycle u v : List NameSet) (m : Made stem cycle u v) (x : ℕ) → cyclic v x ≡ cyclic (take m.size cycle) (m.from + x)
turned_cyclic stem cycle u v m x =
    let root : List NameSet = take m.size cycle in
    let inside = m.shared.shared.inside in
    ap (λ (w : List NameSet). cyclic w x) m.cycle_is
    ∙ (ap (λ (n : ℕ). slice_get (drop m.from (take m.size cycle) ++ take m.from (take m.size cycle)) (x % n)) (length-turned (take m.size cycle) m.from inside)
    ∙ turned_at (take m.size cycle) m.from x inside)

made_size : (stem cycle u v : List NameSet) (m : Made stem cycle u v) → length v ≡ m.size
made_size stem cycle u v m = ap (λ (w : List NameSet). length w) m.cycle_is ∙ (length-turned (take m.size cycle) m.from m.shared.shared.inside ∙ length-take-le m.size cycle m.root.within)

made_stem : (stem cycle u v : List NameSet) (m : Made stem cycle u v) → length u ≡ m.kept
made_stem stem cycle u v m = ap (λ (w : List NameSet). length w) m.stem_is ∙ length-take-le m.kept stem m.shared.shared.within

pub made_same : (stem cycle u v : List NameSet) → Made stem cycle u v → SpellsSame u v stem cycle
made_same stem cycle u v m n =
    let long : length u ≡ m.kept = made_stem stem cycle u v m in
    let s = m.shared.shared in
    let kept : m.kept ≤ length stem = s.within in
    elim (cases_lt n m.kept) [
      | inl inside ↦ stem_letter u v n (omega arith) ∙ (ap (λ (w : List NameSet). slice_get w n) m.stem_is ∙ (slice_get-take m.kept stem n inside ∙ sym (stem_letter stem cycle n (omega arith))))
      | inr past ↦ (let here : letter_at u v n ≡ cyclic (take m.size cycle) (m.from + (n - m.kept)) =
          at_cycle u v n (omega arith) ∙ (cyclic_same v (n - length u) (n - m.kept) (ap (λ (k : ℕ). n - k) long) ∙ turned_cyclic stem cycle u v m (n - m.kept)) in
          elim (cases_lt n (length stem)) [
            | inl shared ↦ here ∙ (sym (s.same n past shared) ∙ sym (stem_letter stem cycle n shared))
            | inr behind ↦ (let e : m.from + (n - m.kept) ≡ s.stem_rounds * length (take m.size cycle) + (n - length stem) = omega (arith, s.whole) in
                here ∙ (cyclic_again (take m.size cycle) (m.from + (n - m.kept)) (n - length stem) s.stem_rounds e
                ∙ (front_cyclic cycle m.size (n - length stem) m.root ∙ (sym (root_cyclic cycle m.size (n - length stem) m.root) ∙ sym (at_cycle stem cycle n behind)))))
          ])
    ]

made_primitive : (stem cycle u v : List NameSet) → Made stem cycle u v → (w : List NameSet) (k : ℕ) → 2 ≤ k → v ≢ copies k w
made_primitive stem cycle u v m w k more is =
    let s = m.shared.shared in
    let e = length w in
    let size : m.size ≡ k * length w = sym (made_size stem cycle u v m) ∙ (ap (λ (x : List NameSet). length x) is ∙ length-copies k w) in
    let some : 0 < length w = positive k (length w) m.size size m.root.some in
    let root : List NameSet = take m.size cycle in
    let long : length (take m.size cycle) ≡ m.size = length-take-le m.size cycle m.root.within in
    let inside : m.from < m.size = omega (arith, s.inside) in
    let at : (x : ℕ) → cyclic (take m.size cycle) (m.from + x) ≡ slice_get w (x % length w) = λ x.
    (let below : x % m.size < k * length w = omega (arith, m.root.some) in
    sym (turned_cyclic stem cycle u v m x) ∙ (ap (λ (n : ℕ). slice_get v (x % n)) (made_size stem cycle u v m)
    ∙ (ap (λ (l : List NameSet). slice_get l (x % m.size)) is ∙ (copies_at k w (x % m.size) below
    ∙ ap (slice_get w) (mod_of_multiple x m.size k (length w) size))))) in
    let any : (i : ℕ) → slice_get cycle (i % m.size) ≡ slice_get w ((i + (m.size - m.from)) % length w) = λ i.
    (let around : m.from + (i + (m.size - m.from)) ≡ 1 * length (take m.size cycle) + i = omega arith in
    sym (front_cyclic cycle m.size i m.root) ∙ (sym (cyclic_again (take m.size cycle) (m.from + (i + (m.size - m.from))) i 1 around) ∙ at (i + (m.size - m.from)))) in
    m.root.least (length w) k some more size (λ i.
    (let swap : i + length w + (m.size - m.from) ≡ i + (m.size - m.from) + length w = omega arith in
    any (i + length w) ∙ (ap (λ (n : ℕ). slice_get w (n % length w)) swap ∙ (ap (slice_get w) (add-mod_right (i + (m.size - m.from)) (length w)) ∙ sym (any i)))))
  where
    positive : (k l n : ℕ) → n ≡ k * l → 0 < n → 0 < l
    positive k zero n h some = absurd (omega arith)
    positive k (suc l) n h some = omega arith

made_end : (stem cycle u v : List NameSet) → Made stem cycle u v → (x y : List NameSet) (a b : NameSet) → u ≡ x ++ a ∷ [] → v ≡ y ++ b ∷ [] → a ≢ b
made_end stem cycle u v m x y a b u_is v_is same =
    let s = m.shared.shared in
    let long : m.kept ≡ length x + 1 = sym (made_stem stem cycle u v m) ∙ (ap (λ (w : List NameSet). length w) u_is ∙ length-append x (a ∷ [])) in
    let size : m.size ≡ length y + 1 = sym (made_size stem cycle u v m) ∙ (ap (λ (w : List NameSet). length w) v_is ∙ length-append y (b ∷ [])) in
    let root : length (take m.size cycle) ≡ m.size = length-take-le m.size cycle m.root.within in
    let kept_at : m.kept - 1 ≡ length x = omega arith in
    let turned_last : length (take m.size cycle) - 1 ≡ length y = omega arith in
    let first : slice_get stem (m.kept - 1) ≡ Some a = sym (slice_get-take m.kept stem (m.kept - 1) (omega arith))
    ∙ (ap (λ (w : List NameSet). slice_get w (m.kept - 1)) (sym m.stem_is ∙ u_is) ∙ (at_same (x ++ a ∷ []) (m.kept - 1) (length x) kept_at ∙ slice_get-push_last x a (length x) refl)) in
    let second : cyclic (take m.size cycle) (m.from + (length (take m.size cycle) - 1)) ≡ Some b =
    sym (turned_cyclic stem cycle u v m (length (take m.size cycle) - 1))
    ∙ (cyclic_same v (length (take m.size cycle) - 1) (length y) turned_last
    ∙ (cyclic_within v (length y) (omega (arith, made_size stem cycle u v m)) ∙ (ap (λ (w : List NameSet). slice_get w (length y)) v_is ∙ slice_get-push_last y b (length y) refl))) in
    m.shared.last (omega arith) (first ∙ (ap Some same ∙ sym second))

pub made_reduced : (stem cycle u v : List NameSet) → Made stem cycle u v → IsReduced u v
made_reduced stem cycle u v m = record { primitive = made_primitive stem cycle u v m; stem = made_end stem cycle u v m }

-- where the root begins one letter earlier
abbrev pub Before : List NameSet → ℕ → ℕ → Type 0
Before root from before = ((from ≡ 0) × (before ≡ length root - 1)) ⊎ ((0 < from) × (before ≡ from - 1))

pub before_inside : (root : List NameSet) (from before : ℕ) → from < length root → Before root from before → before < length root
before_inside root from before inside (inl b) = omega (arith, b.0, b.1)
before_inside root from before inside (inr b) = omega (arith, b.0, b.1)

pub shared_step : (stem root : List NameSet) (kept from before : ℕ) → 0 < kept → IsMidShared stem root kept from → Before root from before → slice_get stem (kept - 1) ≡ slice_get root before
    → IsMidShared stem root (kept - 1) before
shared_step stem root kept from before some m (inl b) same =
    let P : ℕ → Type 0 = λ x. IsMidShared stem root kept x in
    let Q : ℕ → Type 0 = λ x. IsMidShared stem root (kept - 1) x in
    subst Q (sym b.1) (shared_around stem root kept some (subst P b.0 m) (same ∙ at_same root before (length root - 1) b.1))
shared_step stem root kept from before some m (inr b) same =
    let Q : ℕ → Type 0 = λ x. IsMidShared stem root (kept - 1) x in
    subst Q (sym b.1) (shared_more stem root kept from some b.0 m (same ∙ at_same root before (from - 1) b.1))

last_before : (root : List NameSet) (from before : ℕ) → from < length root → Before root from before → cyclic root (from + (length root - 1)) ≡ slice_get root before
last_before root from before inside (inl b) = ap (λ (x : ℕ). cyclic root (x + (length root - 1))) b.0 ∙ (last_around root (omega arith) ∙ at_same root (length root - 1) before (sym b.1))
last_before root from before inside (inr b) = last_inside root from b.0 inside ∙ at_same root (from - 1) before (sym b.1)

pub shared_end : (stem root : List NameSet) (kept from before : ℕ) → IsMidShared stem root kept from → Before root from before → slice_get stem (kept - 1) ≢ slice_get root before
    → IsShared stem root kept from
shared_end stem root kept from before m b differ = record { shared = m; last = λ some e. differ (e ∙ last_before root from before m.inside b) }

-- so each automaton accepts both or neither
pub made_accepted : (stem cycle u v : List NameSet) → 0 < length cycle → Made stem cycle u v → (a : Automaton) → Accepts a u v ↔ Accepts a stem cycle
made_accepted stem cycle u v some m a = same_word.same_word_same_verdict a u v stem cycle (omega (arith, made_size stem cycle u v m, m.root.some)) some (made_same stem cycle u v m)
