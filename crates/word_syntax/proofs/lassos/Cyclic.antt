-- Elements of a list that is repeated for ever, by index.
use Rattle.std.proofs.Common.{◌≡◌, ◌∙◌, ◌∷◌, ◌++◌, ◌+◌, ◌-◌, ◌*◌, ◌/◌, ◌%◌, ◌<◌, ◌≤◌, List, [], ap, arith, drop, inl, inr, length, length-append}
use Rattle.std.proofs.Common.{length-drop, refl, slice_get, suc, sym, take, zero, if◌then◌else◌, ℕ}
use Rattle.std.proofs.Math.Nat.{add-mod-mod, add-mod_right, add-mul-mod_self_left, mod-add-div, mod-eq_of_lt, mod-lt}
use Rattle.std.proofs.lemmas.Bool.{cases_lt, le-ltb}
use Rattle.std.proofs.lemmas.List.{length-take-le}
use Rattle.std.proofs.lemmas.Nat.{div-add-mod', div_below, mod_below}
use Rattle.aut_base.proofs.lists.Copies.{get-copies}
use Rattle.aut_base.proofs.lists.Lists.{slice_get-append_left, slice_get-append_right}
use Rattle.aut_base.specs.Word.{NameSet, copies, letter_at}
use Rattle.word_syntax.specs.inner.Periods.{cyclic}

pub slice_get-drop : {A : Type 0} (n : ℕ) (xs : List A) (i : ℕ) → slice_get (drop n xs) i ≡ slice_get xs (n + i)
slice_get-drop zero xs i = let e : i ≡ 0 + i = omega arith in ap (slice_get xs) e
slice_get-drop (suc n) [] i = refl
slice_get-drop (suc n) (x ∷ xs) i = let e : suc (n + i) ≡ suc n + i = omega arith in slice_get-drop n xs i ∙ ap (slice_get (x ∷ xs)) e

pub slice_get-take : {A : Type 0} (n : ℕ) (xs : List A) (i : ℕ) → i < n → slice_get (take n xs) i ≡ slice_get xs i
slice_get-take zero xs i within = absurd (omega arith)
slice_get-take (suc n) [] i within = refl
slice_get-take (suc n) (x ∷ xs) zero within = refl
slice_get-take (suc n) (x ∷ xs) (suc i) within = slice_get-take n xs i (omega arith)

-- the remainder by a multiple of a number, and then by the number
pub mod_of_multiple : (x whole stem_rounds size : ℕ) → whole ≡ stem_rounds * size → (x % whole) % size ≡ x % size
mod_of_multiple x whole stem_rounds size e =
    let product : stem_rounds * size * (x / whole) ≡ size * (stem_rounds * (x / whole)) = omega arith in
    let split : x ≡ x % whole + size * (stem_rounds * (x / whole)) = sym (mod-add-div x whole) ∙ ap (λ (n : ℕ). x % whole + n) (ap (λ (w : ℕ). w * (x / whole)) e ∙ product) in
    sym (ap (λ (n : ℕ). n % size) split ∙ add-mul-mod_self_left (x % whole) size (stem_rounds * (x / whole)))

-- the list rotated to begin at this index
pub turned_at : (root : List NameSet) (from x : ℕ) → from < length root → slice_get (drop from root ++ take from root) (x % length root) ≡ cyclic root (from + x)
turned_at root from x inside =
    let size = length root in
    let r = x % size in
    let within : x % size < size = mod-lt x (omega arith) in
    let same : (from + x % size) % size ≡ (from + x) % size = add-mod-mod from x size in
    let left : length (drop from root) ≡ size - from = length-drop from root in
    elim (cases_lt (from + x % size) size) [
      | inl here ↦ slice_get-append_left (drop from root) (take from root) (x % size) (omega arith) ∙ (slice_get-drop from root (x % size)
          ∙ (ap (slice_get root) (sym (mod-eq_of_lt here)) ∙ ap (slice_get root) same))
      | inr past ↦ (let rest : ℕ = from + x % size - size in
          let split : x % size ≡ length (drop from root) + (from + x % size - size) = omega arith in
          let less : from + x % size - size < from = omega arith in
          let below : from + x % size - size < size = omega arith in
          let around : from + x % size ≡ (from + x % size - size) + size = omega arith in
          slice_get-append_right (drop from root) (take from root) (from + x % size - size) (x % size) split ∙ (slice_get-take from root (from + x % size - size) less
          ∙ ap (slice_get root) (sym (mod-eq_of_lt below) ∙ (sym (add-mod_right (from + x % size - size) size) ∙ (ap (λ (n : ℕ). n % size) (sym around) ∙ same)))))
    ]

pub length-turned : (root : List NameSet) (from : ℕ) → from < length root → length (drop from root ++ take from root) ≡ length root
length-turned root from inside = omega (arith, length-append (drop from root) (take from root), length-drop from root, length-take-le from root (omega arith))

-- the elements of copies of a list
pub copies_at : {A : Type 0} (k : ℕ) (w : List A) (i : ℕ) → i < k * length w → slice_get (copies k w) i ≡ slice_get w (i % length w)
copies_at k w i within =
    let some : 0 < length w = positive k (length w) i within in
    get-copies k (i / length w) (i % length w) i w (div_below i (length w) k some within) (mod_below i (length w) some) (sym (div-add-mod' i (length w)))
  where
    positive : (k l i : ℕ) → i < k * l → 0 < l
    positive k zero i h = absurd (omega arith)
    positive k (suc l) i h = omega arith

pub cyclic_again : (root : List NameSet) (x y stem_rounds : ℕ) → x ≡ stem_rounds * length root + y → cyclic root x ≡ cyclic root y
cyclic_again root x y stem_rounds e =
    let split : x ≡ y + length root * stem_rounds = omega arith in
    ap (slice_get root) (ap (λ (n : ℕ). n % length root) split ∙ add-mul-mod_self_left y (length root) stem_rounds)

pub at_cycle : (u v : List NameSet) (n : ℕ) → length u ≤ n → letter_at u v n ≡ cyclic v (n - length u)
at_cycle u v n past = ap (λ b. if b then slice_get u n else slice_get v ((n - length u) % length v)) (le-ltb n (length u) past)

pub at_same : (v : List NameSet) (i j : ℕ) → i ≡ j → slice_get v i ≡ slice_get v j
at_same v i j e = ap (slice_get v) e
