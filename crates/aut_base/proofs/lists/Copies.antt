-- Repetitions of a list: their length, the item at each index, the tests that they pass, and their sums.
use Rattle.std.proofs.Common.{◌≡◌, ◌∙◌, ℕ, zero, suc, ◌+◌, ◌*◌, ◌<◌, Bool, List, [], ◌++◌, append_assoc, length, slice_get, refl, sym, ap, arith}
use Rattle.std.specs.List.{list_any, list_all}
use Rattle.std.proofs.lemmas.List.{append-nil, length-append}
use Rattle.std.proofs.lemmas.List.Folds.{list_any-append, list_all-append}
use Rattle.aut_base.specs.Word.{copies}
use Rattle.aut_base.proofs.numbers.Truth.{and-true, or-false, and_same, or_same}
use Rattle.aut_base.proofs.lists.Lists.{slice_get-append_left, slice_get-append_right}

pub length-copies : {A : Type 0} (k : ℕ) (v : List A) → length (copies k v) ≡ k * length v
length-copies zero v = omega arith
length-copies (suc k) v = omega (arith, length-append v (copies k v), length-copies k v)

-- the item at index m of copy s
pub get-copies : {A : Type 0} (k s m n : ℕ) (v : List A) → s < k → m < length v → n ≡ s * length v + m → slice_get (copies k v) n ≡ slice_get v m
get-copies zero s m n v below within e = absurd (omega arith)
get-copies (suc k) zero m n v below within e = ap (slice_get (v ++ copies k v)) (omega arith) ∙ slice_get-append_left v (copies k v) m within
get-copies (suc k) (suc s) m n v below within e =
    slice_get-append_right v (copies k v) (s * length v + m) n (omega arith) ∙ get-copies k s m (s * length v + m) v (omega arith) within refl

pub any-copies : {A : Type 0} (p : A → Bool) (k : ℕ) (v : List A) → 0 < k → list_any p (copies k v) ≡ list_any p v
any-copies p zero v some = absurd (omega arith)
any-copies p (suc zero) v some = list_any-append p v [] ∙ or-false (list_any p v)
any-copies p (suc (suc k)) v some = list_any-append p v (copies (suc k) v) ∙ or_same _ _ (any-copies p (suc k) v (omega arith))

pub all-copies : {A : Type 0} (p : A → Bool) (k : ℕ) (v : List A) → 0 < k → list_all p (copies k v) ≡ list_all p v
all-copies p zero v some = absurd (omega arith)
all-copies p (suc zero) v some = list_all-append p v [] ∙ and-true (list_all p v)
all-copies p (suc (suc k)) v some = list_all-append p v (copies (suc k) v) ∙ and_same _ _ (all-copies p (suc k) v (omega arith))

pub copies-push : {A : Type 0} (k : ℕ) (v : List A) → copies k v ++ v ≡ v ++ copies k v
copies-push zero v = sym (append-nil v)
copies-push (suc k) v = append_assoc v (copies k v) v ∙ ap (λ w. v ++ w) (copies-push k v)

pub copies-add : {A : Type 0} (j k : ℕ) (v : List A) → copies (j + k) v ≡ copies j v ++ copies k v
copies-add zero k v = let e : 0 + k ≡ k = omega arith in ap (λ n. copies n v) e
copies-add (suc j) k v =
    let e : suc j + k ≡ suc (j + k) = omega arith in
    ap (λ n. copies n v) e ∙ (ap (λ w. v ++ w) (copies-add j k v) ∙ sym (append_assoc v (copies j v) (copies k v)))

pub copies-copies : {A : Type 0} (m j : ℕ) (v : List A) → copies m (copies j v) ≡ copies (m * j) v
copies-copies zero j v = let e : 0 ≡ 0 * j = omega arith in ap (λ n. copies n v) e
copies-copies (suc m) j v =
    let e : j + m * j ≡ suc m * j = omega arith in
    ap (λ w. copies j v ++ w) (copies-copies m j v) ∙ (sym (copies-add j (m * j) v) ∙ ap (λ n. copies n v) e)
