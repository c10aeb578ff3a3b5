-- Lists of terms joined in all pairs: their laws, and how many terms and literals there are.
use Rattle.std.proofs.Common.{◌≡◌, ◌∙◌, ℕ, ◌+◌, ◌*◌, Bool, true, false, ◌&&◌, ◌||◌, List, [], ◌∷◌, ◌++◌, length, map, take, get_or, ◌<◌, refl, sym, ap, arith}
use Rattle.std.specs.List.{list_any, list_all}
use Rattle.std.proofs.lemmas.List.{append_assoc, append-nil, length-append, length-map, map-append, map-id, take_more}
use Rattle.std.proofs.lemmas.List.Concat.{flat_map-append}
use Rattle.std.proofs.lemmas.List.Folds.{list_any-append, list_all-append}
use Rattle.std.proofs.lemmas.List.Sums.{sum_by-append, sum_by-cons}
use Rattle.acc_forms.specs.Terms.{pairs, choices, literals}
use Rattle.acc_forms.specs.declared.literal.Literal.{Literal}
use Rattle.aut_base.proofs.numbers.Truth.{and_or, or_and}

map-joined : (x y : List Literal) (zs : List (List Literal)) → map (λ z. (x ++ y) ++ z) zs ≡ map (λ z. x ++ z) (map (λ z. y ++ z) zs)
map-joined x y [] = refl
map-joined x y (z ∷ zs) = ap (λ w. w ∷ map (λ v. (x ++ y) ++ v) zs) (append_assoc x y z) ∙ ap (λ ws. (x ++ (y ++ z)) ∷ ws) (map-joined x y zs)

pairs-map : (x : List Literal) (ys zs : List (List Literal)) → pairs (map (λ y. x ++ y) ys) zs ≡ map (λ y. x ++ y) (pairs ys zs)
pairs-map x [] zs = refl
pairs-map x (y ∷ ys) zs =
    ap (λ ws. ws ++ pairs (map (λ v. x ++ v) ys) zs) (map-joined x y zs)
    ∙ ap (λ ws. map (λ v. x ++ v) (map (λ z. y ++ z) zs) ++ ws) (pairs-map x ys zs)
    ∙ sym (map-append (λ v. x ++ v) (map (λ z. y ++ z) zs) (pairs ys zs))

pub pairs_assoc : (xs ys zs : List (List Literal)) → pairs (pairs xs ys) zs ≡ pairs xs (pairs ys zs)
pairs_assoc [] ys zs = refl
pairs_assoc (x ∷ xs) ys zs =
    flat_map-append (λ v. map (λ z. v ++ z) zs) (map (λ y. x ++ y) ys) (pairs xs ys)
    ∙ ap (λ ws. ws ++ pairs (pairs xs ys) zs) (pairs-map x ys zs)
    ∙ ap (λ ws. map (λ v. x ++ v) (pairs ys zs) ++ ws) (pairs_assoc xs ys zs)

pairs-one_left : (ys : List (List Literal)) → pairs ([] ∷ []) ys ≡ ys
pairs-one_left ys = append-nil (map (λ y. [] ++ y) ys) ∙ map-id ys

pairs-one_right : (xs : List (List Literal)) → pairs xs ([] ∷ []) ≡ xs
pairs-one_right [] = refl
pairs-one_right (x ∷ xs) = ap (λ v. v ∷ pairs xs ([] ∷ [])) (append-nil x) ∙ ap (λ vs. x ∷ vs) (pairs-one_right xs)

-- the choices once a list is added
pub choices-push : (ts : List (List (List Literal))) (t : List (List Literal)) → choices (ts ++ t ∷ []) ≡ pairs (choices ts) t
choices-push [] t = pairs-one_right t ∙ sym (pairs-one_left t)
choices-push (u ∷ us) t = ap (pairs u) (choices-push us t) ∙ sym (pairs_assoc u (choices us) t)

pub length-pairs : (xs ys : List (List Literal)) → length (pairs xs ys) ≡ length xs * length ys
length-pairs [] ys = omega arith
length-pairs (x ∷ xs) ys =
    let all = length-append (map (λ y. x ++ y) ys) (pairs xs ys) in
    let first = length-map ys (λ y. x ++ y) in
    let rest = length-pairs xs ys in
    omega arith

literals-map : (x : List Literal) (ys : List (List Literal)) → literals (map (λ y. x ++ y) ys) ≡ length x * length ys + literals ys
literals-map x [] = omega arith
literals-map x (y ∷ ys) =
    let all = sum_by-cons length (x ++ y) (map (λ v. x ++ v) ys) in
    let own = sum_by-cons length y ys in
    let first = length-append x y in
    let rest = literals-map x ys in
    omega arith

pub literals-pairs : (xs ys : List (List Literal)) → literals (pairs xs ys) ≡ literals xs * length ys + literals ys * length xs
literals-pairs [] ys = omega arith
literals-pairs (x ∷ xs) ys =
    let all = sum_by-append length (map (λ y. x ++ y) ys) (pairs xs ys) in
    let own = sum_by-cons length x xs in
    let first = literals-map x ys in
    let rest = literals-pairs xs ys in
    let sum : literals (pairs (x ∷ xs) ys) ≡ (length x + literals xs) * length ys + literals ys * length (x ∷ xs) = omega arith in
    sum ∙ sym (ap (λ n. n * length ys + literals ys * length (x ∷ xs)) own)

-- a test of all literals, on joined terms
any-joined : (p : Literal → Bool) (x : List Literal) (ys : List (List Literal)) → list_any (list_all p) (map (λ y. x ++ y) ys) ≡ (list_all p x && list_any (list_all p) ys)
any-joined p x [] = none_and (list_all p x)
  where
    none_and : (a : Bool) → false ≡ (a && false)
    none_and true = refl
    none_and false = refl
any-joined p x (y ∷ ys) =
    ap (λ b. b || list_any (list_all p) (map (λ v. x ++ v) ys)) (list_all-append p x y)
    ∙ ap (λ b. (list_all p x && list_all p y) || b) (any-joined p x ys)
    ∙ and_or (list_all p x) (list_all p y) (list_any (list_all p) ys)

pub any-pairs : (p : Literal → Bool) (xs ys : List (List Literal)) → list_any (list_all p) (pairs xs ys) ≡ (list_any (list_all p) xs && list_any (list_all p) ys)
any-pairs p [] ys = refl
any-pairs p (x ∷ xs) ys =
    list_any-append (list_all p) (map (λ y. x ++ y) ys) (pairs xs ys)
    ∙ ap (λ b. list_any (list_all p) (map (λ y. x ++ y) ys) || b) (any-pairs p xs ys)
    ∙ or_and (list_all p x) (list_any (list_all p) xs) _ (list_any (list_all p) ys) (any-joined p x ys)

-- the pairs once a first term is added
pub pairs_more : (xs ys : List (List Literal)) (i : ℕ) (x : List Literal) (old new : List (List Literal)) → i < length xs → x ≡ get_or xs i x → old ≡ pairs (take i xs) ys
    → new ≡ old ++ map (λ y. x ++ y) ys → new ≡ pairs (take (i + 1) xs) ys
pairs_more xs ys i x old new within is so_far made =
    made
    ∙ ap (λ ws. ws ++ map (λ y. x ++ y) ys) so_far
    ∙ ap (λ ws. pairs (take i xs) ys ++ ws) (sym (append-nil (map (λ y. x ++ y) ys)))
    ∙ sym (flat_map-append (λ v. map (λ y. v ++ y) ys) (take i xs) (x ∷ []))
    ∙ ap (λ v. pairs (take i xs ++ v ∷ []) ys) is
    ∙ sym (ap (λ vs. pairs vs ys) (take_more xs i x within))
