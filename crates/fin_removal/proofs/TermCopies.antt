-- The copies of terms, one by one: their numbers, their sets, and how large those are.
use Rattle.std.proofs.Common.{◌≡◌, ◌∙◌, ℕ, suc, ◌+◌, ◌*◌, ◌^◌, ◌<◌, ◌≤◌, Bool, true, false, cond, List, [], ◌∷◌, ◌++◌, All, ap, arith, filter, length, refl, subst, sym, lit<}
use Rattle.std.specs.Int.{div_ceil}
use Rattle.std.specs.List.{sum_by}
use Rattle.std.proofs.lemmas.Grind.{div_ceil_times}
use Rattle.std.proofs.lemmas.List.Elements.{All-cons, All-nil}
use Rattle.std.proofs.lemmas.List.Sums.{sum_by-cons}
use Rattle.std.proofs.Math.Nat.{mul-le-mul_right}
use Rattle.aut_base.specs.declared.limit.TheConstants.{MOST_TERMS}
use Rattle.acc_forms.specs.Terms.{count, literals}
use Rattle.acc_forms.specs.declared.literal.Literal.{Literal}
use Rattle.fin_removal.specs.Copies.{copies_from, sets_of, term_copies}
use Rattle.fin_removal.specs.Meeting.{fins, infs, is_inf, literal_places}
use Rattle.fin_removal.specs.inner.Links.{IsCopyInRange}
use Rattle.fin_removal.specs.declared.term_copy.TermCopy.{TermCopy}

-- the copy of a term
abbrev pub copy_of : ℕ → ℕ → List Literal → TermCopy
copy_of number first term = record { number = number; first = first; fins = fins term; infs = infs term }

pub copies_push : (number first : ℕ) (ts : List (List Literal)) (t : List Literal)
    → copies_from number first (ts ++ t ∷ []) ≡ copies_from number first ts ++ copy_of (number + length ts) (first + sum_by sets_of ts) t ∷ []
copies_push number first [] t =
    let a : number ≡ number + 0 = omega arith in
    let b : first ≡ first + 0 = omega arith in
    ap (λ n. copy_of n first t ∷ []) a ∙ ap (λ f. copy_of (number + 0) f t ∷ []) b
copies_push number first (u ∷ us) t =
    let a : number + 1 + length us ≡ number + length (u ∷ us) = omega arith in
    let b : first + sets_of u + sum_by sets_of us ≡ first + sum_by sets_of (u ∷ us) = omega (arith, sum_by-cons sets_of u us) in
    ap (λ cs. copy_of number first u ∷ cs) (copies_push (number + 1) (first + sets_of u) us t
    ∙ (ap (λ n. copies_from (number + 1) (first + sets_of u) us ++ copy_of n (first + sets_of u + sum_by sets_of us) t ∷ []) a
    ∙ ap (λ f. copies_from (number + 1) (first + sets_of u) us ++ copy_of (number + length (u ∷ us)) f t ∷ []) b))

pub copies_count : (number first : ℕ) (ts : List (List Literal)) → length (copies_from number first ts) ≡ length ts
copies_count number first [] = refl
copies_count number first (t ∷ ts) = ap suc (copies_count (number + 1) (first + sets_of t) ts)

pub copies_sets : (number first : ℕ) (ts : List (List Literal)) → sum_by (λ copy. literal_places copy.infs) (copies_from number first ts) ≡ sum_by sets_of ts
copies_sets number first [] = refl
copies_sets number first (t ∷ ts) =
    sum_by-cons (λ (copy : TermCopy). literal_places copy.infs) (copy_of number first t) (copies_from (number + 1) (first + sets_of t) ts)
    ∙ (ap (λ n. sets_of t + n) (copies_sets (number + 1) (first + sets_of t) ts) ∙ sym (sum_by-cons sets_of t ts))

fewer_kept : {X : Type 0} (p : X → Bool) (x : X) (xs : List X) (b : Bool) → length (filter p xs) ≤ length xs → length (cond b (x ∷ filter p xs) (filter p xs)) ≤ length (x ∷ xs)
fewer_kept p x xs true h = omega (arith, h)
fewer_kept p x xs false h = omega (arith, h)

length_kept : {X : Type 0} (p : X → Bool) (xs : List X) → length (filter p xs) ≤ length xs
length_kept p [] = omega arith
length_kept p (x ∷ xs) = fewer_kept p x xs (p x) (length_kept p xs)

-- the sets of terms are at most as many as the terms and their literals
few_sets : (ts : List (List Literal)) → sum_by sets_of ts ≤ length ts + literals ts
few_sets [] = omega arith
few_sets (t ∷ ts) = omega (arith, sum_by-cons sets_of t ts, sum_by-cons (λ (u : List Literal). length u) t ts, few_sets ts, length_kept is_inf t)

pub few_literals : (ts : List (List Literal)) → count ts ≤ MOST_TERMS → literals ts ≤ 1048576
few_literals ts few =
    let up = (div_ceil_times (literals ts) 1024 (lit< tt)).0 in
    let most : div_ceil (literals ts) 1024 ≤ 1024 = omega arith in
    omega (arith, mul-le-mul_right 1024 most)

-- where they are few enough to be listed, there are few sets
pub sets_within : (ts : List (List Literal)) → count ts ≤ MOST_TERMS → sum_by sets_of ts ≤ 1049600
sets_within ts few = omega (arith, few_sets ts, few_literals ts few)

pub terms_within : (ts : List (List Literal)) → count ts ≤ MOST_TERMS → length ts ≤ 1024
terms_within ts few = omega arith

-- the numbers of the copies fit in 32 bits
numbered_from : (n number first : ℕ) (ts : List (List Literal)) → (number + length ts) * n < 2 ^ 32 → first + sum_by sets_of ts < 2 ^ 32 → All (IsCopyInRange n) (copies_from number first ts)
numbered_from n number first [] states sets = All-nil (IsCopyInRange n)
numbered_from n number first (t ∷ ts) states sets =
    let next : (number + 1 + length ts) * n < 2 ^ 32 = (let e : number + 1 + length ts ≡ number + length (t ∷ ts) = omega arith in subst (λ m. m * n < 2 ^ 32) (sym e) states) in
    let here : (number + 1) * n ≤ (number + 1 + length ts) * n = mul-le-mul_right n (let e : number + 1 ≤ number + 1 + length ts = omega arith in e) in
    All-cons (IsCopyInRange n) (copy_of number first t) (copies_from (number + 1) (first + sets_of t) ts)
    (record { states = omega (arith, here, next); sets = omega (arith, sets, sum_by-cons sets_of t ts) })
    (numbered_from n (number + 1) (first + sets_of t) ts next (omega (arith, sets, sum_by-cons sets_of t ts)))

pub are_numbered : (n : ℕ) (ts : List (List Literal)) → (1 + length ts) * n < 2 ^ 32 → sum_by sets_of ts < 2 ^ 32 → All (IsCopyInRange n) (term_copies ts)
are_numbered n ts states sets = numbered_from n 1 0 ts states (omega (arith, sets))
