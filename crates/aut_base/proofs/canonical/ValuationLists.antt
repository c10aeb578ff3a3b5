-- The list of all valuations of n propositions, and tests of all of them.
use Rattle.std.proofs.Common.{◌≡◌, ◌∙◌, ℕ, zero, suc, ◌+◌, ◌<◌, Bool, true, false, ◌&&◌, List, [], ◌∷◌, Contains, length, map, refl, sym, ap, arith, eq-eqb, eqb}
use Rattle.std.proofs.lemmas.Bool.{and_from, and_parts, eqb-true}
use Rattle.std.specs.Bool.{beq}
use Rattle.std.specs.List.{list_all, range_with_len}
use Rattle.std.specs.Prelude.{flat_map}
use Rattle.aut_base.proofs.lists.Members.{each_is}
use Rattle.aut_base.specs.CanonicalLabel.{is_independent}
use Rattle.aut_base.specs.Valuation.{holds_in, valuations, valuation_of}
use Rattle.std.proofs.Math.Bool.{and_assoc}

-- both values in front of each list
abbrev pub both_ways : List (List Bool) → List (List Bool)
both_ways = flat_map (λ v. (false ∷ v) ∷ (true ∷ v) ∷ [])

pub all-both_ways : (p : List Bool → Bool) (vs : List (List Bool)) → list_all p (both_ways vs) ≡ list_all (λ v. p (false ∷ v) && p (true ∷ v)) vs
all-both_ways p [] = refl
all-both_ways p (v ∷ vs) =
    ap (λ b. p (false ∷ v) && (p (true ∷ v) && b)) (all-both_ways p vs) ∙ sym (and_assoc (p (false ∷ v)) (p (true ∷ v)) _)

-- a test that all listed valuations pass is passed by each list of that length
pub each_valuation : (n : ℕ) (p : List Bool → Bool) → list_all p (valuations n) ≡ true → (v : List Bool) → length v ≡ n → p v ≡ true
each_valuation zero p all [] long = (and_parts (p []) true all).0
each_valuation zero p all (b ∷ v) long = absurd (omega arith)
each_valuation (suc n) p all [] long = absurd (omega arith)
each_valuation (suc n) p all (false ∷ v) long =
    (and_parts _ _ (each_valuation n (λ w. p (false ∷ w) && p (true ∷ w)) (sym (all-both_ways p (valuations n)) ∙ all) v (omega arith))).0
each_valuation (suc n) p all (true ∷ v) long =
    (and_parts _ _ (each_valuation n (λ w. p (false ∷ w) && p (true ∷ w)) (sym (all-both_ways p (valuations n)) ∙ all) v (omega arith))).1

pub all_valuations : (n : ℕ) (p : List Bool → Bool) → ((v : List Bool) → length v ≡ n → p v ≡ true) → list_all p (valuations n) ≡ true
all_valuations zero p each = and_from (p []) true (each [] refl) refl
all_valuations (suc n) p each =
    all-both_ways p (valuations n) ∙ all_valuations n (λ v. p (false ∷ v) && p (true ∷ v)) (λ v long. and_from _ _ (each (false ∷ v) (ap suc long)) (each (true ∷ v) (ap suc long)))

-- the list has just the valuations of n propositions
pub each_size : (n : ℕ) (v : List Bool) → Contains (valuations n) v → length v ≡ n
each_size n v there = eqb-true (length v) n (each_is (λ w. eqb (length w) n) (valuations n) v (all_valuations n (λ w. eqb (length w) n) (λ w size. eq-eqb (length w) n size)) there)

-- tests that agree on the lists of that length
pub all_same : (n : ℕ) (p q : List Bool → Bool) → ((v : List Bool) → length v ≡ n → p v ≡ q v) → list_all p (valuations n) ≡ list_all q (valuations n)
all_same zero p q same = ap (λ b. b && true) (same [] refl)
all_same (suc n) p q same =
    all-both_ways p (valuations n)
    ∙ (all_same n (λ v. p (false ∷ v) && p (true ∷ v)) (λ v. q (false ∷ v) && q (true ∷ v)) (λ v long. let f = same (false ∷ v) (ap suc long) in let t = same (true ∷ v) (ap suc long) in cc)
    ∙ sym (all-both_ways q (valuations n)))

pub same_test : (a b : Bool) → beq a b ≡ true → a ≡ b
same_test true true e = refl
same_test false false e = refl
same_test true false e = sym e
same_test false true e = e

pub test_same : (a b : Bool) → a ≡ b → beq a b ≡ true
test_same true true e = refl
test_same false false e = refl
test_same true false e = sym e
test_same false true e = e

-- a truth function that doesn't depend on the first proposition
pub independent_agrees : (n : ℕ) (g : List Bool → Bool) → is_independent n g ≡ true → (v : List Bool) → length v ≡ n → g (false ∷ v) ≡ g (true ∷ v)
independent_agrees n g alone v long =
    same_test _ _ (each_valuation n (λ w. beq (g (false ∷ w)) (g (true ∷ w))) alone v long)

pub independent_from : (n : ℕ) (g : List Bool → Bool) → ((v : List Bool) → length v ≡ n → g (false ∷ v) ≡ g (true ∷ v)) → is_independent n g ≡ true
independent_from n g same =
    all_valuations n (λ w. beq (g (false ∷ w)) (g (true ∷ w))) (λ v long. test_same _ _ (same v long))

-- a list of truth values is the valuation in which the same propositions hold
pub length-map_range : (holds : ℕ → Bool) (i n : ℕ) → length (map holds (range_with_len i n)) ≡ n
length-map_range holds i zero = refl
length-map_range holds i (suc n) = ap suc (length-map_range holds (i + 1) n)

pub length-valuation_of : (n : ℕ) (holds : ℕ → Bool) → length (valuation_of n holds) ≡ n
length-valuation_of n holds = length-map_range holds 0 n

map_range : (holds : ℕ → Bool) (i n : ℕ) (v : List Bool) → length v ≡ n → ((k : ℕ) → k < n → holds (i + k) ≡ holds_in v k) → map holds (range_with_len i n) ≡ v
map_range holds i zero [] long same = refl
map_range holds i zero (b ∷ v) long same = absurd (omega arith)
map_range holds i (suc n) [] long same = absurd (omega arith)
map_range holds i (suc n) (b ∷ v) long same =
    let here : i ≡ i + 0 = omega arith in
    let first : holds i ≡ b = ap holds here ∙ same 0 (omega arith) in
    let rest : map holds (range_with_len (i + 1) n) ≡ v =
    map_range holds (i + 1) n v (omega arith) (λ k less. let at : i + 1 + k ≡ i + suc k = omega arith in ap holds at ∙ same (suc k) (omega arith)) in
    cc

pub valuation_of-same : (n : ℕ) (holds : ℕ → Bool) (v : List Bool) → length v ≡ n → ((k : ℕ) → k < n → holds k ≡ holds_in v k) → valuation_of n holds ≡ v
valuation_of-same n holds v long same =
    map_range holds 0 n v long (λ k less. let at : 0 + k ≡ k = omega arith in ap holds at ∙ same k less)

holds_in-map_range : (holds : ℕ → Bool) (i n k : ℕ) → k < n → holds_in (map holds (range_with_len i n)) k ≡ holds (i + k)
holds_in-map_range holds i zero k less = absurd (omega arith)
holds_in-map_range holds i (suc n) zero less = let at : i ≡ i + 0 = omega arith in ap holds at
holds_in-map_range holds i (suc n) (suc k) less =
    let at : i + 1 + k ≡ i + suc k = omega arith in holds_in-map_range holds (i + 1) n k (omega arith) ∙ ap holds at

pub holds_in-valuation_of : (n : ℕ) (holds : ℕ → Bool) (k : ℕ) → k < n → holds_in (valuation_of n holds) k ≡ holds k
holds_in-valuation_of n holds k less =
    let at : 0 + k ≡ k = omega arith in holds_in-map_range holds 0 n k less ∙ ap holds at
