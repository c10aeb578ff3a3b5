-- The least number above all of a list, part by part.
use Rattle.std.proofs.Common.{◌≡◌, ◌+◌, max, ℕ, List, [], ◌∷◌, ◌++◌, Bool, ◌&&◌, arith, ap, ◌∙◌, nat_lt, nat_le}
use Rattle.std.proofs.lemmas.Bool.Decides.{nat_tests}
use Rattle.std.proofs.lemmas.Grind.{flat_map-append}
use Rattle.std.specs.Prelude.{flat_map}
use Rattle.hoa_reader.specs.inner.Numbers.{after_all}
use Rattle.hoa_reader.specs.inner.PickedOut.{edge_targets}
use Rattle.hoa_parser.specs.Raw.{WrittenEdge, WrittenState}
use Rattle.hoa_reader.specs.Validity.{numbers_below}

pub after_all-append : (xs ys : List ℕ) → after_all (xs ++ ys) ≡ max (after_all xs) (after_all ys)
after_all-append [] ys = omega arith
after_all-append (x ∷ xs) ys = let rest = after_all-append xs ys in omega (arith, rest)

-- the least number above what is before, with the first part and then with the rest
pub after_more : (own rest all : List ℕ) (before whole with_own : ℕ) → all ≡ own ++ rest → max before (after_all all) ≡ whole → with_own ≡ max before (after_all own)
    → max with_own (after_all rest) ≡ whole
after_more own rest all before whole with_own is so_far now =
    let parts : after_all all ≡ max (after_all own) (after_all rest) = ap after_all is ∙ after_all-append own rest in
    omega (arith, parts, so_far, now)

split_test : (x n m : ℕ) (b : Bool) → b ≡ nat_le m n → (nat_lt x n && b) ≡ nat_le (max (x + 1) m) n
split_test x n m b e = grind (arith, nat_tests)

-- all are below n where n is at least the least number above them
pub numbers_below-after : (n : ℕ) (xs : List ℕ) → numbers_below n xs ≡ nat_le (after_all xs) n
numbers_below-after n [] = grind (arith, nat_tests)
numbers_below-after n (x ∷ xs) = split_test x n (after_all xs) (numbers_below n xs) (numbers_below-after n xs)

-- the goals of the edges of one more state
pub goals-cons : (s : WrittenState) (states : List WrittenState)
    → after_all (edge_targets (s ∷ states)) ≡ max (after_all (flat_map (λ (e : WrittenEdge). e.to) s.edges)) (after_all (edge_targets states))
goals-cons s states =
    ap after_all (flat_map-append (λ (e : WrittenEdge). e.to) s.edges (flat_map (λ (s : WrittenState). s.edges) states))
    ∙ after_all-append (flat_map (λ (e : WrittenEdge). e.to) s.edges) (edge_targets states)

pub ruleset after_alls = (after_all-append, goals-cons)
