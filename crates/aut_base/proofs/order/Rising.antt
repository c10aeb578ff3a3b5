-- Edges in the order of the states that they leave, and increasing marks: how such lists are appended.
use Rattle.std.proofs.Common.{◌≡◌, ◌+◌, ◌<◌, ◌≤◌, ℕ, zero, suc, Bool, true, false, cond, List, [], ◌∷◌, ◌++◌, All, AllPairs, Contains, arith, filter, flat_map, get_or, length, map, subst, sym}
use Rattle.std.specs.List.{range_with_len}
use Rattle.std.specs.List.Sorted.{IsNonDecreasing}
use Rattle.std.proofs.lemmas.List.{length-map}
use Rattle.std.proofs.lemmas.List.Elements.{All-head, All-tail}
use Rattle.aut_base.specs.Automaton.{LabelledEdge}
use Rattle.aut_base.proofs.lists.Members.{first_there, later_there}

-- the edges are in the order of the states that they leave, which are from `low` on and below `high`
abbrev pub Rises : ℕ → ℕ → List LabelledEdge → Type 0
Rises low high [] = Unit {0}
Rises low high (e ∷ es) = (low ≤ e.from) × (e.from < high) × Rises e.from high es

pub rises_wider : (low low' high high' : ℕ) (es : List LabelledEdge) → low' ≤ low → high ≤ high' → Rises low high es → Rises low' high' es
rises_wider low low' high high' [] l h r = tt
rises_wider low low' high high' (e ∷ es) l h r = (omega (arith, r.0), omega (arith, r.1), rises_wider e.from e.from high high' es (omega arith) h r.2)

pub rises_then : (low mid high : ℕ) (es fs : List LabelledEdge) → low ≤ mid → mid ≤ high → Rises low mid es → Rises mid high fs → Rises low high (es ++ fs)
rises_then low mid high [] fs l h first second = rises_wider mid low high high fs l (omega arith) second
rises_then low mid high (e ∷ es) fs l h first second = (first.0, omega (arith, first.1), rises_then e.from mid high es fs (omega (arith, first.1)) h first.2 second)

-- edges that leave one state, and more that leave states from there on
pub rises_at : (low at high : ℕ) (es fs : List LabelledEdge) → low ≤ at → at < high → ((e : LabelledEdge) → Contains es e → e.from ≡ at) → Rises at high fs → Rises low high (es ++ fs)
rises_at low at high [] fs l h same rest = rises_wider at low high high fs l (omega arith) rest
rises_at low at high (e ∷ es) fs l h same rest =
    let here : e.from ≡ at = same e (first_there e es) in
    (omega arith, omega arith, rises_at e.from at high es fs (omega arith) h (λ f there. same f (later_there e es f there)) rest)

pub rises_each : (f : LabelledEdge → List LabelledEdge) → ((e d : LabelledEdge) → Contains (f e) d → d.from ≡ e.from) → (low high : ℕ) (es : List LabelledEdge) → Rises low high es
    → Rises low high (flat_map f es)
rises_each f same low high [] r = tt
rises_each f same low high (e ∷ es) r = rises_at low e.from high (f e) (flat_map f es) r.0 r.1 (same e) (rises_each f same e.from high es r.2)

rises_if : (p : LabelledEdge → Bool) (e : LabelledEdge) (es : List LabelledEdge) (low high : ℕ) (b : Bool) → low ≤ e.from → e.from < high → Rises e.from high (filter p es)
    → Rises low high (cond b (e ∷ filter p es) (filter p es))
rises_if p e es low high true l h r = (l, h, r)
rises_if p e es low high false l h r = rises_wider e.from low high high (filter p es) l (omega arith) r

pub rises_kept : (p : LabelledEdge → Bool) (low high : ℕ) (es : List LabelledEdge) → Rises low high es → Rises low high (filter p es)
rises_kept p low high [] r = tt
rises_kept p low high (e ∷ es) r = rises_if p e es low high (p e) r.0 r.1 (rises_kept p e.from high es r.2)

pub rises_moved : (f : LabelledEdge → LabelledEdge) (by : ℕ) → ((e : LabelledEdge) → (f e).from ≡ by + e.from) → (low high : ℕ) (es : List LabelledEdge) → Rises low high es
    → Rises (by + low) (by + high) (map f es)
rises_moved f by is low high [] r = tt
rises_moved f by is low high (e ∷ es) r =
    (omega (arith, is e, r.0), omega (arith, is e, r.1), subst (λ (n : ℕ). Rises n (by + high) (map f es)) (sym (is e)) (rises_moved f by is e.from high es r.2))

-- lists for the numbers of a range, appended
pub rises_pieces : (f : ℕ → List LabelledEdge) (place : ℕ → ℕ) → ((x : ℕ) → place x ≤ place (x + 1)) → (a n : ℕ) → ((x : ℕ) → a ≤ x → x < a + n → Rises (place x) (place (x + 1)) (f x))
    → Rises (place a) (place (a + n)) (flat_map f (range_with_len a n))
rises_pieces f place grows a zero each = tt
rises_pieces f place grows a (suc n) each =
    let far : a + 1 + n ≡ a + suc n = omega arith in
    rises_then (place a) (place (a + 1)) (place (a + suc n)) (f a) (flat_map f (range_with_len (a + 1) n)) (grows a)
    (subst (λ m. place (a + 1) ≤ place m) far (place_up place grows (a + 1) n)) (each a (omega arith) (omega arith))
    (subst (λ m. Rises (place (a + 1)) (place m) (flat_map f (range_with_len (a + 1) n))) far (rises_pieces f place grows (a + 1) n (λ x l h. each x (omega arith) (omega arith))))
  where
    place_up : (place : ℕ → ℕ) → ((x : ℕ) → place x ≤ place (x + 1)) → (a n : ℕ) → place a ≤ place (a + n)
    place_up place grows a zero = let z : a ≡ a + 0 = omega arith in subst (λ m. place a ≤ place m) z (omega arith)
    place_up place grows a (suc n) =
        let z : a + n + 1 ≡ a + suc n = omega arith in
        let before = place_up place grows a n in
        let next = grows (a + n) in
        subst (λ m. place a ≤ place m) z (omega arith)

rises_from : (low high : ℕ) (es : List LabelledEdge) → Rises low high es → (j d : ℕ) → j < length (map (λ (e : LabelledEdge). e.from) es) → low ≤ get_or (map (λ (e : LabelledEdge). e.from) es) j d
rises_from low high [] r j d within = absurd (omega (arith, within))
rises_from low high (e ∷ es) r zero d within = r.0
rises_from low high (e ∷ es) r (suc j) d within = omega (arith, r.0, rises_from e.from high es r.2 j d (omega (arith, within)))

pub rising : (low high : ℕ) (es : List LabelledEdge) → Rises low high es → IsNonDecreasing (map (λ (e : LabelledEdge). e.from) es)
rising low high [] r i j d order within = absurd (omega (arith, within))
rising low high (e ∷ es) r zero zero d order within = omega arith
rising low high (e ∷ es) r zero (suc j) d order within = rises_from e.from high es r.2 j d (omega (arith, within))
rising low high (e ∷ es) r (suc i) zero d order within = absurd (omega (arith, order))
rising low high (e ∷ es) r (suc i) (suc j) d order within = rising e.from high es r.2 i j d (omega (arith, order)) (omega (arith, within))

pub risen : (high : ℕ) (es : List LabelledEdge) → IsNonDecreasing (map (λ (e : LabelledEdge). e.from) es) → All (λ (e : LabelledEdge). e.from < high) es → (low : ℕ)
    → ((d : ℕ) → 0 < length es → low ≤ get_or (map (λ (e : LabelledEdge). e.from) es) 0 d) → Rises low high es
risen high [] order below low first = tt
risen high (e ∷ es) order below low first = (
  first 0 (omega arith),
  All-head (λ (d : LabelledEdge). d.from < high) e es below,
  risen high es (λ i j d l w. order (suc i) (suc j) d (omega (arith, l)) (omega (arith, w))) (All-tail (λ (d : LabelledEdge). d.from < high) e es below) e.from
      (λ d some. order 0 1 d (omega arith) (omega (arith, some, length-map es (λ (f : LabelledEdge). f.from)))),
)

-- increasing numbers, from `low` on
abbrev pub Increases : ℕ → List ℕ → Type 0
Increases low [] = Unit {0}
Increases low (x ∷ xs) = (low ≤ x) × Increases (x + 1) xs

increases_wider : (low low' : ℕ) (xs : List ℕ) → low' ≤ low → Increases low xs → Increases low' xs
increases_wider low low' [] l c = tt
increases_wider low low' (x ∷ xs) l c = (omega (arith, c.0), c.1)

pub increases_range : (a n : ℕ) → Increases a (range_with_len a n)
increases_range a zero = tt
increases_range a (suc n) = (omega arith, increases_range (a + 1) n)

increases_if : (p : ℕ → Bool) (x : ℕ) (xs : List ℕ) (low : ℕ) (b : Bool) → low ≤ x → Increases (x + 1) (filter p xs) → Increases low (cond b (x ∷ filter p xs) (filter p xs))
increases_if p x xs low true l c = (l, c)
increases_if p x xs low false l c = increases_wider (x + 1) low (filter p xs) (omega arith) c

pub increases_kept : (p : ℕ → Bool) (low : ℕ) (xs : List ℕ) → Increases low xs → Increases low (filter p xs)
increases_kept p low [] c = tt
increases_kept p low (x ∷ xs) c = increases_if p x xs low (p x) c.0 (increases_kept p (x + 1) xs c.1)

pub increases_moved : (by low : ℕ) (xs : List ℕ) → Increases low xs → Increases (by + low) (map (λ x. by + x) xs)
increases_moved by low [] c = tt
increases_moved by low (x ∷ xs) c = let z : by + (x + 1) ≡ by + x + 1 = omega arith in (omega (arith, c.0), subst (λ n. Increases n (map (λ y. by + y) xs)) z (increases_moved by (x + 1) xs c.1))

increases_from : (low : ℕ) (xs : List ℕ) → Increases low xs → (j d : ℕ) → j < length xs → low ≤ get_or xs j d
increases_from low [] c j d within = absurd (omega (arith, within))
increases_from low (x ∷ xs) c zero d within = c.0
increases_from low (x ∷ xs) c (suc j) d within = omega (arith, c.0, increases_from (x + 1) xs c.1 j d (omega (arith, within)))

pub increasing : (low : ℕ) (xs : List ℕ) → Increases low xs → AllPairs (λ m n. m < n) xs
increasing low [] c i j d order within = absurd (omega (arith, within))
increasing low (x ∷ xs) c zero zero d order within = absurd (omega (arith, order))
increasing low (x ∷ xs) c zero (suc j) d order within = omega (arith, increases_from (x + 1) xs c.1 j d (omega (arith, within)))
increasing low (x ∷ xs) c (suc i) zero d order within = absurd (omega (arith, order))
increasing low (x ∷ xs) c (suc i) (suc j) d order within = increasing (x + 1) xs c.1 i j d (omega (arith, order)) (omega (arith, within))
