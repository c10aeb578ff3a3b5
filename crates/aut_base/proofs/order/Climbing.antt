-- Edges in the order of the states that they leave, from some state on: appended state by state, and as one list in order.
use Rattle.std.proofs.Common.{◌≡◌, ◌+◌, ◌≤◌, ℕ, zero, suc, List, [], ◌∷◌, ◌++◌, All, append_assoc, arith, map, subst, sym}
use Rattle.std.proofs.lemmas.List.{get_or-map, length-map}
use Rattle.std.proofs.lemmas.List.Elements.{All-cons, All-tail}
use Rattle.std.specs.List.{range_with_len}
use Rattle.std.specs.List.Sorted.{IsNonDecreasing}
use Rattle.std.specs.Prelude.{flat_map}
use Rattle.aut_base.specs.Automaton.{LabelledEdge}

-- all edges leave this state
abbrev pub AllFrom : ℕ → List LabelledEdge → Type 0
AllFrom q = All (λ e. e.from ≡ q)

-- the edges are in the order of the states that they leave, none of which is before this one
abbrev pub Climbs : ℕ → List LabelledEdge → Type 0
Climbs low [] = Unit {0}
Climbs low (e ∷ es) = (low ≤ e.from) × Climbs e.from es

pub climbs_lower : (low more : ℕ) (es : List LabelledEdge) → low ≤ more → Climbs more es → Climbs low es
climbs_lower low more [] le climbs = tt
climbs_lower low more (e ∷ es) le climbs = (omega (arith, le, climbs.0), climbs.1)

pub climbs_row : (low q : ℕ) (es fs : List LabelledEdge) → low ≤ q → AllFrom q es → Climbs q fs → Climbs low (es ++ fs)
climbs_row low q [] fs le own climbs = climbs_lower low q fs le climbs
climbs_row low q (e ∷ es) fs le own climbs =
    let here : e.from ≡ q = own 0 e (omega arith) in
    (omega (arith, le, here), climbs_row e.from q es fs (omega (arith, here)) (All-tail (λ (d : LabelledEdge). d.from ≡ q) e es own) climbs)

pub climbs_append : (low mid : ℕ) (es fs : List LabelledEdge) → low ≤ mid → Climbs low es → All (λ e. e.from ≤ mid) es → Climbs mid fs → Climbs low (es ++ fs)
climbs_append low mid [] fs le climbs within more = climbs_lower low mid fs le more
climbs_append low mid (e ∷ es) fs le climbs within more =
    (climbs.0, climbs_append e.from mid es fs (within 0 e (omega arith)) climbs.1 (All-tail (λ (d : LabelledEdge). d.from ≤ mid) e es within) more)

pub climbs_all : (low : ℕ) (es : List LabelledEdge) → Climbs low es → All (λ e. low ≤ e.from) es
climbs_all low [] climbs = λ k d within. absurd (omega (arith, within))
climbs_all low (e ∷ es) climbs = All-cons (λ (d : LabelledEdge). low ≤ d.from) e es climbs.0 (λ k d within. let rest = climbs_all e.from es climbs.1 k d within in omega (arith, climbs.0, rest))

pub climbs_in_order : (low : ℕ) (es : List LabelledEdge) → Climbs low es → IsNonDecreasing (map (λ e. e.from) es)
climbs_in_order low [] climbs i j d le within = absurd (omega (arith, within))
climbs_in_order low (e ∷ es) climbs zero zero d le within = omega arith
climbs_in_order low (e ∷ es) climbs zero (suc j) d le within =
    let size = length-map es (λ (f : LabelledEdge). f.from) in
    let least = climbs_all e.from es climbs.1 j e (omega (arith, within, size)) in
    let at = get_or-map (λ (f : LabelledEdge). f.from) es j e d (omega (arith, within, size)) in
    omega (arith, least, at)
climbs_in_order low (e ∷ es) climbs (suc i) zero d le within = absurd (omega (arith, le))
climbs_in_order low (e ∷ es) climbs (suc i) (suc j) d le within = climbs_in_order e.from es climbs.1 i j d (omega (arith, le)) (omega (arith, within))

-- and edges in that order are such a list
pub in_order_climbs : (low : ℕ) (es : List LabelledEdge) → All (λ e. low ≤ e.from) es → IsNonDecreasing (map (λ e. e.from) es) → Climbs low es
in_order_climbs low [] least rises = tt
in_order_climbs low (e ∷ es) least rises = (
  least 0 e (omega arith),
  in_order_climbs e.from es (λ k d within.
      let size = length-map es (λ (f : LabelledEdge). f.from) in
      let up = rises 0 (suc k) 0 (omega arith) (omega (arith, within, size)) in
      let at = get_or-map (λ (f : LabelledEdge). f.from) es k d 0 within in
      omega (arith, up, at)) (λ i j d le within. rises (suc i) (suc j) d (omega (arith, le)) (omega (arith, within))),
)

pub climbs_rows : (row : ℕ → List LabelledEdge) → ((q : ℕ) → AllFrom q (row q)) → (low i n : ℕ) (fs : List LabelledEdge) → low ≤ i → Climbs (i + n) fs
    → Climbs low (flat_map row (range_with_len i n) ++ fs)
climbs_rows row own low i zero fs le climbs = climbs_lower low (i + 0) fs (omega (arith, le)) climbs
climbs_rows row own low i (suc n) fs le climbs =
    let e : i + suc n ≡ i + 1 + n = omega arith in
    let rest = climbs_rows row own i (i + 1) n fs (omega arith) (subst (λ m. Climbs m fs) e climbs) in
    subst (Climbs low) (sym (append_assoc (row i) (flat_map row (range_with_len (i + 1) n)) fs)) (climbs_row low i (row i) (flat_map row (range_with_len (i + 1) n) ++ fs) le (own i) rest)
