-- The propositions of a canonical label are among those of its truth function.
use Rattle.std.proofs.Common.{◌<◌, ◌≤◌, ◌+◌, ℕ, zero, suc, Bool, true, false, cond, List, [], ◌∷◌, ◌++◌, map, arith}
use Rattle.std.specs.List.{AllByRecursion}
use Rattle.aut_base.specs.CanonicalLabel.{Literal, all_of, canonical_label, cubes, is_independent, label_of_truth, literal_tree, one_of}
use Rattle.aut_base.specs.Label.{AllBelow, EachBelow, LabelTree, Prop, Not, trees}
use Rattle.aut_base.specs.Valuation.{truth_on}

-- every proposition of the cube is below n
abbrev pub CubeBelow : ℕ → List Literal → Type 0
CubeBelow n = AllByRecursion (λ (l : Literal). l.prop < n)

led : (n : ℕ) (l : Literal) (cs : List (List Literal)) → l.prop < n → AllByRecursion (CubeBelow n) cs → AllByRecursion (CubeBelow n) (map (λ cube. l ∷ cube) cs)
led n l [] h all = tt
led n l (c ∷ cs) h all = ((h, all.0), led n l cs h all.1)

both_below : (n : ℕ) (cs ds : List (List Literal)) → AllByRecursion (CubeBelow n) cs → AllByRecursion (CubeBelow n) ds → AllByRecursion (CubeBelow n) (cs ++ ds)
both_below n [] ds h k = k
both_below n (c ∷ cs) ds h k = (h.0, both_below n cs ds h.1 k)

pub cubes_below : (k i n : ℕ) (g : List Bool → Bool) → i + n ≤ k → AllByRecursion (CubeBelow k) (cubes i n g)
cubes_below k i zero g l = elim (g []) as (λ b. AllByRecursion (CubeBelow k) (cond b ([] ∷ []) [])) [ true ↦ (tt, tt) | false ↦ tt ]
cubes_below k i (suc n) g l =
    let no : Literal = record { prop = i; holds = false } in
    let yes : Literal = record { prop = i; holds = true } in
    let low = cubes (i + 1) n (λ v. g (false ∷ v)) in
    let high = cubes (i + 1) n (λ v. g (true ∷ v)) in
    let first : AllByRecursion (CubeBelow k) low = cubes_below k (i + 1) n (λ v. g (false ∷ v)) (omega arith) in
    let second : AllByRecursion (CubeBelow k) high = cubes_below k (i + 1) n (λ v. g (true ∷ v)) (omega arith) in
    elim (is_independent n g) as (λ b. AllByRecursion (CubeBelow k) (cond b low (map (λ cube. no ∷ cube) low ++ map (λ cube. yes ∷ cube) high))) [
      | true ↦ first
      | false ↦ both_below k (map (λ cube. no ∷ cube) low) (map (λ cube. yes ∷ cube) high) (led k no low (omega arith) first) (led k yes high (omega arith) second)
    ]

literal_below : (n : ℕ) (l : Literal) → l.prop < n → AllBelow n (literal_tree l)
literal_below n l h = elim l.holds as (λ b. AllBelow n (cond b (Prop l.prop) (Not (Prop l.prop)))) [ true ↦ h | false ↦ h ]

literals_below : (n : ℕ) (cube : List Literal) → CubeBelow n cube → AllByRecursion (AllBelow n) (map literal_tree cube)
literals_below n [] all = tt
literals_below n (l ∷ ls) all = (literal_below n l all.0, literals_below n ls all.1)

pub trees_below : (n : ℕ) (ts : List LabelTree) → AllByRecursion (AllBelow n) ts → EachBelow n (trees ts)
trees_below n [] all = tt
trees_below n (t ∷ ts) all = (all.0, trees_below n ts all.1)

pub all_of_below : (n : ℕ) (ts : List LabelTree) → AllByRecursion (AllBelow n) ts → AllBelow n (all_of ts)
all_of_below n [] all = tt
all_of_below n (t ∷ []) all = all.0
all_of_below n (t ∷ u ∷ us) all = (all.0, all.1.0, trees_below n us all.1.1)

pub one_of_below : (n : ℕ) (ts : List LabelTree) → AllByRecursion (AllBelow n) ts → AllBelow n (one_of ts)
one_of_below n [] all = tt
one_of_below n (t ∷ []) all = all.0
one_of_below n (t ∷ u ∷ us) all = (all.0, all.1.0, trees_below n us all.1.1)

cube_trees_below : (n : ℕ) (cs : List (List Literal)) → AllByRecursion (CubeBelow n) cs → AllByRecursion (AllBelow n) (map (λ cube. all_of (map literal_tree cube)) cs)
cube_trees_below n [] all = tt
cube_trees_below n (c ∷ cs) all =
    (all_of_below n (map literal_tree c) (literals_below n c all.0), cube_trees_below n cs all.1)

pub label_of_below : (n : ℕ) (g : List Bool → Bool) → AllBelow n (label_of_truth n g)
label_of_below n g =
    one_of_below n (map (λ cube. all_of (map literal_tree cube)) (cubes 0 n g)) (cube_trees_below n (cubes 0 n g) (cubes_below n 0 n g (omega arith)))

pub canonical_label_below : (n : ℕ) (t : LabelTree) → AllBelow n (canonical_label n t)
canonical_label_below n t = label_of_below n (truth_on t)
