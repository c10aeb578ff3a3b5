-- A canonical label is true exactly where the truth function that it was made of is.
use Rattle.std.proofs.Common.{◌≡◌, ◌∙◌, ℕ, zero, suc, ◌+◌, ◌<◌, Bool, true, false, cond, not, ◌&&◌, ◌||◌, List, [], ◌∷◌, ◌++◌, length, map, refl, sym, ap}
use Rattle.std.proofs.lemmas.List.Folds.{list_any-append}
use Rattle.std.specs.Bool.{beq}
use Rattle.std.specs.List.{list_all, list_any, range_with_len}
use Rattle.aut_base.specs.CanonicalLabel.{Literal, all_of, canonical_label, cubes, is_independent, label_of_truth, literal_tree, one_of}
use Rattle.aut_base.specs.Label.{AllBelow, EachBelow, LabelTree, LabelTrees, True, False, Prop, Not, And, Or, none, more, all_true, some_true, trees, truth}
use Rattle.aut_base.specs.Valuation.{holds_in, truth_on, valuation_of}
use Rattle.aut_base.proofs.canonical.ValuationLists.{all_same, holds_in-valuation_of, independent_agrees, length-map_range, valuation_of-same}
use Rattle.aut_base.proofs.numbers.Truth.{and-true, and_or, or-false}

-- whether all literals of a cube hold
abbrev pub all_hold : (ℕ → Bool) → List Literal → Bool
all_hold holds = list_all (λ l. truth holds (literal_tree l))

pub all_true-trees : (holds : ℕ → Bool) (ts : List LabelTree) → all_true holds (trees ts) ≡ list_all (truth holds) ts
all_true-trees holds [] = refl
all_true-trees holds (t ∷ ts) = ap (λ b. truth holds t && b) (all_true-trees holds ts)

some_true-trees : (holds : ℕ → Bool) (ts : List LabelTree) → some_true holds (trees ts) ≡ list_any (truth holds) ts
some_true-trees holds [] = refl
some_true-trees holds (t ∷ ts) = ap (λ b. truth holds t || b) (some_true-trees holds ts)

pub truth-all_of : (holds : ℕ → Bool) (ts : List LabelTree) → truth holds (all_of ts) ≡ list_all (truth holds) ts
truth-all_of holds [] = refl
truth-all_of holds (t ∷ []) = sym (and-true (truth holds t))
truth-all_of holds (t ∷ u ∷ us) = ap (λ b. truth holds t && (truth holds u && b)) (all_true-trees holds us)

pub truth-one_of : (holds : ℕ → Bool) (ts : List LabelTree) → truth holds (one_of ts) ≡ list_any (truth holds) ts
truth-one_of holds [] = refl
truth-one_of holds (t ∷ []) = sym (or-false (truth holds t))
truth-one_of holds (t ∷ u ∷ us) = ap (λ b. truth holds t || (truth holds u || b)) (some_true-trees holds us)

all-literals : (holds : ℕ → Bool) (cube : List Literal) → list_all (truth holds) (map literal_tree cube) ≡ all_hold holds cube
all-literals holds [] = refl
all-literals holds (l ∷ ls) = ap (λ b. truth holds (literal_tree l) && b) (all-literals holds ls)

any-cubes : (holds : ℕ → Bool) (cs : List (List Literal)) → list_any (truth holds) (map (λ cube. all_of (map literal_tree cube)) cs) ≡ list_any (all_hold holds) cs
any-cubes holds [] = refl
any-cubes holds (c ∷ cs) =
    let first : truth holds (all_of (map literal_tree c)) ≡ all_hold holds c = truth-all_of holds (map literal_tree c) ∙ all-literals holds c in
    let rest = any-cubes holds cs in
    cc

-- cubes are true where all literals of one of them hold
pub truth-cubes : (holds : ℕ → Bool) (cs : List (List Literal)) → truth holds (one_of (map (λ cube. all_of (map literal_tree cube)) cs)) ≡ list_any (all_hold holds) cs
truth-cubes holds cs =
    truth-one_of holds (map (λ cube. all_of (map literal_tree cube)) cs) ∙ any-cubes holds cs

and_false : (a : Bool) → false ≡ (a && false)
and_false true = refl
and_false false = refl

-- the truth of cubes to each of which a literal is added
pub any-under : (holds : ℕ → Bool) (l : Literal) (cs : List (List Literal)) → list_any (all_hold holds) (map (λ cube. l ∷ cube) cs) ≡ (truth holds (literal_tree l) && list_any (all_hold holds) cs)
any-under holds l [] = and_false (truth holds (literal_tree l))
any-under holds l (c ∷ cs) =
    ap (λ b. (truth holds (literal_tree l) && all_hold holds c) || b) (any-under holds l cs) ∙ and_or (truth holds (literal_tree l)) (all_hold holds c) (list_any (all_hold holds) cs)

abbrev literal : ℕ → Bool → Literal
literal i b = record { prop = i; holds = b }

chosen : (here : Bool) (f : Bool → Bool) → ((not here && f false) || (here && f true)) ≡ f here
chosen true f = refl
chosen false f = or-false (f false)

either : (here : Bool) (f : Bool → Bool) → f false ≡ f true → f false ≡ f here
either true f same = same
either false f same = refl

end_true : (holds : ℕ → Bool) (b : Bool) → list_any (all_hold holds) (cond b ([] ∷ []) []) ≡ b
end_true holds true = refl
end_true holds false = refl

-- the cubes of a truth function of the propositions from the i-th on are true where the function is
pub cubes_hold : (holds : ℕ → Bool) (i n : ℕ) (g : List Bool → Bool) → list_any (all_hold holds) (cubes i n g) ≡ g (map holds (range_with_len i n))
cubes_hold holds i zero g = end_true holds (g [])
cubes_hold holds i (suc n) g =
    let low = cubes (i + 1) n (λ v. g (false ∷ v)) in
    let high = cubes (i + 1) n (λ v. g (true ∷ v)) in
    let rest = map holds (range_with_len (i + 1) n) in
    let at_low : list_any (all_hold holds) low ≡ g (false ∷ rest) = cubes_hold holds (i + 1) n (λ v. g (false ∷ v)) in
    let at_high : list_any (all_hold holds) high ≡ g (true ∷ rest) = cubes_hold holds (i + 1) n (λ v. g (true ∷ v)) in
    let go : (b : Bool) → is_independent n g ≡ b → list_any (all_hold holds) (cond b low (map (λ cube. literal i false ∷ cube) low ++ map (λ cube. literal i true ∷ cube) high)) ≡ g (holds i ∷ rest) =
    λ b is. elim b as (λ c. is_independent n g ≡ c
    → list_any (all_hold holds) (cond c low (map (λ cube. literal i false ∷ cube) low ++ map (λ cube. literal i true ∷ cube) high)) ≡ g (holds i ∷ rest)) [
      | true ↦ λ alone. at_low ∙ either (holds i) (λ c. g (c ∷ rest)) (independent_agrees n g alone rest (length-map_range holds (i + 1) n))
      | false ↦ λ matters. list_any-append (all_hold holds) (map (λ cube. literal i false ∷ cube) low) (map (λ cube. literal i true ∷ cube) high)
          ∙ (ap (λ c. c || list_any (all_hold holds) (map (λ cube. literal i true ∷ cube) high)) (any-under holds (literal i false) low ∙ ap (λ c. not (holds i) && c) at_low)
          ∙ (ap (λ c. (not (holds i) && g (false ∷ rest)) || c) (any-under holds (literal i true) high ∙ ap (λ c. holds i && c) at_high)
          ∙ chosen (holds i) (λ c. g (c ∷ rest))))
    ] is in
    go (is_independent n g) refl

-- the label of a truth function is true where the function is
pub truth-label_of : (holds : ℕ → Bool) (n : ℕ) (g : List Bool → Bool) → truth holds (label_of_truth n g) ≡ g (valuation_of n holds)
truth-label_of holds n g = truth-cubes holds (cubes 0 n g) ∙ cubes_hold holds 0 n g

-- and under a valuation
pub truth_on-label_of : (n : ℕ) (g : List Bool → Bool) (v : List Bool) → length v ≡ n → truth_on (label_of_truth n g) v ≡ g v
truth_on-label_of n g v long =
    truth-label_of (holds_in v) n g ∙ ap g (valuation_of-same n (holds_in v) v long (λ k less. refl))

same_branch : (i : ℕ) (a b : Bool) (low low' high high' : List (List Literal)) → a ≡ b → low ≡ low' → high ≡ high'
    → cond a low (map (λ cube. literal i false ∷ cube) low ++ map (λ cube. literal i true ∷ cube) high) ≡ cond b low'
    (map (λ cube. literal i false ∷ cube) low' ++ map (λ cube. literal i true ∷ cube) high')
same_branch i a b low low' high high' e f g = cc

-- truth functions that agree on the valuations have the same cubes
pub cubes_same : (i n : ℕ) (g h : List Bool → Bool) → ((v : List Bool) → length v ≡ n → g v ≡ h v) → cubes i n g ≡ cubes i n h
cubes_same i zero g h same = ap (λ b. cond b ([] ∷ []) []) (same [] refl)
cubes_same i (suc n) g h same =
    let low : cubes (i + 1) n (λ v. g (false ∷ v)) ≡ cubes (i + 1) n (λ v. h (false ∷ v)) = cubes_same (i + 1) n (λ v. g (false ∷ v)) (λ v. h (false ∷ v)) (λ v long. same (false ∷ v) (ap suc long)) in
    let high : cubes (i + 1) n (λ v. g (true ∷ v)) ≡ cubes (i + 1) n (λ v. h (true ∷ v)) = cubes_same (i + 1) n (λ v. g (true ∷ v)) (λ v. h (true ∷ v)) (λ v long. same (true ∷ v) (ap suc long)) in
    let alone : is_independent n g ≡ is_independent n h = all_same n (λ v. beq (g (false ∷ v)) (g (true ∷ v))) (λ v. beq (h (false ∷ v)) (h (true ∷ v)))
    (λ v long. let f = same (false ∷ v) (ap suc long) in let t = same (true ∷ v) (ap suc long) in cc) in
    same_branch i (is_independent n g) (is_independent n h) _ _ _ _ alone low high

pub label_of-same : (n : ℕ) (g h : List Bool → Bool) → ((v : List Bool) → length v ≡ n → g v ≡ h v) → label_of_truth n g ≡ label_of_truth n h
label_of-same n g h same = ap (λ (cs : List (List Literal)). one_of (map (λ cube. all_of (map literal_tree cube)) cs)) (cubes_same 0 n g h same)

-- the truth of a label depends on the truth of its own propositions alone
mutual
  pub truth_below : (n : ℕ) (p q : ℕ → Bool) (t : LabelTree) → AllBelow n t → ((i : ℕ) → i < n → p i ≡ q i) → truth p t ≡ truth q t
  truth_below n p q True below same = refl
  truth_below n p q False below same = refl
  truth_below n p q (Prop i) below same = same i below
  truth_below n p q (Not t) below same = ap not (truth_below n p q t below same)
  truth_below n p q (And a b cs) below same = cc (truth_below n p q a below.0 same, truth_below n p q b below.1 same, all_true_below n p q cs below.2 same)
  truth_below n p q (Or a b cs) below same = cc (truth_below n p q a below.0 same, truth_below n p q b below.1 same, some_true_below n p q cs below.2 same)

  all_true_below : (n : ℕ) (p q : ℕ → Bool) (ts : LabelTrees) → EachBelow n ts → ((i : ℕ) → i < n → p i ≡ q i) → all_true p ts ≡ all_true q ts
  all_true_below n p q none below same = refl
  all_true_below n p q (more t ts) below same = cc (truth_below n p q t below.0 same, all_true_below n p q ts below.1 same)

  some_true_below : (n : ℕ) (p q : ℕ → Bool) (ts : LabelTrees) → EachBelow n ts → ((i : ℕ) → i < n → p i ≡ q i) → some_true p ts ≡ some_true q ts
  some_true_below n p q none below same = refl
  some_true_below n p q (more t ts) below same = cc (truth_below n p q t below.0 same, some_true_below n p q ts below.1 same)

-- the canonical form of a label is true where the label is
pub canonical_label_keeps_truth : (n : ℕ) (t : LabelTree) (holds : ℕ → Bool) → AllBelow n t → truth holds (canonical_label n t) ≡ truth holds t
canonical_label_keeps_truth n t holds below =
    truth-label_of holds n (truth_on t) ∙ truth_below n (holds_in (valuation_of n holds)) holds t below (holds_in-valuation_of n holds)
