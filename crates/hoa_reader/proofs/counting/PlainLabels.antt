-- Labels without aliases count the same whatever is known of aliases.
use Rattle.std.proofs.Common.{◌≡◌, ◌∙◌, ◌+◌, ◌*◌, ◌&&◌, ◌||◌, ℕ, Bool, true, false, not, cond, max, List, [], ◌∷◌, ◌++◌, length, Option, None, Some, ap, arith, nat_lt, refl, sym}
use Rattle.std.proofs.Math.Nat.{mul-suc, mul-zero, zero-mul}
use Rattle.std.proofs.lemmas.Bool.{and_parts, false≢true}
use Rattle.std.proofs.lemmas.Bool.Decides.{nat_tests}
use Rattle.std.proofs.lemmas.List.Folds.{list_any-append}
use Rattle.std.proofs.lemmas.List.Sums.{sum_by-cons}
use Rattle.std.specs.List.{list_all}
use Rattle.std.specs.Option.{option_map_or}
use Rattle.std.specs.Prelude.{flat_map, option_to_list, sum_by}
use Rattle.aut_base.specs.declared.limit.TheConstants.{MOST_ALIASES}
use Rattle.hoa_parser.specs.Raw as raw
use Rattle.hoa_parser.specs.Raw.{RawTree, RawTrees, WrittenEdge, WrittenState}
use Rattle.hoa_reader.specs.Validity.{aliases_among, all_leaves_pass}
use Rattle.hoa_reader.specs.inner.Places.{is_listed}
use Rattle.hoa_reader.proofs.validity.RuleParts.{state_labels}
use Rattle.hoa_reader.specs.declared.elaborate.aliases.Known.{Known}
use Rattle.hoa_reader.specs.declared.elaborate.places.Places.{Places}
use Rattle.hoa_reader.specs.inner.Growing.{all_capped, cap, capped_weight, capped_height, capped_size, capped_sum, heights_in, sizes_in}
use Rattle.hoa_reader.specs.inner.Sums.{body_sums, edges_sums, one_sign, option_height, option_plain, option_size}
use Rattle.hoa_reader.specs.inner.Weighing.{are_tall, states_counted, edge_counted, own_counted, state_counted}

false_true : {A : Type 0} → false ≡ true → A
false_true e = absurd (false≢true e)

mutual
  pub plain_counts : (both : ℕ → ℕ → ℕ) (f g : List ℕ → ℕ) (t : RawTree) → aliases_among [] t ≡ true → capped_weight both f t ≡ capped_weight both g t
  plain_counts both f g raw.True e = refl
  plain_counts both f g raw.False e = refl
  plain_counts both f g (raw.Prop i) e = refl
  plain_counts both f g (raw.Alias name) e = false_true e
  plain_counts both f g (raw.Not t) e = ap (λ n. cap (n + 1)) (plain_counts both f g t e)
  plain_counts both f g (raw.And a b cs) e =
      let one = and_parts (aliases_among [] a) _ e in
      let two = and_parts (aliases_among [] b) _ one.1 in
      λ i. cap (both (plain_counts both f g a one.0 i) (both (plain_counts both f g b two.0 i) (plain_counts_all both f g cs two.1 i)) + 1)
  plain_counts both f g (raw.Or a b cs) e =
      let one = and_parts (aliases_among [] a) _ e in
      let two = and_parts (aliases_among [] b) _ one.1 in
      λ i. cap (both (plain_counts both f g a one.0 i) (both (plain_counts both f g b two.0 i) (plain_counts_all both f g cs two.1 i)) + 1)

  plain_counts_all : (both : ℕ → ℕ → ℕ) (f g : List ℕ → ℕ) (ts : RawTrees) → all_leaves_pass (λ i. true) (is_listed []) ts ≡ true → all_capped both f ts ≡ all_capped both g ts
  plain_counts_all both f g raw.none e = refl
  plain_counts_all both f g (raw.more t ts) e =
      let one = and_parts (aliases_among [] t) _ e in
      λ i. both (plain_counts both f g t one.0 i) (plain_counts_all both f g ts one.1 i)

-- a label is tall where the tallest of two is
any_max : (most a b : ℕ) (x y : Bool) → x ≡ nat_lt most a → y ≡ nat_lt most b → (x || y) ≡ nat_lt most (max a b)
any_max most a b x y e f = grind (arith, nat_tests)

none_tall : (most : ℕ) → false ≡ nat_lt most 0
none_tall most = grind (arith, nat_tests)

or_false : (b : Bool) → (b || false) ≡ b
or_false true = refl
or_false false = refl

option_tall : (known : Places Known) (o : Option RawTree) → option_plain o ≡ true → are_tall known (option_to_list o) ≡ nat_lt MOST_ALIASES (option_height o)
option_tall known None e = none_tall MOST_ALIASES
option_tall known (Some t) e = or_false _ ∙ ap (nat_lt MOST_ALIASES) (plain_counts max (heights_in known) one_sign t e)

tall_append : (known : Places Known) (xs ys : List RawTree) → are_tall known (xs ++ ys) ≡ (are_tall known xs || are_tall known ys)
tall_append known xs ys = list_any-append (λ t. nat_lt MOST_ALIASES (capped_height (heights_in known) t)) xs ys

edges_tall : (known : Places Known) (es : List WrittenEdge) → (edges_sums es).plain ≡ true
    → are_tall known (flat_map (λ (e : WrittenEdge). option_to_list e.label) es) ≡ nat_lt MOST_ALIASES (edges_sums es).height
edges_tall known [] e = none_tall MOST_ALIASES
edges_tall known (d ∷ ds) e =
    let one = and_parts (option_plain d.label) (edges_sums ds).plain e in
    tall_append known (option_to_list d.label) (flat_map (λ (e : WrittenEdge). option_to_list e.label) ds)
    ∙ any_max MOST_ALIASES _ _ _ _ (option_tall known d.label one.0) (edges_tall known ds one.1)

pub body_tall : (known : Places Known) (names : ℕ) (ss : List WrittenState) → (body_sums names ss).plain ≡ true
    → are_tall known (flat_map state_labels ss) ≡ nat_lt MOST_ALIASES (body_sums names ss).height
body_tall known names [] e = none_tall MOST_ALIASES
body_tall known names (s ∷ ss) e =
    let here = and_parts (option_plain s.label && (edges_sums s.edges).plain) (body_sums names ss).plain e in
    let one = and_parts (option_plain s.label) (edges_sums s.edges).plain here.0 in
    tall_append known (state_labels s) (flat_map state_labels ss)
    ∙ any_max MOST_ALIASES _ _ _ _
    (tall_append known (option_to_list s.label) (flat_map (λ (e : WrittenEdge). option_to_list e.label) s.edges)
    ∙ any_max MOST_ALIASES _ _ _ _ (option_tall known s.label one.0) (edges_tall known s.edges one.1))
    (body_tall known names ss here.1)

-- What the edges of a state count: the label of the state for each, and labels of their own nothing.
each_counts : {X : Type 0} (f : X → ℕ) (n : ℕ) → ((x : X) → f x ≡ n) → (xs : List X) → sum_by f xs ≡ n * length xs
each_counts f n h [] = sym (mul-zero n)
each_counts f n h (x ∷ xs) =
    let here = h x in
    let rest = each_counts f n h xs in
    let sum = sum_by-cons f x xs in
    let product = mul-suc n (length xs) in
    omega (arith, here, rest, sum, product)

own_none : (known : Places Known) (o : Option RawTree) → option_plain o ≡ true → option_map_or (own_counted known) o 0 ≡ 0
own_none known None e = refl
own_none known (Some t) e = ap (λ b. cond (not b) (capped_size (sizes_in known) t) 0) e

edges_none : (known : Places Known) (s : WrittenState) → s.label ≡ None → (es : List WrittenEdge) → (edges_sums es).plain ≡ true → sum_by (edge_counted known s) es ≡ 0
edges_none known s none [] e = refl
edges_none known s none (d ∷ ds) e =
    let one = and_parts (option_plain d.label) (edges_sums ds).plain e in
    let here : edge_counted known s d ≡ 0 = ap (λ o. option_map_or (capped_size (sizes_in known)) o (option_map_or (own_counted known) d.label 0)) none ∙ own_none known d.label one.0 in
    let rest = edges_none known s none ds one.1 in
    let sum = sum_by-cons (edge_counted known s) d ds in
    omega (arith, here, rest, sum)

state_counts : (known : Places Known) (s : WrittenState) (o : Option RawTree) → s.label ≡ o → option_plain o ≡ true → (edges_sums s.edges).plain ≡ true
    → state_counted known s ≡ option_size o * length s.edges
state_counts known s None is own e = edges_none known s is s.edges e ∙ sym (zero-mul (length s.edges))
state_counts known s (Some t) is own e =
    each_counts (edge_counted known s) (capped_size one_sign t)
    (λ d. ap (λ o. option_map_or (capped_size (sizes_in known)) o (option_map_or (own_counted known) d.label 0)) is ∙ plain_counts capped_sum (sizes_in known) one_sign t own) s.edges

pub body_counts : (known : Places Known) (names : ℕ) (ss : List WrittenState) → (body_sums names ss).plain ≡ true → cap (states_counted known ss) ≡ (body_sums names ss).weight
body_counts known names [] e = refl
body_counts known names (s ∷ ss) e =
    let parts = and_parts (option_plain s.label && (edges_sums s.edges).plain) (body_sums names ss).plain e in
    let one = and_parts (option_plain s.label) (edges_sums s.edges).plain parts.0 in
    let here = state_counts known s s.label refl one.0 one.1 in
    let rest = body_counts known names ss parts.1 in
    let sum = sum_by-cons (state_counted known) s ss in
    let first : cap (state_counted known s) ≡ cap (option_size s.label * length s.edges) = ap cap here in
    omega (arith, first, rest, sum)

-- Where no alias stands, each is one of any.
mutual
  plain_in : (names : List (List ℕ)) (t : RawTree) → aliases_among [] t ≡ true → aliases_among names t ≡ true
  plain_in names raw.True e = refl
  plain_in names raw.False e = refl
  plain_in names (raw.Prop i) e = refl
  plain_in names (raw.Alias name) e = false_true e
  plain_in names (raw.Not t) e = plain_in names t e
  plain_in names (raw.And a b cs) e =
      let one = and_parts (aliases_among [] a) _ e in
      let two = and_parts (aliases_among [] b) _ one.1 in
      λ i. plain_in names a one.0 i && (plain_in names b two.0 i && all_plain_in names cs two.1 i)
  plain_in names (raw.Or a b cs) e =
      let one = and_parts (aliases_among [] a) _ e in
      let two = and_parts (aliases_among [] b) _ one.1 in
      λ i. plain_in names a one.0 i && (plain_in names b two.0 i && all_plain_in names cs two.1 i)

  all_plain_in : (names : List (List ℕ)) (ts : RawTrees) → all_leaves_pass (λ i. true) (is_listed []) ts ≡ true → all_leaves_pass (λ i. true) (is_listed names) ts ≡ true
  all_plain_in names raw.none e = refl
  all_plain_in names (raw.more t ts) e =
      let one = and_parts (aliases_among [] t) _ e in
      λ i. plain_in names t one.0 i && all_plain_in names ts one.1 i

pub plain_among : (names : List (List ℕ)) (ts : List RawTree) → list_all (aliases_among []) ts ≡ true → list_all (aliases_among names) ts ≡ true
plain_among names [] e = refl
plain_among names (t ∷ ts) e =
    let one = and_parts (aliases_among [] t) _ e in
    λ i. plain_in names t one.0 i && plain_among names ts one.1 i
