-- What a visit tells of a conjunction of literals.
use Rattle.std.proofs.Common.{◌≡◌, inl, inr, ◌∙◌, ◌+◌, ◌/◌, ◌%◌, ◌^◌, ◌==◌, ◌<◌, ◌≤◌, ◌≢◌, ◌&&◌, ◌++◌, ◌∷◌, [], ℕ, zero, suc, Bool}
use Rattle.std.proofs.Common.{true, false, max, List, length, None, ap, arith, nat_le, refl, subst, sym}
use Rattle.std.proofs.lemmas.Bool.{cases_lt, false≢true}
use Rattle.std.proofs.lemmas.List.{length-append}
use Rattle.std.proofs.lemmas.Nat.{le-div, pow_pos}
use Rattle.hoa_parser.proofs.grammar.RawTrees.{raw_tree-Cube}
use Rattle.hoa_parser.proofs.plain.Cubes.{literals_before}
use Rattle.hoa_parser.specs.Raw as raw
use Rattle.hoa_parser.specs.Raw.{RawTree, all_literals, cube_literals, has_bit, maybe_literal, raw_all, raw_literal, raw_tree, raw_trees}
use Rattle.hoa_parser.specs.declared.raw.RawLabel.{RawLabel}
use Rattle.hoa_parser.specs.declared.raw.RawLabel.TheVariants as raw_label
use Rattle.hoa_reader.proofs.counting.BodySums.{props_tree}
use Rattle.hoa_reader.specs.Validity.{all_leaves_pass, leaves_pass, props_below}
use Rattle.hoa_reader.specs.declared.elaborate.shape.Shape.{Shape}
use Rattle.hoa_reader.specs.inner.Cubes.{AreSmall, Tells, TellsAll}
use Rattle.hoa_reader.specs.inner.Growing.{cap, capped_height, capped_heights, capped_size, capped_sizes, alias_name}
use Rattle.hoa_reader.specs.inner.Sums.{all_props_after, props_after}

-- one part more
props_push : (ts : List RawTree) (t : RawTree) → all_props_after (raw_trees (ts ++ t ∷ [])) ≡ max (all_props_after (raw_trees ts)) (props_after t)
props_push [] t = omega arith
props_push (u ∷ us) t = let rest = props_push us t in omega (arith, rest)

heights_push : (alias : List ℕ → ℕ) (ts : List RawTree) (t : RawTree) → capped_heights alias (raw_trees (ts ++ t ∷ [])) ≡ max (capped_heights alias (raw_trees ts)) (capped_height alias t)
heights_push alias [] t = omega arith
heights_push alias (u ∷ us) t = let rest = heights_push alias us t in omega (arith, rest)

sizes_push : (alias : List ℕ → ℕ) (ts : List RawTree) (t : RawTree) → capped_sizes alias (raw_trees (ts ++ t ∷ [])) ≡ cap (capped_sizes alias (raw_trees ts) + capped_size alias t)
sizes_push alias [] t = omega arith
sizes_push alias (u ∷ us) t = let rest = sizes_push alias us t in omega (arith, rest)

small_push : (ts : List RawTree) (t : RawTree) → AreSmall ts → ((alias : List ℕ → ℕ) → capped_size alias t ≤ 2) → AreSmall (ts ++ t ∷ [])
small_push [] t are small = (small, tt)
small_push (u ∷ us) t are small = (are.0, small_push us t are.1 small)

literal_small : (k : ℕ) (holds : Bool) (alias : List ℕ → ℕ) → capped_size alias (raw_literal k holds) ≤ 2
literal_small k true alias = omega arith
literal_small k false alias = omega arith

pub tells_added : (s o r : Shape) (ts : List RawTree) (k : ℕ) (asked holds : Bool) → asked ≡ true → r.props ≡ max s.props o.props → r.plain ≡ (s.plain && o.plain) → r.height ≡ max s.height o.height
    → r.size ≡ cap (s.size + o.size) → Tells o (raw_literal k holds) → TellsAll s ts → TellsAll r (ts ++ maybe_literal asked k holds)
tells_added s o r ts k asked holds is props plain height size own tells =
    subst (λ (b : Bool). TellsAll r (ts ++ maybe_literal b k holds)) (sym is) (record {
      props = let rest = props_push ts (raw_literal k holds) in omega (arith, rest, props, own.props, tells.props);
      plain = plain ∙ (λ i. tells.plain i && own.plain i);
      height = λ alias. let rest = heights_push alias ts (raw_literal k holds) in let one = own.height alias in let all = tells.height alias in omega (arith, rest, height, one, all);
      size = λ alias. let rest = sizes_push alias ts (raw_literal k holds) in let one = own.size alias in let all = tells.size alias in omega (arith, rest, size, one, all);
      small = small_push ts (raw_literal k holds) tells.small (literal_small k holds);
    })

pub tells_joined_one : (s : Shape) (ts : List RawTree) → length ts ≡ 1 → TellsAll s ts → Tells s (raw_all ts)
tells_joined_one s [] size tells = absurd (omega (arith, size))
tells_joined_one s (t ∷ []) size tells = record {
  props = let all = tells.props in omega (arith, all);
  plain = tells.plain;
  height = λ alias. let all = tells.height alias in omega (arith, all);
  size = λ alias. let all = tells.size alias in let small = tells.small.0 alias in omega (arith, all, small);
}
tells_joined_one s (t ∷ u ∷ us) size tells = absurd (omega (arith, size))

pub tells_joined_more : (s r : Shape) (ts : List RawTree) → 2 ≤ length ts → r.props ≡ s.props → r.plain ≡ s.plain → r.height ≡ cap (s.height + 1) → r.size ≡ cap (s.size + 1)
    → TellsAll s ts → Tells r (raw_all ts)
tells_joined_more s r [] most props plain height size tells = absurd (omega (arith, most))
tells_joined_more s r (t ∷ []) most props plain height size tells = absurd (omega (arith, most))
tells_joined_more s r (t ∷ u ∷ us) most props plain height size tells = record {
  props = props ∙ tells.props;
  plain = plain ∙ tells.plain;
  height = λ alias. height ∙ ap (λ n. cap (n + 1)) (tells.height alias);
  size = λ alias. size ∙ ap (λ n. cap (n + 1)) (tells.size alias);
}

-- how many literals there are up to a place
length_maybe : (x k : ℕ) (holds : Bool) → x < 2 → length (maybe_literal (x == 1) k holds) ≡ x
length_maybe zero k holds few = refl
length_maybe (suc zero) k holds few = refl
length_maybe (suc (suc x)) k holds few = absurd (omega (arith, few))

pub count_next : (n v k count : ℕ) → count ≡ length (cube_literals n v k) → count + (n / 2 ^ k) % 2 ≡ length (cube_literals n v (suc k))
count_next n v k count is =
    let all = length-append (cube_literals n v k) (maybe_literal (has_bit n k) k (has_bit v k)) in
    let own = length_maybe ((n / 2 ^ k) % 2) k (has_bit v k) (omega arith) in
    omega (arith, all, own, is)

-- a place that there are bits from on, and one where there are none
pub place_left : (n k : ℕ) → n < 2 ^ 32 → k ≤ 32 → n / 2 ^ k ≢ 0 → k < 32
place_left n k few within some = elim (cases_lt k 32) [
  | inl less ↦ less
  | inr from ↦ let same : k ≡ 32 = omega (arith, from, within) in absurd (some (ap (λ j. n / 2 ^ j) same ∙ omega (arith, few)))
]

below_power : (n k : ℕ) → n / 2 ^ k ≡ 0 → n < 2 ^ k
below_power n k none = elim (cases_lt n (2 ^ k)) [
  | inl less ↦ less
  | inr from ↦ let one : 1 ≤ n / 2 ^ k = le-div 1 n (2 ^ k) (pow_pos k) (omega (arith, from)) in absurd (omega (arith, one, none))
]

pub all_found : (n v k : ℕ) → k ≤ 32 → n / 2 ^ k ≡ 0 → cube_literals n v k ≡ all_literals n v
unfolding all_literals
all_found n v k within none = sym (literals_before n v k 32 (below_power n k none) within)

-- no literal is an alias, or has one
literal_leaf : (prop : ℕ → Bool) (alias : List ℕ → Bool) (k : ℕ) (holds : Bool) → leaves_pass prop alias (raw_literal k holds) ≡ prop k
literal_leaf prop alias k true = refl
literal_leaf prop alias k false = refl

leaf_push : (alias : List ℕ → Bool) (ts : List RawTree) (asked : Bool) (k : ℕ) (holds : Bool) → all_leaves_pass (λ i. true) alias (raw_trees ts) ≡ true
    → all_leaves_pass (λ i. true) alias (raw_trees (ts ++ maybe_literal asked k holds)) ≡ true
leaf_push alias [] false k holds all = refl
leaf_push alias [] true k holds all = ap (λ b. b && true) (literal_leaf (λ i. true) alias k holds)
leaf_push alias (t ∷ ts) asked k holds all =
    let parts = both_parts (leaves_pass (λ i. true) alias t) (all_leaves_pass (λ i. true) alias (raw_trees ts)) all in
    λ i. parts.0 i && leaf_push alias ts asked k holds parts.1 i
  where
    both_parts : (a b : Bool) → (a && b) ≡ true → (a ≡ true) × (b ≡ true)
    both_parts true b e = (refl, e)
    both_parts false b e = let none : false ≡ true = e in absurd (false≢true none)

literals_leaves : (alias : List ℕ → Bool) (n v k : ℕ) → all_leaves_pass (λ i. true) alias (raw_trees (cube_literals n v k)) ≡ true
literals_leaves alias n v zero = refl
literals_leaves alias n v (suc k) = leaf_push alias (cube_literals n v k) (has_bit n k) k (has_bit v k) (literals_leaves alias n v k)

joined_leaves : (prop : ℕ → Bool) (alias : List ℕ → Bool) (ts : List RawTree) → leaves_pass prop alias (raw_all ts) ≡ all_leaves_pass prop alias (raw_trees ts)
joined_leaves prop alias [] = refl
joined_leaves prop alias (t ∷ []) = with_true (leaves_pass prop alias t)
  where
    with_true : (b : Bool) → b ≡ (b && true)
    with_true true = refl
    with_true false = refl
joined_leaves prop alias (t ∷ u ∷ us) = refl

pub cube_leaves : (alias : List ℕ → Bool) (n v : ℕ) → leaves_pass (λ i. true) alias (raw_all (all_literals n v)) ≡ true
unfolding all_literals
cube_leaves alias n v = joined_leaves (λ i. true) alias (cube_literals n v 32) ∙ literals_leaves alias n v 32

-- it is no alias
no_alias : (t : RawTree) → leaves_pass (λ i. true) (λ name. false) t ≡ true → None ≡ alias_name t
no_alias raw.True e = refl
no_alias raw.False e = refl
no_alias (raw.Prop i) e = refl
no_alias (raw.Alias name) e = let none : false ≡ true = e in absurd (false≢true none)
no_alias (raw.Not t) e = refl
no_alias (raw.And a b cs) e = refl
no_alias (raw.Or a b cs) e = refl

pub cube_no_alias : (n v : ℕ) → None ≡ alias_name (raw_all (all_literals n v))
cube_no_alias n v = no_alias (raw_all (all_literals n v)) (cube_leaves (λ name. false) n v)

-- what is said of the conjunction is said of the label
pub cube_said : {A : Type 0} (f : RawTree → A) (label : RawLabel) (n v : ℕ) (said : A) → label ≡ raw_label.Cube n v → said ≡ f (raw_all (all_literals n v)) → said ≡ f (raw_tree label)
cube_said f label n v said is same = same ∙ sym (ap (λ l. f (raw_tree l)) is ∙ ap f (raw_tree-Cube n v))

pub cube_below : (label : RawLabel) (n v most props : ℕ) → label ≡ raw_label.Cube n v → props ≡ props_after (raw_all (all_literals n v)) → nat_le props most ≡ props_below most (raw_tree label)
cube_below label n v most props is same = cube_said (props_below most) label n v (nat_le props most) is (ap (λ p. nat_le p most) same ∙ sym (props_tree most (raw_all (all_literals n v))))
