-- Conjunctions of literals: their labels, and where these are true.
use Rattle.std.proofs.Common.{◌≡◌, inl, inr, ◌∙◌, ◌^◌, ◌<◌, ◌≤◌, ◌&&◌, ◌||◌, ◌++◌, ◌∷◌, [], ℕ, zero, suc, Bool, true, false, not, if◌then◌else◌, List, ap, arith, refl, subst, sym}
use Rattle.std.proofs.lemmas.Bool.{cases_lt}
use Rattle.std.proofs.lemmas.List.{append-nil, map-append}
use Rattle.std.specs.Bool.{beq}
use Rattle.aut_base.specs.CanonicalLabel.{all_of}
use Rattle.aut_base.specs.Label.{AllBelow, EachBelow, LabelTree, LabelTrees, all_true, trees, truth}
use Rattle.hoa_parser.proofs.plain.Cubes.{no_bit}
use Rattle.hoa_parser.specs.Raw.{RawTree, all_literals, cube_literals, has_bit, maybe_literal, raw_all, raw_literal, raw_trees}
use Rattle.hoa_reader.proofs.labels.LetterTruth.{all_true_push, all_of_truth, with_nothing}
use Rattle.hoa_reader.specs.Described.{Meaning, each_expanded, expanded}
use Rattle.hoa_reader.specs.inner.Cubes.{each_of}
use Rattle.label_guards.specs.Guards.{IsGuardOf}
use Rattle.label_guards.specs.Numbers.{is_as_asked, is_in_cube, is_set}
use Rattle.label_guards.specs.Store.{Store}
use Rattle.label_guards.specs.declared.guard.Guard.{Guard}

each_trees : (ms : List Meaning) (ts : List RawTree) → each_expanded ms (raw_trees ts) ≡ trees (each_of ms ts)
each_trees ms [] = refl
each_trees ms (t ∷ ts) = ap (LabelTrees.more (expanded ms t)) (each_trees ms ts)

-- the label is the conjunction of those of the literals
pub expanded_all : (ms : List Meaning) (ts : List RawTree) → expanded ms (raw_all ts) ≡ all_of (each_of ms ts)
expanded_all ms [] = refl
expanded_all ms (t ∷ []) = refl
expanded_all ms (t ∷ u ∷ us) = ap (LabelTree.And (expanded ms t) (expanded ms u)) (each_trees ms us)

literal_label : (ms : List Meaning) (k : ℕ) (holds : Bool) → expanded ms (raw_literal k holds) ≡ (if holds then LabelTree.Prop k else LabelTree.Not (LabelTree.Prop k))
literal_label ms k true = refl
literal_label ms k false = refl

pub label_whole : (ms : List Meaning) (parts : List LabelTree) (label : LabelTree) (n v k : ℕ) → k ≡ 32 → label ≡ all_of parts → parts ≡ each_of ms (cube_literals n v k)
    → label ≡ expanded ms (raw_all (all_literals n v))
unfolding all_literals
label_whole ms parts label n v k last is are = is ∙ (ap all_of are ∙ (ap (λ j. all_of (each_of ms (cube_literals n v j))) last ∙ sym (expanded_all ms (cube_literals n v 32))))

-- The labels are the same whatever aliases stand for.
alike_step : (ms : List Meaning) (ts : List RawTree) (asked : Bool) (k : ℕ) (holds : Bool) → each_of ms ts ≡ each_of [] ts
    → each_of ms (ts ++ maybe_literal asked k holds) ≡ each_of [] (ts ++ maybe_literal asked k holds)
alike_step ms ts asked k holds same =
    map-append (expanded ms) ts (maybe_literal asked k holds)
    ∙ ((λ i. same i ++ own asked i) ∙ sym (map-append (expanded []) ts (maybe_literal asked k holds)))
  where
    own : (b : Bool) → each_of ms (maybe_literal b k holds) ≡ each_of [] (maybe_literal b k holds)
    own false = refl
    own true = ap (λ t. t ∷ []) (literal_label ms k holds ∙ sym (literal_label [] k holds))

alike : (ms : List Meaning) (n v k : ℕ) → each_of ms (cube_literals n v k) ≡ each_of [] (cube_literals n v k)
alike ms n v zero = refl
alike ms n v (suc k) = alike_step ms (cube_literals n v k) (has_bit n k) k (has_bit v k) (alike ms n v k)

pub cube_alike : (ms : List Meaning) (n v : ℕ) → expanded ms (raw_all (all_literals n v)) ≡ expanded [] (raw_all (all_literals n v))
unfolding all_literals
cube_alike ms n v = expanded_all ms (cube_literals n v 32) ∙ (ap all_of (alike ms n v 32) ∙ sym (expanded_all [] (cube_literals n v 32)))

-- The literals hold where each proposition is as it is asked for.
literal_holds : (on : ℕ → Bool) (k : ℕ) (holds : Bool) → truth on (expanded [] (raw_literal k holds)) ≡ beq (on k) holds
literal_holds on k true = is_true (on k)
  where
    is_true : (b : Bool) → b ≡ beq b true
    is_true true = refl
    is_true false = refl
literal_holds on k false = is_false (on k)
  where
    is_false : (b : Bool) → not b ≡ beq b false
    is_false true = refl
    is_false false = refl

hold_step : (on : ℕ → Bool) (ts : List RawTree) (asked : Bool) (k : ℕ) (holds : Bool)
    → all_true on (trees (each_of [] (ts ++ maybe_literal asked k holds))) ≡ (all_true on (trees (each_of [] ts)) && (not asked || beq (on k) holds))
hold_step on ts false k holds = ap (λ us. all_true on (trees (each_of [] us))) (append-nil ts) ∙ sym (with_nothing (all_true on (trees (each_of [] ts))))
hold_step on ts true k holds =
    ap (λ us. all_true on (trees us)) (map-append (expanded []) ts (raw_literal k holds ∷ []))
    ∙ (all_true_push on (each_of [] ts) (expanded [] (raw_literal k holds)) ∙ ap (λ b. all_true on (trees (each_of [] ts)) && b) (literal_holds on k holds))

hold : (on : ℕ → Bool) (n v k : ℕ) → all_true on (trees (each_of [] (cube_literals n v k))) ≡ is_in_cube n v k on
hold on n v zero = refl
hold on n v (suc k) =
    hold_step on (cube_literals n v k) (has_bit n k) k (has_bit v k) ∙ ap (λ b. b && is_as_asked n v k on) (hold on n v k)

-- Nothing is asked from a place on that all literals are below, nor where there are no bits.
each_parts : (m : ℕ) (xs ys : List LabelTree) → EachBelow m (trees (xs ++ ys)) → EachBelow m (trees xs) × EachBelow m (trees ys)
each_parts m [] ys below = (tt, below)
each_parts m (x ∷ xs) ys below = let rest = each_parts m xs ys below.1 in ((below.0, rest.0), rest.1)

literal_below : (m k : ℕ) (holds : Bool) → AllBelow m (expanded [] (raw_literal k holds)) → k < m
literal_below m k true below = below
literal_below m k false below = below

unasked : (m k : ℕ) (asked holds : Bool) → m ≤ k → EachBelow m (trees (each_of [] (maybe_literal asked k holds))) → asked ≡ false
unasked m k false holds from below = refl
unasked m k true holds from below = absurd (omega (arith, from, literal_below m k holds below.0))

nothing_asked : (on : ℕ → Bool) (n v k : ℕ) → is_set n k ≡ false → is_in_cube n v (suc k) on ≡ is_in_cube n v k on
nothing_asked on n v k none = ap (λ b. is_in_cube n v k on && (not b || beq (on k) (is_set v k))) none ∙ with_nothing (is_in_cube n v k on)

up_to : (on : ℕ → Bool) (n v m k : ℕ) → EachBelow m (trees (each_of [] (cube_literals n v k))) → m ≤ k → is_in_cube n v k on ≡ is_in_cube n v m on
up_to on n v m zero below within = let none : 0 ≡ m = omega (arith, within) in ap (λ j. is_in_cube n v j on) none
up_to on n v m (suc k) below within = elim (cases_lt m (suc k)) [
  | inl less ↦
      let split : EachBelow m (trees (each_of [] (cube_literals n v k) ++ each_of [] (maybe_literal (has_bit n k) k (has_bit v k)))) =
      subst (λ (ts : List LabelTree). EachBelow m (trees ts)) (map-append (expanded []) (cube_literals n v k) (maybe_literal (has_bit n k) k (has_bit v k))) below in
      let parts = each_parts m (each_of [] (cube_literals n v k)) (each_of [] (maybe_literal (has_bit n k) k (has_bit v k))) split in
      nothing_asked on n v k (unasked m k (has_bit n k) (has_bit v k) (omega (arith, less)) parts.1) ∙ up_to on n v m k parts.0 (omega (arith, less))
  | inr from ↦ let same : suc k ≡ m = omega (arith, from, within) in ap (λ j. is_in_cube n v j on) same
]

from_there : (on : ℕ → Bool) (n v m k : ℕ) → n < 2 ^ m → m ≤ k → is_in_cube n v k on ≡ is_in_cube n v m on
from_there on n v m zero below within = let none : 0 ≡ m = omega (arith, within) in ap (λ j. is_in_cube n v j on) none
from_there on n v m (suc k) below within = elim (cases_lt m (suc k)) [
  | inl less ↦ nothing_asked on n v k (no_bit n m k below (omega (arith, less))) ∙ from_there on n v m k below (omega (arith, less))
  | inr from ↦ let same : suc k ≡ m = omega (arith, from, within) in ap (λ j. is_in_cube n v j on) same
]

parts_below : (m : ℕ) (ts : List LabelTree) → AllBelow m (all_of ts) → EachBelow m (trees ts)
parts_below m [] below = tt
parts_below m (t ∷ []) below = (below, tt)
parts_below m (t ∷ u ∷ us) below = (below.0, (below.1, below.2))

cube_truth : (on : ℕ → Bool) (m n v : ℕ) → n < 2 ^ 32 → AllBelow m (expanded [] (raw_all (all_literals n v))) → truth on (expanded [] (raw_all (all_literals n v))) ≡ is_in_cube n v m on
unfolding all_literals
cube_truth on m n v few below =
    ap (truth on) (expanded_all [] (cube_literals n v 32)) ∙ (all_of_truth on (each_of [] (cube_literals n v 32)) ∙ (hold on n v 32 ∙ elim (cases_lt m 32) [
      | inl less ↦ up_to on n v m 32 (parts_below m (each_of [] (cube_literals n v 32)) (subst (AllBelow m) (expanded_all [] (cube_literals n v 32)) below)) (omega (arith, less))
      | inr from ↦ sym (from_there on n v 32 m few from)
    ]))

-- the guard of the literals is that of their label
pub guard_of_cube : (s : Store) (m n v : ℕ) (g : Guard) → n < 2 ^ 32 → AllBelow m (expanded [] (raw_all (all_literals n v))) → IsGuardOf s (is_in_cube n v m) g
    → IsGuardOf s (λ on. truth on (expanded [] (raw_all (all_literals n v)))) g
guard_of_cube s m n v g few below is = record { has = is.has; truth = λ on. is.truth on ∙ sym (cube_truth on m n v few below) }
