-- How the parts of what may hold are split by one guard more.
use Rattle.std.proofs.Common.{◌≡◌, ◌⊎◌, ℕ, ◌+◌, ◌<◌, ◌≤◌, ◌≢◌, ◌∙◌, Bool, true, false, not, ◌&&◌, cond, nat_eq, List, [], ◌∷◌, ◌++◌, length, set, take, get_or, All, Option, Some, None, count_by}
use Rattle.std.proofs.Common.{slice_get, inl, inr, refl, sym, ap, subst, arith}
use Rattle.std.proofs.Math.Decide.{dec_lt, ℕ_discrete}
use Rattle.std.proofs.lemmas.Bool.{and_parts, false≢true}
use Rattle.std.proofs.lemmas.List.{get_or-set_other, get_or-set_same, get_or_append_left, get_or_push, length-append, length-set}
use Rattle.std.proofs.lemmas.List.Elements.{All-from_recursion, All-push, All-set, recursion_from_All}
use Rattle.std.proofs.lemmas.List.Folds.{list_all-append}
use Rattle.std.proofs.lemmas.List.Sums.{sum_by-cons, sum_by-set, sum_by_push}
use Rattle.std.proofs.lemmas.Option.{get_or_from_slice_get, slice_get_within}
use Rattle.std.specs.Bool.{OnTrue, beq}
use Rattle.std.specs.Cmp.{booleans_Decides, both_ways}
use Rattle.std.specs.List.{AllByRecursion, list_all}
use Rattle.aut_base.proofs.lists.Lists.{take-slice_get}
use Rattle.aut_base.proofs.numbers.Truth.{and-true}
use Rattle.aut_base.proofs.canonical.ValuationLists.{length-valuation_of}
use Rattle.aut_base.specs.Valuation.{holds_in, number_of, valuation_of}
use Rattle.label_guards.specs.declared.classes.Part.{Part}
use Rattle.label_guards.specs.declared.guard.Guard.{Guard}
use Rattle.label_guards.specs.declared.guards.Operation.TheVariants.{And, Xor}
use Rattle.label_guards.specs.ClassParts.{AreHalves, AreClassParts, HasSide, IsAlikeness, IsFirst, IsHalved, IsOneSided, IsClassPart, IsPartSplit, IsUnsplit, Test, also_by, side_of}
use Rattle.label_guards.specs.Classes.{agree}
use Rattle.label_guards.specs.Leasts.{IsLeastAt, IsLeastNumber, IsLeastOf, IsMetAt, bits_of}
use Rattle.label_guards.specs.Nodes.{Grows, IsReducedDiagram}
use Rattle.label_guards.specs.Operations.{IsJoin, IsPlaceOf, differs}
use Rattle.label_guards.specs.Store.{Store, Has, HasPlace, outcome}
use Rattle.label_guards.proofs.diagrams.Growth.{grows_none, grows_on, has_kept, level_kept, outcome_kept}
use Rattle.label_guards.proofs.diagrams.Outcomes.{outcome-false, outcome-true}
use Rattle.label_guards.proofs.diagrams.Unique.{outcome_firsts}
use Rattle.label_guards.proofs.valuations.Leasts.{met_true}
use Rattle.label_guards.proofs.labelled.Parts.{place_kept, place_same, true_place}
use Rattle.label_guards.proofs.valuations.Valuations.{bits_of-number, length-bits_of}

-- what is found of a place stays so
met_kept : {s t : Store} → Grows s t → (place m : ℕ) → HasPlace s place → IsMetAt s place m → IsMetAt t place m
met_kept grows place m has met = record {
  valuation = met.valuation;
  size = met.size ∙ sym grows.names;
  is_number = met.is_number;
  truth = outcome_kept grows (holds_in met.valuation) place has ∙ met.truth;
  bare = λ i h. let same = level_kept grows place has in met.bare i (omega arith);
}

number_kept : {s t : Store} → Grows s t → (place m : ℕ) → HasPlace s place → IsLeastNumber s place m → IsLeastNumber t place m
number_kept grows place m has least = record {
  met = met_kept grows place m has least.met;
  least = λ w size h. least.least w (size ∙ grows.names) (sym (outcome_kept grows (holds_in w) place has) ∙ h);
}

least_at : {s t : Store} → Grows s t → (place : ℕ) (found : Option ℕ) → HasPlace s place → IsLeastAt s place found → IsLeastAt t place found
least_at grows place None has none = λ v size. outcome_kept grows (holds_in v) place has ∙ none v (size ∙ grows.names)
least_at grows place (Some m) has least = number_kept grows place m has least

pub least_kept : {s t : Store} → Grows s t → (place : ℕ) (found : Option ℕ) → IsLeastOf s place found → IsLeastOf t place found
least_kept grows place found is = record { has = has_kept grows place is.has; least = least_at grows place found is.has is.least }

-- where the part and the guard are true, and where the part alone is
pub both_part : {s t : Store} → Grows s t → (place by both : ℕ) → HasPlace s place → HasPlace s by → IsJoin t And place by both
    → IsPlaceOf t (λ on. outcome s.nodes on place && outcome s.nodes on by) both
both_part grows place by both has_place has_by joined = record {
  has = joined.has;
  truth = λ on. joined.truth on ∙ (λ j. outcome_kept grows on place has_place j && outcome_kept grows on by has_by j);
}

others_part : {s t u : Store} → Grows s t → Grows t u → (place by both others : ℕ) → HasPlace s place → HasPlace s by → IsJoin t And place by both → IsJoin u Xor place both others
    → IsPlaceOf u (λ on. outcome s.nodes on place && not (outcome s.nodes on by)) others
others_part {s} {t} {u} first second place by both others has_place has_by joined turned = record {
  has = turned.has;
  truth = λ on. turned.truth on ∙ ((λ j. differs (outcome_kept (grows_on first second) on place has_place j)
      ((place_kept second _ both (both_part first place by both has_place has_by joined)).truth on j))
      ∙ taken (outcome s.nodes on place) (outcome s.nodes on by));
}
  where
    taken : (a b : Bool) → differs a (a && b) ≡ (a && not b)
    taken true b = refl
    taken false b = refl

-- the guard is true in nothing of the part, or in all of it
module _ {s t : Store} (grows : Grows s t) (place by both : ℕ) (is : IsPlaceOf t (λ on. outcome s.nodes on place && outcome s.nodes on by) both) where
  there : (on : ℕ → Bool) → outcome s.nodes on place ≡ true → outcome s.nodes on by ≡ outcome t.nodes on both
  there on met = sym (ap (λ b. b && outcome s.nodes on by) met) ∙ sym (is.truth on)

  pub true_in_none : both ≡ 0 → IsOneSided s place by
  true_in_none e = record { side = false; same = λ on met. there on met ∙ (ap (outcome t.nodes on) e ∙ outcome-false t.nodes on) }

  pub true_in_all : HasPlace s place → both ≡ place → IsOneSided s place by
  true_in_all has e = record { side = true; same = λ on met. there on met ∙ (ap (outcome t.nodes on) e ∙ (outcome_kept grows on place has ∙ met)) }

is_true : (b : Bool) → b ≡ beq true b
is_true true = refl
is_true false = refl

is_false : (b : Bool) → not b ≡ beq false b
is_false true = refl
is_false false = refl

-- where nothing is left of the part, and where nothing is left to ask of the guard
pub never_side : (s : Store) (place by : ℕ) (side : Bool) → place ≡ 0 → HasSide s place by side
never_side s place by side e = λ on met. absurd (false≢true (sym (ap (outcome s.nodes on) e ∙ outcome-false s.nodes on) ∙ met))

pub end_side : (s : Store) (place by : ℕ) (side : Bool) → by < 2 → OnTrue (beq (nat_eq by 1) side) (HasSide s place by side)
end_side s place by side within = this (nat_eq by 1) refl side
  where
    this : (b : Bool) → nat_eq by 1 ≡ b → (side : Bool) → OnTrue (beq b side) (HasSide s place by side)
    this true e true = let same : by ≡ 1 = grind arith in λ on met. ap (outcome s.nodes on) same ∙ outcome-true s.nodes on
    this true e false = tt
    this false e true = tt
    this false e false = let same : by ≡ 0 = grind arith in λ on met. ap (outcome s.nodes on) same ∙ outcome-false s.nodes on

-- which half has the least valuation
module _ {s t u : Store} (first : Grows s t) (second : Grows t u) (part : Part) (by both others : ℕ) (has_place : HasPlace s part.place) (has_by : HasPlace s by)
    (joined : IsJoin t And part.place by both) (turned : IsJoin u Xor part.place both others) where
  is_both : IsPlaceOf u (λ on. outcome s.nodes on part.place && outcome s.nodes on by) both
  is_both = place_kept second _ both (both_part first part.place by both has_place has_by joined)

  is_others : IsPlaceOf u (λ on. outcome s.nodes on part.place && not (outcome s.nodes on by)) others
  is_others = others_part first second part.place by both others has_place has_by joined turned

  pub both_kept : side_of s part by ≡ true → AreHalves s u part by both others
  both_kept side = record {
    is_kept = place_same u _ _ both (λ on. ap (λ b. outcome s.nodes on part.place && b) (is_true (outcome s.nodes on by) ∙ ap (λ b. beq b (outcome s.nodes on by)) (sym side))) is_both;
    is_rest = place_same u _ _ others
        (λ on. ap (λ b. outcome s.nodes on part.place && b) (is_false (outcome s.nodes on by) ∙ ap (λ b. beq (not b) (outcome s.nodes on by)) (sym side))) is_others;
  }

  pub others_kept : side_of s part by ≡ false → AreHalves s u part by others both
  others_kept side = record {
    is_kept = place_same u _ _ others (λ on. ap (λ b. outcome s.nodes on part.place && b) (is_false (outcome s.nodes on by) ∙ ap (λ b. beq b (outcome s.nodes on by)) (sym side))) is_others;
    is_rest = place_same u _ _ both
        (λ on. ap (λ b. outcome s.nodes on part.place && b) (is_true (outcome s.nodes on by) ∙ ap (λ b. beq (not b) (outcome s.nodes on by)) (sym side))) is_both;
  }

module _ (alike : Test) (is : IsAlikeness alike) where
  pub turned : (on also : ℕ → Bool) → alike on also ≡ true → alike also on ≡ true
  turned on also h = is.same on also h also ∙ is.self also

  -- those that are alike to one are alike
  pub joined : (v on also : ℕ → Bool) → alike v on ≡ true → alike v also ≡ true → alike on also ≡ true
  joined v on also h k = sym (is.same v also k on) ∙ turned v on h

  alike_left : (v w : ℕ → Bool) → alike v w ≡ true → (on : ℕ → Bool) → alike v on ≡ alike w on
  alike_left v w h on = both_ways (alike v on) (alike w on) (λ k. joined v w on h k) (λ k. sym (is.same w on k v) ∙ h)

-- the least valuation of a class is also that of the smaller class that it is in
narrowed : {s t : Store} → Grows s t → (alike also : Test) → ((on w : ℕ → Bool) → also on w ≡ true → alike on w ≡ true) → (part : Part) → IsClassPart s alike part → (q : ℕ)
    → IsPlaceOf t (also (holds_in (bits_of s.names part.number))) q → IsClassPart t also (record { number = part.number; place = q })
narrowed {s} {t} grows alike also weaker part is q piece = record {
  number = ap (λ (n : ℕ). number_of (bits_of n part.number)) grows.names ∙ is.number;
  first = subst (λ (n : ℕ). IsFirst n also (bits_of n part.number)) (sym grows.names) (record { size = is.first.size; least = λ w size h. is.first.least w size (weaker _ _ h) });
  is = subst (λ (n : ℕ). IsPlaceOf t (also (holds_in (bits_of n part.number))) q) (sym grows.names) piece;
}

part_kept : {s t : Store} → Grows s t → (alike : Test) (part : Part) → IsClassPart s alike part → IsClassPart t alike part
part_kept grows alike part is = narrowed grows alike alike (λ on w h. h) part is part.place (place_kept grows _ part.place is.is)

-- what becomes of a part under one guard more
module _ {old s : Store} (first : Grows old s) (alike : Test) (by : ℕ) (has_by : HasPlace old by) (part : Part) (is : IsClassPart s alike part) where
  abbrev also : Test
  also = also_by old alike by

  abbrev v : ℕ → Bool
  v = holds_in (bits_of s.names part.number)

  by_was : (on : ℕ → Bool) → outcome s.nodes on by ≡ outcome old.nodes on by
  by_was on = outcome_kept first on by has_by

  weaker : (on w : ℕ → Bool) → also on w ≡ true → alike on w ≡ true
  weaker on w h = (and_parts _ _ h).0

  whole_part : IsAlikeness alike → IsOneSided s part.place by → IsClassPart s also part
  whole_part likeness one = narrowed (grows_none s) alike also weaker part is part.place (place_same s _ _ part.place same is.is)
    where
      here : (on : ℕ → Bool) → alike v on ≡ true → outcome s.nodes on by ≡ one.side
      here on h = one.same on (is.is.truth on ∙ h)

      same : (on : ℕ → Bool) → alike v on ≡ also v on
      same on = both_ways (alike v on) (also v on) (λ h. λ i. h i && (booleans_Decides (outcome old.nodes v by) (outcome old.nodes on by)).1
          (sym (by_was v) ∙ (here v (likeness.self v) ∙ (sym (here on h) ∙ by_was on))) i) (weaker v on)

  module _ {t : Store} (second : Grows s t) where
    kept_part : (kept : ℕ) → IsPlaceOf t (λ on. outcome s.nodes on part.place && beq (side_of s part by) (outcome s.nodes on by)) kept
        → IsClassPart t also (record { number = part.number; place = kept })
    kept_part kept half = narrowed second alike also weaker part is kept (place_same t _ (also v) kept (λ on i. is.is.truth on i && beq (by_was v i) (by_was on i)) half)

    rest_part : IsAlikeness alike → (rest : Part) → IsPlaceOf t (λ on. outcome s.nodes on part.place && beq (not (side_of s part by)) (outcome s.nodes on by)) rest.place
        → IsLeastNumber t rest.place rest.number → IsClassPart t also rest
    rest_part likeness rest half least =
        let met = least.met in
        let w : ℕ → Bool = holds_in met.valuation in
        let e : bits_of t.names rest.number ≡ met.valuation = ap (bits_of t.names) (sym met.is_number) ∙ bits_of-number met.valuation t.names met.size in
        let meets = and_parts _ _ (sym (half.truth w) ∙ met.truth) in
        let in_part : alike v w ≡ true = sym (is.is.truth w) ∙ meets.0 in
        let side : not (side_of s part by) ≡ outcome old.nodes w by = (booleans_Decides _ _).0 meets.1 ∙ by_was w in
        let piece : IsPlaceOf t (also w) rest.place =
        place_same t _ (also w) rest.place (λ on i. (is.is.truth on ∙ alike_left alike likeness v w in_part on) i && beq (side i) (by_was on i)) half in
        record {
          number = ap number_of e ∙ met.is_number;
          first = subst (IsFirst t.names also) (sym e)
              (record { size = met.size; least = λ u size h. subst (λ (m : ℕ). m ≤ number_of u) (sym met.is_number) (least.least u size (piece.truth (holds_in u) ∙ h)) });
          is = subst (λ (bits : List Bool). IsPlaceOf t (also (holds_in bits)) rest.place) (sym e) piece;
        }

-- how many of the parts are true
abbrev pub count_true : Store → (ℕ → Bool) → List Part → ℕ
count_true s on parts = count_by (λ (part : Part). outcome s.nodes on part.place) parts

count_kept : {s t : Store} → Grows s t → (on : ℕ → Bool) (parts : List Part) → AllByRecursion (λ (part : Part). HasPlace s part.place) parts → count_true t on parts ≡ count_true s on parts
count_kept grows on [] has = refl
count_kept {s} {t} grows on (p ∷ ps) has =
    sum_by-cons (λ (part : Part). cond (outcome t.nodes on part.place) 1 0) p ps
    ∙ ((λ i. cond (outcome_kept grows on p.place has.0 i) 1 0 + count_kept grows on ps has.1 i) ∙ sym (sum_by-cons (λ (part : Part). cond (outcome s.nodes on part.place) 1 0) p ps))

two_halves : (a b side : Bool) → cond (a && beq side b) 1 0 + cond (a && beq (not side) b) 1 0 ≡ cond a 1 0
two_halves true true true = refl
two_halves true true false = refl
two_halves true false true = refl
two_halves true false false = refl
two_halves false b side = refl

count_halved : {s t : Store} → Grows s t → (before after : List Part) (index by : ℕ) → All (λ (part : Part). HasPlace s part.place) before → IsHalved s t before after index by
    → (on : ℕ → Bool) → count_true t on after ≡ count_true s on before
count_halved {s} {t} grows before after index by has split on =
    let f : Part → ℕ = λ part. cond (outcome t.nodes on part.place) 1 0 in
    let part : Part = split.part in
    let kept : Part = record { number = part.number; place = split.kept } in
    let within : index < length before = slice_get_within before index part split.was in
    let long = length-append before (split.rest ∷ []) in
    let within_more : index < length (before ++ split.rest ∷ []) = omega (arith, long) in
    let was : get_or (before ++ split.rest ∷ []) index part ≡ part = get_or_append_left before (split.rest ∷ []) part index within ∙ get_or_from_slice_get before index part part split.was in
    let changed = sum_by-set f (before ++ split.rest ∷ []) index kept part within_more in
    let more = sum_by_push f before split.rest in
    let same = count_kept grows on before (recursion_from_All _ before has) in
    let has_part : HasPlace s part.place = subst (λ (p : Part). HasPlace s p.place) (get_or_from_slice_get before index part part split.was) (has index part within) in
    let at_part : f (get_or (before ++ split.rest ∷ []) index part) ≡ cond (outcome s.nodes on part.place) 1 0 = ap f was ∙ ap (λ b. cond {A = ℕ} b 1 0) (outcome_kept grows on part.place has_part) in
    let at_kept = ap (λ b. cond {A = ℕ} b 1 0) (split.halves.is_kept.truth on) in
    let at_rest = ap (λ b. cond {A = ℕ} b 1 0) (split.halves.is_rest.truth on) in
    let halves = two_halves (outcome s.nodes on part.place) (outcome s.nodes on by) (side_of s part by) in
    ap (count_true t on) split.made ∙ omega arith

-- The parts before the index and those that were added are split, and the others aren't yet.
pub record IsMidway (old s : Store) (alike : Test) (by count index : ℕ) (parts : List Part) : Type 0 where
  pub within : count ≤ length parts
  pub left : (k : ℕ) (d : Part) → index ≤ k → k < count → IsClassPart s alike (get_or parts k d)
  pub split : (k : ℕ) (d : Part) → k < length parts → (k < index) ⊎ (count ≤ k) → IsClassPart s (also_by old alike by) (get_or parts k d)
  pub one : (on : ℕ → Bool) → count_true s on parts ≡ 1

pub split_end : (old s : Store) (alike : Test) (by count index : ℕ) (parts : List Part) → count ≤ index → IsMidway old s alike by count index parts → AreClassParts s (also_by old alike by) parts
split_end old s alike by count index parts end path_edges = record {
  each = λ k d within. elim (dec_lt k index) [
    | yes h ↦ path_edges.split k d within (inl h)
    | no h ↦ path_edges.split k d within (inr (omega arith))
  ];
  one = path_edges.one;
}

module _ {old s t : Store} (first : Grows old s) (second : Grows s t) (alike : Test) (is : IsAlikeness alike) (by : ℕ) (has_by : HasPlace old by) (before after : List Part) (count index : ℕ)
    (has : All (λ (part : Part). HasPlace s part.place) before) (here : index < count) (path_edges : IsMidway old s alike by count index before) where
  abbrev finer : Test
  finer = also_by old alike by

  the_part : (part : Part) → slice_get before index ≡ Some part → IsClassPart s alike part
  the_part part was = subst (IsClassPart s alike) (get_or_from_slice_get before index part part was) (path_edges.left index part (omega arith) here)

  split_before : (k : ℕ) (d : Part) → k < length before → (k ≡ index → ⊥) → (k < index + 1) ⊎ (count ≤ k) → IsClassPart t finer (get_or before k d)
  split_before k d within other where_it_is = part_kept second finer _ (path_edges.split k d within (earlier where_it_is))
    where
      earlier : (k < index + 1) ⊎ (count ≤ k) → (k < index) ⊎ (count ≤ k)
      earlier (inl h) = inl (omega arith)
      earlier (inr h) = inr h

  step_whole : IsUnsplit s before after index by → IsMidway old t alike by count (index + 1) after
  step_whole whole = subst (IsMidway old t alike by count (index + 1)) (sym whole.unchanged) (record {
    within = path_edges.within;
    left = λ k d from to. part_kept second alike _ (path_edges.left k d (omega (arith, from)) to);
    split = split;
    one = λ on. count_kept second on before (recursion_from_All _ before has) ∙ path_edges.one on;
  })
    where
      split : (k : ℕ) (d : Part) → k < length before → (k < index + 1) ⊎ (count ≤ k) → IsClassPart t finer (get_or before k d)
      split k d within where_it_is = elim (ℕ_discrete k index) [
        | yes e ↦ part_kept second finer _ (subst (IsClassPart s finer) (sym (ap (λ i. get_or before i d) e ∙ get_or_from_slice_get before index whole.part d whole.was))
            (whole_part first alike by has_by whole.part (the_part whole.part whole.was) is whole.one_sided))
        | no e ↦ split_before k d within e where_it_is
      ]

  step_halved : IsHalved s t before after index by → IsMidway old t alike by count (index + 1) after
  step_halved half = subst (IsMidway old t alike by count (index + 1)) (sym half.made) (record {
    within = let a = path_edges.within in omega (arith, long);
    left = λ k d from to.
        let other : k ≢ index = omega arith in
        let within : k < length before = let a = path_edges.within in omega arith in
        subst (IsClassPart t alike) (sym (get_or-set_other more index k kept d other ∙ get_or_append_left before (half.rest ∷ []) d k within))
        (part_kept second alike _ (path_edges.left k d (omega (arith, from)) to));
    split = split;
    one = λ on. sym (ap (count_true t on) half.made) ∙ (count_halved second before after index by has half on ∙ path_edges.one on);
  })
    where
      kept : Part
      kept = record { number = half.part.number; place = half.kept }

      more : List Part
      more = before ++ half.rest ∷ []

      long : length (set more index kept) ≡ length before + 1
      long = length-set more index kept ∙ length-append before (half.rest ∷ [])

      part : IsClassPart s alike half.part
      part = the_part half.part half.was

      past : (k : ℕ) (d : Part) → k < length (set more index kept) → (k ≡ index → ⊥) → (k < index + 1) ⊎ (count ≤ k) → IsClassPart t finer (get_or more k d)
      past k d within other where_it_is = elim (dec_lt k (length before)) [
        | yes h ↦ subst (IsClassPart t finer) (sym (get_or_append_left before (half.rest ∷ []) d k h)) (split_before k d h other where_it_is)
        | no h ↦ let last : length before ≡ k = omega (arith, within, long) in subst (IsClassPart t finer) (sym (get_or_push before half.rest d k last))
            (rest_part first alike by has_by half.part part second is half.rest half.halves.is_rest half.least)
      ]

      split : (k : ℕ) (d : Part) → k < length (set more index kept) → (k < index + 1) ⊎ (count ≤ k) → IsClassPart t finer (get_or (set more index kept) k d)
      split k d within where_it_is = elim (ℕ_discrete k index) [
        | yes e ↦ let a = path_edges.within in let b = length-append before (half.rest ∷ []) in let within_more : index < length more = omega arith in
            subst (IsClassPart t finer) (sym (ap (λ i. get_or (set more index kept) i d) e ∙ get_or-set_same more index kept d within_more))
            (kept_part first alike by has_by half.part part second half.kept half.halves.is_kept)
        | no other ↦ subst (IsClassPart t finer) (sym (get_or-set_other more index k kept d other)) (past k d within other where_it_is)
      ]

  pub split_step : IsPartSplit s t before after index by → IsMidway old t alike by count (index + 1) after
  split_step (inl whole) = step_whole whole
  split_step (inr half) = step_halved half

-- the parts have their places still
pub split_has : {s t : Store} → Grows s t → (before after : List Part) (index by : ℕ) → All (λ (part : Part). HasPlace s part.place) before → IsPartSplit s t before after index by
    → All (λ (part : Part). HasPlace t part.place) after
split_has {s} {t} grows before after index by has split = this split
  where
    still : All (λ (part : Part). HasPlace t part.place) before
    still k d within = has_kept grows _ (has k d within)

    this : IsPartSplit s t before after index by → All (λ (part : Part). HasPlace t part.place) after
    this (inl whole) = subst (All (λ (part : Part). HasPlace t part.place)) (sym whole.unchanged) still
    this (inr half) = subst (All (λ (part : Part). HasPlace t part.place)) (sym half.made)
        (All-set (λ (part : Part). HasPlace t part.place) (before ++ half.rest ∷ []) index (record { number = half.part.number; place = half.kept }) half.halves.is_kept.has
        (All-push (λ (part : Part). HasPlace t part.place) before half.rest still half.halves.is_rest.has))

-- no part is lost
pub split_longer : (s t : Store) (before after : List Part) (index by : ℕ) → IsPartSplit s t before after index by → length before ≤ length after
split_longer s t before after index by (inl whole) = let same = ap length whole.unchanged in omega arith
split_longer s t before after index by (inr half) =
    let a = ap length half.made in
    let b = length-set (before ++ half.rest ∷ []) index (record { number = half.part.number; place = half.kept }) in
    let c = length-append before (half.rest ∷ []) in
    omega arith

-- What is never true is of no part, so the guard has the truth that it has at the least valuation.
pub no_rest : {s t : Store} → Grows s t → IsReducedDiagram t.names t.nodes → (part : Part) (by kept rest : ℕ) → HasPlace s part.place → HasPlace s by → AreHalves s t part by kept rest
    → IsLeastAt t rest None → IsOneSided s part.place by
no_rest {s} {t} grows reduced part by kept rest has_place has_by halves none = record {
  side = side_of s part by;
  same = λ on met. this (outcome s.nodes on by) (side_of s part by)
      (sym (ap (λ b. b && beq (not (side_of s part by)) (outcome s.nodes on by)) met) ∙ (sym (halves.is_rest.truth on) ∙ (outcome_firsts t reduced rest halves.is_rest.has on
      ∙ none (valuation_of t.names on) (length-valuation_of t.names on))));
}
  where
    this : (b side : Bool) → beq (not side) b ≡ false → b ≡ side
    this true true h = refl
    this true false h = absurd (false≢true (sym h))
    this false true h = absurd (false≢true (sym h))
    this false false h = refl

pub guard_there : (s : Store) (list : List Guard) (i : ℕ) (g : Guard) → All (Has s) list → slice_get list i ≡ Some g → Has s g
guard_there s list i g has at = subst (Has s) (get_or_from_slice_get list i g g at) (has i g (slice_get_within list i g at))

-- The one part that is true everywhere is of what is alike under no guard.
pub whole_parts : (s : Store) (parts : List Part) → parts ≡ record { number = 0; place = 1 } ∷ [] → AreClassParts s (agree s []) parts
whole_parts s parts e = subst (AreClassParts s (agree s [])) (sym e) (record {
  each = All-from_recursion (IsClassPart s (agree s [])) (record { number = 0; place = 1 } ∷ []) (one, tt);
  one = λ on. ap (λ (b : Bool). 0 + cond {A = ℕ} b 1 0) (outcome-true s.nodes on);
})
  where
    met : IsMetAt s 1 0
    met = met_true s

    zeros : bits_of s.names 0 ≡ met.valuation
    zeros = ap (bits_of s.names) (sym met.is_number) ∙ bits_of-number met.valuation s.names met.size

    one : IsClassPart s (agree s []) (record { number = 0; place = 1 })
    one = record {
      number = ap number_of zeros ∙ met.is_number;
      first = record { size = length-bits_of s.names 0; least = λ w size h. subst (λ (m : ℕ). m ≤ number_of w) (sym (ap number_of zeros ∙ met.is_number)) (omega arith) };
      is = true_place s;
    }

-- What is alike by one guard more is alike under one guard more.
pub parts_more : {old s : Store} → Grows old s → (list : List Guard) (i : ℕ) (g : Guard) → Has old g → slice_get list i ≡ Some g → (t : Store) (parts : List Part)
    → AreClassParts t (also_by s (agree old (take i list)) g.place) parts → AreClassParts t (agree old (take (i + 1) list)) parts
parts_more {old} {s} grows list i g has at t parts are =
    let same : (ℕ → Bool) → (ℕ → Bool) → Guard → Bool = λ on also h. beq (outcome old.nodes on h.place) (outcome old.nodes also h.place) in
    let all : (on also : ℕ → Bool) → list_all (same on also) (take (i + 1) list) ≡ (list_all (same on also) (take i list) && same on also g) =
    λ on also. ap (list_all (same on also)) (take-slice_get list i g at)
    ∙ (list_all-append (same on also) (take i list) (g ∷ []) ∙ ap (λ b. list_all (same on also) (take i list) && b) (and-true (same on also g))) in
    let step : (on also : ℕ → Bool) → also_by s (agree old (take i list)) g.place on also ≡ agree old (take (i + 1) list) on also =
    λ on also. (λ j. agree old (take i list) on also && beq (outcome_kept grows on g.place has j) (outcome_kept grows also g.place has j)) ∙ sym (all on also) in
    let path : also_by s (agree old (take i list)) g.place ≡ agree old (take (i + 1) list) = λ j on also. step on also j in
    subst (λ (alike : Test). AreClassParts t alike parts) path are
