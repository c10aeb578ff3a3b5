-- The places of labels, by the places of their parts.
use Rattle.std.proofs.Common.{◌≡◌, ℕ, zero, suc, ◌+◌, ◌∙◌, Bool, true, false, not, ◌&&◌, ◌||◌, if◌then◌else◌, List, [], ◌∷◌, drop, length, Some, slice_get, sym, refl, ap, subst, arith}
use Rattle.std.proofs.lemmas.List.{drop_all, drop_more}
use Rattle.std.proofs.lemmas.Option.{get_or_from_slice_get, slice_get_within, none-some, same_Some}
use Rattle.aut_base.specs.CanonicalLabel.{literal_tree}
use Rattle.aut_base.specs.Label.{LabelTree, Prop, Not, AllBelow, EachBelow, all_true, some_true, trees, truth}
use Rattle.label_guards.specs.declared.cubes.Literal.{Literal}
use Rattle.label_guards.specs.declared.guards.Operation.{Operation}
use Rattle.label_guards.specs.declared.guards.Operation.TheVariants.{Xor}
use Rattle.label_guards.specs.Nodes.{Grows, IsChoice}
use Rattle.label_guards.specs.Operations.{differs, joins, IsJoin, IsPlaceOf}
use Rattle.label_guards.specs.Pieces.{literal_of}
use Rattle.label_guards.specs.Store.{Store, HasPlace, outcome}
use Rattle.label_guards.proofs.diagrams.Growth.{has_kept, outcome_kept, grows_on}
use Rattle.label_guards.proofs.diagrams.Outcomes.{outcome-false, outcome-true}

pub place_kept : {old new : Store} → Grows old new → (says : (ℕ → Bool) → Bool) (place : ℕ) → IsPlaceOf old says place → IsPlaceOf new says place
place_kept grows says place is = record { has = has_kept grows place is.has; truth = λ on. outcome_kept grows on place is.has ∙ is.truth on }

-- the place of the same, said in other words
pub place_same : (s : Store) (says also : (ℕ → Bool) → Bool) (place : ℕ) → ((on : ℕ → Bool) → says on ≡ also on) → IsPlaceOf s says place → IsPlaceOf s also place
place_same s says also place same is = record { has = is.has; truth = λ on. is.truth on ∙ same on }

pub true_place : (s : Store) → IsPlaceOf s (λ on. true) 1
true_place s = record { has = omega arith; truth = outcome-true s.nodes }

pub false_place : (s : Store) → IsPlaceOf s (λ on. false) 0
false_place s = record { has = omega arith; truth = outcome-false s.nodes }

pub prop_place : (s : Store) (prop place : ℕ) → IsChoice s prop 0 1 place → IsPlaceOf s (λ on. on prop) place
prop_place s prop place choice = record { has = choice.has; truth = λ on. choice.truth on ∙ ((λ i. if on prop then outcome-true s.nodes on i else outcome-false s.nodes on i) ∙ itself (on prop)) }
  where
    itself : (b : Bool) → (if b then true else false) ≡ b
    itself true = refl
    itself false = refl

pub negated_place : (s : Store) (prop place : ℕ) → IsChoice s prop 1 0 place → IsPlaceOf s (λ on. not (on prop)) place
negated_place s prop place choice = record { has = choice.has; truth = λ on. choice.truth on ∙ ((λ i. if on prop then outcome-false s.nodes on i else outcome-true s.nodes on i) ∙ turned (on prop)) }
  where
    turned : (b : Bool) → (if b then false else true) ≡ not b
    turned true = refl
    turned false = refl

pub not_place : {t u : Store} → Grows t u → (says : (ℕ → Bool) → Bool) (p place : ℕ) → IsPlaceOf t says p → IsJoin u Xor p 1 place → IsPlaceOf u (λ on. not (says on)) place
not_place {t} {u} grows says p place is joined = record {
  has = joined.has;
  truth = λ on. joined.truth on ∙ ((λ i. differs ((outcome_kept grows on p is.has ∙ is.truth on) i) (outcome-true u.nodes on i)) ∙ turned (says on));
}
  where
    turned : (b : Bool) → differs b true ≡ not b
    turned true = refl
    turned false = refl

-- the place of a label that is known to be this one
pub place_of_label : (s : Store) (t u : LabelTree) (place : ℕ) → t ≡ u → IsPlaceOf s (λ on. truth on u) place → IsPlaceOf s (λ on. truth on t) place
place_of_label s t u place e is = record { has = is.has; truth = λ on. is.truth on ∙ ap (truth on) (sym e) }

pub part_below : (n : ℕ) (parts : List LabelTree) (i : ℕ) (part : LabelTree) → EachBelow n (trees parts) → slice_get parts i ≡ Some part → AllBelow n part
part_below n [] i part below is = absurd (none-some part is)
part_below n (t ∷ ts) zero part below is = subst (AllBelow n) (same_Some t part is) below.0
part_below n (t ∷ ts) (suc i) part below is = part_below n ts i part below.1 is

-- What is left of the parts begins with the part that is next, from the last to the first.
pub next_left : (parts : List LabelTree) (i left : ℕ) (part : LabelTree) → left ≡ i + 1 → slice_get parts i ≡ Some part → drop i parts ≡ part ∷ drop left parts
next_left parts i left part e at = drop_more parts i part (slice_get_within parts i part at) ∙ (λ j. get_or_from_slice_get parts i part part at j ∷ drop (sym e j) parts)

pub all_none : (s : Store) (parts : List LabelTree) (n : ℕ) → n ≡ length parts → IsPlaceOf s (λ on. all_true on (trees (drop n parts))) 1
all_none s parts n e = record { has = omega arith; truth = λ on. outcome-true s.nodes on ∙ ap (λ ts. all_true on (trees ts)) (sym (drop_all n parts (omega arith))) }

pub some_none : (s : Store) (parts : List LabelTree) (n : ℕ) → n ≡ length parts → IsPlaceOf s (λ on. some_true on (trees (drop n parts))) 0
some_none s parts n e = record { has = omega arith; truth = λ on. outcome-false s.nodes on ∙ ap (λ ts. some_true on (trees ts)) (sym (drop_all n parts (omega arith))) }

pub all_step : {s t : Store} (parts : List LabelTree) (i left : ℕ) (part : LabelTree) (place result : ℕ) → left ≡ i + 1 → slice_get parts i ≡ Some part
    → IsPlaceOf s (λ on. all_true on (trees (drop left parts))) place → IsPlaceOf t (λ on. truth on part && outcome s.nodes on place) result
    → IsPlaceOf t (λ on. all_true on (trees (drop i parts))) result
all_step parts i left part place result e at so_far is = record {
  has = is.has;
  truth = λ on. is.truth on ∙ (ap (λ b. truth on part && b) (so_far.truth on) ∙ sym (ap (λ ts. all_true on (trees ts)) (next_left parts i left part e at)));
}

pub some_step : {s t : Store} (parts : List LabelTree) (i left : ℕ) (part : LabelTree) (place result : ℕ) → left ≡ i + 1 → slice_get parts i ≡ Some part
    → IsPlaceOf s (λ on. some_true on (trees (drop left parts))) place → IsPlaceOf t (λ on. truth on part || outcome s.nodes on place) result
    → IsPlaceOf t (λ on. some_true on (trees (drop i parts))) result
some_step parts i left part place result e at so_far is = record {
  has = is.has;
  truth = λ on. is.truth on ∙ (ap (λ b. truth on part || b) (so_far.truth on) ∙ sym (ap (λ ts. some_true on (trees ts)) (next_left parts i left part e at)));
}

-- the place of a part and what is left, by the table's operations
pub joined_place : {s t u : Store} → Grows s t → Grows t u → (operation : Operation) (says : (ℕ → Bool) → Bool) (other place result : ℕ) → HasPlace s place → IsPlaceOf t says other
    → IsJoin u operation other place result → IsPlaceOf u (λ on. joins operation (says on) (outcome s.nodes on place)) result
joined_place first second operation says other place result has is joined = record {
  has = joined.has;
  truth = λ on. joined.truth on ∙ (λ j. joins operation ((outcome_kept second on other is.has ∙ is.truth on) j) (outcome_kept (grows_on first second) on place has j));
}

-- the place that a literal decides
abbrev pub IsBranch : Store → Store → LabelTree → ℕ → ℕ → ℕ → Type 0
IsBranch s t tree fails holds place = IsPlaceOf t (λ on. if truth on tree then outcome s.nodes on holds else outcome s.nodes on fails) place

pub branch_true : {s t : Store} → Grows s t → (l : Literal) (fails holds place : ℕ) → HasPlace s fails → HasPlace s holds → l.holds ≡ true → IsChoice t l.prop fails holds place
    → IsBranch s t (literal_tree (literal_of l)) fails holds place
branch_true {s} grows l fails holds place has_fails has_holds e choice = record {
  has = choice.has;
  truth = λ on. choice.truth on ∙ (λ j. if truth on (if sym e j then Prop l.prop else Not (Prop l.prop)) then outcome_kept grows on holds has_holds j else outcome_kept grows on fails has_fails j);
}

pub branch_false : {s t : Store} → Grows s t → (l : Literal) (fails holds place : ℕ) → HasPlace s fails → HasPlace s holds → l.holds ≡ false → IsChoice t l.prop holds fails place
    → IsBranch s t (literal_tree (literal_of l)) fails holds place
branch_false {s} grows l fails holds place has_fails has_holds e choice = record {
  has = choice.has;
  truth = λ on. choice.truth on ∙ (turned (on l.prop) _ _
      ∙ (λ j. if truth on (if sym e j then Prop l.prop else Not (Prop l.prop)) then outcome_kept grows on holds has_holds j else outcome_kept grows on fails has_fails j));
}
  where
    turned : (b x y : Bool) → (if b then y else x) ≡ (if not b then x else y)
    turned true x y = refl
    turned false x y = refl

-- a literal, and a place
pub met_branch : (s t : Store) (label literal : LabelTree) (place result : ℕ) → label ≡ literal → IsBranch s t literal 0 place result
    → IsPlaceOf t (λ on. truth on label && outcome s.nodes on place) result
met_branch s t label literal place result e is = record {
  has = is.has;
  truth = λ on. is.truth on ∙ (both (truth on literal) _ _ (outcome-false s.nodes on) ∙ ap (λ u. truth on u && outcome s.nodes on place) (sym e));
}
  where
    both : (b x y : Bool) → y ≡ false → (if b then x else y) ≡ (b && x)
    both true x y h = refl
    both false x y h = h

-- a literal, or a place
pub joined_branch : (s t : Store) (label literal : LabelTree) (place result : ℕ) → label ≡ literal → IsBranch s t literal place 1 result
    → IsPlaceOf t (λ on. truth on label || outcome s.nodes on place) result
joined_branch s t label literal place result e is = record {
  has = is.has;
  truth = λ on. is.truth on ∙ (some (truth on literal) _ _ (outcome-true s.nodes on) ∙ ap (λ u. truth on u || outcome s.nodes on place) (sym e));
}
  where
    some : (b x y : Bool) → x ≡ true → (if b then x else y) ≡ (b || y)
    some true x y h = h
    some false x y h = refl
