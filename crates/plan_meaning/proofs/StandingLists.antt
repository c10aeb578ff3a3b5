-- The lists of items of options that are given, in code and in definitions.
use Rattle.std.proofs.Common.{◌≡◌, ◌∙◌, ◌<◌, ◌+◌, ℕ, Bool, true, false, List, [], ◌∷◌, ◌++◌, Option, Some, None, ap, append_assoc, drop, get_or, length, map, refl, subst, sym, take}
use Rattle.std.specs.Prelude.{IfSome, IsSomeAnd, MatchOption, filter_map}
use Rattle.std.specs.Bool.{then_some}
use Rattle.std.specs.List.{cons_option}
use Rattle.std.specs.Option.{option_map}
use Rattle.std.proofs.lemmas.List.{take-append-drop, take_more}
use Rattle.std.proofs.lemmas.List.Elements.{filter_map-append}
use Rattle.plan_meaning.specs.Standing.{those_standing}

-- ---- the list as far as a loop has come

-- after one more item
pub standing_up_to_next : {C S : Type 0} (spec : C → S) (xs : List (Option C)) (i : ℕ) (d o : Option C) → i < length xs → get_or xs i d ≡ o
    → filter_map (option_map spec) (take (i + 1) xs) ≡ filter_map (option_map spec) (take i xs) ++ filter_map (option_map spec) (o ∷ [])
standing_up_to_next spec xs i d o lt is = ap (filter_map (option_map spec)) (take_more xs i d lt ∙ ap (λ x. take i xs ++ x ∷ []) is) ∙ filter_map-append (option_map spec) (take i xs) (o ∷ [])

-- the list split at an item: the items before it, the item, and those after it
pub parted : {C S : Type 0} (spec : C → S) (xs : List (Option C)) (i : ℕ) (d o : Option C) → i < length xs → get_or xs i d ≡ o → (f : C) → o ≡ Some f
    → filter_map (option_map spec) xs ≡ filter_map (option_map spec) (take i xs) ++ spec f ∷ filter_map (option_map spec) (drop (i + 1) xs)
parted spec xs i d o lt is f some =
    let asked = filter_map (option_map spec) in
    sym (ap asked (take-append-drop (i + 1) xs)) ∙ filter_map-append (option_map spec) (take (i + 1) xs) (drop (i + 1) xs)
    ∙ ap (λ fs. fs ++ asked (drop (i + 1) xs)) (standing_up_to_next spec xs i d o lt is ∙ ap (λ x. asked (take i xs) ++ asked (x ∷ [])) some)
    ∙ append_assoc (asked (take i xs)) (spec f ∷ []) (asked (drop (i + 1) xs))

-- ---- code and definition have the same list

standing_then : {C S : Type 0} (spec : C → S) (o : Option C) (fs gs : List S) → fs ≡ gs → cons_option (option_map spec o) fs ≡ cons_option (option_map spec o) gs
standing_then spec o fs gs e = ap (λ x. cons_option (option_map spec o) x) e

standing : {C S : Type 0} (spec : C → S) (xs : List (Option C)) → filter_map (option_map spec) xs ≡ those_standing (map (option_map spec) xs)
standing spec [] = refl
standing spec (o ∷ xs) = standing_then spec o (filter_map (option_map spec) xs) (those_standing (map (option_map spec) xs)) (standing spec xs)

pub same_standing : {C S : Type 0} (spec : C → S) (xs : List (Option C)) (os : List (Option S)) → map (option_map spec) xs ≡ os → filter_map (option_map spec) xs ≡ those_standing os
same_standing spec xs os e = standing spec xs ∙ ap those_standing e

-- an item by an option that has a value: `wrap` makes it in code of what definitions see as `view`
pub by_option : {A B C S : Type 0} (spec : C → S) (view : B → A) (wrap : B → C) (meaning : A → S) → ((x : B) → spec (wrap x) ≡ meaning (view x))
    → (o : Option B) (p : Option A) (r : Option C) → MatchOption o (r ≡ None) (λ x. IsSomeAnd r (λ y. y ≡ wrap x)) → option_map view o ≡ p → option_map spec r ≡ option_map meaning p
by_option spec view wrap meaning says None p r is there = ap (option_map spec) is ∙ ap (option_map meaning) there
by_option spec view wrap meaning says (Some x) p None is there = absurd is
by_option spec view wrap meaning says (Some x) p (Some y) is there = ap (λ z. Some (spec z)) is ∙ ap (λ z. Some z) (says x) ∙ ap (option_map meaning) there

-- an item by a flag
pub by_flag : {C S : Type 0} (spec : C → S) (asked : Bool) (f : C) (r : Option C) → r ≡ then_some asked f → option_map spec r ≡ then_some asked (spec f)
by_flag spec true f r is = ap (option_map spec) is
by_flag spec false f r is = ap (option_map spec) is

-- ---- what holds of an item that is given

-- by an option, where something is known of its value
pub of_option : {B C : Type 0} (Q : B → Type 0) (P : C → Type 0) (wrap : B → C) → ((x : B) → Q x → P (wrap x)) → (o : Option B) (r : Option C)
    → MatchOption o (r ≡ None) (λ x. IsSomeAnd r (λ y. y ≡ wrap x)) → IfSome o Q → IfSome r P
of_option {C = C} Q P wrap says None r is h = subst (λ (z : Option C). IfSome z P) (sym is) tt
of_option Q P wrap says (Some x) None is h = tt
of_option Q P wrap says (Some x) (Some y) is h = subst P (sym is) (says x h)

-- by an option, whatever its value is
pub of_any : {B C : Type 0} (P : C → Type 0) (wrap : B → C) → ((x : B) → P (wrap x)) → (o : Option B) (r : Option C) → MatchOption o (r ≡ None) (λ x. IsSomeAnd r (λ y. y ≡ wrap x)) → IfSome r P
of_any {C = C} P wrap says None r is = subst (λ (z : Option C). IfSome z P) (sym is) tt
of_any P wrap says (Some x) None is = tt
of_any P wrap says (Some x) (Some y) is = subst P (sym is) (says x)

-- by a flag
pub of_flag : {C : Type 0} (P : C → Type 0) (asked : Bool) (f : C) (r : Option C) → r ≡ then_some asked f → P f → IfSome r P
of_flag {C = C} P true f r is h = subst (λ (z : Option C). IfSome z P) (sym is) h
of_flag {C = C} P false f r is h = subst (λ (z : Option C). IfSome z P) (sym is) tt
