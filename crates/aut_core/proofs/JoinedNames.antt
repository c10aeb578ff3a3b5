-- The joint list of names, made name by name.
use Rattle.aut_base.proofs.lists.Lists.{take-push}
use Rattle.aut_base.proofs.order.Ordered.{of_kept}
use Rattle.aut_base.proofs.words.Texts as texts
use Rattle.std.proofs.Common.{◌≡◌, ◌≢◌, ◌∙◌, ◌<◌, ◌≤◌, ◌+◌, ℕ, zero, suc, Bool, true, false, cond, not, List, [], ◌∷◌, ◌++◌, All, AllPairs, Contains}
use Rattle.std.proofs.Common.{ap, arith, filter, get_or, length, length-take, refl, subst, sym, take}
use Rattle.std.proofs.lemmas.Bool.{false_from_ne_true}
use Rattle.std.proofs.lemmas.Cmp.{nat_list_eq_equiv}
use Rattle.std.proofs.lemmas.List.{append-nil, append_assoc, get_or-take, take_all}
use Rattle.std.proofs.lemmas.List.Elements.{All-append, All-contains_itself, All-filter, Contains-append_left, Contains-append_right, Contains-get_or, filter-append}
use Rattle.std.proofs.lemmas.List.Folds.{list_any_none}
use Rattle.std.proofs.lemmas.Map.Views.{Contains-from_any, list_any-from_Contains}
use Rattle.aut_base.specs.Text.{same_text}
use Rattle.aut_core.specs.OtherNames.{HaveBoth, is_among, joined_names}

pub among : (a : List (List ℕ)) (name : List ℕ) → Contains a name → is_among a name ≡ true
among a name there = list_any-from_Contains nat_list_eq_equiv name a there

pub not_among : (a : List (List ℕ)) (name : List ℕ) → All (λ other. other ≢ name) a → is_among a name ≡ false
not_among a name all = list_any_none (same_text name) a (λ k d within. false_from_ne_true (same_text name (get_or a k d)) (λ e. all k d within (sym (texts.same_text name (get_or a k d) e))))

-- those of the first k names of the second list that the first list lacks
abbrev pub lacking : List (List ℕ) → List (List ℕ) → ℕ → List (List ℕ)
lacking a b k = filter (λ name. not (is_among a name)) (take k b)

lacking_up_to_next : (a b : List (List ℕ)) (k : ℕ) (x : List ℕ) (is : Bool) → k < length b → x ≡ get_or b k x → is_among a x ≡ is → lacking a b (k + 1) ≡ lacking a b k ++ cond (not is) (x ∷ []) []
lacking_up_to_next a b k x is within at e =
    ap (filter (λ name. not (is_among a name))) (take-push b k x within at)
    ∙ (filter-append (λ name. not (is_among a name)) (take k b) (x ∷ []) ∙ ap (λ t. lacking a b k ++ cond (not t) (x ∷ []) []) e)

pub joined_skip : (a b names : List (List ℕ)) (k : ℕ) (x : List ℕ) → k < length b → x ≡ get_or b k x → names ≡ a ++ lacking a b k → Contains a x → names ≡ a ++ lacking a b (k + 1)
joined_skip a b names k x within at so_far there = so_far ∙ ap (λ ys. a ++ ys) (sym (lacking_up_to_next a b k x true within at (among a x there) ∙ append-nil (lacking a b k)))

pub joined_more : (a b names new : List (List ℕ)) (k : ℕ) (x y : List ℕ) → k < length b → x ≡ get_or b k x → names ≡ a ++ lacking a b k → All (λ other. other ≢ x) a → y ≡ x
    → new ≡ names ++ y ∷ [] → new ≡ a ++ lacking a b (k + 1)
joined_more a b names new k x y within at so_far lacks same pushed =
    pushed ∙ (ap (λ ns. ns ++ y ∷ []) so_far ∙ (append_assoc a (lacking a b k) (y ∷ [])
    ∙ (ap (λ z. a ++ (lacking a b k ++ z ∷ [])) same ∙ ap (λ ys. a ++ ys) (sym (lacking_up_to_next a b k x false within at (not_among a x lacks))))))

other_default : (b : List (List ℕ)) (k : ℕ) (x d : List ℕ) → k < length b → get_or b k x ≡ get_or b k d
other_default [] k x d within = absurd (omega (arith, within))
other_default (y ∷ ys) zero x d within = refl
other_default (y ∷ ys) (suc k) x d within = other_default ys k x d (omega (arith, within))

-- the next name differs from those so far
pub apart_so_far : (a b names : List (List ℕ)) (k : ℕ) (x y : List ℕ) → AllPairs (λ p q. p ≢ q) b → k < length b → x ≡ get_or b k x → names ≡ a ++ lacking a b k → All (λ other. other ≢ x) a
    → y ≡ x → All (λ name. name ≢ y) names
apart_so_far a b names k x y differ within at so_far lacks same =
    let earlier : All (λ name. name ≢ x) (take k b) = λ i d l e.
    let less : i < k = omega (arith, l, length-take k b) in
    differ i k d less within (sym (get_or-take k b i d less) ∙ (e ∙ (at ∙ other_default b k x d within))) in
    subst (λ ns. All (λ name. name ≢ y) ns) (sym so_far)
    (subst (λ z. All (λ name. name ≢ z) (a ++ lacking a b k)) (sym same)
    (All-append (λ name. name ≢ x) a (lacking a b k) lacks (All-filter (λ name. not (is_among a name)) (λ name. name ≢ x) (take k b) earlier)))

pub joined_all : (a b names : List (List ℕ)) (k : ℕ) → length b ≤ k → names ≡ a ++ lacking a b k → names ≡ joined_names a b
joined_all a b names k end so_far = so_far ∙ ap (λ ys. a ++ filter (λ name. not (is_among a name)) ys) (take_all k b end)

pub have_both : (a b names : List (List ℕ)) → names ≡ joined_names a b → HaveBoth a b names
have_both a b names same = subst (HaveBoth a b) (sym same) (record {
  first = λ k d within. Contains-append_left a (filter (λ name. not (is_among a name)) b) (get_or a k d) (Contains-get_or a k d within);
  second = λ k d within. by_case (is_among a (get_or b k d)) refl
      (of_kept (Contains (filter (λ name. not (is_among a name)) b)) (λ name. not (is_among a name)) b (All-contains_itself (filter (λ name. not (is_among a name)) b)) k d within);
})
  where
    by_case : {name : List ℕ} (is : Bool) → is_among a name ≡ is → (not (is_among a name) ≡ true → Contains (filter (λ other. not (is_among a other)) b) name) → Contains (joined_names a b) name
    by_case {name} true e kept = Contains-append_left a (filter (λ other. not (is_among a other)) b) name (Contains-from_any (texts.same_text) name a e)
    by_case {name} false e kept = Contains-append_right a (filter (λ other. not (is_among a other)) b) name (kept (ap not e))
