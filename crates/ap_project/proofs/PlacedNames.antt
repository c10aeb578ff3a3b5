-- The loop that finds the index of each name in another list.
use Rattle.std.proofs.Common.{◌≡◌, ◌∙◌, ◌+◌, ◌<◌, ◌≤◌, ⊎_elim, ℕ, List, [], ◌∷◌, ◌++◌, Contains, Some, ap, arith, get_or, length, length-append, slice_get, subst, sym, take}
use Rattle.std.proofs.lemmas.Bool.{cases_lt}
use Rattle.std.proofs.lemmas.List.{get_or-append-add, get_or_append_left}
use Rattle.std.proofs.lemmas.List.Elements.{All-push}
use Rattle.std.proofs.lemmas.Option.{same_Some, slice_get_within}
use Rattle.aut_base.proofs.lists.Lists.{slice_get-append_left, slice_get-append_right, take-push}
use Rattle.ap_project.specs.inner.HiddenGuards.{ArePlacesOfNames}

push_place : (names others : List (List ℕ)) (to : List ℕ) (x : List ℕ) (place : ℕ) → ArePlacesOfNames names others to → (0 < length others → place < length others)
    → (Contains others x → slice_get others place ≡ Some x) → ArePlacesOfNames (names ++ x ∷ []) others (to ++ place ∷ [])
push_place names others to x place placed within here = record {
  count = length-append to (place ∷ []) ∙ (ap (λ n. n + 1) placed.count ∙ sym (length-append names (x ∷ [])));
  within = λ some. All-push (λ p. p < length others) to place (placed.within some) (within some);
  places = λ k name at there. ⊎_elim
      (λ (early : k < length names).
      ap (slice_get others) (get_or_append_left to (place ∷ []) 0 k (omega (arith, placed.count, early))) ∙ placed.places k name (sym (slice_get-append_left names (x ∷ []) k early) ∙ at) there)
      (λ (late : length names ≤ k).
      let long = slice_get_within (names ++ x ∷ []) k name at in
      let last : length names ≡ k = omega (arith, late, long, length-append names (x ∷ [])) in
      let is : x ≡ name = same_Some x name (sym (slice_get-append_right names (x ∷ []) 0 k (omega (arith, last))) ∙ at) in
      let end : length to + 0 ≡ k = omega (arith, placed.count, last) in
      ap (λ n. slice_get others (get_or (to ++ place ∷ []) n 0)) (sym end) ∙ (ap (slice_get others) (get_or-append-add to (place ∷ []) 0 0)
      ∙ (here (subst (Contains others) (sym is) there) ∙ ap Some is)))
      (cases_lt k (length names));
}

pub placed_more : (names others : List (List ℕ)) (to more : List ℕ) (k place : ℕ) (x : List ℕ) → k < length names → x ≡ get_or names k x → ArePlacesOfNames (take k names) others to
    → (0 < length others → place < length others) → (Contains others x → slice_get others place ≡ Some x) → more ≡ to ++ place ∷ [] → ArePlacesOfNames (take (k + 1) names) others more
placed_more names others to more k place x within at placed below here pushed =
    subst (ArePlacesOfNames (take (k + 1) names) others) (sym pushed) (subst (λ ns. ArePlacesOfNames ns others (to ++ place ∷ [])) (sym (take-push names k x within at))
    (push_place (take k names) others to x place placed below here))
