-- The loop that checks that words are text, one word at each turn.
use Rattle.std.proofs.Common.{◌≡◌, ◌∙◌, ◌+◌, ◌<◌, ℕ, List, [], ◌∷◌, ◌++◌, ap, get_or, length, map, subst, sym, take}
use Rattle.std.specs.Prelude.{All}
use Rattle.std.proofs.lemmas.List.{map-append}
use Rattle.std.proofs.lemmas.List.Elements.{All-more}
use Rattle.aut_base.proofs.lists.Lists.{take-push}
use Rattle.filter_plan.specs.Words.{IsText}

pub decoded_up_to_next : {T : Type 0} (f : T → List ℕ) (words : List (List ℕ)) (i : ℕ) (w : List ℕ) (old new : List T) (t : T) → i < length words → w ≡ get_or words i w
    → (map f old ≡ take i words) × All IsText (take i words) → (f t ≡ w) × IsText w → new ≡ old ++ t ∷ []
    → (map f new ≡ take (i + 1) words) × All IsText (take (i + 1) words)
decoded_up_to_next f words i w old new t within is so_far here made = (
  ap (map f) made ∙ map-append f old (t ∷ []) ∙ ap (λ ws. ws ++ f t ∷ []) so_far.0
      ∙ ap (λ v. take i words ++ v ∷ []) here.0 ∙ sym (take-push words i w within is),
  All-more IsText words i w within so_far.1 (subst IsText is here.1),
)
