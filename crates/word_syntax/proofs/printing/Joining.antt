-- Joining texts with separators.
use Rattle.std.proofs.Common.{◌≡◌, ◌∙◌, ◌∷◌, ◌++◌, ◌+◌, ◌<◌, List, [], ap, arith, get_or, length, map, refl, sym, take, ℕ}
use Rattle.std.proofs.lemmas.List.{append_assoc, length-map, length-take-le, map-append}
use Rattle.aut_base.proofs.lists.Lists.{take-push}
use Rattle.aut_base.specs.LabelText.{joined}

-- another text after a separator
pub joined_push : (separator : List ℕ) (p : List ℕ) (ps : List (List ℕ)) (q : List ℕ) → joined separator ((p ∷ ps) ++ q ∷ []) ≡ joined separator (p ∷ ps) ++ (separator ++ q)
joined_push separator p [] q = refl
joined_push separator p (r ∷ ps) q = ap (λ (y : List ℕ). p ++ (separator ++ y)) (joined_push separator r ps q)
    ∙ sym (append_assoc p (separator ++ joined separator (r ∷ ps)) (separator ++ q) ∙ ap (λ (y : List ℕ). p ++ y) (append_assoc separator (joined separator (r ∷ ps)) (separator ++ q)))

joined_last : (separator : List ℕ) (ps : List (List ℕ)) (q : List ℕ) → 0 < length ps → joined separator (ps ++ q ∷ []) ≡ joined separator ps ++ (separator ++ q)
joined_last separator [] q some = absurd (omega arith)
joined_last separator (p ∷ ps) q some = joined_push separator p ps q

pub joined_more : {A : Type 0} (separator : List ℕ) (f : A → List ℕ) (xs : List A) (i : ℕ) (x : A) (start before now : List ℕ) → 0 < i → i < length xs → x ≡ get_or xs i x
    → before ≡ start ++ joined separator (map f (take i xs)) → now ≡ (before ++ separator) ++ f x → now ≡ start ++ joined separator (map f (take (i + 1) xs))
joined_more separator f xs i x start before now some within is so_far added =
    let long : length (map f (take i xs)) ≡ i = length-map (take i xs) f ∙ length-take-le i xs (omega arith) in
    added ∙ (ap (λ (y : List ℕ). (y ++ separator) ++ f x) so_far
    ∙ (append_assoc (start ++ joined separator (map f (take i xs))) separator (f x)
    ∙ (append_assoc start (joined separator (map f (take i xs))) (separator ++ f x) ∙ ap (λ (y : List ℕ). start ++ y)
    (sym (joined_last separator (map f (take i xs)) (f x) (omega arith)) ∙ ap (joined separator) (sym (map-append f (take i xs) (x ∷ [])) ∙ ap (map f) (sym (take-push xs i x within is)))))))
