-- What joins two parts and more, a conjunction or a disjunction of labels or conditions, by the list of its parts.
use Rattle.std.proofs.Common.{◌≡◌, List, [], ◌∷◌, ap, sym, ◌∙◌}
use Rattle.std.proofs.Math.Path.{ap₂}

pub ap₃ : {A B C D : Type 0} (f : A → B → C → D) {a a' : A} {b b' : B} {c c' : C} → a ≡ a' → b ≡ b' → c ≡ c' → f a b c ≡ f a' b' c'
ap₃ f {a} {a'} {b} {b'} {c} {c'} p q r = ap (λ x. f x b c) p ∙ ap₂ (f a') q r

pub joined_parts : {T : Type 0} (join : T → T → List T → T) (whole : T → List T → T) → ((t u : T) (us : List T) → whole t (u ∷ us) ≡ join t u us) → (x y first : T) (zs us : List T)
    → x ∷ y ∷ zs ≡ first ∷ us → join x y zs ≡ whole first us
joined_parts join whole joins x y first zs [] e = absurd (let no : x ∷ y ∷ zs ≡ first ∷ [] = e in cc)
joined_parts join whole joins x y first zs (u ∷ us) e =
    let same : x ∷ y ∷ zs ≡ first ∷ u ∷ us = e in
    let one : x ≡ first = cc in
    let two : y ≡ u = cc in
    let rest : zs ≡ us = cc in
    ap₃ join one two rest ∙ sym (joins first u us)
