-- What a sink has gained, piece by piece.
use Rattle.std.proofs.Common.{◌≡◌, ℕ, ◌+◌, List, [], ◌++◌, length, take, Option, Some, None, refl, sym, ap, ◌∙◌, subst, inl, inr, append_assoc, append-nil, arith}
use Rattle.std.proofs.lemmas.Bool.{cases_lt}
use Rattle.std.proofs.lemmas.List.{take_all, take-append-le}
use Rattle.std.proofs.Math.Seq.{take-append-add}
use Rattle.aut_io.specs.Outside.{Gains, GainsPrefix}

pub nothing : (before : Option (List ℕ)) → Gains before before []
nothing None = refl
nothing (Some old) = ap Some (sym (append-nil old))

-- two pieces
pub both : (before between after : Option (List ℕ)) (p q : List ℕ) → Gains before between p → Gains between after q → Gains before after (p ++ q)
both None between after p q a b =
    let P : Option (List ℕ) → Type 0 = λ x. Gains x after q in
    subst P a b
both (Some old) between after p q a b =
    let P : Option (List ℕ) → Type 0 = λ x. Gains x after q in
    subst P a b ∙ ap Some (append_assoc old p q)

shorter : (k : ℕ) (p q : List ℕ) → (j : ℕ) × (take k p ≡ take j (p ++ q))
shorter k p q =
    elim (cases_lt k (length p)) [
      | inl short ↦ (k, sym (take-append-le k p q (omega arith)))
      | inr long ↦ (length p, take_all k p (omega arith) ∙ sym (take_all (length p) p (omega arith)) ∙ sym (take-append-le (length p) p q (omega arith)))
    ]

-- a prefix of the first piece, and nothing of the second
pub first : (before after : Option (List ℕ)) (p q : List ℕ) → GainsPrefix before after p → GainsPrefix before after (p ++ q)
first None after p q a = a
first (Some old) after p q a =
    let s = shorter a.0 p q in
    (s.0, a.1 ∙ ap (λ x. Some (old ++ x)) s.1)

-- the first piece, and a prefix of the second
pub second : (before between after : Option (List ℕ)) (p q : List ℕ) → Gains before between p → GainsPrefix between after q → GainsPrefix before after (p ++ q)
second None between after p q a b =
    let P : Option (List ℕ) → Type 0 = λ x. GainsPrefix x after q in
    subst P a b
second (Some old) between after p q a b =
    let P : Option (List ℕ) → Type 0 = λ x. GainsPrefix x after q in
    let b' = subst P a b in
    (length p + b'.0, b'.1 ∙ ap Some (append_assoc old p (take b'.0 q)) ∙ ap (λ x. Some (old ++ x)) (sym (take-append-add p q b'.0)))
