-- Shorter lassos of the same infinite word, with the same letters.
use Rattle.std.proofs.Common.{◌≡◌, ◌∙◌, ◌+◌, ◌*◌, ◌<◌, ◌≤◌, ℕ, zero, suc, List, [], ◌∷◌, ◌++◌, Contains, ap, append_assoc, arith, inl, inr, length, refl, slice_get, subst, sym}
use Rattle.std.proofs.Math.Nat.{le-mul_of_pos_right}
use Rattle.std.proofs.lemmas.List.{append-nil, length-append}
use Rattle.std.proofs.lemmas.List.Elements.{Contains-append_cases, Contains-append_left, Contains-append_right}
use Rattle.ap_project.proofs.Related.{unrolled}
use Rattle.aut_base.proofs.lists.Copies.{length-copies}
use Rattle.aut_base.proofs.lists.Lists.{slice_get-append_left}
use Rattle.aut_base.proofs.lists.Members.{first_there, there_cases}
use Rattle.aut_base.proofs.words.Spelled.{word_letter}
use Rattle.aut_base.specs.Word.{NameSet, SpellsSame, copies}

-- a cycle instead of copies of it
pub root_spells : (x w : List NameSet) (k : ℕ) → 0 < length w → 0 < length (copies k w) → SpellsSame x (copies k w) x w
root_spells x w k some more n =
    let same : SpellsSame x w x (copies k w) = subst (λ (z : List NameSet). SpellsSame x w z (copies k w)) (append-nil x) (unrolled 0 k x w some more) in
    sym (same n)

pub root_there : (x w : List NameSet) (k : ℕ) (z : NameSet) → 0 < k → Contains (x ++ w) z → Contains (x ++ copies k w) z
root_there x w zero z some there = absurd (omega (arith, some))
root_there x w (suc k) z some there = elim (Contains-append_cases x w z there) [
  | inl stem ↦ Contains-append_left x (copies (suc k) w) z stem
  | inr cycle ↦ Contains-append_right x (copies (suc k) w) z (Contains-append_left w (copies k w) z cycle)
]

-- the common last letter of stem and cycle, moved to the front of the cycle
shifted : (c : NameSet) (y : List NameSet) (i : ℕ) → c ∷ copies i (y ++ c ∷ []) ≡ copies i (c ∷ y) ++ c ∷ []
shifted c y zero = refl
shifted c y (suc i) =
    ap (λ (z : List NameSet). c ∷ z) (append_assoc y (c ∷ []) (copies i (y ++ c ∷ [])) ∙ ap (λ (z : List NameSet). y ++ z) (shifted c y i))
    ∙ sym (append_assoc (c ∷ y) (copies i (c ∷ y)) (c ∷ []))

turned_words : (x y : List NameSet) (c : NameSet) (i : ℕ) → (x ++ c ∷ []) ++ copies i (y ++ c ∷ []) ≡ (x ++ copies i (c ∷ y)) ++ c ∷ []
turned_words x y c i =
    append_assoc x (c ∷ []) (copies i (y ++ c ∷ []))
    ∙ (ap (λ (z : List NameSet). x ++ z) (shifted c y i) ∙ sym (append_assoc x (copies i (c ∷ y)) (c ∷ [])))

pub turned_spells : (x y : List NameSet) (c : NameSet) → SpellsSame (x ++ c ∷ []) (y ++ c ∷ []) x (c ∷ y)
turned_spells x y c n =
    let i = n + 1 in
    let long : length (y ++ c ∷ []) ≡ length y + 1 = length-append y (c ∷ []) in
    let some : 0 < length (y ++ c ∷ []) = omega (arith, long) in
    let wide : n + 1 ≤ (n + 1) * length (y ++ c ∷ []) = le-mul_of_pos_right (n + 1) some in
    let wider : n + 1 ≤ (n + 1) * length (c ∷ y) = le-mul_of_pos_right (n + 1) (omega arith) in
    let inside : n < length (x ++ copies i (c ∷ y)) = omega (arith, wider, length-append x (copies i (c ∷ y)), length-copies i (c ∷ y)) in
    word_letter (x ++ c ∷ []) (y ++ c ∷ []) i n some (omega (arith, wide))
    ∙ (ap (λ (w : List NameSet). slice_get w n) (turned_words x y c i)
    ∙ (slice_get-append_left (x ++ copies i (c ∷ y)) (c ∷ []) n inside ∙ sym (word_letter x (c ∷ y) i n (omega arith) (omega (arith, wider)))))

pub turned_there : (x y : List NameSet) (c z : NameSet) → Contains (x ++ c ∷ y) z → Contains ((x ++ c ∷ []) ++ (y ++ c ∷ [])) z
turned_there x y c z there = elim (Contains-append_cases x (c ∷ y) z there) [
  | inl stem ↦ Contains-append_left (x ++ c ∷ []) (y ++ c ∷ []) z (Contains-append_left x (c ∷ []) z stem)
  | inr cycle ↦ (elim (there_cases c y z cycle) [
    | inl here ↦ Contains-append_left (x ++ c ∷ []) (y ++ c ∷ []) z (Contains-append_right x (c ∷ []) z (subst (Contains (c ∷ [])) here (first_there c [])))
    | inr later ↦ Contains-append_right (x ++ c ∷ []) (y ++ c ∷ []) z (Contains-append_left y (c ∷ []) z later)
  ])
]
