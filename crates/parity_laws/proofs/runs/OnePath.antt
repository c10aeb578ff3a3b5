-- A deterministic automaton has one path for each list of letters.
use Rattle.std.proofs.Common.{◌≡◌, ◌∙◌, ◌<◌, ℕ, true, List, [], ◌∷◌, Contains, Some, ap, arith, inl, inr, refl, slice_get, slice_index_or, subst, sym}
use Rattle.std.proofs.lemmas.Bool.{cases_lt}
use Rattle.std.proofs.lemmas.Option.{get_or_from_slice_get, same_Some, slice_get_within}
use Rattle.aut_base.proofs.lists.Members.{there_at}
use Rattle.aut_base.specs.Acceptance.{IsPath}
use Rattle.aut_base.specs.Automaton.{Automaton, LabelledEdge}
use Rattle.aut_base.specs.Word.{NameSet}
use Rattle.aut_core.specs.Deterministic.{AreApart, IsDeterministic, is_met}

-- a letter doesn't meet two edges of one state that have different indices
never_two : (d : Automaton) → IsDeterministic d → (e f : LabelledEdge) (i j : ℕ) (x : NameSet) → slice_get d.edges i ≡ Some e → slice_get d.edges j ≡ Some f → i < j
    → e.from ≡ f.from → is_met d.names x e ≡ true → is_met d.names x f ≡ true → ⊥
never_two d det e f i j x at_i at_j less from meets too =
    let P : LabelledEdge → LabelledEdge → Type 0 = λ a c. a.from ≡ c.from → AreApart d.names a c in
    let found = det.edges i j e less (slice_get_within d.edges j f at_j) in
    let first = subst (λ a. P a (slice_index_or d.edges j e)) (get_or_from_slice_get d.edges i e e at_i) found in
    (subst (λ c. P e c) (get_or_from_slice_get d.edges j f e at_j) first) from x meets too

-- two of its edges that leave one state and that a letter meets are one
pub one_edge : (d : Automaton) → IsDeterministic d → (e f : LabelledEdge) (x : NameSet) → Contains d.edges e → Contains d.edges f → e.from ≡ f.from
    → is_met d.names x e ≡ true → is_met d.names x f ≡ true → e ≡ f
one_edge d det e f x there also from meets too =
    let i = there_at d.edges e there in
    let j = there_at d.edges f also in
    elim (cases_lt i.0 j.0) [
      | inl less ↦ absurd (never_two d det e f i.0 j.0 x i.1 j.1 less from meets too)
      | inr more ↦ (elim (cases_lt j.0 i.0) [
        | inl less ↦ absurd (never_two d det f e j.0 i.0 x j.1 i.1 less (sym from) too meets)
        | inr most ↦ (let same : i.0 ≡ j.0 = omega (arith, more, most) in same_Some e f (sym i.1 ∙ (ap (slice_get d.edges) same ∙ j.1)))
      ])
    ]

-- two paths have the same edges and the same end
pub record SamePath (es fs : List LabelledEdge) (q r : ℕ) : Type 0 where
  pub edges : es ≡ fs
  pub ends : q ≡ r

pub same_path : (d : Automaton) → IsDeterministic d → (p q r : ℕ) (xs : List NameSet) (es fs : List LabelledEdge) → IsPath d p xs es q → IsPath d p xs fs r → SamePath es fs q r
same_path d det p q r [] [] [] one two = record { edges = refl; ends = sym one ∙ two }
same_path d det p q r [] [] (f ∷ fs) one two = absurd two
same_path d det p q r [] (e ∷ es) fs one two = absurd one
same_path d det p q r (x ∷ xs) [] fs one two = absurd one
same_path d det p q r (x ∷ xs) (e ∷ es) [] one two = absurd two
same_path d det p q r (x ∷ xs) (e ∷ es) (f ∷ fs) one two =
    let same : e ≡ f = one_edge d det e f x one.1 two.1 (sym one.0 ∙ two.0) one.2 two.2 in
    let rest = same_path d det f.to q r xs es fs (subst (λ (g : LabelledEdge). IsPath d g.to xs es q) same one.3) two.3 in
    record { edges = ap (λ (g : LabelledEdge). g ∷ es) same ∙ ap (λ gs. f ∷ gs) rest.edges; ends = rest.ends }

pub one_start : (d : Automaton) → IsDeterministic d → (s r : ℕ) → Contains d.starts s → Contains d.starts r → s ≡ r
one_start d det s r there also =
    let i = there_at d.starts s there in
    let j = there_at d.starts r also in
    let same : i.0 ≡ j.0 = omega (arith, det.start, slice_get_within d.starts i.0 s i.1, slice_get_within d.starts j.0 r j.1) in
    same_Some s r (sym i.1 ∙ (ap (slice_get d.starts) same ∙ j.1))
