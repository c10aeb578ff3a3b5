-- The edges of an explored system: one for each step with a successor, in order.
use Rattle.std.proofs.Common.{◌≡◌, ◌∙◌, ◌⊎◌, ◌<◌, ℕ, zero, suc, All, AllPairs, Bool, Contains, List, [], ◌∷◌, ◌++◌, None, Option, Some, ap, arith, get_or, inl, inr, length, refl, slice_get, subst}
use Rattle.std.proofs.Common.{sym}
use Rattle.std.proofs.lemmas.Bool.{cases_lt}
use Rattle.std.proofs.lemmas.Option.{get_or_from_slice_get, none-some, same_Some, slice_get-get_or, slice_get_within}
use Rattle.aut_base.proofs.lists.ListTests.{zip_left, zip_right}
use Rattle.aut_base.proofs.order.AllPairsOf.{pairs_append}
use Rattle.aut_base.proofs.lists.Lists.{slice_get-append_left}
use Rattle.aut_base.proofs.lists.Members.{each_there, there_at}
use Rattle.exploration.specs.TransitionFunctions.{StepFailed, Successor, NoSuccessor, StepOutcome, TransitionFunction}
use Rattle.exploration.specs.Reached.{IsTransition, IsExplored, Step, step_to, steps_before, steps_below, steps_of}
use Rattle.exploration.specs.Turns.{Transition}

abbrev pub Has : {X : Type 0} → List X → X → Type 0
Has xs x = (n : ℕ) × (slice_get xs n ≡ Some x)

has_left : {X : Type 0} (xs ys : List X) (x : X) → Has xs x → Has (xs ++ ys) x
has_left xs ys x h = (h.0, slice_get-append_left xs ys h.0 (slice_get_within xs h.0 x h.1) ∙ h.1)

has_right : {X : Type 0} (xs ys : List X) (x : X) → Has ys x → Has (xs ++ ys) x
has_right [] ys x h = h
has_right (z ∷ xs) ys x h = let later = has_right xs ys x h in (suc later.0, later.1)

has_cases : {X : Type 0} (xs ys : List X) (x : X) → Has (xs ++ ys) x → Has xs x ⊎ Has ys x
has_cases [] ys x h = inr h
has_cases (z ∷ xs) ys x (zero, at) = inl (zero, at)
has_cases (z ∷ xs) ys x (suc n, at) = elim (has_cases xs ys x (n, at)) [
  | inl h ↦ inl (suc h.0, h.1)
  | inr h ↦ inr h
]

has_from : {X : Type 0} (xs : List X) (x : X) → Contains xs x → Has xs x
has_from xs x there = there_at xs x there

-- an earlier state, or the same state and an earlier class
abbrev pub Earlier : (place class other more : ℕ) → Type 0
Earlier place class other more = (place < other) ⊎ ((place ≡ other) × (class < more))

abbrev StepBefore : {X : Type 0} → Step X → Step X → Type 0
StepBefore s t = Earlier s.from s.class t.from t.class

abbrev pub ArrowBefore : Transition → Transition → Type 0
ArrowBefore a b = Earlier a.from a.class b.from b.class

module _ {X : Type 0} (m : TransitionFunction X) where
  -- a step with a successor is among the steps
  below_has : (p : ℕ) (x : X) (k j : ℕ) (y : X) → j < k → m.step x j ≡ Successor y → Has (steps_below m p x k) (record { from = p; class = j; to = y })
  below_has p x zero j y less e = absurd (omega (arith, less))
  below_has p x (suc k) j y less e = elim (cases_lt j k) [
    | inl l ↦ has_left (steps_below m p x k) (step_to p k (m.step x k)) _ (below_has p x k j y l e)
    | inr g ↦ (
        let n : j ≡ k = omega (arith, less, g) in
        has_right (steps_below m p x k) (step_to p k (m.step x k)) _ (subst (λ (i : ℕ). Has (step_to p i (m.step x i)) (record { from = p; class = j; to = y })) n
        (subst (λ (v : StepOutcome X). Has (step_to p j v) (record { from = p; class = j; to = y })) (sym e) (zero, refl)))
        )
  ]

  before_has : (states : List X) (n i : ℕ) (x : X) (k : ℕ) (y : X) → i < n → slice_get states i ≡ Some x → k < m.count x → m.step x k ≡ Successor y
      → Has (steps_before m states n) (record { from = i; class = k; to = y })
  before_has states zero i x k y small at less e = absurd (omega (arith, small))
  before_has states (suc n) i x k y small at less e = elim (cases_lt i n) [
    | inl l ↦ has_left (steps_before m states n) (steps_of m n (slice_get states n)) _ (before_has states n i x k y l at less e)
    | inr g ↦ (
        let same : i ≡ n = omega (arith, small, g) in
        has_right (steps_before m states n) (steps_of m n (slice_get states n)) _ (subst (λ (j : ℕ). Has (steps_of m j (slice_get states j)) (record { from = i; class = k; to = y })) same
        (subst (λ (o : Option X). Has (steps_of m i o) (record { from = i; class = k; to = y })) (sym at) (below_has i x (m.count x) k y less e)))
        )
  ]

  -- each of the steps has a successor
  to_from : (p k : ℕ) (v : StepOutcome X) (t : Step X) → Has (step_to p k v) t → (t.from ≡ p) × (t.class ≡ k) × (v ≡ Successor t.to)
  to_from p k (Successor y) t (zero, at) = let e = same_Some (record { from = p; class = k; to = y }) t at in
      (ap (λ (s : Step X). s.from) (sym e), ap (λ (s : Step X). s.class) (sym e), ap (λ (s : Step X). Successor s.to) e)
  to_from p k (Successor y) t (suc n, at) = absurd (none-some t at)
  to_from p k NoSuccessor t h = absurd (none-some t h.1)
  to_from p k StepFailed t h = absurd (none-some t h.1)

  below_from : (p : ℕ) (x : X) (k : ℕ) (t : Step X) → Has (steps_below m p x k) t → (t.from ≡ p) × (t.class < k) × (m.step x t.class ≡ Successor t.to)
  below_from p x zero t h = absurd (none-some t h.1)
  below_from p x (suc k) t h = elim (has_cases (steps_below m p x k) (step_to p k (m.step x k)) t h) [
    | inl old ↦ (let b = below_from p x k t old in (b.0, omega (arith, b.1), b.2))
    | inr new ↦ (let b = to_from p k (m.step x k) t new in (b.0, omega (arith, b.1), ap (m.step x) b.1 ∙ b.2))
  ]

  abbrev IsStepOf : List X → Step X → Type 0
  IsStepOf states t = (x : X) × (slice_get states t.from ≡ Some x) × (t.class < m.count x) × (m.step x t.class ≡ Successor t.to)

  of_from : (states : List X) (p : ℕ) (o : Option X) (t : Step X) → slice_get states p ≡ o → Has (steps_of m p o) t → IsStepOf states t
  of_from states p None t at h = absurd (none-some t h.1)
  of_from states p (Some x) t at h = let b = below_from p x (m.count x) t h in (x, ap (slice_get states) b.0 ∙ at, b.1, b.2)

  before_from : (states : List X) (n : ℕ) (t : Step X) → Has (steps_before m states n) t → IsStepOf states t
  before_from states zero t h = absurd (none-some t h.1)
  before_from states (suc n) t h = elim (has_cases (steps_before m states n) (steps_of m n (slice_get states n)) t h) [
    | inl old ↦ before_from states n t old
    | inr new ↦ of_from states n (slice_get states n) t refl new
  ]

  -- steps are in the order of their states and classes
  one_rises : (p k : ℕ) (v : StepOutcome X) → AllPairs StepBefore (step_to p k v)
  one_rises p k (Successor y) i j d less within = absurd (omega (arith, less, within))
  one_rises p k NoSuccessor i j d less within = absurd (omega (arith, within))
  one_rises p k StepFailed i j d less within = absurd (omega (arith, within))

  below_rises : (p : ℕ) (x : X) (k : ℕ) → AllPairs StepBefore (steps_below m p x k)
  below_rises p x zero = λ i j d less within. absurd (omega (arith, within))
  below_rises p x (suc k) = pairs_append StepBefore (steps_below m p x k) (step_to p k (m.step x k)) (below_rises p x k) (one_rises p k (m.step x k))
      (each_there (λ (s : Step X). All (StepBefore s) (step_to p k (m.step x k))) (steps_below m p x k) (λ s there.
      each_there (StepBefore s) (step_to p k (m.step x k)) (λ t behind. (
      let a = below_from p x k s (has_from (steps_below m p x k) s there) in
      let b = to_from p k (m.step x k) t (has_from (step_to p k (m.step x k)) t behind) in
      inr (a.0 ∙ sym b.0, omega (arith, a.1, b.1))
      ))))

  of_place : (p : ℕ) (o : Option X) (t : Step X) → Has (steps_of m p o) t → t.from ≡ p
  of_place p None t h = absurd (none-some t h.1)
  of_place p (Some x) t h = (below_from p x (m.count x) t h).0

  before_within : (states : List X) (n : ℕ) (t : Step X) → Has (steps_before m states n) t → t.from < n
  before_within states zero t h = absurd (none-some t h.1)
  before_within states (suc n) t h = elim (has_cases (steps_before m states n) (steps_of m n (slice_get states n)) t h) [
    | inl old ↦ (let less = before_within states n t old in omega (arith, less))
    | inr new ↦ (let e = of_place n (slice_get states n) t new in omega (arith, e))
  ]

  of_rises : (p : ℕ) (o : Option X) → AllPairs StepBefore (steps_of m p o)
  of_rises p None = λ i j d less within. absurd (omega (arith, within))
  of_rises p (Some x) = below_rises p x (m.count x)

  before_rises : (states : List X) (n : ℕ) → AllPairs StepBefore (steps_before m states n)
  before_rises states zero = λ i j d less within. absurd (omega (arith, within))
  before_rises states (suc n) = pairs_append StepBefore (steps_before m states n) (steps_of m n (slice_get states n)) (before_rises states n) (of_rises n (slice_get states n))
      (each_there (λ (s : Step X). All (StepBefore s) (steps_of m n (slice_get states n))) (steps_before m states n) (λ s there.
      each_there (StepBefore s) (steps_of m n (slice_get states n)) (λ t behind. (
      let a = before_within states n s (has_from (steps_before m states n) s there) in
      let b = of_place n (slice_get states n) t (has_from (steps_of m n (slice_get states n)) t behind) in
      inl (omega (arith, a, b))
      ))))

  module _ (same : X → X → Bool) (start : X) (states : List X) (transitions : List Transition) (is : IsExplored same m start states transitions) where
    -- each class of a listed state whose step has a successor has an edge, which leads to the index of the successor
    pub edge_for : (i k : ℕ) (x y : X) → slice_get states i ≡ Some x → k < m.count x → m.step x k ≡ Successor y
        → (a : Transition) × Has transitions a × (a.from ≡ i) × (a.class ≡ k) × (slice_get states a.to ≡ Some y)
    edge_for i k x y at less e =
        let there = before_has states (length states) i x k y (slice_get_within states i x at) at less e in
        let z = zip_right (IsTransition states) transitions (steps_before m states (length states)) there.0 _ is.edges there.1 in
        (z.0, (there.0, z.1), z.2.from, z.2.class, z.2.to)

    -- each edge is that of a step, between listed states
    pub edge_from : (a : Transition) → Has transitions a → (x y : X) × (slice_get states a.from ≡ Some x) × (a.class < m.count x) × (m.step x a.class ≡ Successor y) × (slice_get states a.to ≡ Some y)
    edge_from a h =
        let z = zip_left (IsTransition states) transitions (steps_before m states (length states)) h.0 a is.edges h.1 in
        let t = z.0 in
        let b = before_from states (length states) t (h.0, z.1) in
        (b.0, t.to, ap (slice_get states) z.2.from ∙ b.1, subst (λ (n : ℕ). n < m.count b.0) (sym z.2.class) b.2, ap (m.step b.0) z.2.class ∙ b.3, z.2.to)

    -- edges are in the order of their states and classes
    pub transitions_rise : AllPairs ArrowBefore transitions
    transitions_rise i j d less within =
        let steps = steps_before m states (length states) in
        let a = zip_left (IsTransition states) transitions steps i (get_or transitions i d) is.edges (slice_get-get_or transitions i d (omega (arith, less, within))) in
        let b = zip_left (IsTransition states) transitions steps j (get_or transitions j d) is.edges (slice_get-get_or transitions j d within) in
        let first : get_or steps i a.0 ≡ a.0 = get_or_from_slice_get steps i a.0 a.0 a.1 in
        let second : get_or steps j a.0 ≡ b.0 = get_or_from_slice_get steps j b.0 a.0 b.1 in
        let before : StepBefore a.0 b.0 = subst (λ (s : Step X). StepBefore s b.0) first (subst (StepBefore (get_or steps i a.0)) second
        (before_rises states (length states) i j a.0 less (slice_get_within steps j b.0 b.1))) in
        transition_before (get_or transitions i d) (get_or transitions j d) a.0 b.0 a.2 b.2 before
      where
        transition_before : (a b : Transition) (s t : Step X) → IsTransition states a s → IsTransition states b t → StepBefore s t → ArrowBefore a b
        transition_before a b s t p q (inl less) = let e = p.from in let f = q.from in inl (omega (arith, less, e, f))
        transition_before a b s t p q (inr same) = let e = p.class in let f = q.class in let less = same.1 in inr (p.from ∙ (same.0 ∙ sym q.from), omega (arith, less, e, f))
