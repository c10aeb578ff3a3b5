-- Bounded searches, which find an item or show that there is none.
use Rattle.std.proofs.Common.{◌≡◌, ◌∙◌, ◌⊎◌, ◌<◌, ◌≤◌, ℕ, zero, suc, Bool, true, List, [], ◌∷◌, Contains, arith, inl, inr, refl, subst, sym}
use Rattle.std.proofs.lemmas.Bool.{cases_Bool, cases_eq, cases_lt, true≢false}
use Rattle.aut_base.proofs.lists.Members.{first_there, later_there, none_there, there_cases}
use Rattle.aut_base.specs.Acceptance.{IsPath}
use Rattle.aut_base.specs.Automaton.{Automaton, LabelledEdge}
use Rattle.aut_base.specs.Label.{holds_at, truth}
use Rattle.aut_base.specs.Word.{NameSet}

abbrev pub OrNot : Type 0 → Type 0
OrNot A = A ⊎ (A → ⊥)

pub true_or_not : (b : Bool) → OrNot (b ≡ true)
true_or_not b = elim (cases_Bool b) [ inl e ↦ inl e | inr e ↦ inr (λ f. true≢false (sym f ∙ e)) ]

pub less_or_not : (m n : ℕ) → OrNot (m < n)
less_or_not m n = elim (cases_lt m n) [ inl less ↦ inl less | inr more ↦ inr (λ less. omega (arith, more, less)) ]

pub both_or_not : {A B : Type 0} → OrNot A → OrNot B → OrNot (A × B)
both_or_not (inl x) (inl y) = inl (x, y)
both_or_not (inl x) (inr none) = inr (λ h. none h.1)
both_or_not (inr none) other = inr (λ h. none h.0)

-- an item of a list
pub listed_or_not : {A : Type 0} (Q : A → Type 0) → ((x : A) → OrNot (Q x)) → (xs : List A) → OrNot ((x : A) × Contains xs x × Q x)
listed_or_not Q test [] = inr (λ h. none_there h.0 h.1)
listed_or_not Q test (x ∷ xs) = elim (test x) [
  | inl here ↦ inl (x, first_there x xs, here)
  | inr fails ↦ (elim (listed_or_not Q test xs) [
    | inl later ↦ inl (later.0, later_there x xs later.0 later.1, later.2)
    | inr none ↦ inr (λ h. elim (there_cases x xs h.0 h.1) [ inl e ↦ fails (subst Q (sym e) h.2) | inr there ↦ none (h.0, there, h.2) ])
  ])
]

-- a number up to this one
pub up_to_or_not : (Q : ℕ → Type 0) → ((k : ℕ) → OrNot (Q k)) → (most : ℕ) → OrNot ((k : ℕ) × (k ≤ most) × Q k)
up_to_or_not Q test zero = elim (test zero) [
  | inl here ↦ inl (zero, omega arith, here)
  | inr fails ↦ inr (λ h. let e : h.0 ≡ 0 = omega (arith, h.1) in fails (subst Q e h.2))
]
up_to_or_not Q test (suc n) = elim (test (suc n)) [
  | inl here ↦ inl (suc n, omega arith, here)
  | inr fails ↦ (elim (up_to_or_not Q test n) [
    | inl less ↦ inl (less.0, omega (arith, less.1), less.2)
    | inr none ↦ inr (λ h. elim (cases_eq h.0 (suc n)) [ inl e ↦ fails (subst Q e h.2) | inr other ↦ none (h.0, omega (arith, h.1, other), h.2) ])
  ])
]

-- a path over these letters, with `P` of its edges and its last state
pub record Found (a : Automaton) (p : ℕ) (xs : List NameSet) (P : List LabelledEdge → ℕ → Type 0) : Type 0 where
  pub path : List LabelledEdge
  pub stop : ℕ
  pub leads : IsPath a p xs path stop
  pub holds : P path stop

-- the same, with this edge first
record Begins (a : Automaton) (p : ℕ) (x : NameSet) (xs : List NameSet) (P : List LabelledEdge → ℕ → Type 0) (e : LabelledEdge) : Type 0 where
  from : p ≡ e.from
  meets : truth (holds_at a.names x) e.label ≡ true
  rest : Found a e.to xs (λ es q. P (e ∷ es) q)

begins_or_not : (a : Automaton) (p : ℕ) (x : NameSet) (xs : List NameSet) (P : List LabelledEdge → ℕ → Type 0) (e : LabelledEdge)
    → OrNot (Found a e.to xs (λ es q. P (e ∷ es) q)) → OrNot (Begins a p x xs P e)
begins_or_not a p x xs P e (inr none) = inr (λ b. none b.rest)
begins_or_not a p x xs P e (inl rest) = elim (cases_eq p e.from) [
  | inl from ↦ (elim (cases_Bool (truth (holds_at a.names x) e.label)) [
    | inl meets ↦ inl (record { from = from; meets = meets; rest = rest })
    | inr fails ↦ inr (λ b. true≢false (sym b.meets ∙ fails))
  ])
  | inr other ↦ inr (λ b. other b.from)
]

no_letters : (a : Automaton) (P : List LabelledEdge → ℕ → Type 0) (p : ℕ) (es : List LabelledEdge) (q : ℕ) → IsPath a p [] es q → P es q → P [] p
no_letters a P p [] q path h = subst (P []) (sym path) h
no_letters a P p (e ∷ es) q path h = absurd path

abbrev BeginsOne : (a : Automaton) (p : ℕ) (x : NameSet) (xs : List NameSet) (P : List LabelledEdge → ℕ → Type 0) → Type 0
BeginsOne a p x xs P = (e : LabelledEdge) × Contains a.edges e × Begins a p x xs P e

one_letter : (a : Automaton) (P : List LabelledEdge → ℕ → Type 0) (p : ℕ) (x : NameSet) (xs : List NameSet) (es : List LabelledEdge) (q : ℕ)
    → IsPath a p (x ∷ xs) es q → P es q → BeginsOne a p x xs P
one_letter a P p x xs [] q path h = absurd path
one_letter a P p x xs (e ∷ es) q path h = (e, path.1, record { from = path.0; meets = path.2; rest = record { path = es; stop = q; leads = path.3; holds = h } })

pub path_or_not : (a : Automaton) (xs : List NameSet) (p : ℕ) (P : List LabelledEdge → ℕ → Type 0) → ((es : List LabelledEdge) (q : ℕ) → OrNot (P es q)) → OrNot (Found a p xs P)
path_or_not a [] p P test = elim (test [] p) [
  | inl here ↦ inl (record { path = []; stop = p; leads = refl; holds = here })
  | inr fails ↦ inr (λ f. fails (no_letters a P p f.path f.stop f.leads f.holds))
]
path_or_not a (x ∷ xs) p P test =
    let begun : (e : LabelledEdge) → OrNot (Begins a p x xs P e) =
    λ e. begins_or_not a p x xs P e (path_or_not a xs e.to (λ es q. P (e ∷ es) q) (λ es q. test (e ∷ es) q)) in
    elim (listed_or_not (Begins a p x xs P) begun a.edges) [
      | inl b ↦ inl (record {
        path = b.0 ∷ b.2.rest.path;
        stop = b.2.rest.stop;
        leads = (b.2.from, b.1, b.2.meets, b.2.rest.leads);
        holds = b.2.rest.holds;
      })
      | inr none ↦ inr (λ f. none (one_letter a P p x xs f.path f.stop f.leads f.holds))
    ]
