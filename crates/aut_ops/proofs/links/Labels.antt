-- The truth of conjunctions and complements of labels.
use Rattle.std.proofs.Common.{◌≡◌, ◌≢◌, ◌∙◌, ◌↔◌, ◌⊎◌, ◌+◌, ◌++◌, ℕ, zero, suc, Bool, true, false, not, ◌&&◌, ◌||◌, IsTrue, if◌then◌else◌, List}
use Rattle.std.proofs.Common.{[], ◌∷◌, All, AllPairs, ap, arith, inl, inr, length, map, refl, sym}
use Rattle.std.proofs.lemmas.Bool.{cases_Bool, false≢true}
use Rattle.std.specs.List.{list_any}
use Rattle.aut_base.proofs.canonical.CanonicalTruth.{label_of-same, truth-label_of, truth_below}
use Rattle.aut_base.proofs.lists.ListTests.{one_passes}
use Rattle.aut_base.proofs.canonical.ValuationLetters.{letter_of_holds}
use Rattle.aut_base.proofs.canonical.ValuationLists.{all_valuations, each_size, each_valuation, holds_in-valuation_of, length-valuation_of}
use Rattle.aut_base.specs.Automaton.{LabelledEdge}
use Rattle.aut_base.specs.CanonicalLabel.{Literal, all_of, cubes, is_independent, label_of_truth, literal_tree, one_of}
use Rattle.aut_base.specs.Label.{AllBelow, LabelTree, True, holds_at, truth}
use Rattle.aut_base.specs.Valuation.{holds_in, letter_of, truth_on, valuation_of, valuations}
use Rattle.aut_core.proofs.Made.{label_in_settled}
use Rattle.label_guards.specs.Guards.{IsGuardOf, IsNeverMet, truth_in}
use Rattle.label_guards.specs.Store.{Store, label_in}
use Rattle.label_guards.specs.declared.guard.Guard.{Guard}
use Rattle.aut_ops.specs.Labels.{both_labels, is_never}
use Rattle.aut_ops.specs.Completion.{missing_label}

-- the truth of labels

pub on_valuation : (n : ℕ) (holds : ℕ → Bool) (t : LabelTree) → AllBelow n t → truth_on t (valuation_of n holds) ≡ truth holds t
on_valuation n holds t below = truth_below n (holds_in (valuation_of n holds)) holds t below (holds_in-valuation_of n holds)

pub truth_both : (n : ℕ) (holds : ℕ → Bool) (t u : LabelTree) → AllBelow n t → AllBelow n u → truth holds (both_labels n t u) ≡ (truth holds t && truth holds u)
truth_both n holds t u first second =
    truth-label_of holds n (λ v. truth_on t v && truth_on u v)
    ∙ (ap (λ b. b && truth_on u (valuation_of n holds)) (on_valuation n holds t first) ∙ ap (λ b. truth holds t && b) (on_valuation n holds u second))

any_on : (n : ℕ) (holds : ℕ → Bool) (es : List LabelledEdge) → All (λ e. AllBelow n e.label) es
    → list_any (λ (e : LabelledEdge). truth_on e.label (valuation_of n holds)) es ≡ list_any (λ (e : LabelledEdge). truth holds e.label) es
any_on n holds [] below = refl
any_on n holds (e ∷ es) below =
    ap (λ b. b || list_any (λ (d : LabelledEdge). truth_on d.label (valuation_of n holds)) es) (on_valuation n holds e.label (below 0 e (omega arith)))
    ∙ ap (λ b. truth holds e.label || b) (any_on n holds es (λ k d within. below (suc k) d (omega (arith, within))))

pub truth_none : (n : ℕ) (holds : ℕ → Bool) (es : List LabelledEdge) → All (λ e. AllBelow n e.label) es → truth holds (missing_label n es) ≡ not (list_any (λ e. truth holds e.label) es)
truth_none n holds es below = truth-label_of holds n (λ v. not (list_any (λ (e : LabelledEdge). truth_on e.label v) es)) ∙ ap not (any_on n holds es below)

-- unsatisfiable labels

pub never_false : (n : ℕ) (holds : ℕ → Bool) (t : LabelTree) → AllBelow n t → is_never n t ≡ true → truth holds t ≡ false
never_false n holds t below never =
    let fails = each_valuation n (λ v. not (truth_on t v)) never (valuation_of n holds) (length-valuation_of n holds) in
    sym (on_valuation n holds t below) ∙ elim (cases_Bool (truth_on t (valuation_of n holds))) [
      | inl one ↦ absurd (false≢true (sym (ap not one) ∙ fails))
      | inr fails ↦ fails
    ]

pub not_never : (n : ℕ) (holds : ℕ → Bool) (t : LabelTree) → AllBelow n t → truth holds t ≡ true → is_never n t ≡ false
not_never n holds t below holds_now = elim (cases_Bool (is_never n t)) [
  | inl one ↦ absurd (false≢true (sym (never_false n holds t below one) ∙ holds_now))
  | inr fails ↦ fails
]

pub never_each : (n : ℕ) (t : LabelTree) → ((v : List Bool) → length v ≡ n → truth_on t v ≡ false) → is_never n t ≡ true
never_each n t fails = all_valuations n (λ v. not (truth_on t v)) (λ v long. ap not (fails v long))

-- a label that isn't unsatisfiable holds of some letter
pub some_letter : (names : List (List ℕ)) (t : LabelTree) → AllPairs (λ a b. a ≢ b) names → AllBelow (length names) t → is_never (length names) t ≡ false
    → (v : List Bool) × (truth (holds_at names (letter_of names v)) t ≡ true)
some_letter names t differ below some =
    let found = one_passes (truth_on t) (valuations (length names)) some in
    let long = each_size (length names) found.0 found.1 in
    (found.0, truth_below (length names) (holds_at names (letter_of names found.0)) (holds_in found.0) t below (λ i less. letter_of_holds names found.0 i differ long) ∙ found.2)

pub at_letter : (names : List (List ℕ)) (t : LabelTree) (v : List Bool) → AllPairs (λ a b. a ≢ b) names → AllBelow (length names) t → length v ≡ length names
    → truth (holds_at names (letter_of names v)) t ≡ truth_on t v
at_letter names t v differ below long = truth_below (length names) (holds_at names (letter_of names v)) (holds_in v) t below (λ i less. letter_of_holds names v i differ long)

-- the labels of guards

pub label_from : (s : Store) (g : Guard) (says : (ℕ → Bool) → Bool) (h : List Bool → Bool) → IsGuardOf s says g → ((v : List Bool) → length v ≡ s.names → says (holds_in v) ≡ h v)
    → label_in s g ≡ label_of_truth s.names h
label_from s g says h is same = sym (label_in_settled s g) ∙ label_of-same s.names (truth_on (label_in s g)) h (λ v long. is.truth (holds_in v) ∙ same v long)

pub label_both : (s t : Store) (g h k : Guard) → t.names ≡ s.names → IsGuardOf t (λ on. truth_in s g on && truth_in s h on) k → label_in t k ≡ both_labels s.names (label_in s g) (label_in s h)
label_both s t g h k names is =
    label_from t k (λ on. truth_in s g on && truth_in s h on) (λ v. truth_on (label_in s g) v && truth_on (label_in s h) v) is (λ v long. refl)
    ∙ ap (λ n. both_labels n (label_in s g) (label_in s h)) names

all_cubes : (i n : ℕ) → cubes i n (λ v. true) ≡ [] ∷ []
all_cubes i zero = refl
all_cubes i (suc n) =
    let alone : is_independent n (λ v. true) ≡ true = all_valuations n (λ v. true) (λ v long. refl) in
    ap (λ b. if b then cubes (i + 1) n (λ v. true) else
    (map (λ cube. record { prop = i; holds = false } ∷ cube) (cubes (i + 1) n (λ v. true)) ++ map (λ cube. record { prop = i; holds = true } ∷ cube) (cubes (i + 1) n (λ v. true)))) alone
    ∙ all_cubes (i + 1) n

-- the label that is always true
pub label_always : (s : Store) (g : Guard) → IsGuardOf s (λ on. true) g → label_in s g ≡ True
label_always s g is =
    label_from s g (λ on. true) (λ v. true) is (λ v long. refl)
    ∙ ap (λ (cs : List (List Literal)). one_of (map (λ cube. all_of (map literal_tree cube)) cs)) (all_cubes 0 s.names)

-- whether a guard is unsatisfiable, by its label
pub never_is : (s : Store) (g : Guard) (b : Bool) → (IsTrue b ↔ IsNeverMet s g) → b ≡ is_never s.names (label_in s g)
never_is s g b is = elim (cases_Bool (is_never s.names (label_in s g))) [
  | inl one ↦ is.1 (λ v long. fails v (each_valuation s.names (λ w. not (truth_on (label_in s g) w)) one v long)) ∙ sym one
  | inr none ↦ other (cases_Bool b) none
]
  where
    fails : (v : List Bool) → not (truth_on (label_in s g) v) ≡ true → truth_on (label_in s g) v ≡ false
    fails v e = elim (cases_Bool (truth_on (label_in s g) v)) [
      | inl one ↦ absurd (false≢true (sym (ap not one) ∙ e))
      | inr failed ↦ failed
    ]

    other : (b ≡ true) ⊎ (b ≡ false) → is_never s.names (label_in s g) ≡ false → b ≡ is_never s.names (label_in s g)
    other (inl one) nowhere = absurd (false≢true (sym nowhere ∙ never_each s.names (label_in s g) (is.0 one)))
    other (inr fails_too) nowhere = fails_too ∙ sym nowhere
