-- Paths of a pattern's automaton: it reads letters that satisfy the formulas, in order.
use Rattle.std.proofs.Common.{◌≡◌, ◌∙◌, ◌∷◌, ◌++◌, ◌+◌, ◌-◌, ◌%◌, ◌<◌, ◌≤◌, ◌⊎◌, Contains, List, Some, [], ap, arith, cond, eq-eqb, get_or, inl, inr}
use Rattle.std.proofs.Common.{length, length-append, nat_lt, ne_eqb, refl, slice_get, subst, suc, sym, true, zero, ℕ}
use Rattle.std.proofs.Math.Nat.{mod-add-mod, mod-eq_of_lt, mod-lt, mod_self}
use Rattle.std.proofs.lemmas.Bool.{cases_lt, cond-false, cond-true, le-ltb, lt-ltb}
use Rattle.std.proofs.lemmas.Option.{get_or_from_slice_get, none-some, same_Some, slice_get_within}
use Rattle.aut_base.specs.Acceptance.{IsPath}
use Rattle.aut_base.specs.Automaton.{LabelledEdge}
use Rattle.aut_base.specs.Label.{LabelTree, holds_at, truth}
use Rattle.aut_base.specs.Word.{NameSet}
use Rattle.word_syntax.specs.Grammar.{WordPattern}
use Rattle.word_syntax.specs.Matching.{edges_along, next_state, word_automaton}

abbrev pub labels : WordPattern → List LabelTree
labels p = p.stem ++ p.cycle

-- the state after k letters
abbrev pub state_at : WordPattern → ℕ → ℕ
state_at p k = cond (nat_lt k (length p.stem)) k (length p.stem + (k - length p.stem) % length p.cycle)

pub state_in_stem : (p : WordPattern) (k : ℕ) → k < length p.stem → state_at p k ≡ k
state_in_stem p k h = cond-true _ _ _ (lt-ltb k (length p.stem) h)

pub state_in_cycle : (p : WordPattern) (k : ℕ) → length p.stem ≤ k → state_at p k ≡ length p.stem + (k - length p.stem) % length p.cycle
state_in_cycle p k h = cond-false _ _ _ (le-ltb k (length p.stem) h)

pub total_is : (p : WordPattern) → length (labels p) ≡ length p.stem + length p.cycle
total_is p = length-append p.stem p.cycle

pub state_within : (p : WordPattern) → 0 < length p.cycle → (k : ℕ) → state_at p k < length (labels p)
state_within p some k = elim (cases_lt k (length p.stem)) [
  | inl h ↦ omega (arith, state_in_stem p k h, total_is p)
  | inr h ↦ (let below : (k - length p.stem) % length p.cycle < length p.cycle = mod-lt (k - length p.stem) some in omega (arith, state_in_cycle p k h, total_is p))
]

pub next_last : (back total place : ℕ) → place + 1 ≡ total → next_state back total place ≡ back
next_last back total place e = cond-true _ _ _ (eq-eqb (place + 1) total e)

pub next_other : (back total place : ℕ) → (place + 1 ≡ total → ⊥) → next_state back total place ≡ place + 1
next_other back total place e = cond-false _ _ _ (ne_eqb (place + 1) total e)

-- the remainder of x + 1
mod_more : (x d : ℕ) → 0 < d → ((x % d + 1 ≡ d) × ((x + 1) % d ≡ 0)) ⊎ ((x % d + 1 < d) × ((x + 1) % d ≡ x % d + 1))
mod_more x d some =
    let below : x % d < d = mod-lt x some in
    let same : (x % d + 1) % d ≡ (x + 1) % d = mod-add-mod x d 1 in
    elim (cases_lt (x % d + 1) d) [
      | inl less ↦ inr (less, sym same ∙ mod-eq_of_lt less)
      | inr past ↦ (let full : x % d + 1 ≡ d = omega arith in inl (full, sym same ∙ (ap (λ (n : ℕ). n % d) full ∙ mod_self d)))
    ]

-- another letter
pub state_next : (p : WordPattern) → 0 < length p.cycle → (k : ℕ) → next_state (length p.stem) (length (labels p)) (state_at p k) ≡ state_at p (k + 1)
state_next p some k = elim (cases_lt (k + 1) (length p.stem)) [
  | inl h ↦ (let here = state_in_stem p k (omega arith) in
      next_other (length p.stem) (length (labels p)) (state_at p k) (λ e. absurd (omega (arith, total_is p))) ∙ (ap (λ (n : ℕ). n + 1) here ∙ sym (state_in_stem p (k + 1) h)))
  | inr h ↦ (elim (cases_lt k (length p.stem)) [
    | inl inside ↦ (let here = state_in_stem p k inside in let last : k + 1 ≡ length p.stem = omega arith in
        let start : (k + 1 - length p.stem) % length p.cycle ≡ 0 = let z : k + 1 - length p.stem ≡ 0 = omega arith in ap (λ (n : ℕ). n % length p.cycle) z ∙ mod-eq_of_lt some in
        next_other (length p.stem) (length (labels p)) (state_at p k) (λ e. absurd (omega (arith, total_is p)))
        ∙ (let e : state_at p k + 1 ≡ length p.stem + (k + 1 - length p.stem) % length p.cycle = omega arith in e ∙ sym (state_in_cycle p (k + 1) h)))
    | inr past ↦ (let here = state_in_cycle p k past in
        let there = state_in_cycle p (k + 1) (omega arith) in
        let moved : k + 1 - length p.stem ≡ k - length p.stem + 1 = omega arith in
        let rest : (k + 1 - length p.stem) % length p.cycle ≡ (k - length p.stem + 1) % length p.cycle = ap (λ (n : ℕ). n % length p.cycle) moved in
        elim (mod_more (k - length p.stem) (length p.cycle) some) [
          | inl last ↦ next_last (length p.stem) (length (labels p)) (state_at p k) (omega (arith, total_is p, last.0))
              ∙ (let e : length p.stem ≡ length p.stem + (k + 1 - length p.stem) % length p.cycle = omega (arith, last.1) in e ∙ sym there)
          | inr other ↦ next_other (length p.stem) (length (labels p)) (state_at p k) (λ e. absurd (omega (arith, total_is p, other.0)))
              ∙ (let e : state_at p k + 1 ≡ length p.stem + (k + 1 - length p.stem) % length p.cycle = omega (arith, other.1) in e ∙ sym there)
        ])
  ])
]

-- the edge that leaves a state
abbrev pub edge_at : ℕ → ℕ → ℕ → LabelTree → LabelledEdge
edge_at back total place t = record { from = place; label = t; to = next_state back total place; marks = [] }

edges_get : (back total place : ℕ) (ts : List LabelTree) (i : ℕ) (e : LabelledEdge) → slice_get (edges_along back total place ts) i ≡ Some e
    → (t : LabelTree) × (slice_get ts i ≡ Some t) × (e ≡ edge_at back total (place + i) t)
edges_get back total place [] i e h = absurd (none-some e h)
edges_get back total place (t ∷ ts) zero e h = let z : place ≡ place + 0 = omega arith in (t, refl, sym (same_Some _ e h) ∙ ap (λ (n : ℕ). edge_at back total n t) z)
edges_get back total place (t ∷ ts) (suc i) e h =
    let rest = edges_get back total (place + 1) ts i e h in
    let z : place + 1 + i ≡ place + suc i = omega arith in
    (rest.0, rest.1, rest.2 ∙ ap (λ (n : ℕ). edge_at back total n rest.0) z)

edges_has : (back total place : ℕ) (ts : List LabelTree) (i : ℕ) (t : LabelTree) → slice_get ts i ≡ Some t → slice_get (edges_along back total place ts) i ≡ Some (edge_at back total (place + i) t)
edges_has back total place [] i t h = absurd (none-some t h)
edges_has back total place (u ∷ ts) zero t h = let z : place ≡ place + 0 = omega arith in ap (λ (x : LabelTree). Some (edge_at back total place x)) (same_Some u t h)
    ∙ ap (λ (n : ℕ). Some (edge_at back total n t)) z
edges_has back total place (u ∷ ts) (suc i) t h =
    let z : place + 1 + i ≡ place + suc i = omega arith in
    edges_has back total (place + 1) ts i t h ∙ ap (λ (n : ℕ). Some (edge_at back total n t)) z

contains_get : (es : List LabelledEdge) (e : LabelledEdge) → Contains es e → (i : ℕ) × (slice_get es i ≡ Some e)
contains_get es e c = (c.0, get_is es c.0 e c.1 c.2)
  where
    get_is : (es : List LabelledEdge) (i : ℕ) (e : LabelledEdge) → i < length es → get_or es i e ≡ e → slice_get es i ≡ Some e
    get_is [] i e h is = absurd (omega arith)
    get_is (f ∷ fs) zero e h is = ap Some is
    get_is (f ∷ fs) (suc i) e h is = get_is fs i e (omega arith) is

get_contains : (es : List LabelledEdge) (i : ℕ) (e : LabelledEdge) → slice_get es i ≡ Some e → Contains es e
get_contains es i e h = (i, slice_get_within es i e h, get_or_from_slice_get es i e e h)

-- the letters satisfy the formulas from the k-th on
abbrev pub MeetsFrom : WordPattern → ℕ → List NameSet → Type 0
MeetsFrom p k [] = Unit {0}
MeetsFrom p k (x ∷ xs) = ((t : LabelTree) → slice_get (labels p) (state_at p k) ≡ Some t → truth (holds_at p.names x) t ≡ true) × MeetsFrom p (k + 1) xs

-- a path reads letters that satisfy the formulas, and ends in the state after them
pub walked : (p : WordPattern) → 0 < length p.cycle → (k q : ℕ) (xs : List NameSet) (es : List LabelledEdge) → IsPath (word_automaton p) (state_at p k) xs es q
    → MeetsFrom p k xs × (q ≡ state_at p (k + length xs))
walked p some k q [] [] path = let z : k ≡ k + 0 = omega arith in (tt, sym path ∙ ap (state_at p) z)
walked p some k q [] (e ∷ es) path = absurd path
walked p some k q (x ∷ xs) [] path = absurd path
walked p some k q (x ∷ xs) (e ∷ es) path =
    let there = contains_get (word_automaton p).edges e path.1 in
    let edge = edges_get (length p.stem) (length (labels p)) 0 (labels p) there.0 e there.1 in
    let from : e.from ≡ 0 + there.0 = ap (λ (f : LabelledEdge). f.from) edge.2 in
    let place : there.0 ≡ state_at p k = omega (arith, from, path.0) in
    let label : e.label ≡ edge.0 = ap (λ (f : LabelledEdge). f.label) edge.2 in
    let stands : slice_get (labels p) (state_at p k) ≡ Some edge.0 = ap (slice_get (labels p)) (sym place) ∙ edge.1 in
    let z : 0 + there.0 ≡ state_at p k = omega (arith, place) in
    let goes : e.to ≡ state_at p (k + 1) = ap (λ (f : LabelledEdge). f.to) edge.2 ∙ (ap (next_state (length p.stem) (length (labels p))) z ∙ state_next p some k) in
    let P : ℕ → Type 0 = λ n. IsPath (word_automaton p) n xs es q in
    let rest = walked p some (k + 1) q xs es (subst P goes path.3) in
    let far : k + 1 + length xs ≡ k + length (x ∷ xs) = omega arith in
    ((λ t h. ap (truth (holds_at p.names x)) (same_Some t edge.0 (sym h ∙ stands) ∙ sym label) ∙ path.2, rest.0), rest.1 ∙ ap (state_at p) far)

-- and letters that satisfy the formulas are read by a path
pub record Walk (p : WordPattern) (k : ℕ) (xs : List NameSet) : Type 0 where
  pub path_edges : List LabelledEdge
  pub path : IsPath (word_automaton p) (state_at p k) xs path_edges (state_at p (k + length xs))

label_there : (ts : List LabelTree) (i : ℕ) → i < length ts → (t : LabelTree) × (slice_get ts i ≡ Some t)
label_there [] i h = absurd (omega arith)
label_there (t ∷ ts) zero h = (t, refl)
label_there (t ∷ ts) (suc i) h = label_there ts i (omega arith)

pub walk : (p : WordPattern) → 0 < length p.cycle → (k : ℕ) (xs : List NameSet) → MeetsFrom p k xs → Walk p k xs
walk p some k [] meets = let z : k ≡ k + 0 = omega arith in record { path_edges = []; path = ap (state_at p) z }
walk p some k (x ∷ xs) meets =
    let label = label_there (labels p) (state_at p k) (state_within p some k) in
    let rest = walk p some (k + 1) xs meets.1 in
    let e : LabelledEdge = edge_at (length p.stem) (length (labels p)) (state_at p k) label.0 in
    let z : 0 + state_at p k ≡ state_at p k = omega arith in
    let has : slice_get (word_automaton p).edges (state_at p k) ≡ Some e = edges_has (length p.stem) (length (labels p)) 0 (labels p) (state_at p k) label.0 label.1
    ∙ ap (λ (n : ℕ). Some (edge_at (length p.stem) (length (labels p)) n label.0)) z in
    let far : k + 1 + length xs ≡ k + length (x ∷ xs) = omega arith in
    let P : ℕ → Type 0 = λ n. IsPath (word_automaton p) n xs rest.path_edges (state_at p (k + length (x ∷ xs))) in
    let Q : ℕ → Type 0 = λ n. IsPath (word_automaton p) (state_at p (k + 1)) xs rest.path_edges (state_at p n) in
    record {
      path_edges = e ∷ rest.path_edges;
      path = (refl, get_contains (word_automaton p).edges (state_at p k) e has, meets.0 label.0 label.1, subst P (sym (state_next p some k)) (subst Q far rest.path));
    }
