-- An automaton with one state accepts a word exactly where the marks along the word's cycle meet its condition.
use Rattle.std.proofs.Common.{◌≡◌, ◌∙◌, ◌↔◌, ℕ, ◌<◌, Bool, true, false, not, List, [], ◌∷◌, ◌++◌, map, length, Contains, lit<, refl, sym, ap, subst}
use Rattle.std.specs.FinSet.{contains}
use Rattle.aut_base.proofs.lists.Members.{one_of_two}
use Rattle.aut_base.specs.Acceptance.{Accepts, IsPath}
use Rattle.aut_base.specs.Automaton.{LabelledEdge}
use Rattle.aut_base.specs.Examples.{name_a, edge, a, one_state}
use Rattle.aut_base.specs.Formula.{FormulaTree, met}
use Rattle.aut_base.specs.Label.{truth, holds_at, LabelTree}
use Rattle.aut_base.specs.Word.{NameSet, copies}
use Rattle.aut_base.proofs.words.SameEdges.{met_alike, gone_alike}

-- the loop for a letter, by whether `a` holds at it
abbrev loop_if : List ℕ → List ℕ → Bool → LabelledEdge
loop_if at_on at_off true = edge 0 a 0 at_on
loop_if at_on at_off false = edge 0 (LabelTree.Not a) 0 at_off

-- its marks
abbrev pub marks_if : List ℕ → List ℕ → Bool → List ℕ
marks_if at_on at_off true = at_on
marks_if at_on at_off false = at_off

abbrev loop_at : List ℕ → List ℕ → NameSet → LabelledEdge
loop_at at_on at_off x = loop_if at_on at_off (contains x name_a)

abbrev pub marks_at : List ℕ → List ℕ → NameSet → List ℕ
marks_at at_on at_off x = marks_if at_on at_off (contains x name_a)

IsStep : List ℕ → List ℕ → ℕ → FormulaTree → NameSet → LabelledEdge → Type 0
IsStep at_on at_off sets f x e =
    (0 ≡ e.from) × Contains (one_state at_on at_off sets f).edges e × (truth (holds_at (name_a ∷ []) x) e.label ≡ true) × (0 ≡ e.to)

is_step : (at_on at_off : List ℕ) (sets : ℕ) (f : FormulaTree) (x : NameSet) (b : Bool) → contains x name_a ≡ b → IsStep at_on at_off sets f x (loop_if at_on at_off b)
unfolding IsStep
is_step at_on at_off sets f x true e = (refl, (0, lit< tt, refl), e, refl)
is_step at_on at_off sets f x false e = (refl, (1, lit< tt, refl), ap not e, refl)

goes : (at_on at_off : List ℕ) (sets : ℕ) (f : FormulaTree) (xs : List NameSet) → IsPath (one_state at_on at_off sets f) 0 xs (map (loop_at at_on at_off) xs) 0
unfolding IsStep
goes at_on at_off sets f [] = refl
goes at_on at_off sets f (x ∷ xs) =
    let step = is_step at_on at_off sets f x (contains x name_a) refl in
    let P : ℕ → Type 0 = λ p. IsPath (one_state at_on at_off sets f) p xs (map (loop_at at_on at_off) xs) 0 in
    (step.0, step.1, step.2, subst P step.3 (goes at_on at_off sets f xs))

forced : (at_on at_off : List ℕ) (sets : ℕ) (f : FormulaTree) (x : NameSet) (e : LabelledEdge) → Contains (one_state at_on at_off sets f).edges e
    → truth (holds_at (name_a ∷ []) x) e.label ≡ true → e.marks ≡ marks_at at_on at_off x
forced at_on at_off sets f x e there =
    one_of_two (λ d. truth (holds_at (name_a ∷ []) x) d.label ≡ true → d.marks ≡ marks_at at_on at_off x) (edge 0 a 0 at_on) (edge 0 (LabelTree.Not a) 0 at_off) e there
    (λ h. ap (marks_if at_on at_off) (sym h)) (λ h. ap (marks_if at_on at_off) (sym (is_off (contains x name_a) h)))
  where
    is_off : (b : Bool) → not b ≡ true → b ≡ false
    is_off false h = refl
    is_off true h = sym h

marks_along : (at_on at_off : List ℕ) (sets : ℕ) (f : FormulaTree) (p : ℕ) (xs : List NameSet) (es : List LabelledEdge) (q : ℕ) → IsPath (one_state at_on at_off sets f) p xs es q
    → map (λ e. e.marks) es ≡ map (marks_at at_on at_off) xs
marks_along at_on at_off sets f p [] [] q path = refl
marks_along at_on at_off sets f p [] (e ∷ es) q path = absurd path
marks_along at_on at_off sets f p (x ∷ xs) [] q path = absurd path
marks_along at_on at_off sets f p (x ∷ xs) (e ∷ es) q path =
    cc (forced at_on at_off sets f x e path.1 path.2, marks_along at_on at_off sets f e.to xs es q path.3)

pub one_state_accepts : (at_on at_off : List ℕ) (sets : ℕ) (f : FormulaTree) (u v : List NameSet) → 0 < length v
    → Accepts (one_state at_on at_off sets f) u v ↔ (met (map (marks_at at_on at_off) v) f ≡ true)
one_state_accepts at_on at_off sets f u v endless = (from, to)
  where
    -- however often the cycle is repeated, it has the same marks
    same_marks : (k p q : ℕ) (cycle : List LabelledEdge) → 0 < k → IsPath (one_state at_on at_off sets f) p (copies k v) cycle q
        → met (map (λ e. e.marks) cycle) f ≡ met (map (marks_at at_on at_off) v) f
    same_marks k p q cycle some path =
        ap (λ marks. met marks f) (marks_along at_on at_off sets f p (copies k v) cycle q path) ∙ met_alike _ _ (gone_alike (marks_at at_on at_off) k v some) f

    from : Accepts (one_state at_on at_off sets f) u v → met (map (marks_at at_on at_off) v) f ≡ true
    from r = sym (same_marks r.cycle_rounds r.state r.state r.cycle r.positive r.returns) ∙ r.meets

    to : met (map (marks_at at_on at_off) v) f ≡ true → Accepts (one_state at_on at_off sets f) u v
    to h =
        let round = goes at_on at_off sets f (copies 1 v) in
        record {
          endless = endless;
          start = 0;
          state = 0;
          stem_rounds = 0;
          cycle_rounds = 1;
          path_edges = map (loop_at at_on at_off) (u ++ copies 0 v);
          cycle = map (loop_at at_on at_off) (copies 1 v);
          is_start = (0, lit< tt, refl);
          leads = goes at_on at_off sets f (u ++ copies 0 v);
          positive = lit< tt;
          returns = round;
          meets = same_marks 1 0 0 (map (loop_at at_on at_off) (copies 1 v)) (lit< tt) round ∙ h;
        }
