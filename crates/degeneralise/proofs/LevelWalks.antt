-- Paths of an automaton as they go through levels.
use Rattle.std.proofs.Common.{◌≡◌, ◌∙◌, ◌<◌, ◌≤◌, ◌||◌, ℕ, zero, suc, true, None, Some, List, [], ◌∷◌, ◌++◌, Contains, ap, arith, refl, subst, sym, ⊎_elim}
use Rattle.std.specs.List.{list_any}
use Rattle.std.proofs.lemmas.Bool.{false≢true, or_cases}
use Rattle.std.proofs.lemmas.Nat.{same_from_place}
use Rattle.aut_base.proofs.lists.Members.{first_there, later_there}
use Rattle.aut_base.proofs.runs.LassoRuns.{marks_of}
use Rattle.aut_base.specs.Acceptance.{IsPath}
use Rattle.aut_base.specs.Automaton.{Automaton, IsWellFormed, LabelledEdge}
use Rattle.aut_base.specs.Label.{holds_at, truth}
use Rattle.aut_base.specs.Marks.{is_in}
use Rattle.aut_base.specs.Word.{NameSet}
use Rattle.acc_forms.specs.declared.literal.Literal.{Literal}
use Rattle.fin_removal.proofs.CopiedEdges.{edge_bounds}
use Rattle.degeneralise.specs.Buchi.{Watch, edge_at_level, level_after, with_counters, levels, marks_at_level}
use Rattle.degeneralise.specs.inner.Parts.{state_at}
use Rattle.degeneralise.proofs.LevelledEdges.{comes_from, has_level}
use Rattle.degeneralise.proofs.Turns.{marked, turn, turn_below}

-- the edges from a level on, and the level after them
abbrev pub walk : ℕ → (ℕ → Watch) → ℕ → List LabelledEdge → List LabelledEdge
walk k watch level [] = []
walk k watch level (e ∷ es) = edge_at_level k (watch e.from) level e ∷ walk k watch (level_after (watch e.from) level e.marks) es

abbrev pub end_level : (ℕ → Watch) → ℕ → List LabelledEdge → ℕ
end_level watch level [] = level
end_level watch level (e ∷ es) = end_level watch (level_after (watch e.from) level e.marks) es

-- no state has more than k levels, and where a state waits for literals, its successors wait for the same ones
pub record HasRoom (k : ℕ) (watch : ℕ → Watch) (a : Automaton) : Type 0 where
  pub formed : IsWellFormed a
  pub room : (state : ℕ) → levels (watch state) ≤ k
  pub settled : (e : LabelledEdge) → Contains a.edges e → (ls : List Literal) → watch e.from ≡ Some ls → watch e.to ≡ Some ls

pub some_level : (w : Watch) → 0 < levels w
some_level None = omega arith
some_level (Some ls) = omega arith

-- the level after an edge is one of the next state
next_below : (w next : Watch) (level : ℕ) (marks : List ℕ) → ((ls : List Literal) → w ≡ Some ls → next ≡ Some ls) → level < levels w → level_after w level marks < levels next
next_below None next level marks same below = omega (arith, some_level next, below)
next_below (Some ls) next level marks same below = subst (λ (v : Watch). level_after (Some ls) level marks < levels v) (sym (same ls refl)) (turn_below ls level marks below)

module _ (k : ℕ) (watch : ℕ → Watch) (a : Automaton) (has : HasRoom k watch a) where
  pub step_below : (e : LabelledEdge) (level : ℕ) → Contains a.edges e → level < levels (watch e.from) → level_after (watch e.from) level e.marks < levels (watch e.to)
  step_below e level there below = next_below (watch e.from) (watch e.to) level e.marks (has.settled e there) below

  pub walk_path : (p q level : ℕ) (xs : List NameSet) (es : List LabelledEdge) → level < levels (watch p) → IsPath a p xs es q
      → IsPath (with_counters k watch a) (state_at k p level) xs (walk k watch level es) (state_at k q (end_level watch level es))
  walk_path p q level [] [] below path = ap (λ s. state_at k s level) path
  walk_path p q level [] (e ∷ es) below path = absurd path
  walk_path p q level (x ∷ xs) [] below path = absurd path
  walk_path p q level (x ∷ xs) (e ∷ es) below path =
      let here : level < levels (watch e.from) = subst (λ s. level < levels (watch s)) path.0 below in (
        ap (λ s. state_at k s level) path.0,
        has_level k watch a e level path.1 (edge_bounds a has.formed e path.1).from here,
        path.2,
        walk_path e.to q (level_after (watch e.from) level e.marks) xs es (step_below e level path.1 here) path.3,
      )

  pub end_below : (p q level : ℕ) (xs : List NameSet) (es : List LabelledEdge) → level < levels (watch p) → IsPath a p xs es q → end_level watch level es < levels (watch q)
  end_below p q level [] [] below path = subst (λ s. level < levels (watch s)) path below
  end_below p q level [] (e ∷ es) below path = absurd path
  end_below p q level (x ∷ xs) [] below path = absurd path
  end_below p q level (x ∷ xs) (e ∷ es) below path =
      end_below e.to q (level_after (watch e.from) level e.marks) xs es (step_below e level path.1 (subst (λ s. level < levels (watch s)) path.0 below)) path.3

  -- a path through levels is that of a path
  pub record Walked (p level : ℕ) (xs : List NameSet) (fs : List LabelledEdge) (state : ℕ) : Type 0 where
    pub edges : List LabelledEdge
    pub end : ℕ
    pub path : IsPath a p xs edges end
    pub is : fs ≡ walk k watch level edges
    pub at : state ≡ state_at k end (end_level watch level edges)

  pub walked : (p level : ℕ) (xs : List NameSet) (fs : List LabelledEdge) (state : ℕ) → level < levels (watch p) → IsPath (with_counters k watch a) (state_at k p level) xs fs state
      → Walked p level xs fs state
  walked p level [] [] state below path = record { edges = []; end = p; path = refl; is = refl; at = sym path }
  walked p level [] (f ∷ fs) state below path = absurd path
  walked p level (x ∷ xs) [] state below path = absurd path
  walked p level (x ∷ xs) (f ∷ fs) state below path =
      let found = comes_from k watch a f path.1 in
      let e = found.edge in
      let places = same_from_place p level e.from found.level k (omega (arith, below, has.room p)) (omega (arith, found.below, has.room e.from))
      (path.0 ∙ ap (λ (g : LabelledEdge). g.from) (sym found.is)) in
      let here : level < levels (watch e.from) = omega (arith, found.below, places.1) in
      let is : f ≡ edge_at_level k (watch e.from) level e = sym found.is ∙ ap (λ l. edge_at_level k (watch e.from) l e) (sym places.1) in
      let rest = walked e.to (level_after (watch e.from) level e.marks) xs fs state (step_below e level found.there here)
      (subst (λ (s : ℕ). IsPath (with_counters k watch a) s xs fs state) (ap (λ (g : LabelledEdge). g.to) is) path.3) in
      record {
        edges = e ∷ rest.edges;
        end = rest.end;
        path = (places.0, found.there, ap (λ (g : LabelledEdge). truth (holds_at a.names x) g.label) (sym is) ∙ path.2, rest.path);
        is = ap (λ (g : LabelledEdge). g ∷ fs) is ∙ ap (λ (gs : List LabelledEdge). edge_at_level k (watch e.from) level e ∷ gs) rest.is;
        at = rest.at;
      }

  -- what a state waits for, its successors wait for
  pub waits_on : (p q : ℕ) (xs : List NameSet) (es : List LabelledEdge) (ls : List Literal) → IsPath a p xs es q → watch p ≡ Some ls → watch q ≡ Some ls
  waits_on p q [] [] ls path waits = ap watch (sym path) ∙ waits
  waits_on p q [] (e ∷ es) ls path waits = absurd path
  waits_on p q (x ∷ xs) [] ls path waits = absurd path
  waits_on p q (x ∷ xs) (e ∷ es) ls path waits = waits_on e.to q xs es ls path.3 (has.settled e path.1 ls (ap watch (sym path.0) ∙ waits))

  pub waits_along : (p q : ℕ) (xs : List NameSet) (es : List LabelledEdge) (ls : List Literal) → IsPath a p xs es q → watch p ≡ Some ls → (e : LabelledEdge) → Contains es e → watch e.from ≡ Some ls
  waits_along p q [] [] ls path waits e there = absurd (omega (arith, there.1))
  waits_along p q [] (f ∷ fs) ls path waits e there = absurd path
  waits_along p q (x ∷ xs) [] ls path waits e there = absurd path
  waits_along p q (x ∷ xs) (f ∷ fs) ls path waits e (zero, within, is) = ap (λ (g : LabelledEdge). watch g.from) (sym is) ∙ (ap watch (sym path.0) ∙ waits)
  waits_along p q (x ∷ xs) (f ∷ fs) ls path waits e (suc n, within, is) = waits_along f.to q xs fs ls path.3 (has.settled f path.1 ls (ap watch (sym path.0) ∙ waits)) e (n, omega (arith, within), is)

  -- where a walk has a mark, its end waits for something
  pub record Waits (q : ℕ) : Type 0 where
    pub literals : List Literal
    pub is : watch q ≡ Some literals

  mark_waits : (w : Watch) (level : ℕ) (marks : List ℕ) → is_in 0 (marks_at_level w level marks) ≡ true → (ls : List Literal) × (w ≡ Some ls)
  mark_waits None level marks some = absurd (false≢true some)
  mark_waits (Some ls) level marks some = (ls, refl)

  pub marked_waits : (p q level : ℕ) (xs : List NameSet) (es : List LabelledEdge) → IsPath a p xs es q → list_any (is_in 0) (marks_of (walk k watch level es)) ≡ true → Waits q
  marked_waits p q level [] [] path some = absurd (false≢true some)
  marked_waits p q level [] (e ∷ es) path some = absurd path
  marked_waits p q level (x ∷ xs) [] path some = absurd path
  marked_waits p q level (x ∷ xs) (e ∷ es) path some = ⊎_elim
      (λ here. (let waits = mark_waits (watch e.from) level e.marks here in record { literals = waits.0; is = waits_on e.to q xs es waits.0 path.3 (has.settled e path.1 waits.0 waits.1) }))
      (λ later. marked_waits e.to q (level_after (watch e.from) level e.marks) xs es path.3 later)
      (or_cases (is_in 0 (marks_at_level (watch e.from) level e.marks)) (list_any (is_in 0) (marks_of (walk k watch (level_after (watch e.from) level e.marks) es))) some)

-- Where all edges leave states that wait for the same literals, the levels are those of `turn`.
pub end_is_turn : (watch : ℕ → Watch) (ls : List Literal) (level : ℕ) (es : List LabelledEdge) → ((e : LabelledEdge) → Contains es e → watch e.from ≡ Some ls)
    → end_level watch level es ≡ turn ls level es
end_is_turn watch ls level [] waits = refl
end_is_turn watch ls level (e ∷ es) waits =
    ap (λ w. end_level watch (level_after w level e.marks) es) (waits e (first_there e es))
    ∙ end_is_turn watch ls (level_after (Some ls) level e.marks) es (λ f there. waits f (later_there e es f there))

pub marks_are_marked : (k : ℕ) (watch : ℕ → Watch) (ls : List Literal) (level : ℕ) (es : List LabelledEdge) → ((e : LabelledEdge) → Contains es e → watch e.from ≡ Some ls)
    → list_any (is_in 0) (marks_of (walk k watch level es)) ≡ marked ls level es
marks_are_marked k watch ls level [] waits = refl
marks_are_marked k watch ls level (e ∷ es) waits =
    ap (λ w. is_in 0 (marks_at_level w level e.marks) || list_any (is_in 0) (marks_of (walk k watch (level_after w level e.marks) es))) (waits e (first_there e es))
    ∙ ap (λ b. is_in 0 (marks_at_level (Some ls) level e.marks) || b) (marks_are_marked k watch ls (level_after (Some ls) level e.marks) es (λ f there. waits f (later_there e es f there)))

pub end_then : (watch : ℕ → Watch) (level : ℕ) (es fs : List LabelledEdge) → end_level watch level (es ++ fs) ≡ end_level watch (end_level watch level es) fs
end_then watch level [] fs = refl
end_then watch level (e ∷ es) fs = end_then watch (level_after (watch e.from) level e.marks) es fs
