-- A run of an automaton with a sink stays outside the sink, or is in it from some position on and isn't accepting.
use Rattle.std.proofs.Common.{◌≡◌, ◌∙◌, ◌⊎◌, ◌==◌, ◌*◌, ◌<◌, ◌≤◌, ◌&&◌, ◌||◌, ℕ, Bool, true, false, cond, not, List, [], ◌∷◌, ◌++◌, All, Contains, ap, arith, inl, inr, length, refl, subst, sym}
use Rattle.std.proofs.Math.Nat.{le-mul_of_pos_right}
use Rattle.std.proofs.lemmas.Bool.{and_from, and_parts, eq-eqb, eqb-true, false≢true}
use Rattle.std.proofs.lemmas.List.{length-map}
use Rattle.std.proofs.lemmas.List.Elements.{All-contains, All-cons, All-head, All-tail}
use Rattle.std.specs.List.{list_all}
use Rattle.acc_forms.proofs.AtomLaws.{met-empty}
use Rattle.acc_forms.proofs.JoinLaws.{met-conj}
use Rattle.acc_forms.specs.Joined.{conj}
use Rattle.aut_base.proofs.lists.Copies.{length-copies}
use Rattle.aut_base.proofs.lists.Members.{none_there, there_cases}
use Rattle.aut_base.proofs.runs.Walks.{as_long}
use Rattle.aut_base.specs.Acceptance.{Accepts, IsPath}
use Rattle.aut_base.specs.Automaton.{Automaton, IsEdgeOf, IsWellFormed, LabelledEdge}
use Rattle.aut_base.specs.Formula.{Fin, FormulaTree, met}
use Rattle.aut_base.proofs.numbers.Truth.{and_comm}
use Rattle.aut_base.specs.Marks.{is_in}
use Rattle.aut_base.specs.Word.{NameSet, copies}
use Rattle.aut_core.specs.OtherNames.{AcceptTheSame}
use Rattle.aut_ops.proofs.sinks.Completions.{Kind, kind, loop, old_there}
use Rattle.aut_ops.proofs.following.CycleMarks.{not_in_past}
use Rattle.aut_base.proofs.runs.LassoRuns.{accepts_too, marks_of}
use Rattle.aut_base.proofs.runs.OtherEdges.{accepts_wider}
use Rattle.aut_ops.specs.Completion.{is_met_unmarked, with_sink}
use Rattle.aut_ops.specs.inner.Parts.{sink_marks}

-- each edge of a path is one of the automaton's
pub path_marks : (a : Automaton) (P : List ℕ → Type 0) → ((e : LabelledEdge) → Contains a.edges e → P e.marks) → (p q : ℕ) (xs : List NameSet) (es : List LabelledEdge) → IsPath a p xs es q
    → All P (marks_of es)
path_marks a P each p q [] [] path = λ k d within. absurd (omega (arith, within))
path_marks a P each p q [] (e ∷ es) path = absurd path
path_marks a P each p q (x ∷ xs) [] path = absurd path
path_marks a P each p q (x ∷ xs) (e ∷ es) path = All-cons P e.marks (marks_of es) (each e path.1) (path_marks a P each e.to q xs es path.3)

-- a closed path that reads a word has an edge
pub cycle_long : (a : Automaton) (q cycle_rounds : ℕ) (v : List NameSet) (es : List LabelledEdge) → 0 < length v → 0 < cycle_rounds → IsPath a q (copies cycle_rounds v) es q → 0 < length (marks_of es)
cycle_long a q cycle_rounds v es some positive path =
    let wide : cycle_rounds ≤ cycle_rounds * length v = le-mul_of_pos_right cycle_rounds some in
    omega (arith, wide, length-map es (λ (e : LabelledEdge). e.marks), as_long a q (copies cycle_rounds v) es q path, length-copies cycle_rounds v)

module _ (a : Automaton) (formed : IsWellFormed a) where
  abbrev c : Automaton
  c = with_sink a

  -- an edge leads to a state of the automaton or to the sink
  goes : (e : LabelledEdge) → Kind a e → (e.to < a.states) ⊎ (e.to ≡ a.states)
  goes e (inl old) = inl (All-contains (IsEdgeOf a) a.edges e formed.edges old).to
  goes e (inr (inl new)) = inr (sym (ap (λ (d : LabelledEdge). d.to) new.2))
  goes e (inr (inr last)) = inr (sym (ap (λ (d : LabelledEdge). d.to) last))

  stays : (e : LabelledEdge) → Kind a e → e.from ≡ a.states → loop a ≡ e
  stays e (inl old) from = let edge = All-contains (IsEdgeOf a) a.edges e formed.edges old in absurd (omega (arith, edge.from, from))
  stays e (inr (inl new)) from = let same = ap (λ (d : LabelledEdge). d.from) new.2 in absurd (omega (arith, new.1, same, from))
  stays e (inr (inr last)) from = last

  -- from the sink a path has nothing but the loop
  in_sink : (p q : ℕ) (xs : List NameSet) (es : List LabelledEdge) → p ≡ a.states → IsPath c p xs es q → (q ≡ a.states) × All (λ marks. marks ≡ sink_marks a) (marks_of es)
  in_sink p q [] [] at path = (sym path ∙ at, λ k d within. absurd (omega (arith, within)))
  in_sink p q [] (e ∷ es) at path = absurd path
  in_sink p q (x ∷ xs) [] at path = absurd path
  in_sink p q (x ∷ xs) (e ∷ es) at path =
      let is = stays e (kind a e path.1) (sym path.0 ∙ at) in
      let rest = in_sink e.to q xs es (sym (ap (λ (d : LabelledEdge). d.to) is)) path.3 in
      (rest.0, All-cons (λ marks. marks ≡ sink_marks a) e.marks (marks_of es) (sym (ap (λ (d : LabelledEdge). d.marks) is)) rest.1)

  -- a path to another state doesn't visit the sink
  outside : (p q : ℕ) (xs : List NameSet) (es : List LabelledEdge) → p < a.states → q < a.states → IsPath c p xs es q → IsPath a p xs es q
  outside p q [] [] first last path = path
  outside p q [] (e ∷ es) first last path = absurd path
  outside p q (x ∷ xs) [] first last path = absurd path
  outside p q (x ∷ xs) (e ∷ es) first last path = by_cases (λ inside. outside e.to q xs es inside last path.3) (kind a e path.1)
    where
      stuck : e.to ≡ a.states → ⊥
      stuck to = let end = (in_sink e.to q xs es to path.3).0 in omega (arith, end, last)

      by_cases : (e.to < a.states → IsPath a e.to xs es q) → Kind a e → IsPath a p (x ∷ xs) (e ∷ es) q
      by_cases on (inl old) = (path.0, old, path.2, on (All-contains (IsEdgeOf a) a.edges e formed.edges old).to)
      by_cases on (inr (inl new)) = absurd (stuck (sym (ap (λ (d : LabelledEdge). d.to) new.2)))
      by_cases on (inr (inr loops)) = absurd (stuck (sym (ap (λ (d : LabelledEdge). d.to) loops)))

  ends : (p q : ℕ) (xs : List NameSet) (es : List LabelledEdge) → (p < a.states) ⊎ (p ≡ a.states) → IsPath c p xs es q → (q < a.states) ⊎ (q ≡ a.states)
  ends p q [] [] first path = subst (λ r. (r < a.states) ⊎ (r ≡ a.states)) path first
  ends p q [] (e ∷ es) first path = absurd path
  ends p q (x ∷ xs) [] first path = absurd path
  ends p q (x ∷ xs) (e ∷ es) first path = ends e.to q xs es (goes e (kind a e path.1)) path.3

  start_is : (b : Bool) (p : ℕ) → Contains (cond b (a.states ∷ []) a.starts) p → Contains a.starts p ⊎ (p ≡ a.states)
  start_is true p there = elim (there_cases a.states [] p there) [ inl is ↦ inr (sym is) | inr later ↦ absurd (none_there p later) ]
  start_is false p there = inl there

  start_kept : (b : Bool) (p : ℕ) → (length a.starts == 0) ≡ b → Contains a.starts p → Contains (cond b (a.states ∷ []) a.starts) p
  start_kept true p none there = absurd (omega (arith, eqb-true (length a.starts) 0 none, there.1))
  start_kept false p some there = there

  -- the condition of the automaton, and the one with the sink's set
  abbrev condition : Bool → FormulaTree
  condition b = cond b (conj a.formula (Fin a.sets false)) a.formula

  met_old : (b : Bool) (cycle : List (List ℕ)) → met cycle (condition b) ≡ true → met cycle a.formula ≡ true
  met_old true cycle meets = (and_parts (met cycle a.formula) (met cycle (Fin a.sets false)) (sym (met-conj cycle a.formula (Fin a.sets false)) ∙ meets)).0
  met_old false cycle meets = meets

  unmarked : (cycle : List (List ℕ)) → All (λ marks. All (λ m. m < a.sets) marks) cycle → list_all (λ marks. not (is_in a.sets marks)) cycle ≡ true
  unmarked [] within = refl
  unmarked (marks ∷ cycle) within =
      and_from (not (is_in a.sets marks)) (list_all (λ ms. not (is_in a.sets ms)) cycle)
      (ap not (not_in_past a.sets a.sets marks (omega arith) (All-head (λ ms. All (λ m. m < a.sets) ms) marks cycle within)))
      (unmarked cycle (All-tail (λ ms. All (λ m. m < a.sets) ms) marks cycle within))

  met_new : (b : Bool) (cycle : List (List ℕ)) → All (λ marks. All (λ m. m < a.sets) marks) cycle → met cycle a.formula ≡ true → met cycle (condition b) ≡ true
  met_new true cycle within meets = met-conj cycle a.formula (Fin a.sets false) ∙ and_from (met cycle a.formula) (met cycle (Fin a.sets false)) meets (unmarked cycle within)
  met_new false cycle within meets = meets

  first_marked : (k : ℕ) (cycle : List (List ℕ)) → 0 < length cycle → All (λ marks. marks ≡ k ∷ []) cycle → list_all (λ marks. not (is_in k marks)) cycle ≡ false
  first_marked k [] some all = absurd (omega (arith, some))
  first_marked k (marks ∷ cycle) some all =
      let here : is_in k marks ≡ true = ap (is_in k) (All-head (λ ms. ms ≡ k ∷ []) marks cycle all) ∙ ap (λ b. b || false) (eq-eqb k k refl) in
      ap (λ b. not b && list_all (λ ms. not (is_in k ms)) cycle) here

  -- the sink's loop isn't accepting
  sink_fails : (b : Bool) (cycle : List (List ℕ)) → is_met_unmarked a.formula ≡ b → 0 < length cycle → All (λ marks. marks ≡ cond b (a.sets ∷ []) []) cycle → met cycle (condition b) ≡ false
  sink_fails true cycle is some all =
      met-conj cycle a.formula (Fin a.sets false) ∙ (ap (λ b. met cycle a.formula && b) (first_marked a.sets cycle some all) ∙ and_comm (met cycle a.formula) false)
  sink_fails false cycle is some all = sym (met-empty cycle some all a.formula) ∙ is

  sink_rejects : (u v : List NameSet) (r : Accepts c u v) → r.state ≡ a.states → ⊥
  sink_rejects u v r at =
      let marks = (in_sink r.state r.state (copies r.cycle_rounds v) r.cycle at r.returns).1 in
      let fails = sink_fails (is_met_unmarked a.formula) (marks_of r.cycle) refl (cycle_long c r.state r.cycle_rounds v r.cycle r.endless r.positive r.returns) marks in
      false≢true (sym fails ∙ r.meets)

  outside_accepts : (u v : List NameSet) (r : Accepts c u v) → r.state < a.states → Accepts a u v
  outside_accepts u v r at = by_cases (start_is (length a.starts == 0) r.start r.is_start)
    where
      by_cases : Contains a.starts r.start ⊎ (r.start ≡ a.states) → Accepts a u v
      by_cases (inl first) =
          let below = All-contains (λ p. p < a.states) a.starts r.start formed.starts first in
          accepts_too c a u v r first (outside r.start r.state (u ++ copies r.stem_rounds v) r.path_edges below at r.leads) (outside r.state r.state (copies r.cycle_rounds v) r.cycle at at r.returns)
          (met_old (is_met_unmarked a.formula) (marks_of r.cycle) r.meets)
      by_cases (inr sunk) = let end = (in_sink r.start r.state (u ++ copies r.stem_rounds v) r.path_edges sunk r.leads).0 in absurd (omega (arith, end, at))

  with_sink_accepted : (u v : List NameSet) → Accepts c u v → Accepts a u v
  with_sink_accepted u v r = by_cases (ends r.start r.state (u ++ copies r.stem_rounds v) r.path_edges (first (start_is (length a.starts == 0) r.start r.is_start)) r.leads)
    where
      first : Contains a.starts r.start ⊎ (r.start ≡ a.states) → (r.start < a.states) ⊎ (r.start ≡ a.states)
      first (inl there) = inl (All-contains (λ p. p < a.states) a.starts r.start formed.starts there)
      first (inr sunk) = inr sunk

      by_cases : (r.state < a.states) ⊎ (r.state ≡ a.states) → Accepts a u v
      by_cases (inl inside) = outside_accepts u v r inside
      by_cases (inr sunk) = absurd (sink_rejects u v r sunk)

  with_sink_accepts : (u v : List NameSet) → Accepts a u v → Accepts c u v
  with_sink_accepts u v r =
      let within = path_marks a (All (λ m. m < a.sets)) (λ e there. (All-contains (IsEdgeOf a) a.edges e formed.edges there).marks) r.state r.state (copies r.cycle_rounds v) r.cycle r.returns in
      accepts_wider a c refl (old_there a formed) u v r (start_kept (length a.starts == 0) r.start refl r.is_start) (met_new (is_met_unmarked a.formula) (marks_of r.cycle) within r.meets)

  pub sink_keeps_language : AcceptTheSame c a
  sink_keeps_language u v = (with_sink_accepted u v, with_sink_accepts u v)
