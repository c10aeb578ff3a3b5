-- The condition of an automaton with its copies asks of a cycle that it has each set of the copy in which it is.
use Rattle.std.proofs.Common.{◌≡◌, ◌∙◌, ◌↔◌, ◌≤◌, ◌<◌, ◌⊎◌, ℕ, true, false, None, Some, List, ◌∷◌, Contains, ap, arith, length, map, subst, sym, inl, inr, ⊎_elim}
use Rattle.std.specs.List.{list_any, range_with_len}
use Rattle.std.proofs.lemmas.List.{length-map}
use Rattle.std.proofs.lemmas.Option.{none-some, same_Some}
use Rattle.aut_base.proofs.lists.Members.{from_map, from_range, there_map, there_range}
use Rattle.aut_base.proofs.runs.LassoRuns.{marks_of}
use Rattle.aut_base.specs.Acceptance.{IsPath}
use Rattle.aut_base.specs.Automaton.{Automaton, IsWellFormed, LabelledEdge}
use Rattle.aut_base.specs.Formula.{met}
use Rattle.aut_base.specs.Marks.{is_in}
use Rattle.aut_base.specs.Word.{NameSet}
use Rattle.aut_core.specs.OtherNames.{AcceptTheSame}
use Rattle.acc_forms.specs.Terms.{terms}
use Rattle.acc_forms.specs.declared.literal.Literal.{Literal}
use Rattle.acc_forms.specs.declared.literal.Literal.TheVariants.{Inf}
use Rattle.fin_removal.proofs.CopiedEdges.{Enters, Stays, Within, comes_from, edge_bounds}
use Rattle.fin_removal.proofs.CopiedLaw.{copied_accepts_the_same, not_in_main, own_sets, own_sets_met}
use Rattle.fin_removal.proofs.CopiedPaths.{IsElsewhere, IsMain, copies_of, from_copy, from_main, not_main}
use Rattle.fin_removal.proofs.CopiedWhole.{copied_well_formed}
use Rattle.fin_removal.proofs.CopyNumbers.{Owns}
use Rattle.fin_removal.proofs.TermMet.{each_passed, passes_each}
use Rattle.fin_removal.specs.Copies.{CopyOfTerm as TermCopy, copied, owned, owned_sets}
use Rattle.fin_removal.proofs.Parts.{state_in}
use Rattle.fin_removal.specs.Meeting.{meets, literal_places}
use Rattle.degeneralise.specs.Buchi.{Watch, with_counters, levels, watch_of}
use Rattle.degeneralise.proofs.GeneralisedLaw.{begins}
use Rattle.degeneralise.proofs.LevelledLaw.{PassesAll, levelled_accepts_the_same}
use Rattle.degeneralise.proofs.WatchLists.{watch_copy, watch_first}

-- a cycle has all sets of a copy exactly where it meets all literals that the copy waits for
sets_passed : (copy : TermCopy) (es : List LabelledEdge) → 0 < length es → ((set : ℕ) → Owns copy set → list_any (is_in set) (marks_of es) ≡ true) → PassesAll (owned copy) es
sets_passed copy es some carried level within =
    passes_each (owned copy) (marks_of es) (omega (arith, some, length-map es (λ (e : LabelledEdge). e.marks))) (λ l there.
    (let at = from_map (λ set. Inf set false) (range_with_len copy.first (literal_places copy.infs)) l there in
    let set = from_range copy.first (literal_places copy.infs) at.0 at.1 in
    ap (λ m. list_any (λ marks. meets marks m) (marks_of es)) (sym at.2) ∙ carried at.0 (record { from = set.0; to = set.1 }))) level

passed_sets : (copy : TermCopy) (es : List LabelledEdge) → PassesAll (owned copy) es → (set : ℕ) → Owns copy set → list_any (is_in set) (marks_of es) ≡ true
passed_sets copy es passes set own =
    each_passed (owned copy) (marks_of es) passes (Inf set false)
    (there_map (λ s. Inf s false) (range_with_len copy.first (literal_places copy.infs)) set (there_range copy.first (literal_places copy.infs) set own.from own.to))

-- a state of the main copy, or of the copy of a term
record IsIn (a : Automaton) (state : ℕ) : Type 0 where
  copy : TermCopy
  listed : Contains (copies_of a) copy
  own : ℕ
  below : own < a.states
  at : state ≡ state_in a.states copy.number own

where_from : (a : Automaton) → IsWellFormed a → (f : LabelledEdge) → Contains (copied a).edges f → (f.from < a.states) ⊎ IsIn a f.from
where_from a formed f there = ⊎_elim
    (λ (s : Stays a f). (let bounds = edge_bounds a formed s.edge s.there in inl (subst (λ (g : LabelledEdge). g.from < a.states) s.is bounds.from)))
    (⊎_elim
    (λ (s : Enters a (copies_of a) f). (let bounds = edge_bounds a formed s.edge s.there in inl (subst (λ (g : LabelledEdge). g.from < a.states) s.is bounds.from)))
    (λ (s : Within a (copies_of a) f). inr (record
    { copy = s.copy; listed = s.listed; own = s.edge.from; below = (edge_bounds a formed s.edge s.there).from; at = ap (λ (g : LabelledEdge). g.from) (sym s.is) })))
    (comes_from a (copies_of a) f there)

module _ (a : Automaton) (formed : IsWellFormed a) where
  watch : ℕ → Watch
  watch = watch_of a.states (None ∷ map (λ sets. Some sets) (owned_sets (terms a.formula)))

  in_main : (q : ℕ) → q < a.states → watch q ≡ None
  unfolding watch
  in_main q below = watch_first a.states q None (map (λ sets. Some sets) (owned_sets (terms a.formula))) below

  in_copy : (state : ℕ) (i : IsIn a state) → watch state ≡ Some (owned i.copy)
  unfolding watch
  in_copy state i = ap watch i.at ∙ watch_copy a.states i.own (terms a.formula) i.copy i.listed i.below

  settled : (f : LabelledEdge) → Contains (copied a).edges f → (ls : List Literal) → watch f.from ≡ Some ls → watch f.to ≡ Some ls
  settled f there ls waits = ⊎_elim
      (λ (s : Stays a f). absurd (none-some ls (sym (in_main f.from (subst (λ (g : LabelledEdge). g.from < a.states) s.is (edge_bounds a formed s.edge s.there).from)) ∙ waits)))
      (⊎_elim
      (λ (s : Enters a (copies_of a) f). absurd (none-some ls (sym (in_main f.from (subst (λ (g : LabelledEdge). g.from < a.states) s.is (edge_bounds a formed s.edge s.there).from)) ∙ waits)))
      (λ (s : Within a (copies_of a) f).
      let bounds = edge_bounds a formed s.edge s.there in
      let from = in_copy f.from (record { copy = s.copy; listed = s.listed; own = s.edge.from; below = bounds.from; at = ap (λ (g : LabelledEdge). g.from) (sym s.is) }) in
      let to = in_copy f.to (record { copy = s.copy; listed = s.listed; own = s.edge.to; below = bounds.to; at = ap (λ (g : LabelledEdge). g.to) (sym s.is) }) in
      to ∙ (sym from ∙ waits)))
      (comes_from a (copies_of a) f there)

  copy_asks : (q : ℕ) (i : IsIn a q) (xs : List NameSet) (es : List LabelledEdge) → 0 < length es → IsPath (copied a) q xs es q
      → (met (marks_of es) (copied a).formula ≡ true) ↔ PassesAll (owned i.copy) es
  copy_asks q i xs es some path =
      let inside = from_copy a formed i.copy i.listed i.own i.below xs es q (subst (λ (s : ℕ). IsPath (copied a) s xs es q) i.at path) in (
        λ holds. sets_passed i.copy es some (subst (λ (fs : List LabelledEdge). (set : ℕ) → Owns i.copy set → list_any (is_in set) (marks_of fs) ≡ true) (sym inside.is)
            (own_sets a i.copy i.listed inside.edges (subst (λ (fs : List LabelledEdge). met (marks_of fs) (copied a).formula ≡ true) inside.is holds))),
        λ passes. own_sets_met a i.copy i.listed es (passed_sets i.copy es passes),
      )

  waits_asks : (q : ℕ) (ls : List Literal) (xs : List NameSet) (es : List LabelledEdge) → 0 < length es → IsPath (copied a) q xs es q → watch q ≡ Some ls
      → (met (marks_of es) (copied a).formula ≡ true) ↔ PassesAll ls es
  waits_asks q ls xs es some path waits =
      let first = begins (copied a) q q xs es some path in
      ⊎_elim
      (λ (main : first.edge.from < a.states). absurd (none-some ls (sym (in_main q (omega (arith, main, first.from))) ∙ waits)))
      (λ (i : IsIn a first.edge.from).
      let here : IsIn a q = subst (IsIn a) (sym first.from) i in
      subst (λ (those : List Literal). (met (marks_of es) (copied a).formula ≡ true) ↔ PassesAll those es) (same_Some (owned here.copy) ls (sym (in_copy q here) ∙ waits))
      (copy_asks q here xs es some path))
      (where_from a formed first.edge first.there)

  never_met : (q : ℕ) (xs : List NameSet) (es : List LabelledEdge) → 0 < length es → IsPath (copied a) q xs es q → watch q ≡ None → met (marks_of es) (copied a).formula ≡ true → ⊥
  never_met q xs es some path waits holds =
      let first = begins (copied a) q q xs es some path in
      ⊎_elim
      (λ (main : first.edge.from < a.states).
      let below : q < a.states = omega (arith, main, first.from) in
      let back = from_main a formed q below xs es q path in
      ⊎_elim
      (λ (m : IsMain a formed back.end back.edges es q). not_in_main a back.edges (subst (λ (fs : List LabelledEdge). met (marks_of fs) (copied a).formula ≡ true) m.is holds))
      (λ (m : IsElsewhere a formed back.end q). not_main a m.copy m.listed back.end q back.below below (sym m.at))
      back.place)
      (λ (i : IsIn a first.edge.from). none-some (owned i.copy) (sym waits ∙ (ap watch first.from ∙ in_copy first.edge.from i)))
      (where_from a formed first.edge first.there)

  pub copies_accept_the_same : (k : ℕ) → ((state : ℕ) → levels (watch_of a.states (None ∷ map (λ sets. Some sets) (owned_sets (terms a.formula))) state) ≤ k)
      → AcceptTheSame (with_counters k (watch_of a.states (None ∷ map (λ sets. Some sets) (owned_sets (terms a.formula)))) (copied a)) a
  unfolding watch
  copies_accept_the_same k room u v =
      let by_levels = levelled_accepts_the_same k watch (copied a) (record { formed = copied_well_formed a formed; room = room; settled = settled })
      (record { waits = waits_asks; never = never_met }) u v in
      let by_copies = copied_accepts_the_same a formed u v in
      (λ r. by_copies.0 (by_levels.0 r), λ r. by_levels.1 (by_copies.1 r))
