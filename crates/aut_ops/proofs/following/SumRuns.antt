-- A run of a sum is a run of the first automaton or of the second, so the sum accepts the union.
use Rattle.std.proofs.Common.{◌≡◌, ◌≢◌, ◌∙◌, ◌⊎◌, ◌==◌, ◌+◌, ◌<◌, ◌≤◌, ◌&&◌, ◌||◌, ℕ, true, false, not, List, [], ◌∷◌, ◌++◌, All, Contains, ap, arith, inl, inr, length, map, refl, subst, sym}
use Rattle.std.proofs.lemmas.Bool.{and_from, eq-eqb, ne_eqb}
use Rattle.std.proofs.lemmas.List.Elements.{All-append, All-contains, All-head, All-map, All-push, All-tail, All-weaker, Contains-append_cases}
use Rattle.std.proofs.lemmas.List.Elements.{Contains-append_left, Contains-append_right, same_from_all_zip}
use Rattle.std.proofs.lemmas.List.Folds.{list_any-append}
use Rattle.std.proofs.lemmas.List.Quantifiers.{all_pairs_push}
use Rattle.std.specs.List.{AllZip, list_all, list_any}
use Rattle.acc_forms.proofs.JoinLaws.{met-conj, met-disj}
use Rattle.acc_forms.specs.Joined.{conj}
use Rattle.acc_forms.specs.Shift.{shift}
use Rattle.aut_base.proofs.order.AllPairsOf.{pairs_append, pairs_map}
use Rattle.aut_base.proofs.order.Climbing.{Climbs, climbs_append, climbs_in_order, climbs_lower, in_order_climbs}
use Rattle.aut_base.proofs.lists.Members.{from_map, there_map}
use Rattle.aut_base.proofs.numbers.Truth.{and-true, and_comm, or-false, or_comm}
use Rattle.aut_base.specs.Acceptance.{Accepts, IsPath}
use Rattle.aut_base.specs.Automaton.{Automaton, IsEdgeOf, IsWellFormed, LabelledEdge}
use Rattle.aut_base.specs.Formula.{Fin, Inf, met}
use Rattle.aut_base.specs.Label.{AllBelow, holds_at, truth}
use Rattle.aut_base.specs.Marks.{is_in}
use Rattle.aut_base.specs.Word.{NameSet, copies}
use Rattle.aut_ops.proofs.following.CycleMarks.{AgreeRaised, is_in_raise, met_raised, not_in_past, raise}
use Rattle.acc_forms.proofs.FormulaSets.{sets_conj, sets_disj, sets_shift, sets_weaker}
use Rattle.aut_base.proofs.runs.LassoRuns.{accepts_of, marks_of, run_of}
use Rattle.aut_ops.proofs.following.Simulations.{Answer, Simulates, run_image}
use Rattle.aut_ops.proofs.sinks.SinkRuns.{cycle_long, path_marks}
use Rattle.aut_ops.specs.Languages.{AcceptsEither}
use Rattle.aut_ops.specs.Sums.{moved_edge, side_by_side}

module _ (a b : Automaton) (names : b.names ≡ a.names) (first : IsWellFormed a) (second : IsWellFormed b) where
  abbrev both : Automaton
  both = side_by_side a b

  abbrev fresh : ℕ
  fresh = a.sets + b.sets

  abbrev moved : LabelledEdge → LabelledEdge
  moved = moved_edge a.states a.sets fresh

  -- an edge of the first, or one of the second
  edge_cases : (e : LabelledEdge) → Contains both.edges e → Contains a.edges e ⊎ ((d : LabelledEdge) × Contains b.edges d × (moved d ≡ e))
  edge_cases e there = elim (Contains-append_cases a.edges (map moved b.edges) e there) [
    | inl old ↦ inl old
    | inr new ↦ inr (from_map moved b.edges e new)
  ]

  edge_of_first : (e : LabelledEdge) → Contains a.edges e → IsEdgeOf a e
  edge_of_first e there = All-contains (IsEdgeOf a) a.edges e first.edges there

  -- conditions

  none_fresh : (cs : List (List ℕ)) → All (λ marks. All (λ m. m < a.sets) marks) cs → (list_all (λ marks. not (is_in fresh marks)) cs ≡ true) × (list_any (is_in fresh) cs ≡ false)
  none_fresh [] within = (refl, refl)
  none_fresh (c ∷ cs) within =
      let here = not_in_past fresh a.sets c (omega arith) (All-head (λ marks. All (λ m. m < a.sets) marks) c cs within) in
      let rest = none_fresh cs (All-tail (λ marks. All (λ m. m < a.sets) marks) c cs within) in
      (and_from (not (is_in fresh c)) (list_all (λ marks. not (is_in fresh marks)) cs) (ap not here) rest.0, ap (λ t. t || list_any (is_in fresh) cs) here ∙ rest.1)

  -- on a cycle of the first's edges, the condition of the sum has the truth of the first's
  met_first : (cs : List (List ℕ)) → All (λ marks. All (λ m. m < a.sets) marks) cs → met cs both.formula ≡ met cs a.formula
  met_first cs within =
      let none = none_fresh cs within in
      met-disj cs (conj a.formula (Fin fresh false)) (conj (shift a.sets b.formula) (Inf fresh false))
      ∙ (ap (λ t. t || met cs (conj (shift a.sets b.formula) (Inf fresh false))) (met-conj cs a.formula (Fin fresh false) ∙ (ap (λ t. met cs a.formula && t) none.0 ∙ and-true (met cs a.formula)))
      ∙ (ap (λ t. met cs a.formula || t) (met-conj cs (shift a.sets b.formula) (Inf fresh false)
      ∙ (ap (λ t. met cs (shift a.sets b.formula) && t) none.1 ∙ and_comm (met cs (shift a.sets b.formula)) false)) ∙ or-false (met cs a.formula)))

  -- the marks of a moved edge, and those that it had
  abbrev Moved : List ℕ → List ℕ → Type 0
  Moved c d = c ≡ raise a.sets d ++ fresh ∷ []

  moved_agrees : (c d : List ℕ) → Moved c d → AgreeRaised a.sets b.sets c d
  moved_agrees c d is set low =
      ap (is_in (set + a.sets)) is
      ∙ (list_any-append (λ m. m == set + a.sets) (raise a.sets d) (fresh ∷ [])
      ∙ (ap (λ t. is_in (set + a.sets) (raise a.sets d) || (t || false)) (ne_eqb fresh (set + a.sets) (λ e. absurd (omega (arith, e, low))))
      ∙ (or-false (is_in (set + a.sets) (raise a.sets d)) ∙ is_in_raise a.sets set d)))

  moved_fresh : (c d : List ℕ) → Moved c d → is_in fresh c ≡ true
  moved_fresh c d is =
      ap (is_in fresh) is ∙ (list_any-append (λ m. m == fresh) (raise a.sets d) (fresh ∷ [])
      ∙ (ap (λ t. is_in fresh (raise a.sets d) || (t || false)) (eq-eqb fresh fresh refl) ∙ or_comm (is_in fresh (raise a.sets d)) true))

  zip_agrees : (cs ds : List (List ℕ)) → AllZip Moved cs ds → AllZip (AgreeRaised a.sets b.sets) cs ds
  zip_agrees [] [] zip = tt
  zip_agrees [] (d ∷ ds) zip = absurd zip
  zip_agrees (c ∷ cs) [] zip = absurd zip
  zip_agrees (c ∷ cs) (d ∷ ds) zip = (moved_agrees c d zip.0, zip_agrees cs ds zip.1)

  some_fresh : (cs ds : List (List ℕ)) → 0 < length cs → AllZip Moved cs ds → (list_all (λ marks. not (is_in fresh marks)) cs ≡ false) × (list_any (is_in fresh) cs ≡ true)
  some_fresh [] ds some zip = absurd (omega (arith, some))
  some_fresh (c ∷ cs) [] some zip = absurd zip
  some_fresh (c ∷ cs) (d ∷ ds) some zip =
      let here = moved_fresh c d zip.0 in
      (ap (λ t. not t && list_all (λ marks. not (is_in fresh marks)) cs) here, ap (λ t. t || list_any (is_in fresh) cs) here)

  -- on a cycle of moved edges, the condition of the sum has the truth of the second's
  met_second : (cs ds : List (List ℕ)) → 0 < length cs → AllZip Moved cs ds → met cs both.formula ≡ met ds b.formula
  met_second cs ds some zip =
      let fresh_there = some_fresh cs ds some zip in
      met-disj cs (conj a.formula (Fin fresh false)) (conj (shift a.sets b.formula) (Inf fresh false))
      ∙ (ap (λ t. t || met cs (conj (shift a.sets b.formula) (Inf fresh false)))
      (met-conj cs a.formula (Fin fresh false) ∙ (ap (λ t. met cs a.formula && t) fresh_there.0 ∙ and_comm (met cs a.formula) false))
      ∙ (met-conj cs (shift a.sets b.formula) (Inf fresh false)
      ∙ (ap (λ t. met cs (shift a.sets b.formula) && t) fresh_there.1
      ∙ (and-true (met cs (shift a.sets b.formula)) ∙ met_raised a.sets b.sets cs ds (zip_agrees cs ds zip) b.formula second.formula))))

  -- the sum simulates each of the two automata, and each of the two the sum, on its own states

  first_in_sum : Simulates a both (λ p q. p ≡ q) (λ c d. d ≡ c)
  first_in_sum = record {
    one = λ p q r s t. sym s ∙ t;
    step = λ p q e x stands at there holds. record { edge = e; from = sym stands ∙ at; there = Contains-append_left a.edges (map moved b.edges) e there; holds = holds; to = refl; marks = refl };
  }

  sum_in_first : Simulates both a (λ p q. (p ≡ q) × (p < a.states)) (λ c d. d ≡ c)
  sum_in_first = record {
    one = λ p q r s t. sym s.0 ∙ t.0;
    step = λ p q e x stands at there holds. by_cases p q e x stands at holds (edge_cases e there);
  }
    where
      by_cases : (p q : ℕ) (e : LabelledEdge) (x : NameSet) → (p ≡ q) × (p < a.states) → p ≡ e.from → truth (holds_at a.names x) e.label ≡ true
          → Contains a.edges e ⊎ ((d : LabelledEdge) × Contains b.edges d × (moved d ≡ e)) → Answer a (λ p q. (p ≡ q) × (p < a.states)) (λ c d. d ≡ c) x q e
      by_cases p q e x stands at holds (inl old) = record { edge = e; from = sym stands.0 ∙ at; there = old; holds = holds; to = (refl, (edge_of_first e old).to); marks = refl }
      by_cases p q e x stands at holds (inr new) = let from = ap (λ (d : LabelledEdge). d.from) new.2 in absurd (omega (arith, from, at, stands.1))

  second_in_sum : Simulates b both (λ p q. q ≡ p + a.states) (λ c d. Moved d c)
  second_in_sum = record {
    one = λ p q r s t. s ∙ sym t;
    step = λ p q e x stands at there holds. record {
      edge = moved e;
      from = stands ∙ ap (λ r. r + a.states) at;
      there = Contains-append_right a.edges (map moved b.edges) (moved e) (there_map moved b.edges e there);
      holds = subst (λ ns. truth (holds_at ns x) e.label ≡ true) names holds;
      to = refl;
      marks = refl;
    };
  }

  sum_in_second : Simulates both b (λ p q. p ≡ q + a.states) Moved
  sum_in_second = record {
    one = λ p q r s t. omega (arith, s, t);
    step = λ p q e x stands at there holds. by_cases p q e x stands at holds (edge_cases e there);
  }
    where
      by_cases : (p q : ℕ) (e : LabelledEdge) (x : NameSet) → p ≡ q + a.states → p ≡ e.from → truth (holds_at a.names x) e.label ≡ true
          → Contains a.edges e ⊎ ((d : LabelledEdge) × Contains b.edges d × (moved d ≡ e)) → Answer b (λ p q. p ≡ q + a.states) Moved x q e
      by_cases p q e x stands at holds (inl old) = let edge = edge_of_first e old in absurd (omega (arith, edge.from, at, stands))
      by_cases p q e x stands at holds (inr new) =
          let from : new.0.from + a.states ≡ e.from = ap (λ (d : LabelledEdge). d.from) new.2 in
          record {
            edge = new.0;
            from = omega (arith, from, at, stands);
            there = new.1;
            holds = subst (λ ns. truth (holds_at ns x) new.0.label ≡ true) (sym names) (ap (λ (d : LabelledEdge). truth (holds_at a.names x) d.label) new.2 ∙ holds);
            to = sym (ap (λ (d : LabelledEdge). d.to) new.2);
            marks = sym (ap (λ (d : LabelledEdge). d.marks) new.2);
          }

  within_first : (p q : ℕ) (xs : List NameSet) (es : List LabelledEdge) → IsPath a p xs es q → All (λ marks. All (λ m. m < a.sets) marks) (marks_of es)
  within_first = path_marks a (All (λ m. m < a.sets)) (λ e there. (edge_of_first e there).marks)

  -- the language

  first_accepted : (u v : List NameSet) → Accepts a u v → Accepts both u v
  first_accepted u v r =
      let to = run_image a both (λ p q. p ≡ q) (λ c d. d ≡ c) first_in_sum u v r.stem_rounds r.cycle_rounds (run_of a u v r) r.start
      (Contains-append_left a.starts (map (λ p. p + a.states) b.starts) r.start r.is_start) refl in
      let same : marks_of to.run.cycle ≡ marks_of r.cycle = same_from_all_zip (λ c d. d ≡ c) (marks_of r.cycle) (marks_of to.run.cycle) to.marks (λ c d e. e) in
      accepts_of both u v r.stem_rounds r.cycle_rounds to.run r.endless r.positive
      (ap (λ cs. met cs both.formula) same ∙ (met_first (marks_of r.cycle) (within_first r.state r.state (copies r.cycle_rounds v) r.cycle r.returns) ∙ r.meets))

  second_accepted : (u v : List NameSet) → Accepts b u v → Accepts both u v
  second_accepted u v r =
      let to = run_image b both (λ p q. q ≡ p + a.states) (λ c d. Moved d c) second_in_sum u v r.stem_rounds r.cycle_rounds (run_of b u v r) (r.start + a.states)
      (Contains-append_right a.starts (map (λ p. p + a.states) b.starts) (r.start + a.states) (there_map (λ p. p + a.states) b.starts r.start r.is_start)) refl in
      let some = cycle_long both to.run.state r.cycle_rounds v to.run.cycle r.endless r.positive to.run.returns in
      accepts_of both u v r.stem_rounds r.cycle_rounds to.run r.endless r.positive
      (met_second (marks_of to.run.cycle) (marks_of r.cycle) some (turn (marks_of r.cycle) (marks_of to.run.cycle) to.marks) ∙ r.meets)
    where
      turn : (cs ds : List (List ℕ)) → AllZip (λ c d. Moved d c) cs ds → AllZip Moved ds cs
      turn [] [] zip = tt
      turn [] (d ∷ ds) zip = absurd zip
      turn (c ∷ cs) [] zip = absurd zip
      turn (c ∷ cs) (d ∷ ds) zip = (zip.0, turn cs ds zip.1)

  from_first : (u v : List NameSet) (r : Accepts both u v) → Contains a.starts r.start → Accepts a u v
  from_first u v r start =
      let to = run_image both a (λ p q. (p ≡ q) × (p < a.states)) (λ c d. d ≡ c) sum_in_first u v r.stem_rounds r.cycle_rounds (run_of both u v r) r.start start
      (refl, All-contains (λ p. p < a.states) a.starts r.start first.starts start) in
      let same : marks_of to.run.cycle ≡ marks_of r.cycle = same_from_all_zip (λ c d. d ≡ c) (marks_of r.cycle) (marks_of to.run.cycle) to.marks (λ c d e. e) in
      accepts_of a u v r.stem_rounds r.cycle_rounds to.run r.endless r.positive
      (sym (met_first (marks_of to.run.cycle) (within_first to.run.state to.run.state (copies r.cycle_rounds v) to.run.cycle to.run.returns)) ∙ (ap (λ cs. met cs both.formula) same ∙ r.meets))

  from_second : (u v : List NameSet) (r : Accepts both u v) → (q : ℕ) → Contains b.starts q → r.start ≡ q + a.states → Accepts b u v
  from_second u v r q start at =
      let to = run_image both b (λ p q. p ≡ q + a.states) Moved sum_in_second u v r.stem_rounds r.cycle_rounds (run_of both u v r) q start at in
      let some = cycle_long both r.state r.cycle_rounds v r.cycle r.endless r.positive r.returns in
      accepts_of b u v r.stem_rounds r.cycle_rounds to.run r.endless r.positive (sym (met_second (marks_of r.cycle) (marks_of to.run.cycle) some to.marks) ∙ r.meets)

  from_sum : (u v : List NameSet) (r : Accepts both u v) → Accepts a u v ⊎ Accepts b u v
  from_sum u v r = elim (Contains-append_cases a.starts (map (λ p. p + a.states) b.starts) r.start r.is_start) [
    | inl old ↦ inl (from_first u v r old)
    | inr new ↦ (let start = from_map (λ p. p + a.states) b.starts r.start new in inr (from_second u v r start.0 start.1 (sym start.2)))
  ]

  pub sum_accepts : AcceptsEither both a b
  sum_accepts u v = (from_sum u v, λ either. elim either [ inl r ↦ first_accepted u v r | inr r ↦ second_accepted u v r ])

  -- well-formedness

  climbs_moved : (low : ℕ) (es : List LabelledEdge) → Climbs low es → Climbs (low + a.states) (map moved es)
  climbs_moved low [] climbs = tt
  climbs_moved low (e ∷ es) climbs = (omega (arith, climbs.0), climbs_moved e.from es climbs.1)

  moved_formed : (e : LabelledEdge) → IsEdgeOf b e → IsEdgeOf both (moved e)
  moved_formed e edge = record {
    from = omega (arith, edge.from);
    to = omega (arith, edge.to);
    label = subst (λ (ns : List (List ℕ)). AllBelow (length ns) e.label) names edge.label;
    marks = All-push (λ m. m < fresh + 1) (raise a.sets e.marks) fresh
        (All-map (λ m. m < fresh + 1) (λ m. m + a.sets) e.marks (All-weaker (λ m. m < b.sets) (λ m. m + a.sets < fresh + 1) (λ m low. omega (arith, low)) e.marks edge.marks)) (omega arith);
    marks_rise = all_pairs_push (λ m n. m < n) (raise a.sets e.marks) fresh
        (pairs_map (λ m n. m < n) (λ m. m + a.sets) e.marks (λ i j d less within. let up = edge.marks_rise i j d less within in omega (arith, up)))
        (All-map (λ m. m < fresh) (λ m. m + a.sets) e.marks (All-weaker (λ m. m < b.sets) (λ m. m + a.sets < fresh) (λ m low. omega (arith, low)) e.marks edge.marks));
  }

  first_formed : (e : LabelledEdge) → IsEdgeOf a e → IsEdgeOf both e
  first_formed e edge = record {
    from = omega (arith, edge.from);
    to = omega (arith, edge.to);
    label = edge.label;
    marks = All-weaker (λ m. m < a.sets) (λ m. m < fresh + 1) (λ m low. omega (arith, low)) e.marks edge.marks;
    marks_rise = edge.marks_rise;
  }

  pub sum_formed : IsWellFormed both
  sum_formed = record {
    names_differ = first.names_differ;
    starts_differ = pairs_append (λ p q. p ≢ q) a.starts (map (λ p. p + a.states) b.starts) first.starts_differ
        (pairs_map (λ p q. p ≢ q) (λ p. p + a.states) b.starts (λ i j d less within e. second.starts_differ i j d less within (omega (arith, e))))
        (All-weaker (λ p. p < a.states) (λ p. All (λ q. p ≢ q) (map (λ q. q + a.states) b.starts))
        (λ p low. All-map (λ q. p ≢ q) (λ q. q + a.states) b.starts (λ k d within e. absurd (omega (arith, low, e)))) a.starts first.starts);
    starts = All-append (λ p. p < a.states + b.states) a.starts (map (λ p. p + a.states) b.starts)
        (All-weaker (λ p. p < a.states) (λ p. p < a.states + b.states) (λ p low. omega (arith, low)) a.starts first.starts)
        (All-map (λ p. p < a.states + b.states) (λ p. p + a.states) b.starts
        (All-weaker (λ p. p < b.states) (λ p. p + a.states < a.states + b.states) (λ p low. omega (arith, low)) b.starts second.starts));
    in_order = climbs_in_order 0 both.edges (climbs_append 0 a.states a.edges (map moved b.edges) (omega arith) (in_order_climbs 0 a.edges (λ k d within. omega arith) first.in_order)
        (All-weaker (IsEdgeOf a) (λ e. e.from ≤ a.states) (λ e edge. omega (arith, edge.from)) a.edges first.edges)
        (climbs_lower a.states (0 + a.states) (map moved b.edges) (omega arith) (climbs_moved 0 b.edges (in_order_climbs 0 b.edges (λ k d within. omega arith) second.in_order))));
    edges = All-append (IsEdgeOf both) a.edges (map moved b.edges) (All-weaker (IsEdgeOf a) (IsEdgeOf both) first_formed a.edges first.edges)
        (All-map (IsEdgeOf both) moved b.edges (All-weaker (IsEdgeOf b) (λ e. IsEdgeOf both (moved e)) moved_formed b.edges second.edges));
    formula = sets_disj (fresh + 1) (conj a.formula (Fin fresh false)) (conj (shift a.sets b.formula) (Inf fresh false))
        (let less : fresh < fresh + 1 = omega arith in sets_conj (fresh + 1) a.formula (Fin fresh false) (sets_weaker a.sets (fresh + 1) (omega arith) a.formula first.formula) less)
        (let less : fresh < fresh + 1 = omega arith in
        sets_conj (fresh + 1) (shift a.sets b.formula) (Inf fresh false) (sets_shift a.sets b.sets (fresh + 1) (omega arith) b.formula second.formula) less);
  }
