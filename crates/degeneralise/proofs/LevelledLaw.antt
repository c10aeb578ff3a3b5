-- With counters an automaton accepts the same lasso words, where its condition asks of a cycle what the cycle's states wait
-- for.
use Rattle.std.proofs.Common.{◌≡◌, ◌∙◌, ◌↔◌, ◌+◌, ◌-◌, ◌*◌, ◌<◌, ℕ, suc, true, None, Some, List, [], ◌∷◌, ◌++◌, ap, arith, length, refl, subst, sym, inl, inr}
use Rattle.std.specs.List.{list_any}
use Rattle.std.proofs.lemmas.Bool.{cases_Bool, false≢true}
use Rattle.std.proofs.lemmas.Nat.{mul-lt, same_from_place}
use Rattle.aut_base.proofs.lists.Copies.{any-copies, copies-add, copies-copies}
use Rattle.aut_base.proofs.lists.Members.{any_found, any_from, from_map, there_map}
use Rattle.aut_base.proofs.runs.LassoRuns.{accepts_of, marks_of}
use Rattle.aut_base.proofs.runs.Paths.{some_edges, path_copies, path_join}
use Rattle.aut_base.specs.Acceptance.{Accepts, IsPath}
use Rattle.aut_base.specs.Automaton.{Automaton, LabelledEdge}
use Rattle.aut_base.specs.Formula.{met}
use Rattle.aut_base.specs.Marks.{is_in}
use Rattle.aut_base.specs.Runs.{LassoRun}
use Rattle.aut_base.specs.Word.{NameSet, copies}
use Rattle.aut_core.specs.OtherNames.{AcceptTheSame}
use Rattle.acc_forms.specs.declared.literal.Literal.{Literal}
use Rattle.fin_removal.proofs.CopiedLaw.{gone_on}
use Rattle.fin_removal.proofs.TermMet.{Passes}
use Rattle.fin_removal.specs.Meeting.{meets_at, literal_places}
use Rattle.degeneralise.specs.Buchi.{Watch, level_after, with_counters, levels}
use Rattle.degeneralise.specs.inner.Parts.{state_at}
use Rattle.degeneralise.proofs.LevelWalks.{HasRoom, end_below, end_is_turn, end_level, end_then, marked_waits, marks_are_marked, some_level, waits_along, walk, walk_path, walked}
use Rattle.aut_base.proofs.numbers.Pigeonhole.{pigeons}
use Rattle.degeneralise.proofs.Turns.{all_passed, marked, met_on, rises, turn, turn_below, turn_then}

-- each literal of the list is met by some edge of the cycle
abbrev pub PassesAll : List Literal → List LabelledEdge → Type 0
PassesAll ls es = (level : ℕ) → level < literal_places ls → Passes ls level (marks_of es)

-- the condition asks of a closed path what its states wait for
pub record AsksFor (watch : ℕ → Watch) (a : Automaton) : Type 0 where
  pub waits : (q : ℕ) (ls : List Literal) (xs : List NameSet) (es : List LabelledEdge) → 0 < length es → IsPath a q xs es q → watch q ≡ Some ls → (met (marks_of es) a.formula ≡ true) ↔ PassesAll ls es
  pub never : (q : ℕ) (xs : List NameSet) (es : List LabelledEdge) → 0 < length es → IsPath a q xs es q → watch q ≡ None → met (marks_of es) a.formula ≡ true → ⊥

-- a level is passed where an edge meets it
passed_on : (ls : List Literal) (level : ℕ) (es : List LabelledEdge) → Passes ls level (marks_of es) → met_on ls level es ≡ true
passed_on ls level es passes =
    let edge = from_map (λ (e : LabelledEdge). e.marks) es passes.marks passes.there in
    any_from (λ (e : LabelledEdge). meets_at ls level e.marks) es edge.0 edge.1 (ap (meets_at ls level) edge.2 ∙ passes.meets)

on_passed : (ls : List Literal) (level : ℕ) (es : List LabelledEdge) → met_on ls level es ≡ true → Passes ls level (marks_of es)
on_passed ls level es met =
    let found = any_found (λ (e : LabelledEdge). meets_at ls level e.marks) es met in
    record { marks = found.0.marks; there = there_map (λ (e : LabelledEdge). e.marks) es found.0 found.1; meets = found.2 }

round_below : (ls : List Literal) (level : ℕ) (es : List LabelledEdge) → level < literal_places ls → turn ls level es < literal_places ls
round_below ls level [] below = below
round_below ls level (e ∷ es) below = round_below ls (level_after (Some ls) level e.marks) es (turn_below ls level e.marks below)

-- some rounds of a cycle that begin and end at one level, and have the mark
record ClosedRounds (ls : List Literal) (level : ℕ) (es : List LabelledEdge) : Type 0 where
  before : ℕ
  cycle_rounds : ℕ
  positive : 0 < cycle_rounds
  back : turn ls (turn ls level (copies before es)) (copies cycle_rounds es) ≡ turn ls level (copies before es)
  mark : marked ls (turn ls level (copies before es)) (copies cycle_rounds es) ≡ true

closed_rounds : (ls : List Literal) (level : ℕ) (es : List LabelledEdge) → level < literal_places ls → PassesAll ls es → ClosedRounds ls level es
closed_rounds ls level es below passes =
    let found = pigeons (literal_places ls) (λ i. turn ls level (copies i es)) (suc (literal_places ls)) (omega arith) (λ i within. round_below ls level (copies i es) below) in
    let later = found.later in
    let cycle_rounds : ℕ = found.second - found.first in
    let all : found.first + cycle_rounds ≡ found.second = omega arith in
    let some : 0 < cycle_rounds = omega arith in
    let at : ℕ = turn ls level (copies found.first es) in
    let here : at < literal_places ls = round_below ls level (copies found.first es) below in
    let back : turn ls at (copies cycle_rounds es) ≡ at = sym (turn_then ls level (copies found.first es) (copies cycle_rounds es))
    ∙ (ap (turn ls level) (sym (copies-add found.first cycle_rounds es) ∙ ap (λ n. copies n es) all) ∙ sym found.same) in
    let met : met_on ls at (copies cycle_rounds es) ≡ true = any-copies (λ (e : LabelledEdge). meets_at ls at e.marks) cycle_rounds es some ∙ passed_on ls at es (passes at here) in
    record {
      before = found.first;
      cycle_rounds = cycle_rounds;
      positive = some;
      back = back;
      mark = elim (cases_Bool (marked ls at (copies cycle_rounds es))) [
        | inl there ↦ there
        | inr none ↦ absurd (false≢true (sym ((rises ls at (copies cycle_rounds es) here none).still back) ∙ met))
      ];
    }

module _ (k : ℕ) (watch : ℕ → Watch) (a : Automaton) (has : HasRoom k watch a) (asks : AsksFor watch a) where
  -- the cycle of a run of which the end waits for these literals
  by_levels_at : (u v : List NameSet) (r : Accepts a u v) (ls : List Literal) → watch r.state ≡ Some ls → Accepts (with_counters k watch a) u v
  by_levels_at u v r ls waits =
      let start_below : 0 < levels (watch r.start) = some_level (watch r.start) in
      let level : ℕ = end_level watch 0 r.path_edges in
      let below : level < literal_places ls = subst (λ (w : Watch). level < levels w) waits
      (end_below k watch a has r.start r.state 0 (u ++ copies r.stem_rounds v) r.path_edges start_below r.leads) in
      let some = some_edges a r.state r.state r.cycle_rounds v r.cycle r.endless r.positive r.returns in
      let passes = (asks.waits r.state ls (copies r.cycle_rounds v) r.cycle some r.returns waits).0 r.meets in
      let closed = closed_rounds ls level r.cycle below passes in
      let i = closed.before in
      let d = closed.cycle_rounds in
      let round = path_copies a r.state i (copies r.cycle_rounds v) r.cycle r.returns in
      let again = path_copies a r.state d (copies r.cycle_rounds v) r.cycle r.returns in
      let along = waits_along k watch a has r.state r.state (copies i (copies r.cycle_rounds v)) (copies i r.cycle) ls round waits in
      let along_again = waits_along k watch a has r.state r.state (copies d (copies r.cycle_rounds v)) (copies d r.cycle) ls again waits in
      let at : ℕ = turn ls level (copies i r.cycle) in
      let path_edges : List LabelledEdge = r.path_edges ++ copies i r.cycle in
      let ends : end_level watch 0 path_edges ≡ at = end_then watch 0 r.path_edges (copies i r.cycle) ∙ end_is_turn watch ls level (copies i r.cycle) along in
      let ends_again : end_level watch at (copies d r.cycle) ≡ at = end_is_turn watch ls at (copies d r.cycle) along_again ∙ closed.back in
      let at_below : at < levels (watch r.state) = subst (λ (w : Watch). at < levels w) (sym waits) (round_below ls level (copies i r.cycle) below) in
      let word : (u ++ copies r.stem_rounds v) ++ copies i (copies r.cycle_rounds v) ≡ u ++ copies (r.stem_rounds + i * r.cycle_rounds) v =
      ap (λ (w : List NameSet). (u ++ copies r.stem_rounds v) ++ w) (copies-copies i r.cycle_rounds v) ∙ gone_on u v r.stem_rounds (i * r.cycle_rounds) in
      let leads : IsPath a r.start (u ++ copies (r.stem_rounds + i * r.cycle_rounds) v) path_edges r.state =
      subst (λ (w : List NameSet). IsPath a r.start w path_edges r.state) word
      (path_join a r.start r.state r.state (u ++ copies r.stem_rounds v) (copies i (copies r.cycle_rounds v)) r.path_edges (copies i r.cycle) r.leads round) in
      let returns : IsPath a r.state (copies (d * r.cycle_rounds) v) (copies d r.cycle) r.state =
      subst (λ (w : List NameSet). IsPath a r.state w (copies d r.cycle) r.state) (copies-copies d r.cycle_rounds v) again in
      let walk_leads = walk_path k watch a has r.start r.state 0 (u ++ copies (r.stem_rounds + i * r.cycle_rounds) v) path_edges start_below leads in
      let walk_returns = walk_path k watch a has r.state r.state at (copies (d * r.cycle_rounds) v) (copies d r.cycle) at_below returns in
      record {
        endless = r.endless;
        start = state_at k r.start 0;
        state = state_at k r.state at;
        stem_rounds = r.stem_rounds + i * r.cycle_rounds;
        cycle_rounds = d * r.cycle_rounds;
        path_edges = walk k watch 0 path_edges;
        cycle = walk k watch at (copies d r.cycle);
        is_start = there_map (λ start. state_at k start 0) a.starts r.start r.is_start;
        leads = subst (λ (l : ℕ). IsPath (with_counters k watch a) (state_at k r.start 0) (u ++ copies (r.stem_rounds + i * r.cycle_rounds) v) (walk k watch 0 path_edges)
            (state_at k r.state l)) ends walk_leads;
        positive = mul-lt 0 0 d r.cycle_rounds closed.positive r.positive;
        returns = subst (λ (l : ℕ). IsPath (with_counters k watch a) (state_at k r.state at) (copies (d * r.cycle_rounds) v) (walk k watch at (copies d r.cycle)) (state_at k r.state l)) ends_again
            walk_returns;
        meets = marks_are_marked k watch ls at (copies d r.cycle) along_again ∙ closed.mark;
      }

  by_levels : (u v : List NameSet) → Accepts a u v → Accepts (with_counters k watch a) u v
  by_levels u v r = by_watch (watch r.state) refl
    where
      by_watch : (w : Watch) → w ≡ watch r.state → Accepts (with_counters k watch a) u v
      by_watch None is = absurd (asks.never r.state (copies r.cycle_rounds v) r.cycle (some_edges a r.state r.state r.cycle_rounds v r.cycle r.endless r.positive r.returns) r.returns (sym is) r.meets)
      by_watch (Some ls) is = by_levels_at u v r ls (sym is)

  from_levels : (u v : List NameSet) → Accepts (with_counters k watch a) u v → Accepts a u v
  from_levels u v r =
      let start = from_map (λ start. state_at k start 0) a.starts r.start r.is_start in
      let path_edges = walked k watch a has start.0 0 (u ++ copies r.stem_rounds v) r.path_edges r.state (some_level (watch start.0))
      (subst (λ (s : ℕ). IsPath (with_counters k watch a) s (u ++ copies r.stem_rounds v) r.path_edges r.state) (sym start.2) r.leads) in
      let level : ℕ = end_level watch 0 path_edges.edges in
      let below : level < levels (watch path_edges.end) = end_below k watch a has start.0 path_edges.end 0 (u ++ copies r.stem_rounds v) path_edges.edges (some_level (watch start.0))
      path_edges.path in
      let cycle = walked k watch a has path_edges.end level (copies r.cycle_rounds v) r.cycle r.state below
      (subst (λ (s : ℕ). IsPath (with_counters k watch a) s (copies r.cycle_rounds v) r.cycle r.state) path_edges.at r.returns) in
      let after = end_below k watch a has path_edges.end cycle.end level (copies r.cycle_rounds v) cycle.edges below cycle.path in
      let places = same_from_place cycle.end (end_level watch level cycle.edges) path_edges.end level k (omega (arith, after, has.room cycle.end)) (omega (arith, below, has.room path_edges.end))
      (sym cycle.at ∙ path_edges.at) in
      let returns : IsPath a path_edges.end (copies r.cycle_rounds v) cycle.edges path_edges.end = subst (λ (q : ℕ). IsPath a path_edges.end (copies r.cycle_rounds v) cycle.edges q) places.0
      cycle.path in
      let marks : list_any (is_in 0) (marks_of (walk k watch level cycle.edges)) ≡ true = ap (λ (es : List LabelledEdge). list_any (is_in 0) (marks_of es)) (sym cycle.is) ∙ r.meets in
      let waits = marked_waits k watch a has path_edges.end path_edges.end level (copies r.cycle_rounds v) cycle.edges returns marks in
      let ls = waits.literals in
      let along = waits_along k watch a has path_edges.end path_edges.end (copies r.cycle_rounds v) cycle.edges ls returns waits.is in
      let back : turn ls level cycle.edges ≡ level = sym (end_is_turn watch ls level cycle.edges along) ∙ places.1 in
      let mark : marked ls level cycle.edges ≡ true = sym (marks_are_marked k watch ls level cycle.edges along) ∙ marks in
      let here : level < literal_places ls = subst (λ (w : Watch). level < levels w) waits.is below in
      let some = some_edges a path_edges.end path_edges.end r.cycle_rounds v cycle.edges r.endless r.positive returns in
      let run : LassoRun a u v r.stem_rounds r.cycle_rounds =
      record { start = start.0; state = path_edges.end; path_edges = path_edges.edges; cycle = cycle.edges; is_start = start.1; leads = path_edges.path; returns = returns } in
      accepts_of a u v r.stem_rounds r.cycle_rounds run r.endless r.positive
      ((asks.waits path_edges.end ls (copies r.cycle_rounds v) cycle.edges some returns waits.is).1 (λ j within. on_passed ls j cycle.edges (all_passed ls level cycle.edges here back mark j within)))

  pub levelled_accepts_the_same : AcceptTheSame (with_counters k watch a) a
  levelled_accepts_the_same u v = (from_levels u v, by_levels u v)
