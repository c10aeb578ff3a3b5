use Rattle.std.proofs.Common.{◌∙◌, ◌==◌, List, All, filter, map, subst, sym}
use Rattle.std.proofs.lemmas.List.Elements.{All-filter, All-weaker}
use Rattle.label_guards.specs.Store.{Has}
use Rattle.aut_core.specs.Surveys.{IsSurvey}
use Rattle.aut_core.specs.SymbolicAutomata.{edge_of}
use Rattle.aut_core.specs.declared.link.Link.{Link}
use Rattle.aut_core.proofs.Growth.{keeps_on}
use Rattle.aut_core.proofs.Rows.{row_indexed}
use Rattle.aut_core.proofs.SurveyedStates.{surveyed_more}
use Rattle.aut_core.proofs.Surveys.{kept_survey}
use Rattle.aut_core.proofs.survey.survey_states.Goals as goal

pub slice_bounds-survey_state-count : goal.slice_bounds-survey_state-count
slice_bounds-survey_state-count c = (row_indexed c.states.state c.at-start.result.now c.at-end.result.now c.requires.rows c.states-test.true (c.at-start.ensures.item 0) (c.at-end.ensures.item 0)).0

pub slice_bounds-survey_state-start : goal.slice_bounds-survey_state-start
slice_bounds-survey_state-start c = (row_indexed c.states.state c.at-start.result.now c.at-end.result.now c.requires.rows c.states-test.true (c.at-start.ensures.item 0) (c.at-end.ensures.item 0)).0

pub survey_state-requires-clause-has : goal.survey_state-requires-clause-has
survey_state-requires-clause-has c =
    let links = c.args.links.now in
    let row = row_indexed c.states.state c.at-start.result.now c.at-end.result.now c.requires.rows c.states-test.true (c.at-start.ensures.item 0) (c.at-end.ensures.item 0) in
    let kept = All-filter (λ (l : Link). l.from == c.states.state) (λ (l : Link). Has c.args.draft.now.now l.guard) links c.requires.has in
    subst (λ (ls : List Link). All (λ l. Has c.states.draft.now l.guard) ls) (sym row.1)
    (All-weaker (λ (l : Link). Has c.args.draft.now.now l.guard) (λ (l : Link). Has c.states.draft.now l.guard) (λ l h. c.states.invariant.keeps.has l.guard h)
    (filter (λ (l : Link). l.from == c.states.state) links) kept)

pub states-preserved : goal.states-preserved
states-preserved c =
    let links = c.args.links.now in
    let old = c.args.draft.now.now in
    let row = row_indexed c.states.state c.at-start.result.now c.at-end.result.now c.requires.rows c.states-test.true (c.at-start.ensures.item 0) (c.at-end.ensures.item 0) in
    let mine = filter (λ (l : Link). l.from == c.states.state) links in
    let has = All-filter (λ (l : Link). l.from == c.states.state) (λ (l : Link). Has old l.guard) links c.requires.has in
    record {
      kept = c.survey_state.ensures.kept ∙ c.states.invariant.kept;
      keeps = keeps_on c.states.invariant.keeps c.survey_state.ensures.keeps;
      surveyed = surveyed_more c.args.names.now old links c.states.state c.states.found c.in_ok-found.found c.states.invariant.surveyed
          (kept_survey c.args.names.now old c.states.draft.now mine c.states.found c.in_ok-found.found c.states.invariant.keeps has
          (subst (λ (ls : List Link). IsSurvey c.args.names.now (map (edge_of c.states.draft.now) ls) c.states.found c.in_ok-found.found) row.1 c.in_ok-found.ensures.found));
    }
