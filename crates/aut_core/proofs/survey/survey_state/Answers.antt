use Rattle.std.proofs.Common.{◌≡◌, ◌∙◌, ◌↔◌, IsTrue, List, arith, false, length, map, subst, sym}
use Rattle.std.proofs.lemmas.Bool.{eqb-true}
use Rattle.label_guards.specs.Guards.{AreNames, IsGuardOf}
use Rattle.label_guards.specs.Store.{Store}
use Rattle.aut_core.specs.SymbolicAutomata.{edge_of}
use Rattle.aut_core.specs.Surveys.{IsMetAlways, IsSurvey}
use Rattle.aut_core.specs.declared.link.Link.{Link}
use Rattle.aut_core.proofs.Surveys.{met_survey, no_link, none_surveyed}
use Rattle.aut_core.proofs.survey.survey_state.Goals as goal

pub returns-then-is_empty-clause-found : goal.returns-then-is_empty-clause-found
returns-then-is_empty-clause-found c =
    let s : Store = c.args.draft.now.now in
    let none : length c.args.links.now ≡ 0 = eqb-true (length c.args.links.now) 0 (sym c.is_empty.ensures ∙ c.if-is_empty.true) in
    let never = subst (λ (t : Store). IsGuardOf t (λ on. false) c.never-never.result) c.guards.ensures c.never-never.ensures in
    let names = subst (λ (t : Store). AreNames t c.args.names.now) (sym c.guards-then-is_empty.ensures) c.requires.names in
    let exhaustive = subst (λ (t : Store). IsTrue c.survey_met.result.exhaustive ↔ (IsTrue c.args.known.exhaustive × IsMetAlways t c.args.names.now c.never-never.result))
    c.guards-then-is_empty.ensures
    (c.survey_met.ensures.exhaustive c.args.names.now names) in
    subst (λ (ls : List Link). IsSurvey c.args.names.now (map (edge_of s) ls) c.args.known c.survey_met.result) (no_link c.args.links.now (omega (arith, none)))
    (none_surveyed c.args.names.now s c.never-never.result c.args.known c.survey_met.result never c.survey_met.ensures.disjoint exhaustive)

pub returns-clause-found : goal.returns-clause-found
returns-clause-found c =
    let t : Store = c.meet.new.draft.now in
    let met = c.in_ok-met.met in
    let names = subst (λ (s : Store). AreNames s c.args.names.now) (sym c.guards-2.ensures) (c.requires.names.0 ∙ sym c.meet.ensures.keeps.names, c.requires.names.1) in
    let exhaustive = subst (λ (s : Store). IsTrue c.survey_met-2.result.exhaustive ↔ (IsTrue c.args.known.exhaustive × IsMetAlways s c.args.names.now met.guard)) c.guards-2.ensures
    (c.survey_met-2.ensures.exhaustive c.args.names.now names) in
    met_survey c.args.names.now t (map (edge_of c.args.draft.now.now) c.args.links.now) c.args.known c.survey_met-2.result met c.in_ok-met.ensures.met c.survey_met-2.ensures.disjoint exhaustive
