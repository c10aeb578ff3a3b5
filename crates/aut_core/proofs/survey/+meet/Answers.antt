use Rattle.std.proofs.Common.{◌≡◌, ◌∙◌, ◌++◌, ◌/◌, List, ap, arith, length, map, subst, sym, take}
use Rattle.std.proofs.lemmas.List.{map-append}
use Rattle.aut_base.specs.Automaton.{LabelledEdge}
use Rattle.label_guards.specs.Store.{Store}
use Rattle.aut_core.specs.SymbolicAutomata.{edge_of}
use Rattle.aut_core.specs.Surveys.{IsUnionSurveyed}
use Rattle.aut_core.specs.declared.survey.GuardSurvey.{GuardSurvey}
use Rattle.aut_core.proofs.Growth.{kept_edges, keeps_none, keeps_on}
use Rattle.std.proofs.lemmas.Bool.{not-true}
use Rattle.aut_core.proofs.Surveys.{both_halves, halves_met, in_turn_met, length-rest_of, of_three, of_two, rest_has, rest_of}
use Rattle.aut_core.proofs.survey.+meet.Goals as goal

pub meet-requires-2 : goal.meet-requires-2
meet-requires-2 t c =
    let size = length-rest_of c.args.links.now in
    let keeps = c.meet.ensures.keeps in (
      omega (arith, size, c.decreases, c.requires.some, c.if-links-eq1.false),
      ((c.requires.names.0 ∙ sym keeps.names, c.requires.names.1), (rest_has c.args.links.now keeps c.requires.has, omega (arith, size, c.requires.some))),
    )

pub returns-then-not-known-3-clause-met : goal.returns-then-not-known-3-clause-met
returns-then-not-known-3-clause-met t c =
    let before = not-true c.args.known.disjoint c.if-not-known-3.true in
    of_two c.meet_in_turn.result (λ met. in_turn_met c.args.names.now c.args.draft.now.now c.meet_in_turn.new.draft.now c.args.links.now c.args.known met before) c.meet_in_turn.ensures.disjoint
    c.meet_in_turn.ensures.guard

pub returns-in_err-second-clause-keeps : goal.returns-in_err-second-clause-keeps
returns-in_err-second-clause-keeps t c = keeps_on c.meet.ensures.keeps c.meet-2.ensures.keeps

pub returns-clause-keeps : goal.returns-clause-keeps
returns-clause-keeps t c = keeps_on (keeps_on c.meet.ensures.keeps c.meet-2.ensures.keeps) c.meet_both.ensures.keeps

pub returns-clause-met : goal.returns-clause-met
returns-clause-met t c =
    let links = c.args.links.now in
    let names = c.args.names.now in
    let old : Store = c.args.draft.now.now in
    let s : Store = c.meet.new.draft.now in
    let now : Store = c.meet_both.new.draft.now in
    let front = take (length links / 2) links in
    let rest = rest_of links in
    let asked : GuardSurvey = record { disjoint = c.in_ok-first.first.disjoint; exhaustive = c.args.known.exhaustive } in
    let whole : map (edge_of old) front ++ map (edge_of old) rest ≡ map (edge_of old) links = sym (map-append (edge_of old) front rest) ∙ ap (map (edge_of old)) (both_halves links) in
    let second = subst (λ (es : List LabelledEdge). IsUnionSurveyed names c.meet-2.new.draft.now es asked c.in_ok-second.second)
    (kept_edges rest c.meet.ensures.keeps (rest_has links (keeps_none old) c.requires.has))
    c.in_ok-second.ensures.met in
    of_three c.meet_both.result (λ met has guard disjoint. subst (λ (es : List LabelledEdge). IsUnionSurveyed names now es c.args.known met) whole
    (halves_met names s c.meet-2.new.draft.now now (map (edge_of old) front) (map (edge_of old) rest) c.args.known c.in_ok-first.first c.in_ok-second.second met c.in_ok-first.ensures.met
    c.meet-2.ensures.keeps second has guard disjoint)) c.meet_both.ensures.has c.meet_both.ensures.guard c.meet_both.ensures.disjoint
