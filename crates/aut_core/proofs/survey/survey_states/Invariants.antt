use Rattle.std.proofs.Common.{◌≡◌, map}
use Rattle.label_guards.specs.Store.{Keeps}
use Rattle.aut_core.specs.SymbolicAutomata.{edge_of}
use Rattle.aut_core.specs.Surveys.{AreSurveyed}
use Rattle.aut_core.proofs.survey.survey_states.Given as goal

abbrev pub invariant-states : goal.invariant-states
invariant-states l = record {
  kept : l.draft.kept ≡ l.fn.draft.kept;
  keeps : Keeps l.fn.draft.now l.draft.now;
  surveyed : AreSurveyed l.names (map (edge_of l.fn.draft.now) l.links) l.state l.found;
}
