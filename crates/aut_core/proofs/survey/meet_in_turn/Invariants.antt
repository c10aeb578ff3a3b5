use Rattle.std.proofs.Common.{◌≡◌, take}
use Rattle.std.specs.List.{list_any}
use Rattle.label_guards.specs.Guards.{IsGuardOf, truth_in}
use Rattle.label_guards.specs.Store.{Keeps}
use Rattle.aut_core.proofs.survey.meet_in_turn.Given as goal

abbrev pub invariant-links : goal.invariant-links
invariant-links l = record {
  kept : l.draft.kept ≡ l.fn.draft.kept;
  keeps : Keeps l.fn.draft.now l.draft.now;
  guard : IsGuardOf l.draft.now (λ on. list_any (λ x. truth_in l.fn.draft.now x.guard on) (take l.link-index l.links)) l.guard;
}
