use Rattle.aut_base.specs.Label.{label_tree}
use Rattle.label_guards.proofs.labelled.LabelTruth.{canonical_at}
use Rattle.label_guards.proofs.guards.Guards.of_label.Goals as goal

pub returns-clause-label : goal.returns-clause-label
returns-clause-label c = canonical_at c.place_of.ensures.grows (label_tree c.args.label.now) _ c.in_ok-place.ensures.place
