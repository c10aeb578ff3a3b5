-- Conjunctions of labels, in canonical form, and whether a label is satisfiable.
use Rattle.std.specs.Prelude.{ℕ, Bool, not, ◌&&◌}
use Rattle.std.specs.List.{list_all}
use Rattle.aut_base.specs.CanonicalLabel.{label_of_truth}
use Rattle.aut_base.specs.Label.{LabelTree}
use Rattle.aut_base.specs.Valuation.{truth_on, valuations}

-- the label over n propositions is unsatisfiable
abbrev pub is_never : ℕ → LabelTree → Bool
is_never n t = list_all (λ v. not (truth_on t v)) (valuations n)

-- the label that is true where both are
abbrev pub both_labels : ℕ → LabelTree → LabelTree → LabelTree
both_labels n t u = label_of_truth n (λ v. truth_on t v && truth_on u v)
