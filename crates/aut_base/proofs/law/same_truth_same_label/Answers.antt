use Rattle.aut_base.proofs.canonical.CanonicalLabels as labels
use Rattle.aut_base.proofs.law.same_truth_same_label.Goals as goal

pub returns : goal.returns
returns c = labels.same_truth_same_label
