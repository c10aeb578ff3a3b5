use Rattle.aut_base.proofs.canonical.LabelLaws as law
use Rattle.aut_base.proofs.law.canonical_label_keeps_truth.Goals as goal

pub returns : goal.returns
returns c = law.canonical_label_keeps_truth
