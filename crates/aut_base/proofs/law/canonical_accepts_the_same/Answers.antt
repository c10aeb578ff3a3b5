use Rattle.aut_base.proofs.canonical.LabelLaws as law
use Rattle.aut_base.proofs.law.canonical_accepts_the_same.Goals as goal

pub returns : goal.returns
returns c = law.canonical_accepts_the_same
