use Rattle.parity_laws.proofs.directions.Both as law
use Rattle.parity_laws.proofs.language.determinised_accepts_the_same.Goals as goal

pub returns : goal.returns
returns c = law.accepts_the_same
