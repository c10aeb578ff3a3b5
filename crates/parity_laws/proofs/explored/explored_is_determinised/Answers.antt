use Rattle.parity_laws.proofs.classes.Explored as law
use Rattle.parity_laws.proofs.explored.explored_is_determinised.Goals as goal

pub returns : goal.returns
returns c = law.explored_is_determinised
