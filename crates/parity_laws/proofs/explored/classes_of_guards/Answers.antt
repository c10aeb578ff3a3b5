use Rattle.parity_laws.proofs.classes.Guards as law
use Rattle.parity_laws.proofs.explored.classes_of_guards.Goals as goal

pub returns : goal.returns
returns c = law.classes_of_guards
