use Rattle.parity_laws.proofs.letters.Moves as law
use Rattle.parity_laws.proofs.language.well_formed_is_buchi.Goals as goal

pub returns : goal.returns
returns c = law.well_formed_is_buchi
