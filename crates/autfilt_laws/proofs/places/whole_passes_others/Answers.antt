use Rattle.autfilt_laws.proofs.alike.AtBytes as laws
use Rattle.autfilt_laws.proofs.places.whole_passes_others.Goals as goal

pub returns : goal.returns
returns c = laws.whole_passes_others
