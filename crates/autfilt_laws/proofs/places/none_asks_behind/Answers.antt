use Rattle.autfilt_laws.proofs.alike.Asking as laws
use Rattle.autfilt_laws.proofs.places.none_asks_behind.Goals as goal

pub returns : goal.returns
returns c = laws.none_asks_behind
