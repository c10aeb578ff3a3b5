use Rattle.autfilt_laws.proofs.alike.PlaceExamples as examples
use Rattle.autfilt_laws.proofs.places.place_examples.Goals as goal

pub returns : goal.returns
returns c = examples.what_is_left
