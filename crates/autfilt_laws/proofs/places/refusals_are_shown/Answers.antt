use Rattle.autfilt_laws.proofs.shown.Places.{bad_is_shown, cut_is_shown, deep_is_shown}
use Rattle.autfilt_laws.proofs.places.refusals_are_shown.Goals as goal

pub returns : goal.returns
returns c = record { bad = bad_is_shown; deep = deep_is_shown; cut = cut_is_shown }
