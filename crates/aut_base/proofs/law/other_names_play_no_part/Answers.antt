use Rattle.aut_base.proofs.canonical.CanonicalAutomata as automata
use Rattle.aut_base.proofs.law.other_names_play_no_part.Goals as goal

pub returns : goal.returns
returns c = automata.other_names_play_no_part
