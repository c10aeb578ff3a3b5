-- The laws of canonical labels, as they are stated.
use Rattle.std.proofs.Common.{length}
use Rattle.aut_base.specs.Automaton.{Automaton}
use Rattle.aut_base.specs.Label.{holds_at}
use Rattle.aut_base.specs.LabelLaws.{CanonicalAcceptsTheSame, CanonicalLabelKeepsTruth}
use Rattle.aut_base.specs.Valuation.{truth_on}
use Rattle.aut_base.proofs.canonical.CanonicalAutomata as automata
use Rattle.aut_base.proofs.canonical.CanonicalTruth as labels

pub canonical_label_keeps_truth : CanonicalLabelKeepsTruth
canonical_label_keeps_truth = record {
  anywhere = labels.canonical_label_keeps_truth;
  at_letters = λ names t letter below. labels.canonical_label_keeps_truth (length names) t (holds_at names letter) below;
  on_valuations = λ n t v long. labels.truth_on-label_of n (truth_on t) v long;
}

pub canonical_accepts_the_same : (a : Automaton) → CanonicalAcceptsTheSame a
canonical_accepts_the_same a = record {
  accepts = automata.canonical_accepts_the_same a;
  well_formed = automata.canonical_is_well_formed a;
  settled = automata.canonical-twice a;
}
