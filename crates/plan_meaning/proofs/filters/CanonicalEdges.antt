-- A letter meets an edge exactly where it meets that with the canonical label.
use Rattle.std.proofs.Common.{◌≡◌, Contains, length}
use Rattle.std.proofs.lemmas.List.Elements.{All-contains}
use Rattle.aut_base.proofs.canonical.CanonicalAutomata.{relabelled}
use Rattle.aut_base.proofs.canonical.CanonicalTruth.{canonical_label_keeps_truth}
use Rattle.aut_base.specs.Automaton.{Automaton, LabelledEdge}
use Rattle.aut_base.specs.Label.{AllBelow, holds_at}
use Rattle.aut_base.specs.LabelLaws.{LabelsBelow}
use Rattle.aut_base.specs.Word.{NameSet}
use Rattle.aut_core.specs.Deterministic.{is_met}

abbrev pub settled : Automaton → LabelledEdge → LabelledEdge
settled a = relabelled (length a.names)

-- a letter meets an edge under both labels
pub same_met : (a : Automaton) (e : LabelledEdge) (letter : NameSet) → LabelsBelow a → Contains a.edges e → is_met a.names letter (settled a e) ≡ is_met a.names letter e
same_met a e letter below there = canonical_label_keeps_truth (length a.names) e.label (holds_at a.names letter) (All-contains (λ d. AllBelow (length a.names) d.label) a.edges e below there)
