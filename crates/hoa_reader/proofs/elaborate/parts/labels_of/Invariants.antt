use Rattle.std.proofs.Common.{◌≡◌, map, take}
use Rattle.hoa_parser.specs.Raw.{written_state}
use Rattle.hoa_reader.specs.Validity.{body_labels}
use Rattle.hoa_reader.specs.inner.PickedOut.{label_refs}
use Rattle.hoa_reader.proofs.elaborate.parts.labels_of.Given as goal

abbrev pub invariant-states : goal.invariant-states
invariant-states l = map label_refs l.labels.items ≡ body_labels (map written_state (take l.state-index l.states))
