use Rattle.std.proofs.Common.{◌∙◌, map, sym}
use Rattle.hoa_reader.proofs.validity.RisingNumbers.{rising_differ}
use Rattle.hoa_reader.specs.inner.PickedOut.{numbers}
use Rattle.hoa_parser.specs.Raw.{written_state}
use Rattle.hoa_reader.proofs.elaborate.rules.numbers_differ.Goals as goal

pub returns-then-rising : goal.returns-then-rising
returns-then-rising c = sym (rising_differ 0 (numbers (map written_state c.args.states.now)) (sym c.requires ∙ c.if-rising.true))
