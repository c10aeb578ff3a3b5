use Rattle.hoa_reader.proofs.description.WellFormed.{valid_is_well_formed}
use Rattle.hoa_reader.proofs.validity.ValidityLaws as validity
use Rattle.hoa_reader.proofs.laws.describing_laws.Goals as goal

pub returns : goal.returns
returns c = record { one_first = validity.one_first; none_first = validity.none_first; well_formed = valid_is_well_formed }
