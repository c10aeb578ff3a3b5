use Rattle.hoa_parser.proofs.plain.Labels.{grouped}
use Rattle.hoa_parser.proofs.parse.plain.group.Goals as goal

pub returns : goal.returns
returns c = grouped _ _ _ _ c.in_ok-label.ensures c.in_ok-left.ensures
