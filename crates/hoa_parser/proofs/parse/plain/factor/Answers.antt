use Rattle.hoa_parser.proofs.plain.Labels.{group_factor}
use Rattle.hoa_parser.proofs.plain.Signs.{found_as}
use Rattle.hoa_parser.proofs.parse.plain.factor.Goals as goal

pub returns-in-Some : goal.returns-in-Some
returns-in-Some c = found_as (λ found h. group_factor found.0 _ _ found.1.now c.in-Some.ensures h) c.group.result c.group.ensures
