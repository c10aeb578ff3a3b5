use Rattle.hoa_parser.proofs.plain.Labels.{conjunction_more, one_conjunction}
use Rattle.hoa_parser.proofs.plain.Signs.{found_as}
use Rattle.hoa_parser.proofs.parse.plain.conjunction.Goals as goal

pub returns-in-Some : goal.returns-in-Some
returns-in-Some c = found_as (λ found h. conjunction_more _ found.0 _ _ _ found.1.now c.in_ok-first.ensures c.in-Some.ensures h) c.more_literals.result c.more_literals.ensures

pub returns-in-None : goal.returns-in-None
returns-in-None c = one_conjunction _ _ _ c.in_ok-first.ensures
