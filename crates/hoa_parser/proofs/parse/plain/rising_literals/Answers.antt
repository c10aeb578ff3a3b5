use Rattle.hoa_parser.proofs.plain.Labels.{cube_more}
use Rattle.hoa_parser.proofs.plain.Signs.{found_as}
use Rattle.hoa_parser.proofs.parse.plain.rising_literals.Goals as goal

pub returns : goal.returns
returns c = found_as (λ found h. cube_more _ _ _ _ _ _ found.0 _ _ found.1.now c.in_ok-place.ensures c.no_literal.ensures.literals c.in_ok-cube.ensures.literals
    c.in_ok-with_literal.ensures.literals c.in_ok-place-2.ensures h) c.rising_behind.result c.rising_behind.ensures
