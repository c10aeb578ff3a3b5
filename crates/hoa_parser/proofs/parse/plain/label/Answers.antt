use Rattle.hoa_parser.proofs.plain.Labels.{label_more, one_label}
use Rattle.hoa_parser.proofs.plain.Signs.{found_as}
use Rattle.hoa_parser.proofs.parse.plain.label.Goals as goal

pub returns-in-Some : goal.returns-in-Some
returns-in-Some c = found_as (λ found h. label_more _ found.0 _ _ _ found.1.now c.in_ok-first.ensures c.in-Some.ensures h) c.more_factors.result c.more_factors.ensures

pub returns-in-None : goal.returns-in-None
returns-in-None c = one_label _ _ _ c.in_ok-first.ensures
