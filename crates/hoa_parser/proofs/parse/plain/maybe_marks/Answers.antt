use Rattle.hoa_parser.proofs.plain.Edges.{no_marks, some_marks}
use Rattle.hoa_parser.proofs.plain.Signs.{found_as}
use Rattle.hoa_parser.proofs.parse.plain.maybe_marks.Goals as goal

pub returns-in-Some : goal.returns-in-Some
returns-in-Some c = found_as (λ found h. some_marks found.0 _ _ found.1.now c.in-Some.ensures h) c.marks.result c.marks.ensures

pub returns-in-None : goal.returns-in-None
returns-in-None c = no_marks _ _ c.new.ensures
