use Rattle.std.proofs.Common.{◌∙◌, sym}
use Rattle.hoa_parser.specs.Raw.{has_bit}
use Rattle.hoa_reader.proofs.labels.CubeShapes.{tells_added}
use Rattle.hoa_reader.proofs.elaborate.cube.with_place.Goals as goal

pub returns : goal.returns
returns c ts tells = tells_added c.args.all c.literal_shape.result c.both.result ts c.args.place (has_bit c.args.names c.args.place) (has_bit c.args.values c.args.place)
    (sym (rw c.from.ensures at c.is_set.ensures) ∙ c.if-not-is_set.false) c.both.ensures.props c.both.ensures.plain c.both.ensures.height c.both.ensures.size
    (rw (rw c.from-2.ensures at c.is_set-2.ensures) at c.literal_shape.ensures) tells
