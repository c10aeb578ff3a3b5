use Rattle.std.proofs.Common.{◌++◌, ap, sym, ◌∙◌, append_assoc, arith}
use Rattle.made_stream.specs.inner.Parts.{behind_part, ring_part_text, rings_behind}
use Rattle.made_stream.specs.declared.made.place.Part.TheVariants.{Head}
use Rattle.made_stream.proofs.Rings.{part_not_empty, ring_by_parts}
use Rattle.made_stream.proofs.made.place.Place.first.Goals as goal

pub invariant_of-result : goal.invariant_of-result
invariant_of-result c = record { few = c.requires.few; in_ring = omega arith; within = part_not_empty _ _ _ }

pub returns : goal.returns
returns c count =
    sym (append_assoc (ring_part_text c.args.ring 0 Head) (behind_part c.args.ring 0 Head) (rings_behind count c.args.ring))
    ∙ ap (λ t. t ++ rings_behind count c.args.ring) (ring_by_parts c.args.ring (omega arith))
