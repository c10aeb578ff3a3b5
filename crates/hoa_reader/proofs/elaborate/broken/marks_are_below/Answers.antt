use Rattle.std.proofs.Common.{◌∙◌, ap, nat_le, sym}
use Rattle.hoa_parser.specs.Raw.{written}
use Rattle.hoa_reader.proofs.counting.BodySums.{body_marks}
use Rattle.hoa_reader.specs.declared.elaborate.sums.Sums.{Sums}
use Rattle.hoa_reader.proofs.elaborate.broken.marks_are_below.Goals as goal

pub returns : goal.returns
returns c =
    let w = written c.args.raw.now in
    ap (nat_le c.args.parts.now.sums.marks) c.from.ensures ∙ (ap (λ (s : Sums). nat_le s.marks c.args.sets) c.requires.sums ∙ sym (body_marks _ c.args.sets w.states))
