use Rattle.std.proofs.Common.{◌∙◌, ap, arith, length, sym}
use Rattle.aut_base.specs.declared.limit.TheConstants.{MOST_EDGES}
use Rattle.hoa_parser.specs.Raw.{written}
use Rattle.hoa_reader.proofs.counting.BodySums.{body_edges, capped_passes}
use Rattle.hoa_reader.specs.declared.elaborate.sums.Sums.{Sums}
use Rattle.hoa_reader.specs.inner.Weighing.{all_edges}
use Rattle.hoa_reader.proofs.elaborate.limits.has_more_edges.Goals as goal

pub returns : goal.returns
returns c =
    let w = written c.args.raw.now in
    capped_passes MOST_EDGES (length (all_edges w.states)) c.args.parts.now.sums.edges (omega arith) (body_edges _ w.states ∙ sym (ap (λ (s : Sums). s.edges) c.requires.sums))
