use Rattle.std.proofs.Common.{◌∙◌, List, ap, map, nat_lt, sym}
use Rattle.hoa_parser.specs.Raw.{written, written_state}
use Rattle.hoa_parser.specs.declared.raw.RawState.{RawState}
use Rattle.hoa_reader.proofs.counting.BodySums.{capped_passes}
use Rattle.hoa_reader.proofs.counting.PlainLabels.{body_counts}
use Rattle.hoa_reader.specs.declared.elaborate.sums.Sums.{Sums}
use Rattle.hoa_reader.specs.inner.Weighing.{states_counted}
use Rattle.hoa_reader.proofs.elaborate.limits.is_heavy.Goals as goal

pub returns-then-parts : goal.returns-then-parts
returns-then-parts c =
    let w = written c.args.raw.now in
    let sums = c.requires.parts.sums in
    let plain = sym (ap (λ (s : Sums). s.plain) sums) ∙ c.if-parts.true in
    let counts = body_counts c.args.known.now _ w.states plain ∙ sym (ap (λ (s : Sums). s.weight) sums) in
    capped_passes c.args.most (states_counted c.args.known.now w.states) c.args.parts.now.sums.weight c.requires.most counts

pub returns : goal.returns
returns c = c.are_heavy.ensures ∙ ap (λ (ss : List RawState). nat_lt c.args.most (states_counted c.args.known.now (map written_state ss))) c.as_slice.ensures
