use Rattle.std.proofs.Common.{◌∙◌, ap, map, nat_lt, sym}
use Rattle.aut_base.specs.declared.limit.TheConstants.{MOST_ALIASES}
use Rattle.hoa_parser.specs.Raw.{written}
use Rattle.hoa_reader.proofs.counting.PlainLabels.{body_tall}
use Rattle.hoa_reader.specs.declared.elaborate.sums.Sums.{Sums}
use Rattle.hoa_reader.specs.inner.PickedOut.{label_refs}
use Rattle.hoa_reader.specs.inner.Weighing.{are_tall}
use Rattle.hoa_reader.proofs.elaborate.limits.is_tall.Goals as goal

pub returns-then-parts : goal.returns-then-parts
returns-then-parts c =
    let w = written c.args.raw.now in
    let sums = c.requires.sums in
    let plain = sym (ap (λ (s : Sums). s.plain) sums) ∙ c.if-parts.true in
    ap (λ n. nat_lt n c.args.parts.now.sums.height) c.from.ensures ∙ ap (λ (s : Sums). nat_lt MOST_ALIASES s.height) sums ∙ sym (body_tall c.args.known.now _ w.states plain)

pub returns : goal.returns
returns c = c.are_tall.ensures ∙ ap (are_tall c.args.known.now) (ap (map label_refs) c.deref.ensures.value ∙ c.requires.labels c.if-parts.false)
