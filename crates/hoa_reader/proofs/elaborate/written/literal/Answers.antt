use Rattle.std.proofs.lemmas.Result.{IfOk-weaker}
use Rattle.hoa_reader.proofs.labels.WrittenGuards.{literal_alone}
use Rattle.hoa_reader.proofs.elaborate.written.literal.Goals as goal

pub returns-clause-guard : goal.returns-clause-guard
returns-clause-guard c =
    IfOk-weaker c.and_literal.result _ _ (λ g is. literal_alone _ _ c.args.prop c.args.holds _ g c.always-all.ensures is) c.and_literal.ensures.and
