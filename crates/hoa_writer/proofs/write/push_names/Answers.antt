use Rattle.std.proofs.Common.{arith}
use Rattle.std.proofs.lemmas.Result.{on_ok_weaker}
use Rattle.hoa_writer.proofs.text.JoinedTexts.{names_written}
use Rattle.hoa_writer.proofs.write.push_names.Goals as goal

pub returns : goal.returns
returns c =
    on_ok_weaker c.push-2.result
    (λ e. names_written c.args.names.now c.names.name-index c.args.out.now c.extend.new.self c.push_number.new.out c.names.out _ (omega arith) c.in_ok-extend.ensures.ok
    c.in_ok-push_number.ensures c.names.invariant e)
    c.push-2.ensures.ok
