use Rattle.std.proofs.Common.{arith}
use Rattle.word_syntax.proofs.texts.Strings.{string_closes, string_escapes, string_goes_on}
use Rattle.word_syntax.proofs.lexer.unquoted.Goals as goal

pub returns-in-34-clause-value : goal.returns-in-34-clause-value
returns-in-34-clause-value c = string_closes c.args.bytes.now c.bytes.text c.bytes.at c.bytes-test.true c.in-34.is c.bytes.invariant.same

pub bytes-preserved-in-92 : goal.bytes-preserved-in-92
bytes-preserved-in-92 c = record {
  within = omega arith;
  same = string_escapes c.args.bytes.now c.bytes.text c.push.new.self c.bytes.at (omega arith) c.in-92.is c.in_ok-push-in-92.ensures.ok c.bytes.invariant.same;
}

pub bytes-preserved : goal.bytes-preserved
bytes-preserved c = record {
  within = omega arith;
  same = string_goes_on c.args.bytes.now c.bytes.text c.push-in_default.new.self c.bytes.at c.bytes-test.true (λ h. omega arith) (λ h. omega arith) c.in_ok-push-in_default.ensures.ok
      c.bytes.invariant.same;
}
