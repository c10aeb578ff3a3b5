use Rattle.std.proofs.Common.{◌<◌, ◌^◌, arith, length}
use Rattle.std.proofs.lemmas.List.{length-map}
use Rattle.aut_base.specs.Label.{label_tree}
use Rattle.word_syntax.proofs.matching.BelowNames.{cycle_below, some_cycle, stem_below}
use Rattle.word_syntax.proofs.texts.WordAnswers.{passed_on, word_ended, word_written}
use Rattle.word_syntax.proofs.read.read_word.Goals as goal

pub returns-in_err-read_tokens : goal.returns-in_err-read_tokens
returns-in_err-read_tokens c =
    passed_on c.args.text.now c.as_bytes-bytes.result.now c.read_tokens.new.reader c.from_residual.result c.in_err-read_tokens.field-0.0 c.as_bytes-bytes.ensures (omega arith)
    c.from_residual.ensures.1 c.in_err-read_tokens.ensures

pub invariant_of-result : goal.invariant_of-result
invariant_of-result c =
    let short : length c.as_bytes-bytes.result.now < 2 ^ 32 = omega arith in
    let through = c.in_ok-read_tokens.ensures in
    let w = word_written c.args.text.now c.as_bytes-bytes.result.now c.read_tokens.new.reader c.as_bytes-bytes.ensures short through c.in-End.is in
    record {
      goes_on = omega (arith, some_cycle w.tokens _ w.word, length-map c.read_tokens.new.reader.cycle label_tree);
      few = omega (arith, through.few_letters);
      stem_below = stem_below w.tokens _ w.word;
      cycle_below = cycle_below w.tokens _ w.word;
    }

pub returns-in-End : goal.returns-in-End
returns-in-End c = word_written c.args.text.now c.as_bytes-bytes.result.now c.read_tokens.new.reader c.as_bytes-bytes.ensures (omega arith) c.in_ok-read_tokens.ensures c.in-End.is

pub returns : goal.returns
returns c = word_ended c.args.text.now c.as_bytes-bytes.result.now c.read_tokens.new.reader c.as_bytes-bytes.ensures (omega arith) c.in_ok-read_tokens.ensures c.in_default.not-End
