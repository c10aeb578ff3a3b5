use Rattle.std.proofs.Common.{◌+◌, ◌≤◌, arith, length}
use Rattle.word_syntax.proofs.texts.NextTokens.{blank_bound, found_next, found_nothing}
use Rattle.word_syntax.proofs.next.next_token.Goals as goal

pub overflow_add-start : goal.overflow_add-start
overflow_add-start c =
    let bound : c.args.at + c.blanks.result ≤ length c.args.bytes.now = blank_bound c.args.bytes.now c.from.result.now c.args.at c.blanks.result c.requires c.from.ensures c.blanks.ensures in
    omega arith

pub from-requires-2 : goal.from-requires-2
from-requires-2 c = blank_bound c.args.bytes.now c.from.result.now c.args.at c.blanks.result c.requires c.from.ensures c.blanks.ensures

pub overflow_add-result : goal.overflow_add-result
overflow_add-result c =
    let next = found_next c.args.bytes.now c.from.result.now c.from-2.result.now c.args.at c.blanks.result c.in-Some.token c.in-Some.size c.in_ok-token.field-0 c.requires c.from.ensures
    c.blanks.ensures c.from-2.ensures c.in_ok-token.ensures c.in-Some.is in
    omega (arith, next.within)

pub returns-in-Some : goal.returns-in-Some
returns-in-Some c = found_next c.args.bytes.now c.from.result.now c.from-2.result.now c.args.at c.blanks.result c.in-Some.token c.in-Some.size c.in_ok-token.field-0 c.requires c.from.ensures
    c.blanks.ensures c.from-2.ensures c.in_ok-token.ensures c.in-Some.is

pub returns-in-None : goal.returns-in-None
returns-in-None c = found_nothing c.args.bytes.now c.from.result.now c.from-2.result.now c.args.at c.blanks.result c.in_ok-token.field-0 c.requires c.from.ensures c.blanks.ensures
    c.from-2.ensures c.in_ok-token.ensures c.in-None.is
