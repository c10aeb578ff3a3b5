use Rattle.std.proofs.Common.{◌-◌, ◌<◌, length, refl, ap, ◌∙◌, arith}
use Rattle.hoa_lexer.specs.Reading.{held_count}
use Rattle.hoa_parser.proofs.plain.Nexts.{head_length, head_reads, next_some}
use Rattle.hoa_parser.proofs.parse.body.head_at_hand.Goals as goal

pub overflow_sub-count : goal.overflow_sub-count
overflow_sub-count g c = omega (arith, head_length _ _ _ _ c.in_ok-head.ensures)

pub pass_token-requires-clause-some : goal.pass_token-requires-clause-some
pass_token-requires-clause-some g c = omega (arith, head_length _ _ _ _ c.in_ok-head.ensures, next_some c.in_ok-head.next)

pub pass_token-requires-clause-last : goal.pass_token-requires-clause-last
pass_token-requires-clause-last g c = omega (arith, head_length _ _ _ _ c.in_ok-head.ensures, c.size_of.ensures)

pub returns-clause-reads : goal.returns-clause-reads
returns-clause-reads g c =
    let some : 0 < length c.ahead-bytes.result.now = omega (arith, head_length _ _ _ _ c.in_ok-head.ensures, next_some c.in_ok-head.next) in
    head_reads c.in_ok-head.head c.in_ok-head.next c.ahead-bytes.result.now c.in_ok-head.left.now (g.I.Inputs.at_hand c.args.inputs.now)
    (length c.ahead-bytes.result.now - length c.in_ok-head.left.now) c.args.ahead.now _ c.args.lexer.now c.pass_token.new.self (g.I.Inputs.seen c.args.inputs.now)
    (g.I.Inputs.seen c.pass_token.new.inputs) c.in_ok-head.ensures c.requires.begins c.in_ok-put.ensures (c.ahead-bytes.ensures.unheld some) c.pass_token.ensures.held c.ahead-bytes.ensures.front refl
    c.pass_token.ensures.passes (omega (arith, c.pass_token.ensures.offset, c.size_of.ensures)) c.pass_token.ensures.moves (c.pass_token.ensures.spent ∙ c.requires.unspent)

pub returns-clause-uses : goal.returns-clause-uses
returns-clause-uses g c =
    let some : 0 < length c.ahead-bytes.result.now = omega (arith, head_length _ _ _ _ c.in_ok-head.ensures, next_some c.in_ok-head.next) in
    omega (
      arith,
      head_length _ _ _ _ c.in_ok-head.ensures,
      next_some c.in_ok-head.next,
      ap held_count c.pass_token.ensures.held,
      ap held_count (c.ahead-bytes.ensures.unheld some),
      c.pass_token.ensures.taken,
    )
