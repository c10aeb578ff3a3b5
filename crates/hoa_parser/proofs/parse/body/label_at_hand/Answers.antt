use Rattle.std.proofs.Common.{◌-◌, ◌<◌, length, refl, ◌∙◌, arith}
use Rattle.hoa_lexer.specs.declared.token.Token.TheVariants as token
use Rattle.hoa_parser.proofs.plain.LabelHere.{label_length, opened_reads}
use Rattle.hoa_parser.proofs.parse.body.label_at_hand.Goals as goal

pub overflow_sub-count : goal.overflow_sub-count
overflow_sub-count g c = omega (arith, label_length _ _ _ c.in_ok-label.ensures)

pub pass-requires-clause-some : goal.pass-requires-clause-some
pass-requires-clause-some g c = omega (arith, label_length _ _ _ c.in_ok-label.ensures)

pub returns-clause-reads : goal.returns-clause-reads
returns-clause-reads g c =
    let some : 0 < length c.ahead-bytes.result.now = omega (arith, label_length _ _ _ c.in_ok-label.ensures) in
    opened_reads c.in_ok-label.label c.ahead-bytes.result.now c.in_ok-label.next.now (g.I.Inputs.at_hand c.args.inputs.now) (length c.ahead-bytes.result.now - length c.in_ok-label.next.now)
    c.args.ahead.now token.RightBracket c.args.lexer.now c.pass.new.self (g.I.Inputs.seen c.args.inputs.now) (g.I.Inputs.seen c.pass.new.inputs) c.in_ok-label.ensures c.requires.opens refl
    (c.ahead-bytes.ensures.unheld some) c.pass.ensures.held c.ahead-bytes.ensures.front refl c.pass.ensures.passes c.pass.ensures.offset c.pass.ensures.moves
    (c.pass.ensures.spent ∙ c.requires.unspent)
