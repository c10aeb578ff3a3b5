use Rattle.hoa_parser.proofs.plain.LabelHere.{label_before}
use Rattle.hoa_parser.proofs.parse.plain.plain_label.Goals as goal

pub returns : goal.returns
returns c = label_before c.in_ok-label.label c.in_ok-sign.sign c.args.bytes.now c.solid.result.now _ _ c.solid.ensures c.in_ok-label.ensures c.in_ok-sign.ensures c.if-sign-ne93.false
