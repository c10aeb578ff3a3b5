use Rattle.std.proofs.Common.{◌∙◌, ◌≡◌, ◌+◌, arith}
use Rattle.std.proofs.lemmas.List.FromFn.{get_or-range_with_len}
use Rattle.aut_base.proofs.marks.number.Goals as goal

pub returns : goal.returns
returns c = let whole : 0 + c.args.number ≡ c.args.number = omega arith in get_or-range_with_len 0 64 c.args.number 0 c.requires ∙ whole
