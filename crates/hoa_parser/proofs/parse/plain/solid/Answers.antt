use Rattle.std.proofs.Common.{sym, ◌∙◌}
use Rattle.hoa_lexer.proofs.next_token.Fronts.{skip_space, skips_none}
use Rattle.hoa_parser.proofs.parse.plain.solid.Goals as goal

pub blanks-init : goal.blanks-init
blanks-init c = skips_none c.args.bytes.now

pub blanks-preserved : goal.blanks-preserved
blanks-preserved c = skip_space c.in-Some.first c.args.bytes.now c.blanks.left.now c.in-Some.rest.now (sym c.is_space.ensures ∙ c.if-not-is_space.false) c.in-Some.ensures c.blanks.invariant
