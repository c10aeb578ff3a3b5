-- Groups in conditions.
use Rattle.std.proofs.Common.{◌≤◌, ℕ, suc, [], ◌∷◌, ◌++◌}
use Rattle.aut_base.specs.declared.formula.Formula.{Formula}
use Rattle.aut_base.specs.declared.limit.TheConstants.{MOST_DEPTH}
use Rattle.hoa_lexer.specs.declared.token.Token.TheVariants as token
use Rattle.hoa_parser.proofs.reading.FrontParts.{passed_then}
use Rattle.hoa_parser.proofs.reading.Steps.{Read}
use Rattle.hoa_parser.specs.Phrases.{condition_group, condition_tokens}
use Rattle.hoa_parser.specs.inner.Parsing.{Cursor}
use Rattle.hoa_parser.specs.inner.RuleReads.{IsCondition, IsFatom}

-- "(" formula ")"
pub group_of : (depth : ℕ) (l : Formula) (a b c d : Cursor) → suc depth ≤ MOST_DEPTH → Read token.LeftParen a b → IsCondition (suc depth) l b c → Read token.RightParen c d → IsFatom depth l a d
group_of depth l a b c d room opens one close = record {
  phrase = condition_group one.phrase;
  within = (room, one.within);
  passed = passed_then a b d (token.LeftParen ∷ []) (condition_tokens one.phrase ++ token.RightParen ∷ []) opens
      (passed_then b c d (condition_tokens one.phrase) (token.RightParen ∷ []) one.passed close);
  means = one.means;
}
