use Rattle.std.proofs.Common.{◌≡◌, ◌∙◌, List, ℕ, Err, subst}
use Rattle.filter_plan.specs.Table.{IsPattern}
use Rattle.word_syntax.specs.Writing.{AnswersWord, word_pattern}
use Rattle.word_syntax.specs.declared.pattern.Pattern.{Pattern}
use Rattle.word_syntax.specs.declared.pattern.WordFault.{WordFault}
use Rattle.word_syntax.specs.declared.pattern.WordFault.TheVariants.{BadWord}
use Rattle.filter_plan.proofs.pattern.PatternOptionValue.read.Goals as goal

refused : (text spelled : List ℕ) (fault : WordFault) (k : ℕ) → spelled ≡ text → fault ≡ BadWord k → AnswersWord (Err fault) spelled → (p : Pattern) → IsPattern text p → ⊥
refused text spelled fault k same is answers p writes = (subst (λ f. AnswersWord (Err f) text) is (subst (AnswersWord (Err fault)) same answers)).1 (word_pattern p) writes

pub returns-in-Err-BadWord-clause-usage : goal.returns-in-Err-BadWord-clause-usage
returns-in-Err-BadWord-clause-usage c _ =
    refused c.args.text.now c.in_ok-word.word c.in-Err-BadWord.field-0 c.in-Err-BadWord.field-0-0 (c.in_ok-word.ensures ∙ c.as_bytes.ensures.value) c.in-Err-BadWord.field-0-is c.in-Err-BadWord.ensures
