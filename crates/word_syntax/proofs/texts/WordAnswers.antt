-- The answers to a text, from what the parser has read.
use Rattle.std.proofs.Common.{◌≡◌, ◌≢◌, ◌∙◌, ◌<◌, ◌^◌, List, None, Option, Some, Result, Err, drop, length, map, subst, sym, ap, ℕ}
use Rattle.std.proofs.lemmas.Option.{some_pair_parts}
use Rattle.std.specs.Result.{IsErrAnd}
use Rattle.aut_base.proofs.Outcomes.{hands_on}
use Rattle.aut_base.specs.Label.{label_tree}
use Rattle.word_syntax.proofs.texts.FrontTokens.{front_found, front_stands, none_found}
use Rattle.word_syntax.proofs.texts.Midways.{ended_early, stopped_bad, written}
use Rattle.word_syntax.specs.Tokens.{IsWordFront}
use Rattle.word_syntax.specs.Writing.{AnswersWord, IsBadAt, IsNameAtFront, NoNameAtFront, WritesWord, WritesNothing}
use Rattle.word_syntax.specs.inner.Fronts.{front_token}
use Rattle.word_syntax.specs.inner.Reading.{IsThrough, StopsOrGoes}
use Rattle.word_syntax.specs.declared.pattern.Pattern.{Pattern}
use Rattle.word_syntax.specs.declared.pattern.WordFault.{WordFault}
use Rattle.word_syntax.specs.declared.pattern.WordFault.TheVariants.{BadWord, Memory}
use Rattle.word_syntax.specs.declared.stage.Stage.TheVariants.{End}
use Rattle.word_syntax.specs.declared.word.WordReader.{WordReader}
use Rattle.word_syntax.specs.declared.token.Token.{Token}
use Rattle.word_syntax.specs.declared.token.Token.TheVariants as token

fault_said : (text : List ℕ) (reader : WordReader) (f : WordFault) → length text < 2 ^ 32 → StopsOrGoes text reader (Err f) → AnswersWord (Err f) text
fault_said text reader (BadWord k) short s = stopped_bad text k short s
fault_said text reader Memory short s = tt

-- a fault that is passed on
pub passed_on : (text bytes : List ℕ) (reader : WordReader) (r : Result Pattern WordFault) (f : WordFault) → bytes ≡ text → length bytes < 2 ^ 32
    → IsErrAnd r (λ y. y ≡ f) → StopsOrGoes bytes reader (Err f) → AnswersWord r text
passed_on text bytes reader r f is short h s = hands_on r f (λ x. AnswersWord x text) h (subst (AnswersWord (Err f)) is (fault_said bytes reader f short s))

pub word_written : (text bytes : List ℕ) (r : WordReader) → bytes ≡ text → length bytes < 2 ^ 32 → IsThrough bytes r → r.stage ≡ End
    → WritesWord text (record { names = r.names; stem = map label_tree r.stem; cycle = map label_tree r.cycle })
word_written text bytes r is short t e = let P : List ℕ
    → Type 0 = λ x. WritesWord x (record { names = r.names; stem = map label_tree r.stem; cycle = map label_tree r.cycle }) in subst P is (written bytes r short t e)

pub word_ended : (text bytes : List ℕ) (r : WordReader) → bytes ≡ text → length bytes < 2 ^ 32 → IsThrough bytes r → r.stage ≢ End → IsBadAt text (length bytes) × WritesNothing text
word_ended text bytes r is short t e =
    let P : List ℕ → Type 0 = λ x. IsBadAt x (length bytes) × WritesNothing x in
    subst P is (ended_early bytes r short t e)

-- a single name
pub name_found : (text bytes : List ℕ) (o : Option (Token × ℕ)) (t : Token) (name : List ℕ) (size : ℕ) → bytes ≡ text → o ≡ front_token bytes → o ≡ Some (t, size) → t ≡ token.Name name
    → IsNameAtFront text name size
name_found text bytes o t name size is found some e =
    let f = front_found text t size (ap front_token (sym is) ∙ (sym found ∙ some)) in
    let P : Token → Type 0 = λ x. IsWordFront text x (drop size text) in
    record { within = f.within; front = subst P e f.front }

pub no_name : (text bytes : List ℕ) (o : Option (Token × ℕ)) (t : Token) (size : ℕ) → bytes ≡ text → o ≡ front_token bytes → o ≡ Some (t, size) → ((name : List ℕ) → t ≡ token.Name name → ⊥)
    → NoNameAtFront text
no_name text bytes o t size is found some other name rest f =
    let x = front_stands text (token.Name name) rest f in
    let same = some_pair_parts (token.Name name) t x.size size (sym x.found ∙ (ap front_token (sym is) ∙ (sym found ∙ some))) in
    other name (sym same.0)

pub no_token_no_name : (text bytes : List ℕ) (o : Option (Token × ℕ)) → bytes ≡ text → o ≡ front_token bytes → o ≡ None → NoNameAtFront text
no_token_no_name text bytes o is found none name rest f = none_found text (ap front_token (sym is) ∙ (sym found ∙ none)) (token.Name name) rest f
