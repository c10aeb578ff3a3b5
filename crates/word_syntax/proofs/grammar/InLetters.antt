-- The word's parser passes tokens of letters to the letter's parser.
use Rattle.std.proofs.Common.{◌≡◌, ◌∙◌, Bool, List, None, Option, Some, ap, cond, false, refl, true, ℕ}
use Rattle.std.proofs.lemmas.Bool.{cond-true}
use Rattle.std.specs.Option.{option_map}
use Rattle.word_syntax.specs.inner.Chains.{GoesInLetter, TakesToken, letter_state, state_if, word_state}
use Rattle.word_syntax.specs.inner.Machine.{LetterState, WordState, has_letters, is_of_letter, letter_step, with_letter, word_step}
use Rattle.word_syntax.specs.declared.letter.LetterReader.{LetterReader}
use Rattle.word_syntax.specs.declared.token.Token.{Token}
use Rattle.word_syntax.specs.declared.token.Token.TheVariants as token
use Rattle.word_syntax.specs.declared.word.WordReader.{WordReader}

-- the step of the word's parser for a token of a letter
pub in_letter : (place : List ℕ → ℕ) (s : WordState) (t : Token) → is_of_letter t ≡ true
    → word_step place s t ≡ cond (has_letters s.stage) (option_map (with_letter s) (letter_step place s.letter t)) None
in_letter place s token.True e = refl
in_letter place s token.False e = refl
in_letter place s (token.Name name) e = refl
in_letter place s token.Not e = refl
in_letter place s token.And e = refl
in_letter place s token.Or e = refl
in_letter place s token.LeftParen e = refl
in_letter place s token.RightParen e = refl
in_letter place s token.Semicolon e = cc
in_letter place s token.Cycle e = cc
in_letter place s token.LeftBrace e = cc
in_letter place s token.RightBrace e = cc

pub letter_taken : (place : List ℕ → ℕ) (s : WordState) (t : Token) (o : Option LetterState) → is_of_letter t ≡ true → has_letters s.stage ≡ true → letter_step place s.letter t ≡ o
    → word_step place s t ≡ option_map (with_letter s) o
letter_taken place s t o of_letter has step = in_letter place s t of_letter
    ∙ (cond-true (has_letters s.stage) (option_map (with_letter s) (letter_step place s.letter t)) None has ∙ ap (option_map (with_letter s)) step)

-- what the letter's parser does with such a token, the word's does
pub word_takes : (r : WordReader) (t : Token) (names : List (List ℕ)) (letter : LetterReader) (taken : Bool) → is_of_letter t ≡ true → has_letters r.stage ≡ true
    → GoesInLetter (letter_state r.letter) t r.names names (state_if taken (letter_state letter))
    → TakesToken r t (state_if taken (record { names = names; stem = r.stem; cycle = r.cycle; stage = r.stage; letter = letter }))
word_takes r t names letter true of_letter has said =
    record { names = said.0; steps = λ place agrees. letter_taken place (word_state r) t (Some (letter_state letter)) of_letter has (said.1 place agrees) }
word_takes r t names letter false of_letter has said = λ place. letter_taken place (word_state r) t None of_letter has (said place)
