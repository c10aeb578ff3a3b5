-- What a parser has read of a text, up to an offset or to the end.
use Rattle.std.specs.Prelude.{◌≡◌, ℕ, ◌+◌, ◌≤◌, true, List, length, drop, Result, Ok, Err}
use Rattle.std.specs.List.{list_all}
use Rattle.word_syntax.specs.Grammar.{token_names}
use Rattle.word_syntax.specs.Tokens.{LexesWord, is_space}
use Rattle.word_syntax.specs.Writing.{IsStoppedAt}
use Rattle.word_syntax.specs.declared.pattern.WordFault.{WordFault}
use Rattle.word_syntax.specs.declared.pattern.WordFault.TheVariants.{BadWord, Memory}
use Rattle.word_syntax.specs.inner.Chains.{Agrees, word_state}
use Rattle.word_syntax.specs.inner.Machine.{WordState, word_start, word_step}
use Rattle.word_syntax.specs.inner.Runs.{RunsTokens}
use Rattle.word_syntax.specs.declared.word.WordReader.{WordReader}
use Rattle.word_syntax.specs.declared.token.Token.{Token}
use Rattle.aut_base.specs.Lists.{distinct}
use Rattle.aut_base.specs.Text.{same_text}

-- the parser is in this state after these tokens, whatever function has the indices of their names
abbrev pub HasReadTokens : List Token → WordState → Type 0
HasReadTokens tokens s = (place : List ℕ → ℕ) → Agrees place (distinct same_text (token_names tokens)) → RunsTokens (word_step place) word_start tokens s

-- The text is read up to the offset `at`.
pub record HasReadTo (text : List ℕ) (at : ℕ) (r : WordReader) : Type 0 where
  pub tokens : List Token
  pub lexes : LexesWord text tokens (drop at text)
  pub within : at ≤ length text
  pub names : r.names ≡ distinct same_text (token_names tokens)
  pub read : HasReadTokens tokens (word_state r)
  pub few_names : length r.names ≤ at
  pub few_letters : length r.stem + length r.cycle ≤ at

-- All tokens of the text are read.
pub record IsThrough (text : List ℕ) (r : WordReader) : Type 0 where
  pub tokens : List Token
  pub rest : List ℕ
  pub lexes : LexesWord text tokens rest
  pub blank : list_all is_space rest ≡ true
  pub names : r.names ≡ distinct same_text (token_names tokens)
  pub read : HasReadTokens tokens (word_state r)
  pub few_letters : length r.stem + length r.cycle ≤ length text

-- The answer of the loop over a text's tokens is right.
abbrev pub StopsOrGoes : List ℕ → WordReader → Result (Unit {0}) WordFault → Type 0
StopsOrGoes text r (Ok _) = IsThrough text r
StopsOrGoes text r (Err (BadWord k)) = IsStoppedAt text k
StopsOrGoes text r (Err Memory) = Unit {0}
