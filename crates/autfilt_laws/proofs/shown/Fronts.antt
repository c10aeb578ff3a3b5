-- A lexer that refuses bytes with which no token begins, at the first byte that shows it.
use Rattle.std.proofs.Common.{ℕ, List, Err, refl}
use Rattle.hoa_lexer.specs.Reading.{AnswersToken}
use Rattle.hoa_lexer.specs.Text.{IsFront, IsNoToken}
use Rattle.hoa_lexer.specs.declared.token.LexFault.TheVariants.{BadToken}
use Rattle.hoa_lexer.specs.declared.token.Token.{Token}
use Rattle.hoa_lexer.specs.inner.Steps.{ReadsToken}
use Rattle.hoa_lexer.proofs.next_token.Exclusive.{no_token_stuck}
use Rattle.hoa_lexer.proofs.next_token.Fronts.{skips_none, token_err}

-- a lexer refuses the bytes at offset k, with these left
pub record IsRefused (k : ℕ) (bytes : List ℕ) : Type 0 where
  pub left : List ℕ
  pub answers : AnswersToken (Err (BadToken k)) k 0 bytes left

pub refused_here : (k : ℕ) (bytes left : List ℕ) → ReadsToken (Err (BadToken k)) k bytes left → IsRefused k bytes
refused_here k bytes left r = record { left = left; answers = token_err (BadToken k) k k bytes bytes left (skips_none bytes) refl r }

-- no token stands at the front of what begins none
pub not_token : (bytes : List ℕ) (t : Token) (rest : List ℕ) → IsNoToken bytes → IsFront bytes t rest → ⊥
not_token bytes t rest n f = (no_token_stuck bytes n).no_front (record { token = t; rest = rest; front = f })
