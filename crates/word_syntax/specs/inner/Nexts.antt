-- What follows in a text from an offset on, after blanks.
use Rattle.std.specs.Prelude.{◌≡◌, ℕ, ◌<◌, ◌≤◌, Bool, false, List, [], ◌∷◌, length, drop}
use Rattle.word_syntax.specs.Tokens.{FollowsBlanks, IsWordFront, is_space}
use Rattle.word_syntax.specs.declared.next.Next.{Next}
use Rattle.word_syntax.specs.declared.next.Next.TheVariants as next
use Rattle.word_syntax.specs.declared.token.Token.{Token}

-- the first element, if there is one, doesn't pass
abbrev pub StopsAtHead : (ℕ → Bool) → List ℕ → Type 0
StopsAtHead p [] = Unit {0}
StopsAtHead p (b ∷ bs) = p b ≡ false

-- the first byte, if there is one, is no blank
abbrev pub NoBlankFirst : List ℕ → Type 0
NoBlankFirst = StopsAtHead is_space

-- the token follows; its first byte is at the offset `start`, and `end` is after its last
pub record IsTokenNext (text : List ℕ) (at : ℕ) (t : Token) (start end : ℕ) : Type 0 where
  pub blanks : FollowsBlanks (drop at text) (drop start text)
  pub front : IsWordFront (drop start text) t (drop end text)
  pub later : at ≤ start
  pub some : start < end
  pub within : end ≤ length text

-- no token follows
pub record IsNothing (text : List ℕ) (at start : ℕ) : Type 0 where
  pub blanks : FollowsBlanks (drop at text) (drop start text)
  pub first : NoBlankFirst (drop start text)
  pub later : at ≤ start
  pub within : start ≤ length text
  pub none : (t : Token) (rest : List ℕ) → IsWordFront (drop start text) t rest → ⊥

abbrev pub IsNextAnswer : List ℕ → ℕ → Next → Type 0
IsNextAnswer text at (next.Token t start end) = IsTokenNext text at t start end
IsNextAnswer text at (next.Nothing start) = IsNothing text at start
