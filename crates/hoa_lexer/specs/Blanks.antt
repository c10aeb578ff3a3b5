-- What may stand between tokens: spaces, and comments, which nest (HOA v1, Grammar).
use Rattle.std.specs.Prelude.{◌≡◌, ℕ, zero, suc, ◌&&◌, ◌==◌, true, MatchBool, List, [], ◌∷◌, ◌++◌}
use Rattle.hoa_lexer.specs.Bytes.{is_space}

-- The bytes close this many open comments, and end where the last one does. Each `/*` opens another comment, and its bytes
-- are not read twice: `/*/` closes nothing.
abbrev pub ClosesComments : ℕ → List ℕ → Type 0
ClosesComments zero [] = Unit {0}
ClosesComments zero (b ∷ bs) = ⊥
ClosesComments (suc depth) [] = ⊥
ClosesComments (suc depth) (b ∷ []) = ⊥
ClosesComments (suc depth) (b ∷ c ∷ bs) =
    MatchBool ((b == 42) && (c == 47)) (ClosesComments depth bs)
    (MatchBool ((b == 47) && (c == 42)) (ClosesComments (suc (suc depth)) bs) (ClosesComments (suc depth) (c ∷ bs)))

-- spaces and whole comments
pub data IsBlanks : List ℕ → Type 0 where
  nothing : IsBlanks []
  space : {b : ℕ} {bs : List ℕ} → is_space b ≡ true → IsBlanks bs → IsBlanks (b ∷ bs)
  -- `/*`, then what closes it
  comment : {text : List ℕ} (body bs : List ℕ) → ClosesComments 1 body → IsBlanks bs → text ≡ 47 ∷ 42 ∷ (body ++ bs) → IsBlanks text

-- a comment begins here, and the text ends before it is closed
pub record IsOpenComment (bytes : List ℕ) : Type 0 where
  pub rest : List ℕ
  pub opens : bytes ≡ 47 ∷ 42 ∷ rest
  pub open_still : (body more : List ℕ) → rest ≡ body ++ more → ClosesComments 1 body → ⊥
