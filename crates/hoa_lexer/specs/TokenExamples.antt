-- Some texts and their tokens.
use Rattle.std.specs.Prelude.{[], ◌∷◌, codes}
use Rattle.hoa_lexer.specs.Blanks.{IsBlanks}
use Rattle.hoa_lexer.specs.Laws.{HasTokens}
use Rattle.hoa_lexer.specs.declared.token.Token.TheVariants.{HeaderName, Identifier, Str, Int, Alias, Amp, End}

pub record TokenExamples : Type 0 where
  -- a colon closes the name of a header
  pub header : HasTokens (codes "HOA:v1 ") 0 (HeaderName (codes "HOA") ∷ Identifier (codes "v1") ∷ [])
  -- `0` is a token at once, and any other number takes all digits that follow
  pub zero_first : HasTokens (codes "010 ") 0 (Int 0 ∷ Int 10 ∷ [])
  -- `"a\""`
  pub quoted : HasTokens (34 ∷ 97 ∷ 92 ∷ 34 ∷ 34 ∷ []) 0 (Str (97 ∷ 34 ∷ []) ∷ [])
  pub alias : HasTokens (codes "@x-1&") 0 (Alias (codes "x-1") ∷ Amp ∷ [])
  pub closed : HasTokens (codes " --END--") 0 (End ∷ [])
  -- comments nest
  pub comments : IsBlanks (codes " /*/**/*/")
