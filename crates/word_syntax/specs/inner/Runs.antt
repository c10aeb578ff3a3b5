-- Runs of a parser over a list of tokens.
use Rattle.std.specs.Prelude.{◌≡◌, List, [], ◌∷◌, Option, Some}
use Rattle.word_syntax.specs.declared.token.Token.{Token}

-- the tokens lead from the state s to the state `end`
abbrev pub RunsTokens : {S : Type 0} → (S → Token → Option S) → S → List Token → S → Type 0
RunsTokens step s [] end = s ≡ end
RunsTokens {S} step s (t ∷ ts) end = (next : S) × (step s t ≡ Some next) × RunsTokens step next ts end
