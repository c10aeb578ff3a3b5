-- Where a phrase stops: what can't go on, and lists of tokens that have one front in common.
use Rattle.std.proofs.Common.{◌≡◌, ℕ, Bool, true, false, List, [], ◌∷◌, refl, sym, ◌∙◌, ap}
use Rattle.hoa_lexer.specs.declared.token.Token.{Token}
use Rattle.hoa_lexer.specs.declared.token.Token.TheVariants.{Identifier, Amp, Bar}
use Rattle.aut_base.specs.Text.{same_text}

-- no token that goes on stands first
abbrev pub Stops : (Token → Bool) → List Token → Type 0
Stops goes_on [] = Unit {0}
Stops goes_on (t ∷ ts) = goes_on t ≡ false

-- one meaning, and one rest
pub record IsSame {M : Type 0} (v w : M) (c d : List Token) : Type 0 where
  pub value : v ≡ w
  pub rest : c ≡ d

-- the heads and tails of lists that are one
pub first_token : (t u : Token) (ts us : List Token) → t ∷ ts ≡ u ∷ us → t ≡ u
first_token t u ts us e = cc

pub later_tokens : (t u : Token) (ts us : List Token) → t ∷ ts ≡ u ∷ us → ts ≡ us
later_tokens t u ts us e = cc

pub no_tokens : (t : Token) (ts : List Token) → [] ≡ t ∷ ts → ⊥
no_tokens t ts e = cc

-- what stops does not begin with a token that goes on
pub stops_not : (goes_on : Token → Bool) (c : List Token) (t : Token) (ts : List Token) → Stops goes_on c → goes_on t ≡ true → c ≡ t ∷ ts → ⊥
stops_not goes_on [] t ts s g e = no_tokens t ts e
stops_not goes_on (u ∷ us) t ts s g e =
    let same : u ≡ t = first_token u t us ts e in
    let both : false ≡ true = sym s ∙ ap goes_on same ∙ g in
    cc

abbrev pub is_amp : Token → Bool
is_amp Amp = true
is_amp _ = false

abbrev pub is_join : Token → Bool
is_join Amp = true
is_join Bar = true
is_join _ = false

pub join_no_amp : (c : List Token) → Stops is_join c → Stops is_amp c
join_no_amp [] s = tt
join_no_amp (Amp ∷ c) s = s
join_no_amp (_ ∷ c) s = refl

-- words that differ
pub words_apart : (v w : List ℕ) (ts us : List Token) → same_text v v ≡ true → same_text v w ≡ false → Identifier v ∷ ts ≡ Identifier w ∷ us → ⊥
words_apart v w ts us p q e =
    let words : v ≡ w = cc in
    let both : true ≡ false = sym p ∙ ap (same_text v) words ∙ q in
    cc
