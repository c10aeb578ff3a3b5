-- The first byte of a token tells its kind.
use Rattle.std.proofs.Common.{◌≡◌, ◌≢◌, ℕ, ◌<◌, true, false, cond, List, [], ◌∷◌, ◌++◌, refl, sym, subst, ◌∙◌, ap, arith, ⊎_elim}
use Rattle.std.proofs.lemmas.Bool.{false≢true, cases_Bool}
use Rattle.std.proofs.lemmas.Bool.Decides.{nat_tests}
use Rattle.hoa_lexer.specs.Bytes.{is_digit, is_letter, is_space}
use Rattle.hoa_lexer.specs.Spelling.{Spells}
use Rattle.hoa_lexer.specs.Text.{IsFront, HasFront, IsNoToken}
use Rattle.hoa_lexer.specs.inner.Steps.{IsSign}
use Rattle.hoa_lexer.specs.declared.token.Token.{Token}
use Rattle.hoa_lexer.specs.declared.token.Token.TheVariants.{HeaderName, Identifier, Str, Int, Alias, Bang, Amp, Bar, LeftParen, RightParen}
use Rattle.hoa_lexer.specs.declared.token.Token.TheVariants.{LeftBrace, RightBrace, LeftBracket, RightBracket, Body, End, Abort}

-- `A` for a letter, `0` for a digit, and else the byte
abbrev pub kind : ℕ → ℕ
kind b = cond (is_letter b) 65 (cond (is_digit b) 48 b)

-- the kind of the first byte of the token's word
abbrev pub token_kind : Token → ℕ
token_kind (HeaderName name) = 65
token_kind (Identifier name) = 65
token_kind (Str text) = 34
token_kind (Int n) = 48
token_kind (Alias name) = 64
token_kind Bang = 33
token_kind Amp = 38
token_kind Bar = 124
token_kind LeftParen = 40
token_kind RightParen = 41
token_kind LeftBrace = 123
token_kind RightBrace = 125
token_kind LeftBracket = 91
token_kind RightBracket = 93
token_kind Body = 45
token_kind End = 45
token_kind Abort = 45

pub kind_letter : (b : ℕ) → is_letter b ≡ true → kind b ≡ 65
kind_letter b h = rw h refl

pub digit_no_letter : (b : ℕ) → is_digit b ≡ true → is_letter b ≡ false
digit_no_letter b h = grind (arith, nat_tests)

pub kind_digit : (b : ℕ) → is_digit b ≡ true → kind b ≡ 48
kind_digit b h = rw (digit_no_letter b h, h) refl

pub kind_other : (b : ℕ) → is_letter b ≡ false → is_digit b ≡ false → kind b ≡ b
kind_other b h k = rw (h, k) refl

at_head : (b c : ℕ) (bs cs : List ℕ) → b ∷ bs ≡ c ∷ cs → kind b ≡ kind c
at_head b c bs cs e = let same : b ≡ c = cc in ap kind same

pub kind_spelled : (token : Token) (b : ℕ) (bs : List ℕ) → Spells token (b ∷ bs) → kind b ≡ token_kind token
kind_spelled (HeaderName []) b bs h = absurd h.0
kind_spelled (HeaderName (n ∷ ns)) b bs h = at_head _ _ _ _ h.1 ∙ kind_letter n h.0.0
kind_spelled (Identifier []) b bs h = absurd h.0
kind_spelled (Identifier (n ∷ ns)) b bs h = at_head _ _ _ _ h.1 ∙ kind_letter n h.0.0
kind_spelled (Str text) b bs h = at_head _ _ _ _ h.2
kind_spelled (Int n) b [] h = kind_digit b h.0
kind_spelled (Int n) b (c ∷ bs) h = kind_digit b h.0.0
kind_spelled (Alias name) b bs h = at_head _ _ _ _ h.2
kind_spelled _ b bs h = at_head _ _ _ _ h

pub spelled_some : (token : Token) → Spells token [] → ⊥
spelled_some (HeaderName []) h = h.0
spelled_some (HeaderName (n ∷ ns)) h = let e = h.1 in cc
spelled_some (Identifier []) h = h.0
spelled_some (Identifier (n ∷ ns)) h = let e = h.1 in cc
spelled_some (Str text) h = let e = h.2 in cc
spelled_some (Int n) h = h.0
spelled_some (Alias name) h = let e = h.2 in cc
spelled_some _ h = cc

-- the token at the front begins with the first byte
pub record IsHead (b : ℕ) (bs : List ℕ) (token : Token) (rest : List ℕ) : Type 0 where
  pub tail : List ℕ
  pub spells : Spells token (b ∷ tail)
  pub split : bs ≡ tail ++ rest
  pub kinds : kind b ≡ token_kind token

head_of : (b : ℕ) (bs word : List ℕ) (token : Token) (rest : List ℕ) → b ∷ bs ≡ word ++ rest → Spells token word → IsHead b bs token rest
head_of b bs [] token rest e h = absurd (spelled_some token h)
head_of b bs (w ∷ ws) token rest e h =
    let same : w ≡ b = cc in
    let P : ℕ → Type 0 = λ x. Spells token (x ∷ ws) in
    let spells : Spells token (b ∷ ws) = subst P same h in
    record { tail = ws; spells = spells; split = cc; kinds = kind_spelled token b ws spells }

pub front_head : (b : ℕ) (bs : List ℕ) (token : Token) (rest : List ℕ) → IsFront (b ∷ bs) token rest → IsHead b bs token rest
front_head b bs token rest f = head_of b bs f.word token rest f.split f.spells

no_front_nil : (word : List ℕ) (token : Token) (rest : List ℕ) → [] ≡ word ++ rest → Spells token word → ⊥
no_front_nil [] token rest e h = spelled_some token h
no_front_nil (w ∷ ws) token rest e h = cc

-- no token is at the front of no bytes
pub no_front : HasFront [] → ⊥
no_front f = no_front_nil f.front.word f.token f.rest f.front.split f.front.spells

space_kind : (b : ℕ) → is_space b ≡ true → (b < 33) × (kind b ≡ b)
space_kind b h =
    let low : b < 33 = grind (arith, nat_tests) in
    (low, kind_other b (grind (arith, nat_tests)) (grind (arith, nat_tests)))

low_kind : (token : Token) → 32 < token_kind token
low_kind (HeaderName name) = omega arith
low_kind _ = omega arith

-- a token's first byte is no space
pub no_space : (token : Token) (b : ℕ) → kind b ≡ token_kind token → is_space b ≡ true → ⊥
no_space token b h s =
    let low = space_kind b s in
    omega (arith, h, low.0, low.1, low_kind token)

-- nor `/`
pub no_slash : (token : Token) → kind 47 ≡ token_kind token → ⊥
no_slash (Str text) h = omega arith
no_slash _ h = omega arith

-- no token begins with a byte of no kind
pub no_kind : (token : Token) (b : ℕ) → kind b ≡ token_kind token → is_letter b ≡ false → is_digit b ≡ false → b ≢ 34 → b ≢ 64 → b ≢ 45 → ((t : Token) → IsSign t b → ⊥) → ⊥
no_kind (HeaderName name) b h l d s a m k = absurd (false≢true (sym l ∙ ap is_letter (sym (kind_other b l d) ∙ h)))
no_kind (Identifier name) b h l d s a m k = absurd (false≢true (sym l ∙ ap is_letter (sym (kind_other b l d) ∙ h)))
no_kind (Str text) b h l d s a m k = s (sym (kind_other b l d) ∙ h)
no_kind (Int n) b h l d s a m k = absurd (false≢true (sym d ∙ ap is_digit (sym (kind_other b l d) ∙ h)))
no_kind (Alias name) b h l d s a m k = a (sym (kind_other b l d) ∙ h)
no_kind Body b h l d s a m k = m (sym (kind_other b l d) ∙ h)
no_kind End b h l d s a m k = m (sym (kind_other b l d) ∙ h)
no_kind Abort b h l d s a m k = m (sym (kind_other b l d) ∙ h)
no_kind Bang b h l d s a m k = k Bang (sym (kind_other b l d) ∙ h)
no_kind Amp b h l d s a m k = k Amp (sym (kind_other b l d) ∙ h)
no_kind Bar b h l d s a m k = k Bar (sym (kind_other b l d) ∙ h)
no_kind LeftParen b h l d s a m k = k LeftParen (sym (kind_other b l d) ∙ h)
no_kind RightParen b h l d s a m k = k RightParen (sym (kind_other b l d) ∙ h)
no_kind LeftBrace b h l d s a m k = k LeftBrace (sym (kind_other b l d) ∙ h)
no_kind RightBrace b h l d s a m k = k RightBrace (sym (kind_other b l d) ∙ h)
no_kind LeftBracket b h l d s a m k = k LeftBracket (sym (kind_other b l d) ∙ h)
no_kind RightBracket b h l d s a m k = k RightBracket (sym (kind_other b l d) ∙ h)

-- a sign is complete by itself

pub mark_front : (token : Token) (b : ℕ) (x : List ℕ) → IsSign token b → IsFront (b ∷ x) token x
mark_front Bang b x h = record { word = b ∷ []; split = refl; spells = ap (λ c. c ∷ []) h; ends = tt }
mark_front Amp b x h = record { word = b ∷ []; split = refl; spells = ap (λ c. c ∷ []) h; ends = tt }
mark_front Bar b x h = record { word = b ∷ []; split = refl; spells = ap (λ c. c ∷ []) h; ends = tt }
mark_front LeftParen b x h = record { word = b ∷ []; split = refl; spells = ap (λ c. c ∷ []) h; ends = tt }
mark_front RightParen b x h = record { word = b ∷ []; split = refl; spells = ap (λ c. c ∷ []) h; ends = tt }
mark_front LeftBrace b x h = record { word = b ∷ []; split = refl; spells = ap (λ c. c ∷ []) h; ends = tt }
mark_front RightBrace b x h = record { word = b ∷ []; split = refl; spells = ap (λ c. c ∷ []) h; ends = tt }
mark_front LeftBracket b x h = record { word = b ∷ []; split = refl; spells = ap (λ c. c ∷ []) h; ends = tt }
mark_front RightBracket b x h = record { word = b ∷ []; split = refl; spells = ap (λ c. c ∷ []) h; ends = tt }
mark_front _ b x h = absurd h

-- the first byte is no space
pub solid : (b : ℕ) (x : List ℕ) → is_space b ≡ false → (c : ℕ) (rest : List ℕ) → b ∷ x ≡ c ∷ rest → is_space c ≡ true → ⊥
solid b x n c rest e h = let same : b ≡ c = cc in false≢true (sym n ∙ ap is_space same ∙ h)

-- a digit is no space
pub digit_no_space : (b : ℕ) → is_digit b ≡ true → is_space b ≡ false
digit_no_space b d = ⊎_elim (λ h. absurd (no_space (Int 0) b (kind_digit b d) h)) (λ h. h) (cases_Bool (is_space b))

-- no token begins with a byte of no kind, whatever follows
pub no_kind_token : (b : ℕ) (x : List ℕ) → is_space b ≡ false → is_letter b ≡ false → is_digit b ≡ false → (b ≡ 34 → ⊥) → (b ≡ 64 → ⊥) → (b ≡ 45 → ⊥) → (b ≡ 47 → ⊥)
    → ((t : Token) → IsSign t b → ⊥) → IsNoToken (b ∷ x)
no_kind_token b x n l d s a m o k = record {
  some = λ e. cc;
  no_space = solid b x n;
  no_comment = λ rest e. o (let same : b ≡ 47 = cc in same);
  no_slash = λ e. o (let same : b ≡ 47 = cc in same);
  no_token = λ t.
      let head = front_head b (x ++ t.more) t.front.token t.front.rest t.front.front in
      no_kind t.front.token b head.kinds l d s a m k;
}
