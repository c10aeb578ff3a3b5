-- What a token is to a part that does not begin with it: what `--ABORT--` is, which begins none.
use Rattle.std.proofs.Common.{◌≡◌, ◌≢◌, ℕ, Bool, true, false, List, refl}
use Rattle.hoa_lexer.specs.declared.token.Token.{Token}
use Rattle.hoa_lexer.specs.declared.token.Token.TheVariants as token
use Rattle.hoa_parser.specs.inner.Expecting as part
use Rattle.hoa_parser.specs.inner.Expecting.{Part, move}
use Rattle.hoa_parser.specs.Grammar.{is_value}
use Rattle.hoa_parser.specs.inner.RuleReads.{values_part}

-- The token is none that the part begins with. Of a whole automaton, a factor and an atom this tells nothing.
abbrev pub IsOther : Part → Token → Type 0
IsOther part.Number z = (n : ℕ) → z ≢ token.Int n
IsOther part.MoreNumbers z = z ≢ token.Amp
IsOther part.Quoted z = (text : List ℕ) → z ≢ token.Str text
IsOther part.MaybeQuoted z = (text : List ℕ) → z ≢ token.Str text
IsOther part.Strings z = (text : List ℕ) → z ≢ token.Str text
IsOther part.Word z = (word : List ℕ) → z ≢ token.Identifier word
IsOther part.Words z = (word : List ℕ) → z ≢ token.Identifier word
IsOther part.AliasName z = (name : List ℕ) → z ≢ token.Alias name
IsOther part.AccValues z = is_value false z ≡ false
IsOther part.Values z = is_value true z ≡ false
IsOther (part.Factors depth) z = z ≢ token.Amp
IsOther (part.Products depth) z = z ≢ token.Bar
IsOther (part.Atoms depth) z = z ≢ token.Amp
IsOther (part.Conjunctions depth) z = z ≢ token.Bar
IsOther part.OpeningParen z = z ≢ token.LeftParen
IsOther part.MaybeBang z = z ≢ token.Bang
IsOther part.ClosingParen z = z ≢ token.RightParen
IsOther part.ClosingBracket z = z ≢ token.RightBracket
IsOther part.Items z = ((name : List ℕ) → z ≢ token.HeaderName name) × (z ≢ token.Body)
IsOther part.States z = ((name : List ℕ) → z ≢ token.HeaderName name) × (z ≢ token.End)
IsOther part.MaybeLabel z = z ≢ token.LeftBracket
IsOther part.MaybeMarks z = z ≢ token.LeftBrace
IsOther part.Marks z = ((n : ℕ) → z ≢ token.Int n) × (z ≢ token.RightBrace)
IsOther part.Edges z = (z ≢ token.LeftBracket) × ((n : ℕ) → z ≢ token.Int n)
IsOther _ z = ⊥

pub other : (p : Part) (z : Token) → IsOther p z → move p z ≡ move p token.Abort
other part.Number (token.Int n) h = absurd (h n refl)
other part.MoreNumbers token.Amp h = absurd (h refl)
other part.Quoted (token.Str text) h = absurd (h text refl)
other part.MaybeQuoted (token.Str text) h = absurd (h text refl)
other part.Strings (token.Str text) h = absurd (h text refl)
other part.Word (token.Identifier word) h = absurd (h word refl)
other part.Words (token.Identifier word) h = absurd (h word refl)
other part.AliasName (token.Alias name) h = absurd (h name refl)
other part.AccValues (token.Int n) h = cc
other part.AccValues (token.Identifier word) h = cc
other part.Values (token.Int n) h = cc
other part.Values (token.Str text) h = cc
other part.Values (token.Identifier word) h = cc
other (part.Factors depth) token.Amp h = absurd (h refl)
other (part.Products depth) token.Bar h = absurd (h refl)
other (part.Atoms depth) token.Amp h = absurd (h refl)
other (part.Conjunctions depth) token.Bar h = absurd (h refl)
other part.OpeningParen token.LeftParen h = absurd (h refl)
other part.MaybeBang token.Bang h = absurd (h refl)
other part.ClosingParen token.RightParen h = absurd (h refl)
other part.ClosingBracket token.RightBracket h = absurd (h refl)
other part.Items (token.HeaderName name) h = absurd (h.0 name refl)
other part.Items token.Body h = absurd (h.1 refl)
other part.States (token.HeaderName name) h = absurd (h.0 name refl)
other part.States token.End h = absurd (h.1 refl)
other part.MaybeLabel token.LeftBracket h = absurd (h refl)
other part.MaybeMarks token.LeftBrace h = absurd (h refl)
other part.Marks (token.Int n) h = absurd (h.0 n refl)
other part.Marks token.RightBrace h = absurd (h.1 refl)
other part.Edges token.LeftBracket h = absurd (h.0 refl)
other part.Edges (token.Int n) h = absurd (h.1 n refl)
other part.Whole z h = absurd h
other (part.Factor depth) z h = absurd h
other (part.Atom depth) z h = absurd h
other _ z h = refl

pub other_value : (texts : Bool) (z : Token) → is_value texts z ≡ false → move (values_part texts) z ≡ part.Passes
other_value false z h = other part.AccValues z h
other_value true z h = other part.Values z h
