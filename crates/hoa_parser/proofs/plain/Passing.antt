-- Tokens in front of bytes, as a reader passes them.
use Rattle.std.proofs.Common.{◌≡◌, ℕ, ◌+◌, ◌-◌, ◌≤◌, Bool, true, false, not, List, [], ◌∷◌, ◌++◌, length, Option, Some, None, refl, ap, arith, is_some}
use Rattle.std.proofs.lemmas.List.{length-append}
use Rattle.hoa_lexer.specs.Spelling.{closes_itself}
use Rattle.hoa_lexer.specs.Text.{IsFront}
use Rattle.hoa_lexer.specs.inner.Steps.{PassesBlanks}
use Rattle.hoa_lexer.proofs.next_token.Fronts.{skips_then, token_ok}
use Rattle.hoa_lexer.specs.declared.token.Token.{Token}
use Rattle.hoa_parser.specs.inner.Parsing.{Cursor, Follows, Passed}
use Rattle.hoa_parser.specs.inner.AtHand.{Spelled}

-- blanks before, and one behind the other
pub spelled_behind : (ts : List Token) (x y z : List ℕ) → PassesBlanks x y → Spelled y ts z → Spelled x ts z
spelled_behind [] x y z s t = skips_then x y z s t
spelled_behind (t ∷ ts) x y z s k = (k.0, k.1, skips_then x y k.0 s k.2, k.3, k.4)

pub spelled_then : (ts us : List Token) (x y z : List ℕ) → Spelled x ts y → Spelled y us z → Spelled x (ts ++ us) z
spelled_then [] us x y z s t = spelled_behind us x y z s t
spelled_then (t ∷ ts) us x y z s k = (s.0, s.1, s.2, s.3, spelled_then ts us s.1 y z s.4 k)

pub skips_length : (x y : List ℕ) → PassesBlanks x y → length y ≤ length x
skips_length x y s = omega (arith, ap length s.split, length-append s.before y)

pub front_length : (x y : List ℕ) (token : Token) → IsFront x token y → length y ≤ length x
front_length x y token f = omega (arith, ap length f.split, length-append f.word y)

-- a byte that is held where one is needed
abbrev needed : Bool → Option ℕ
needed true = None
needed false = Some 0

needs : (closes : Bool) → is_some (needed closes) ≡ not closes
needs true = refl
needs false = refl

abbrev pub cursor : Token → ℕ → ℕ → Option ℕ → List ℕ → Cursor
cursor t offset used held rest = record { token = t; offset = offset; used = used; held = held; rest = rest }

follows_at : (a : Cursor) (t : Token) (offset used : ℕ) (held : Option ℕ) (at behind : List ℕ) → PassesBlanks a.rest at → IsFront at t behind → a.used + length a.rest ≡ offset + length at
    → a.used + length a.rest ≡ used + length behind → is_some held ≡ not (closes_itself t) → Follows a (cursor t offset used held behind)
follows_at a t offset used held at behind s f o u h = record {
  next = token_ok t a.used offset a.rest at behind s o f;
  used = omega (arith, u, skips_length a.rest at s, front_length at behind t f);
  holds = h;
}

-- The tokens behind the one at hand are passed, and the one in front of `y` is at hand then.
pub passed_spelled : (ts : List Token) (a : Cursor) (z : Token) (offset used : ℕ) (held : Option ℕ) (y rest : List ℕ) → Spelled a.rest ts y → IsFront y z rest
    → a.used + length a.rest ≡ offset + length y → a.used + length a.rest ≡ used + length rest → is_some held ≡ not (closes_itself z)
    → Passed a (a.token ∷ ts) (cursor z offset used held rest)
passed_spelled [] a z offset used held y rest s f o u h = (cursor z offset used held rest, refl, follows_at a z offset used held y rest s f o u h, refl)
passed_spelled (t ∷ ts) a z offset used held y rest s f o u h =
    let at : List ℕ = s.0 in
    let behind : List ℕ = s.1 in
    let one : length at ≤ length a.rest = skips_length a.rest at s.2 in
    let two : length behind ≤ length at = front_length at behind t s.3 in
    let m : Cursor = cursor t (a.used + (length a.rest - length at)) (a.used + (length a.rest - length behind)) (needed (closes_itself t)) behind in (
      m,
      refl,
      follows_at a t (a.used + (length a.rest - length at)) (a.used + (length a.rest - length behind)) (needed (closes_itself t)) at behind s.2 s.3 (omega (arith, one)) (omega (arith, one, two))
          (needs (closes_itself t)),
      passed_spelled ts m z offset used held y rest s.4 f (omega (arith, o, one, two)) (omega (arith, u, one, two)) h,
    )
