-- The worked examples.
use Rattle.std.proofs.Common.{◌≢◌, ℕ, List, [], ◌∷◌, ◌++◌, codes, refl, lit<, arith}
use Rattle.hoa_lexer.specs.Blanks.IsBlanks.{nothing, space, comment}
use Rattle.hoa_lexer.specs.Spelling.{IsDelimited, Spells}
use Rattle.aut_base.specs.Strings.Quotes.{nothing as no_quote, escaped, plain}
use Rattle.hoa_lexer.specs.TokenExamples.{TokenExamples}
use Rattle.hoa_lexer.specs.Text.{IsNext}
use Rattle.hoa_lexer.specs.declared.token.Token.{Token}
use Rattle.hoa_lexer.specs.declared.token.Token.TheVariants.{HeaderName, Identifier, Str, Int, Alias, Amp, End}

one_is_not_zero : ◌≢◌ {A = ℕ} 49 48
one_is_not_zero e = absurd (omega (arith, e))

a_is_no_quote : ◌≢◌ {A = ℕ} 97 34
a_is_no_quote e = absurd (omega (arith, e))

a_is_no_backslash : ◌≢◌ {A = ℕ} 97 92
a_is_no_backslash e = absurd (omega (arith, e))

-- the token is at the front
at_front : (word rest : List ℕ) (token : Token) (start : ℕ) → Spells token word → IsDelimited token rest → IsNext (word ++ rest) start token start rest
at_front word rest token start spells ends = record {
  before = [];
  bytes = word ++ rest;
  split = refl;
  blanks = nothing;
  place = omega arith;
  front = record { word = word; split = refl; spells = spells; ends = ends };
}

pub token_examples : TokenExamples
token_examples = record {
  header = record {
    placed = (HeaderName (codes "HOA"), 0) ∷ (Identifier (codes "v1"), 4) ∷ [];
    rest = codes " ";
    tokens = refl;
    lexes = (
      codes "v1 ",
      at_front (codes "HOA:") (codes "v1 ") (HeaderName (codes "HOA")) 0 ((refl, refl), refl) tt,
      (codes " ", at_front (codes "v1") (codes " ") (Identifier (codes "v1")) 4 ((refl, refl), refl) (refl, refl), refl),
    );
    blanks = space refl nothing;
  };
  zero_first = record {
    placed = (Int 0, 0) ∷ (Int 10, 1) ∷ [];
    rest = codes " ";
    tokens = refl;
    lexes = (
      codes "10 ",
      at_front (codes "0") (codes "10 ") (Int 0) 0 (refl, refl, lit< tt) tt,
      (codes " ", at_front (codes "10") (codes " ") (Int 10) 1 ((refl, one_is_not_zero, refl), refl, lit< tt) refl, refl),
    );
    blanks = space refl nothing;
  };
  quoted = record {
    placed = (Str (97 ∷ 34 ∷ []), 0) ∷ [];
    rest = [];
    tokens = refl;
    lexes = (
      [],
      at_front (34 ∷ 97 ∷ 92 ∷ 34 ∷ 34 ∷ []) [] (Str (97 ∷ 34 ∷ [])) 0 (97 ∷ 92 ∷ 34 ∷ [], plain a_is_no_quote a_is_no_backslash (escaped no_quote), refl) tt,
      refl,
    );
    blanks = nothing;
  };
  alias = record {
    placed = (Alias (codes "x-1"), 0) ∷ (Amp, 4) ∷ [];
    rest = [];
    tokens = refl;
    lexes = (
      codes "&",
      at_front (codes "@x-1") (codes "&") (Alias (codes "x-1")) 0 ((λ e. cc), refl, refl) refl,
      ([], at_front (codes "&") [] Amp 4 refl tt, refl),
    );
    blanks = nothing;
  };
  closed = record {
    placed = (End, 1) ∷ [];
    rest = [];
    tokens = refl;
    lexes = (
      [],
      record {
        before = codes " ";
        bytes = codes "--END--";
        split = refl;
        blanks = space refl nothing;
        place = refl;
        front = record { word = codes "--END--"; split = refl; spells = refl; ends = tt };
      },
      refl,
    );
    blanks = nothing;
  };
  comments = space refl (comment (codes "/**/*/") [] tt nothing refl);
}
