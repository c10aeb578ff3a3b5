-- Tokens that are spelled with spaces between them are read back.
use Rattle.std.proofs.Common.{◌≡◌, ℕ, zero, suc, ◌+◌, ◌-◌, ◌==◌, true, List, [], ◌∷◌, ◌++◌, length, refl, sym, subst, ◌∙◌, ap}
use Rattle.std.specs.List.{list_all}
use Rattle.std.proofs.lemmas.Bool.{and_parts, eqb-true}
use Rattle.std.proofs.lemmas.List.{append-nil}
use Rattle.hoa_lexer.specs.Blanks.{IsBlanks}
use Rattle.hoa_lexer.specs.Blanks.IsBlanks.{nothing, space}
use Rattle.hoa_lexer.specs.Bytes.{is_space}
use Rattle.hoa_lexer.specs.Laws.{IsGap, IsSpelledApart, HasTokens, SpelledApartIsRead}
use Rattle.hoa_lexer.specs.Spelling.{IsDelimited}
use Rattle.hoa_lexer.specs.declared.token.Token.{Token}
use Rattle.hoa_lexer.specs.declared.token.Token.TheVariants.{HeaderName, Identifier, Str, Int, Alias}

spaces_are_blanks : (gap : List ℕ) → list_all (λ c. c == 32) gap ≡ true → IsBlanks gap
spaces_are_blanks [] h = nothing
spaces_are_blanks (b ∷ bs) h =
    let parts = and_parts (b == 32) (list_all (λ c. c == 32) bs) h in
    space (ap is_space (eqb-true b 32 parts.0)) (spaces_are_blanks bs parts.1)

gap_blanks : (gap : List ℕ) → IsGap gap → IsBlanks gap
gap_blanks [] h = absurd h
gap_blanks (b ∷ bs) h = spaces_are_blanks (b ∷ bs) h

-- a space completes every token
space_ends : (t : Token) (rest : List ℕ) → IsDelimited t (32 ∷ rest)
space_ends (Identifier name) rest = (refl, refl)
space_ends (Int zero) rest = tt
space_ends (Int (suc n)) rest = refl
space_ends (Alias name) rest = refl
space_ends (HeaderName name) rest = tt
space_ends (Str text) rest = tt
space_ends _ rest = tt

gap_ends : (t : Token) (gap more : List ℕ) → IsGap gap → IsDelimited t (gap ++ more)
gap_ends t [] more h = absurd h
gap_ends t (b ∷ bs) more h =
    let first : 32 ≡ b = sym (eqb-true b 32 (and_parts (b == 32) (list_all (λ c. c == 32) bs) h).0) in
    subst (λ (c : ℕ). IsDelimited t (c ∷ (bs ++ more))) first (space_ends t (bs ++ more))

apart_after : (ts : List Token) (before text : List ℕ) (start : ℕ) → IsBlanks before → IsSpelledApart ts text → HasTokens (before ++ text) start ts
apart_after [] before text start h e = record {
  placed = [];
  rest = before ++ text;
  tokens = refl;
  lexes = refl;
  blanks = subst IsBlanks (sym (ap (λ w. before ++ w) e ∙ append-nil before)) h;
}
apart_after (t ∷ ts) before text start h w =
    let next = w.1 ++ w.2 in
    let more = apart_after ts w.1 w.2 (start + (length (before ++ text) - length next)) (gap_blanks w.1 w.4) w.5 in
    record {
      placed = (t, start + length before) ∷ more.placed;
      rest = more.rest;
      tokens = ap (λ us. t ∷ us) more.tokens;
      lexes = (
        next,
        record {
          before = before;
          bytes = text;
          split = refl;
          blanks = h;
          place = refl;
          front = record { word = w.0; split = w.6; spells = w.3; ends = gap_ends t w.1 w.2 w.4 };
        },
        more.lexes,
      );
      blanks = more.blanks;
    }

pub spelled_apart_is_read : SpelledApartIsRead
spelled_apart_is_read ts text h = apart_after ts [] text 0 nothing h
