-- The tokens that a reader passed, as the text has them.
use Rattle.std.proofs.Common.{◌≡◌, ℕ, ◌+◌, ◌-◌, ◌≤◌, List, [], ◌∷◌, ◌++◌, length, map, refl, sym, ap, subst, ◌∙◌, arith}
use Rattle.std.proofs.lemmas.List.{map-append}
use Rattle.hoa_lexer.specs.Text.{IsNext, Lexes}
use Rattle.hoa_lexer.specs.declared.token.Token.{Token}
use Rattle.hoa_parser.proofs.standing.Readings.{lexes_more, next_shorter}
use Rattle.hoa_parser.specs.inner.Parsing.{Passed, Cursor}

-- The tokens stand at the front of the text, and so many bytes of its whole are used with them.
pub record Stand (start : ℕ) (text : List ℕ) (tokens : List Token) (used : ℕ) (rest : List ℕ) : Type 0 where
  pub placed : List (Token × ℕ)
  pub shown : map (λ p. p.0) placed ≡ tokens
  pub lexes : Lexes text start placed rest
  pub used_is : used ≡ start + (length text - length rest)

-- and the token of `b` is next
pub record StandBefore (start : ℕ) (text : List ℕ) (tokens : List Token) (b : Cursor) : Type 0 where
  pub used : ℕ
  pub rest : List ℕ
  pub stand : Stand start text tokens used rest
  pub shorter : length rest ≤ length text
  pub next : IsNext rest used b.token b.offset b.rest
  pub passes : b.used ≡ used + (length rest - length b.rest)

used_later : (start used later all rest last : ℕ) → used ≡ start + (all - rest) → later ≡ used + (rest - last) → rest ≤ all → last ≤ rest → later ≡ start + (all - last)
used_later start used later all rest last first second outer inner = omega (arith, first, second, outer, inner)

-- one token more
pub stand_more : (start : ℕ) (text : List ℕ) (tokens : List Token) (used : ℕ) (rest : List ℕ) (t : Token) (k : ℕ) (next : List ℕ) (later : ℕ) → Stand start text tokens used rest
    → length rest ≤ length text → IsNext rest used t k next → later ≡ used + (length rest - length next) → Stand start text (tokens ++ t ∷ []) later next
stand_more start text tokens used rest t k next later s shorter n passes = record {
  placed = s.placed ++ (t, k) ∷ [];
  shown = map-append (λ p. p.0) s.placed ((t, k) ∷ []) ∙ ap (λ (us : List Token). us ++ t ∷ []) s.shown;
  lexes = lexes_more text start s.placed rest used (t, k) next s.lexes shorter s.used_is n;
  used_is = used_later start used later (length text) (length rest) (length next) s.used_is passes shorter (next_shorter rest used t k next n);
}

-- from the first token on
pub stand_before : (start : ℕ) (text : List ℕ) (a b : Cursor) (ts : List Token) → IsNext text start a.token a.offset a.rest → a.used ≡ start + (length text - length a.rest) → Passed a ts b
    → StandBefore start text ts b
stand_before start text a b [] next used passed = record {
  used = start;
  rest = text;
  stand = record { placed = []; shown = refl; lexes = refl; used_is = omega arith };
  shorter = omega arith;
  next = subst (λ (x : Cursor). IsNext text start x.token x.offset x.rest) passed next;
  passes = subst (λ (x : Cursor). x.used ≡ start + (length text - length x.rest)) passed used;
}
stand_before start text a b (t ∷ ts) next used passed =
    let later = stand_before a.used a.rest passed.0 b ts passed.2.next passed.2.used passed.3 in
    let outer = next_shorter text start a.token a.offset a.rest next in
    record {
      used = later.used;
      rest = later.rest;
      stand = record {
        placed = (t, a.offset) ∷ later.stand.placed;
        shown = ap (λ (us : List Token). t ∷ us) later.stand.shown;
        lexes = (
          a.rest,
          subst (λ (z : Token). IsNext text start z a.offset a.rest) (sym passed.1) next,
          subst (λ (n : ℕ). Lexes a.rest n later.stand.placed later.rest) used later.stand.lexes,
        );
        used_is = used_later start a.used later.used (length text) (length a.rest) (length later.rest) used later.stand.used_is outer later.shorter;
      };
      shorter = omega (arith, outer, later.shorter);
      next = later.next;
      passes = later.passes;
    }

pub stand_with : (start : ℕ) (text : List ℕ) (a b : Cursor) (ts : List Token) → IsNext text start a.token a.offset a.rest → a.used ≡ start + (length text - length a.rest) → Passed a ts b
    → Stand start text (ts ++ b.token ∷ []) b.used b.rest
stand_with start text a b ts next used passed =
    let s = stand_before start text a b ts next used passed in
    stand_more start text ts s.used s.rest b.token b.offset b.rest b.used s.stand s.shorter s.next s.passes
