-- Texts that consist of spelled tokens with blanks between them, and their concatenation.
use Rattle.std.proofs.Common.{◌≡◌, ℕ, zero, suc, ◌+◌, ◌-◌, ◌==◌, ◌||◌, true, false, List, [], ◌∷◌, ◌++◌, map, flat_map, length, All, refl, sym, subst, ◌∙◌, ap, arith}
use Rattle.std.proofs.lemmas.Bool.{or_parts}
use Rattle.std.proofs.lemmas.List.{append_assoc, append-nil}
use Rattle.hoa_lexer.proofs.next_token.Fronts.{blanks_append}
use Rattle.hoa_lexer.proofs.spelling.Numbers.{ends_int}
use Rattle.hoa_lexer.specs.Blanks.{IsBlanks}
use Rattle.hoa_lexer.specs.Blanks.IsBlanks.{nothing, space}
use Rattle.hoa_lexer.specs.Bytes.{is_space, is_letter, is_digit, is_word}
use Rattle.hoa_lexer.specs.Laws.{HasTokens}
use Rattle.hoa_lexer.specs.Spelling.{Spells, IsDelimited, StopsAt, IsIdentifier}
use Rattle.hoa_lexer.specs.declared.token.Token.{Token}
use Rattle.hoa_lexer.specs.declared.token.Token.TheVariants.{HeaderName, Identifier, Int}

-- The input is these tokens, each spelled and complete, with blanks around them, and then the rest.
abbrev pub Spelled : List Token → List ℕ → List ℕ → Type 0
Spelled [] input rest = (gap : List ℕ) × IsBlanks gap × (input ≡ gap ++ rest)
Spelled (t ∷ ts) input rest =
    (before : List ℕ) × (word : List ℕ) × (next : List ℕ) × IsBlanks before × Spells t word × IsDelimited t next × (input ≡ before ++ (word ++ next)) × Spelled ts next rest

-- the next byte extends no token
abbrev pub Stops : List ℕ → Type 0
Stops rest = StopsAt is_word rest × StopsAt (λ b. b == 58) rest

-- The text spells the tokens, whatever follows it.
pub record Free (ts : List Token) (text : List ℕ) : Type 0 where
  pub before : (rest : List ℕ) → Spelled ts (text ++ rest) rest

-- The text spells the tokens, provided that what follows extends none.
pub record Held (ts : List Token) (text : List ℕ) : Type 0 where
  pub before : (rest : List ℕ) → Stops rest → Spelled ts (text ++ rest) rest

skip : (ts : List Token) (gap input rest : List ℕ) → IsBlanks gap → Spelled ts input rest → Spelled ts (gap ++ input) rest
skip [] gap input rest h s = (gap ++ s.0, blanks_append gap s.0 h s.1, ap (λ w. gap ++ w) s.2 ∙ sym (append_assoc gap s.0 rest))
skip (t ∷ ts) gap input rest h s =
    (gap ++ s.0, s.1, s.2, blanks_append gap s.0 h s.3, s.4, s.5, ap (λ w. gap ++ w) s.6 ∙ sym (append_assoc gap s.0 (s.1 ++ s.2)), s.7)

spelled_then : (ts us : List Token) (a b c : List ℕ) → Spelled ts a b → Spelled us b c → Spelled (ts ++ us) a c
spelled_then [] us a b c s r = subst (λ (w : List ℕ). Spelled us w c) (sym s.2) (skip us s.0 b c s.1 r)
spelled_then (t ∷ ts) us a b c s r = (s.0, s.1, s.2, s.3, s.4, s.5, s.6, spelled_then ts us s.2 b c s.7 r)

-- one after the other

parts : (ts us : List Token) (a b rest : List ℕ) → Spelled ts (a ++ (b ++ rest)) (b ++ rest) → Spelled us (b ++ rest) rest → Spelled (ts ++ us) ((a ++ b) ++ rest) rest
parts ts us a b rest s r =
    subst (λ (w : List ℕ). Spelled (ts ++ us) w rest) (sym (append_assoc a b rest)) (spelled_then ts us (a ++ (b ++ rest)) (b ++ rest) rest s r)

pub free_free : {ts us : List Token} {a b : List ℕ} → Free ts a → Free us b → Free (ts ++ us) (a ++ b)
free_free {ts} {us} {a} {b} f g = record { before = λ rest. parts ts us a b rest (f.before (b ++ rest)) (g.before rest) }

pub free_held : {ts us : List Token} {a b : List ℕ} → Free ts a → Held us b → Held (ts ++ us) (a ++ b)
free_held {ts} {us} {a} {b} f g = record { before = λ rest s. parts ts us a b rest (f.before (b ++ rest)) (g.before rest s) }

pub held_free : {ts us : List Token} {a b : List ℕ} → Held ts a → ((rest : List ℕ) → Stops (b ++ rest)) → Free us b → Free (ts ++ us) (a ++ b)
held_free {ts} {us} {a} {b} f stops g = record { before = λ rest. parts ts us a b rest (f.before (b ++ rest) (stops rest)) (g.before rest) }

pub held_held : {ts us : List Token} {a b : List ℕ} → Held ts a → ((rest : List ℕ) → Stops rest → Stops (b ++ rest)) → Held us b → Held (ts ++ us) (a ++ b)
held_held {ts} {us} {a} {b} f stops g = record { before = λ rest s. parts ts us a b rest (f.before (b ++ rest) (stops rest s)) (g.before rest s) }

pub as_held : {ts : List Token} {a : List ℕ} → Free ts a → Held ts a
as_held f = record { before = λ rest s. f.before rest }

pub held_ended : {ts : List Token} {a : List ℕ} → Held ts a → Held (ts ++ []) a
held_ended {ts} {a} h = subst (λ (us : List Token). Held us a) (sym (append-nil ts)) h

pub free_none : Free [] []
free_none = record { before = λ rest. ([], nothing, refl) }

pub free_blank : (b : ℕ) → is_space b ≡ true → Free [] (b ∷ [])
free_blank b h = record { before = λ rest. (b ∷ [], space h nothing, refl) }

-- one token

one : (t : Token) (word rest : List ℕ) → Spells t word → IsDelimited t rest → Spelled (t ∷ []) (word ++ rest) rest
one t word rest s e = ([], word, rest, nothing, s, e, refl, ([], nothing, refl))

digit_word : (b : ℕ) → is_word b ≡ false → is_digit b ≡ false
digit_word b h = (or_parts (is_digit b) (b == 45) (or_parts (is_letter b) (is_digit b || (b == 45)) h).1).0

digit_stops : (rest : List ℕ) → StopsAt is_word rest → StopsAt is_digit rest
digit_stops [] h = absurd h
digit_stops (b ∷ rest) h = digit_word b h

pub free_one : (t : Token) (word : List ℕ) → Spells t word → ((rest : List ℕ) → IsDelimited t rest) → Free (t ∷ []) word
free_one t word s e = record { before = λ rest. one t word rest s (e rest) }

pub free_header : (name : List ℕ) → IsIdentifier name → Free (HeaderName name ∷ []) (name ++ 58 ∷ [])
free_header name h = free_one (HeaderName name) (name ++ 58 ∷ []) (h, refl) (λ rest. tt)

pub held_identifier : (name : List ℕ) → IsIdentifier name → Held (Identifier name ∷ []) name
held_identifier name h = record { before = λ rest s. one (Identifier name) name rest (h, refl) s }

pub held_int : (n : ℕ) (word : List ℕ) → Spells (Int n) word → Held (Int n ∷ []) word
held_int n word h = record { before = λ rest s. one (Int n) word rest h (ends_int n rest (digit_stops rest s.0)) }

-- many

pub free_each : {A P : Type 0} (phrase : A → P) (tokens : P → List Token) (text : A → List ℕ) (xs : List A) → All (λ x. Free (tokens (phrase x)) (text x)) xs
    → Free (flat_map tokens (map phrase xs)) (flat_map text xs)
free_each phrase tokens text [] h = free_none
free_each phrase tokens text (x ∷ xs) h = free_free (h zero x (omega arith)) (free_each phrase tokens text xs (λ k d near. h (suc k) d (omega arith)))

-- read

read_on : (ts : List Token) (input : List ℕ) (start : ℕ) → Spelled ts input [] → HasTokens input start ts
read_on [] input start s = record {
  placed = [];
  rest = input;
  tokens = refl;
  lexes = refl;
  blanks = subst IsBlanks (sym (s.2 ∙ append-nil s.0)) s.1;
}
read_on (t ∷ ts) input start s =
    let more = read_on ts s.2 (start + (length input - length s.2)) s.7 in
    record {
      placed = (t, start + length s.0) ∷ more.placed;
      rest = more.rest;
      tokens = ap (λ us. t ∷ us) more.tokens;
      lexes = (
        s.2,
        record {
          before = s.0;
          bytes = s.1 ++ s.2;
          split = s.6;
          blanks = s.3;
          place = refl;
          front = record { word = s.1; split = refl; spells = s.4; ends = s.5 };
        },
        more.lexes,
      );
      blanks = more.blanks;
    }

-- what is spelled so is read
pub free_is_read : (ts : List Token) (text : List ℕ) → Free ts text → HasTokens text 0 ts
free_is_read ts text f = subst (λ (w : List ℕ). HasTokens w 0 ts) (append-nil text) (read_on ts (text ++ []) 0 (f.before []))
