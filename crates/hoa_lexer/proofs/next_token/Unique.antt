-- A text has at most one next token.
use Rattle.std.proofs.Common.{◌≡◌, ℕ, ◌+◌, ◌-◌, ◌<◌, ◌≤◌, ◌==◌, Bool, true, List, [], ◌∷◌, ◌++◌, length, inl, inr, refl, sym, subst, ◌∙◌, ap, arith}
use Rattle.std.specs.Prelude.{codes}
use Rattle.std.specs.List.{list_all}
use Rattle.std.proofs.lemmas.Bool.{false≢true, and_parts, cases_eq, eqb-false}
use Rattle.std.proofs.lemmas.Bool.Decides.{nat_tests}
use Rattle.std.proofs.lemmas.List.{append_assoc, length-append}
use Rattle.hoa_lexer.specs.Blanks.{IsBlanks}
use Rattle.hoa_lexer.specs.Bytes.{is_digit, is_word}
use Rattle.hoa_lexer.specs.Laws.{OneNextToken, OneTokenList}
use Rattle.hoa_lexer.specs.Spelling.{Spells, IsDelimited, StopsAt, IsIdentifier, IsNumeral, Quotes, value_of}
use Rattle.aut_base.specs.Strings.Quotes.{nothing, escaped, plain}
use Rattle.hoa_lexer.specs.Text.{IsFront, IsNext, Lexes}
use Rattle.hoa_lexer.proofs.spelling.FirstBytes.{token_kind, front_head, no_front}
use Rattle.hoa_lexer.proofs.next_token.Fronts.{front_of, same_place}
use Rattle.hoa_lexer.proofs.next_token.Exclusive.{blanks_no_token}
use Rattle.hoa_lexer.proofs.spelling.Numbers.{int_stops, nonzero}
use Rattle.hoa_lexer.specs.declared.token.Token.{Token}
use Rattle.hoa_lexer.specs.declared.token.Token.TheVariants.{HeaderName, Identifier, Str, Int, Alias, Bang, Amp, Bar, LeftParen, RightParen}
use Rattle.hoa_lexer.specs.declared.token.Token.TheVariants.{LeftBrace, RightBrace, LeftBracket, RightBracket, Body, End, Abort}
use Rattle.aut_base.proofs.lists.Lists.{append-cancel, cons-head, cons-tail}

-- one token, and one rest
record IsSame (t u : Token) (rest rest' : List ℕ) : Type 0 where
  token : t ≡ u
  after : rest ≡ rest'

turned : (t u : Token) (rest rest' : List ℕ) → IsSame t u rest rest' → IsSame u t rest' rest
turned t u rest rest' s = record { token = sym s.token; after = sym s.after }

-- The longest run of bytes that pass a test is unique.
record IsSameRun (s s' rest rest' : List ℕ) : Type 0 where
  run : s ≡ s'
  after : rest ≡ rest'

stops_here : (p : ℕ → Bool) (b : ℕ) (bs rest : List ℕ) → rest ≡ b ∷ bs → p b ≡ true → StopsAt p rest → ⊥
stops_here p b bs [] e h s = s
stops_here p b bs (r ∷ rs) e h s = false≢true (sym s ∙ ap p (let same : r ≡ b = cc in same) ∙ h)

same_run : (p : ℕ → Bool) (s s' rest rest' : List ℕ) → s ++ rest ≡ s' ++ rest' → list_all p s ≡ true → list_all p s' ≡ true → StopsAt p rest → StopsAt p rest' → IsSameRun s s' rest rest'
same_run p [] [] rest rest' e h k u v = record { run = refl; after = e }
same_run p [] (c ∷ cs) rest rest' e h k u v = absurd (stops_here p c (cs ++ rest') rest e (and_parts (p c) (list_all p cs) k).0 u)
same_run p (b ∷ bs) [] rest rest' e h k u v = absurd (stops_here p b (bs ++ rest) rest' (sym e) (and_parts (p b) (list_all p bs) h).0 v)
same_run p (b ∷ bs) (c ∷ cs) rest rest' e h k u v =
    let first : b ≡ c = cc in
    let cons-tail : bs ++ rest ≡ cs ++ rest' = cc in
    let w = same_run p bs cs rest rest' cons-tail (and_parts (p b) (list_all p bs) h).1 (and_parts (p c) (list_all p cs) k).1 u v in
    let run = w.run in
    record { run = cc; after = w.after }

-- integers

numeral_first : (b : ℕ) (s : List ℕ) → IsNumeral (b ∷ s) → is_digit b ≡ true
numeral_first b [] h = h
numeral_first b (c ∷ s) h = h.0

numeral_rest : (b : ℕ) (s : List ℕ) → IsNumeral (b ∷ s) → list_all is_digit s ≡ true
numeral_rest b [] h = refl
numeral_rest b (c ∷ s) h = h.2

numeral_zero : (b : ℕ) (s : List ℕ) → b ≡ 48 → IsNumeral (b ∷ s) → s ≡ []
numeral_zero b [] e h = refl
numeral_zero b (c ∷ s) e h = absurd (h.1 e)

digit_least : (b : ℕ) → is_digit b ≡ true → 48 ≤ b
digit_least b h = grind (arith, nat_tests)

same_int_zero : (n m b : ℕ) (bs s s' rest rest' : List ℕ) → b ≡ 48 → Spells (Int n) (b ∷ s) → Spells (Int m) (b ∷ s') → bs ≡ s ++ rest → bs ≡ s' ++ rest' → IsSame (Int n) (Int m) rest rest'
same_int_zero n m b bs s s' rest rest' z h k e f =
    let none : s ≡ [] = numeral_zero b s z h.0 in
    let none' : s' ≡ [] = numeral_zero b s' z k.0 in
    let value : n ≡ m = sym h.1 ∙ ap (λ w. value_of (b ∷ w)) (none ∙ sym none') ∙ k.1 in
    let here : bs ≡ rest = e ∙ ap (λ w. w ++ rest) none in
    let there : bs ≡ rest' = f ∙ ap (λ w. w ++ rest') none' in
    record { token = ap Int value; after = sym here ∙ there }

same_int_run : (n m b : ℕ) (bs s s' rest rest' : List ℕ) → 0 < b - 48 → Spells (Int n) (b ∷ s) → Spells (Int m) (b ∷ s') → bs ≡ s ++ rest → bs ≡ s' ++ rest' → IsDelimited (Int n) rest
    → IsDelimited (Int m) rest' → IsSame (Int n) (Int m) rest rest'
same_int_run n m b bs s s' rest rest' z h k e f u v =
    let w = same_run is_digit s s' rest rest' (sym e ∙ f) (numeral_rest b s h.0) (numeral_rest b s' k.0)
    (int_stops n rest (omega (arith, h.1, nonzero b s z)) u) (int_stops m rest' (omega (arith, k.1, nonzero b s' z)) v) in
    record { token = ap Int (sym h.1 ∙ ap (λ q. value_of (b ∷ q)) w.run ∙ k.1); after = w.after }

one_int : (u : Token) (n b : ℕ) (bs s s' rest rest' : List ℕ) → 48 ≡ token_kind u → Spells (Int n) (b ∷ s) → Spells u (b ∷ s') → bs ≡ s ++ rest → bs ≡ s' ++ rest' → IsDelimited (Int n) rest
    → IsDelimited u rest' → IsSame (Int n) u rest rest'
one_int (Int m) n b bs s s' rest rest' q h k e f u v = elim (cases_eq b 48) [
  | inl z ↦ same_int_zero n m b bs s s' rest rest' z h k e f
  | inr z ↦ same_int_run n m b bs s s' rest rest' (omega (arith, z, digit_least b (numeral_first b s h.0))) h k e f u v
]
one_int _ n b bs s s' rest rest' q h k e f u v = absurd (omega arith)

-- identifiers and names of headers

record IsRun (b : ℕ) (bs name tail : List ℕ) : Type 0 where
  run : List ℕ
  name_is : name ≡ b ∷ run
  words : list_all is_word run ≡ true
  split : bs ≡ run ++ tail

header_run : (b : ℕ) (bs s rest name : List ℕ) → IsIdentifier name → b ∷ s ≡ name ++ 58 ∷ [] → bs ≡ s ++ rest → IsRun b bs name (58 ∷ rest)
header_run b bs s rest [] i e f = absurd i
header_run b bs s rest (n ∷ ns) i e f =
    let first : n ≡ b = cc in
    let cons-tail : s ≡ ns ++ 58 ∷ [] = cc in
    record { run = ns; name_is = ap (λ x. x ∷ ns) first; words = i.1; split = f ∙ ap (λ w. w ++ rest) cons-tail ∙ append_assoc ns (58 ∷ []) rest }

identifier_run : (b : ℕ) (bs s rest name : List ℕ) → IsIdentifier name → b ∷ s ≡ name → bs ≡ s ++ rest → IsRun b bs name rest
identifier_run b bs s rest [] i e f = absurd i
identifier_run b bs s rest (n ∷ ns) i e f =
    let cons-tail : s ≡ ns = cc in
    record { run = s; name_is = sym e; words = ap (list_all is_word) cons-tail ∙ i.1; split = f }

colon_no : (rest tail : List ℕ) → 58 ∷ tail ≡ rest → StopsAt (λ b. b == 58) rest → ⊥
colon_no [] tail e s = s
colon_no (r ∷ rs) tail e s = eqb-false r 58 s (let same : r ≡ 58 = cc in same)

one_header : (u : Token) (b : ℕ) (bs s s' rest rest' name : List ℕ) → 65 ≡ token_kind u → Spells (HeaderName name) (b ∷ s) → Spells u (b ∷ s') → bs ≡ s ++ rest → bs ≡ s' ++ rest'
    → IsDelimited u rest' → IsSame (HeaderName name) u rest rest'
one_header (HeaderName name') b bs s s' rest rest' name q h k e f v =
    let x = header_run b bs s rest name h.0 h.1 e in
    let y = header_run b bs s' rest' name' k.0 k.1 f in
    let w = same_run is_word x.run y.run (58 ∷ rest) (58 ∷ rest') (sym x.split ∙ y.split) x.words y.words refl refl in
    let after : 58 ∷ rest ≡ 58 ∷ rest' = w.after in
    record { token = ap HeaderName (x.name_is ∙ ap (λ z. b ∷ z) w.run ∙ sym y.name_is); after = cc }
one_header (Identifier name') b bs s s' rest rest' name q h k e f v =
    let x = header_run b bs s rest name h.0 h.1 e in
    let y = identifier_run b bs s' rest' name' k.0 k.1 f in
    let w = same_run is_word x.run y.run (58 ∷ rest) rest' (sym x.split ∙ y.split) x.words y.words refl v.0 in
    absurd (colon_no rest' rest w.after v.1)
one_header _ b bs s s' rest rest' name q h k e f v = absurd (omega arith)

one_identifier : (u : Token) (b : ℕ) (bs s s' rest rest' name : List ℕ) → 65 ≡ token_kind u → Spells (Identifier name) (b ∷ s) → Spells u (b ∷ s') → bs ≡ s ++ rest → bs ≡ s' ++ rest'
    → IsDelimited (Identifier name) rest → IsDelimited u rest' → IsSame (Identifier name) u rest rest'
one_identifier (HeaderName name') b bs s s' rest rest' name q h k e f u v =
    turned (HeaderName name') (Identifier name) rest' rest (one_header (Identifier name) b bs s' s rest' rest name' refl k h f e u)
one_identifier (Identifier name') b bs s s' rest rest' name q h k e f u v =
    let x = identifier_run b bs s rest name h.0 h.1 e in
    let y = identifier_run b bs s' rest' name' k.0 k.1 f in
    let w = same_run is_word x.run y.run rest rest' (sym x.split ∙ y.split) x.words y.words u.0 v.0 in
    record { token = ap Identifier (x.name_is ∙ ap (λ z. b ∷ z) w.run ∙ sym y.name_is); after = w.after }
one_identifier _ b bs s s' rest rest' name q h k e f u v = absurd (omega arith)

-- aliases

one_alias : (u : Token) (b : ℕ) (bs s s' rest rest' name : List ℕ) → 64 ≡ token_kind u → Spells (Alias name) (b ∷ s) → Spells u (b ∷ s') → bs ≡ s ++ rest → bs ≡ s' ++ rest'
    → IsDelimited (Alias name) rest → IsDelimited u rest' → IsSame (Alias name) u rest rest'
one_alias (Alias name') b bs s s' rest rest' name q h k e f u v =
    let x : b ∷ s ≡ 64 ∷ name = h.2 in
    let y : b ∷ s' ≡ 64 ∷ name' = k.2 in
    let here : s ≡ name = cc in
    let there : s' ≡ name' = cc in
    let w = same_run is_word name name' rest rest' (ap (λ z. z ++ rest) (sym here) ∙ sym e ∙ f ∙ ap (λ z. z ++ rest') there) h.1 k.1 u v in
    record { token = ap Alias w.run; after = w.after }
one_alias _ b bs s s' rest rest' name q h k e f u v = absurd (omega arith)

-- strings

same_quotes : (inner inner' text text' rest rest' : List ℕ) → Quotes inner text → Quotes inner' text' → inner ++ 34 ∷ rest ≡ inner' ++ 34 ∷ rest' → IsSameRun text text' rest rest'
same_quotes inner inner' text text' rest rest' nothing nothing e = record { run = refl; after = cc }
same_quotes inner (x ∷ y ∷ inner') text (z ∷ text') rest rest' nothing (escaped k) e = absurd (omega (arith, cons-head 34 92 rest (y ∷ (inner' ++ 34 ∷ rest')) e))
same_quotes inner (x ∷ inner') text (z ∷ text') rest rest' nothing (plain n m k) e = absurd (n (sym (cons-head 34 x rest (inner' ++ 34 ∷ rest') e)))
same_quotes (x ∷ y ∷ inner) inner' (z ∷ text) text' rest rest' (escaped h) nothing e = absurd (omega (arith, cons-head 92 34 (y ∷ (inner ++ 34 ∷ rest)) rest' e))
same_quotes (x ∷ inner) inner' (z ∷ text) text' rest rest' (plain n m h) nothing e = absurd (n (cons-head x 34 (inner ++ 34 ∷ rest) rest' e))
same_quotes (x ∷ y ∷ inner) (x' ∷ y' ∷ inner') (z ∷ text) (z' ∷ text') rest rest' (escaped h) (escaped k) e =
    let first : y ≡ y' = cons-head y y' (inner ++ 34 ∷ rest) (inner' ++ 34 ∷ rest') (cons-tail 92 92 (y ∷ (inner ++ 34 ∷ rest)) (y' ∷ (inner' ++ 34 ∷ rest')) e) in
    let w = same_quotes inner inner' text text' rest rest' h k
    (cons-tail y y' (inner ++ 34 ∷ rest) (inner' ++ 34 ∷ rest') (cons-tail 92 92 (y ∷ (inner ++ 34 ∷ rest)) (y' ∷ (inner' ++ 34 ∷ rest')) e)) in
    let run = w.run in
    record { run = cc; after = w.after }
same_quotes (x ∷ y ∷ inner) (x' ∷ inner') (z ∷ text) (z' ∷ text') rest rest' (escaped h) (plain n m k) e =
    absurd (m (sym (cons-head 92 x' (y ∷ (inner ++ 34 ∷ rest)) (inner' ++ 34 ∷ rest') e)))
same_quotes (x ∷ inner) (x' ∷ y' ∷ inner') (z ∷ text) (z' ∷ text') rest rest' (plain n m h) (escaped k) e =
    absurd (m (cons-head x 92 (inner ++ 34 ∷ rest) (y' ∷ (inner' ++ 34 ∷ rest')) e))
same_quotes (x ∷ inner) (x' ∷ inner') (z ∷ text) (z' ∷ text') rest rest' (plain n m h) (plain n' m' k) e =
    let first : x ≡ x' = cons-head x x' (inner ++ 34 ∷ rest) (inner' ++ 34 ∷ rest') e in
    let w = same_quotes inner inner' text text' rest rest' h k (cons-tail x x' (inner ++ 34 ∷ rest) (inner' ++ 34 ∷ rest') e) in
    let run = w.run in
    record { run = cc; after = w.after }

quoted_split : (b : ℕ) (bs s rest inner : List ℕ) → b ∷ s ≡ 34 ∷ (inner ++ 34 ∷ []) → bs ≡ s ++ rest → bs ≡ inner ++ 34 ∷ rest
quoted_split b bs s rest inner e f =
    let same : s ≡ inner ++ 34 ∷ [] = cc in
    f ∙ ap (λ w. w ++ rest) same ∙ append_assoc inner (34 ∷ []) rest

one_string : (u : Token) (b : ℕ) (bs s s' rest rest' text : List ℕ) → 34 ≡ token_kind u → Spells (Str text) (b ∷ s) → Spells u (b ∷ s') → bs ≡ s ++ rest → bs ≡ s' ++ rest'
    → IsSame (Str text) u rest rest'
one_string (Str text') b bs s s' rest rest' text q h k e f =
    let w = same_quotes h.0 k.0 text text' rest rest' h.1 k.1 (sym (quoted_split b bs s rest h.0 h.2 e) ∙ quoted_split b bs s' rest' k.0 k.2 f) in
    record { token = ap Str w.run; after = w.after }
one_string _ b bs s s' rest rest' text q h k e f = absurd (omega arith)

-- tokens of a fixed spelling

fixed : (t : Token) (b : ℕ) (bs s s' rest rest' word : List ℕ) → b ∷ s ≡ word → b ∷ s' ≡ word → bs ≡ s ++ rest → bs ≡ s' ++ rest' → IsSame t t rest rest'
fixed t b bs s s' rest rest' word h k e f =
    let whole : b ∷ s ≡ b ∷ s' = h ∙ sym k in
    let same : s ≡ s' = cc in
    record { token = refl; after = append-cancel s rest rest' (sym e ∙ f ∙ ap (λ w. w ++ rest') (sym same)) }

dashed_second : (letter b : ℕ) (bs s rest more : List ℕ) → b ∷ s ≡ 45 ∷ 45 ∷ letter ∷ more → bs ≡ s ++ rest → bs ≡ 45 ∷ letter ∷ (more ++ rest)
dashed_second letter b bs s rest more h e =
    let same : s ≡ 45 ∷ letter ∷ more = cc in
    e ∙ ap (λ w. w ++ rest) same

-- fixed spellings that differ at their third byte
apart : (c d : ℕ) (b : ℕ) (bs s s' rest rest' more more' : List ℕ) → (c ≡ d → ⊥) → b ∷ s ≡ 45 ∷ 45 ∷ c ∷ more → b ∷ s' ≡ 45 ∷ 45 ∷ d ∷ more' → bs ≡ s ++ rest → bs ≡ s' ++ rest' → ⊥
apart c d b bs s s' rest rest' more more' n h k e f =
    let whole = sym (dashed_second c b bs s rest more h e) ∙ dashed_second d b bs s' rest' more' k f in
    n (cons-head c d (more ++ rest) (more' ++ rest') (cons-tail 45 45 (c ∷ (more ++ rest)) (d ∷ (more' ++ rest')) whole))

one_front : (t u : Token) (b : ℕ) (bs s s' rest rest' : List ℕ) → token_kind t ≡ token_kind u → Spells t (b ∷ s) → Spells u (b ∷ s') → bs ≡ s ++ rest → bs ≡ s' ++ rest' → IsDelimited t rest
    → IsDelimited u rest' → IsSame t u rest rest'
one_front (HeaderName name) u b bs s s' rest rest' q h k e f v w = one_header u b bs s s' rest rest' name q h k e f w
one_front (Identifier name) u b bs s s' rest rest' q h k e f v w = one_identifier u b bs s s' rest rest' name q h k e f v w
one_front (Str text) u b bs s s' rest rest' q h k e f v w = one_string u b bs s s' rest rest' text q h k e f
one_front (Int n) u b bs s s' rest rest' q h k e f v w = one_int u n b bs s s' rest rest' q h k e f v w
one_front (Alias name) u b bs s s' rest rest' q h k e f v w = one_alias u b bs s s' rest rest' name q h k e f v w
one_front Body Body b bs s s' rest rest' q h k e f v w = fixed Body b bs s s' rest rest' _ h k e f
one_front Body End b bs s s' rest rest' q h k e f v w = absurd (apart 66 69 b bs s s' rest rest' (codes "ODY--") (codes "ND--") (λ (w : 66 ≡ 69). omega arith) h k e f)
one_front Body Abort b bs s s' rest rest' q h k e f v w = absurd (apart 66 65 b bs s s' rest rest' (codes "ODY--") (codes "BORT--") (λ (w : 66 ≡ 65). omega arith) h k e f)
one_front End Body b bs s s' rest rest' q h k e f v w = absurd (apart 69 66 b bs s s' rest rest' (codes "ND--") (codes "ODY--") (λ (w : 69 ≡ 66). omega arith) h k e f)
one_front End End b bs s s' rest rest' q h k e f v w = fixed End b bs s s' rest rest' _ h k e f
one_front End Abort b bs s s' rest rest' q h k e f v w = absurd (apart 69 65 b bs s s' rest rest' (codes "ND--") (codes "BORT--") (λ (w : 69 ≡ 65). omega arith) h k e f)
one_front Abort Body b bs s s' rest rest' q h k e f v w = absurd (apart 65 66 b bs s s' rest rest' (codes "BORT--") (codes "ODY--") (λ (w : 65 ≡ 66). omega arith) h k e f)
one_front Abort End b bs s s' rest rest' q h k e f v w = absurd (apart 65 69 b bs s s' rest rest' (codes "BORT--") (codes "ND--") (λ (w : 65 ≡ 69). omega arith) h k e f)
one_front Abort Abort b bs s s' rest rest' q h k e f v w = fixed Abort b bs s s' rest rest' _ h k e f
one_front Bang Bang b bs s s' rest rest' q h k e f v w = fixed Bang b bs s s' rest rest' _ h k e f
one_front Amp Amp b bs s s' rest rest' q h k e f v w = fixed Amp b bs s s' rest rest' _ h k e f
one_front Bar Bar b bs s s' rest rest' q h k e f v w = fixed Bar b bs s s' rest rest' _ h k e f
one_front LeftParen LeftParen b bs s s' rest rest' q h k e f v w = fixed LeftParen b bs s s' rest rest' _ h k e f
one_front RightParen RightParen b bs s s' rest rest' q h k e f v w = fixed RightParen b bs s s' rest rest' _ h k e f
one_front LeftBrace LeftBrace b bs s s' rest rest' q h k e f v w = fixed LeftBrace b bs s s' rest rest' _ h k e f
one_front RightBrace RightBrace b bs s s' rest rest' q h k e f v w = fixed RightBrace b bs s s' rest rest' _ h k e f
one_front LeftBracket LeftBracket b bs s s' rest rest' q h k e f v w = fixed LeftBracket b bs s s' rest rest' _ h k e f
one_front RightBracket RightBracket b bs s s' rest rest' q h k e f v w = fixed RightBracket b bs s s' rest rest' _ h k e f
one_front _ _ b bs s s' rest rest' q h k e f v w = absurd (omega arith)

same_front_at : (t u : Token) (bytes rest rest' : List ℕ) → IsFront bytes t rest → IsFront bytes u rest' → IsSame t u rest rest'
same_front_at t u [] rest rest' f g = absurd (no_front (record { token = t; rest = rest; front = f }))
same_front_at t u (b ∷ bs) rest rest' f g =
    let x = front_head b bs t rest f in
    let y = front_head b bs u rest' g in
    one_front t u b bs x.tail y.tail rest rest' (sym x.kinds ∙ y.kinds) x.spells y.spells x.split y.split f.ends g.ends

pub one_next_token : OneNextToken
one_next_token input start t u i k rest rest' f g =
    let place : f.bytes ≡ g.bytes = same_place f.before g.before f.bytes g.bytes f.blanks g.blanks (sym f.split ∙ g.split)
    (record { token = t; rest = rest; front = f.front }) (record { token = u; rest = rest'; front = g.front }) in
    let there : IsFront f.bytes u rest' = subst (λ (w : List ℕ). IsFront w u rest') (sym place) g.front in
    let same = same_front_at t u f.bytes rest rest' f.front there in
    let offset : i ≡ k = omega (arith, f.place, g.place, ap length place, simp length-append at (ap length f.split), simp length-append at (ap length g.split)) in
    (same.token, offset, same.after)

no_next_of_blanks : (input : List ℕ) (start : ℕ) (t : Token) (i : ℕ) (rest : List ℕ) → IsBlanks input → IsNext input start t i rest → ⊥
no_next_of_blanks input start t i rest h f = blanks_no_token input h (front_of input start t i rest f)

pub same_pair : (p q : Token × ℕ) → p.0 ≡ q.0 → p.1 ≡ q.1 → p ≡ q
same_pair (t, i) (u, k) e f = cc

pub one_token_list : OneTokenList
one_token_list input start [] [] rest rest' f h g k = (refl, sym f ∙ g)
one_token_list input start [] (u ∷ us) rest rest' f h g k =
    absurd (no_next_of_blanks input start u.0 u.1 g.0 (subst IsBlanks (sym f) h) g.1)
one_token_list input start (t ∷ ts) [] rest rest' f h g k =
    absurd (no_next_of_blanks input start t.0 t.1 f.0 (subst IsBlanks (sym g) k) f.1)
one_token_list input start (t ∷ ts) (u ∷ us) rest rest' f h g k =
    let same = one_next_token input start t.0 u.0 t.1 u.1 f.0 g.0 f.1 g.1 in
    let place = start + (length input - length f.0) in
    let there : Lexes f.0 place us rest' =
    subst (λ (w : List ℕ). Lexes w (start + (length input - length w)) us rest') (sym same.2) g.2 in
    let more = one_token_list f.0 place ts us rest rest' f.2 h there k in
    let first : t ≡ u = same_pair t u same.0 same.1 in
    let others = more.0 in
    (cc, more.1)
