-- The tokens of a printed word.
use Rattle.std.proofs.Common.{◌≡◌, ◌∙◌, ◌==◌, ◌||◌, ◌&&◌, ◌∷◌, ◌++◌, ◌<◌, List, [], ap, arith, codes, cond, false, inl, inr, length, map, not, refl, subst, sym, true, ℕ}
use Rattle.std.proofs.lemmas.Bool.{and_parts, cases_Bool, cond-false, cond-true, eqb-false, or_parts, or_right, not-true}
use Rattle.std.proofs.lemmas.List.{append_assoc}
use Rattle.std.specs.FinSet.{contains}
use Rattle.std.specs.List.{list_all}
use Rattle.std.specs.Prelude.{flat_map}
use Rattle.aut_base.proofs.words.Texts as texts
use Rattle.aut_base.specs.LabelText.{joined}
use Rattle.aut_base.specs.Text.{same_text}
use Rattle.aut_base.specs.Word.{NameSet}
use Rattle.word_syntax.proofs.texts.FrontTokens.{bare_ends, ends_anyhow}
use Rattle.word_syntax.specs.Printing.{escaped_byte, is_keyword, is_plain, is_small, letter_text, name_literal_text, name_text, word_text}
use Rattle.word_syntax.specs.Tokens.{EndsWord, IsBare, IsBareName, LexesWord, Quotes, SpellsWordToken, escaped, extends, is_letter, is_alphanumeric, nothing, plain}
use Rattle.word_syntax.specs.inner.Nexts.{StopsAtHead}
use Rattle.word_syntax.specs.declared.token.Token.{Token}
use Rattle.word_syntax.specs.declared.token.Token.TheVariants as token

abbrev pub literal_tokens : NameSet → List ℕ → List Token
literal_tokens x n = cond (contains x n) (token.Name n ∷ []) (token.Not ∷ token.Name n ∷ [])

-- the tokens of each item, with this token between each two items
abbrev pub separated : {A : Type 0} → Token → (A → List Token) → List A → List Token
separated sign tokens [] = []
separated sign tokens (x ∷ []) = tokens x
separated sign tokens (x ∷ y ∷ ys) = tokens x ++ (sign ∷ separated sign tokens (y ∷ ys))

abbrev pub literals_tokens : NameSet → List (List ℕ) → List Token
literals_tokens x ns = separated token.And (literal_tokens x) ns

abbrev pub letter_tokens : List (List ℕ) → NameSet → List Token
letter_tokens [] x = token.True ∷ []
letter_tokens (n ∷ ns) x = literals_tokens x (n ∷ ns)

abbrev pub stem_tokens : List (List ℕ) → List NameSet → List Token
stem_tokens names [] = []
stem_tokens names (x ∷ xs) = letter_tokens names x ++ (token.Semicolon ∷ stem_tokens names xs)

abbrev pub cycle_tokens : List (List ℕ) → List NameSet → List Token
cycle_tokens names xs = separated token.Semicolon (letter_tokens names) xs

abbrev pub word_tokens : List (List ℕ) → List NameSet → List NameSet → List Token
word_tokens names u v = stem_tokens names u ++ (token.Cycle ∷ token.LeftBrace ∷ (cycle_tokens names v ++ token.RightBrace ∷ []))

-- another token in front
lex_cons : (t : Token) (word rest : List ℕ) (ts : List Token) (end : List ℕ) → SpellsWordToken t word → EndsWord word rest → LexesWord rest ts end → LexesWord (word ++ rest) (t ∷ ts) end
lex_cons t word rest ts end spells ends lexes = (word ++ rest, rest, record { before = []; split = refl; blank = refl }, record { word = word; split = refl; spells = spells; ends = ends }, lexes)

-- another space in front
lex_space : (text : List ℕ) (t : Token) (ts : List Token) (end : List ℕ) → LexesWord text (t ∷ ts) end → LexesWord (32 ∷ text) (t ∷ ts) end
lex_space text t ts end l = (l.0, l.1, record { before = 32 ∷ l.2.before; split = ap (λ (x : List ℕ). 32 ∷ x) l.2.split; blank = l.2.blank }, l.3, l.4)

-- a name
escaped_quotes : (n : List ℕ) → Quotes (flat_map escaped_byte n) n
escaped_quotes [] = nothing
escaped_quotes (b ∷ bs) = elim (cases_Bool ((b == 34) || (b == 92))) [
  | inl e ↦ subst (λ (x : List ℕ). Quotes (x ++ flat_map escaped_byte bs) (b ∷ bs)) (sym (cond-true _ _ _ e)) (escaped (escaped_quotes bs))
  | inr e ↦ (let parts = or_parts (b == 34) (b == 92) e in subst (λ (x : List ℕ). Quotes (x ++ flat_map escaped_byte bs) (b ∷ bs)) (sym (cond-false _ _ _ e))
      (plain (eqb-false b 34 parts.0) (eqb-false b 92 parts.1) (escaped_quotes bs)))
]

small_letter : (b : ℕ) → is_small b ≡ true → is_letter b ≡ true
small_letter b e = or_right _ _ e

plain_bare : (n : List ℕ) → is_plain n ≡ true → IsBareName n
plain_bare [] e = cc
plain_bare (b ∷ bs) e =
    let one = and_parts (is_small b) (list_all is_alphanumeric (b ∷ bs) && not (is_keyword (b ∷ bs))) e in
    let two = and_parts (list_all is_alphanumeric (b ∷ bs)) (not (is_keyword (b ∷ bs))) one.1 in
    let three = or_parts (same_text (b ∷ bs) (codes "true")) (same_text (b ∷ bs) (codes "false") || same_text (b ∷ bs) (codes "cycle")) (not-true (is_keyword (b ∷ bs)) two.1) in
    let four = or_parts (same_text (b ∷ bs) (codes "false")) (same_text (b ∷ bs) (codes "cycle")) three.1 in
    record {
      bare = (small_letter b one.0, (and_parts (is_alphanumeric b) (list_all is_alphanumeric bs) two.0).1);
      not_true = texts.other_text (b ∷ bs) (codes "true") three.0;
      not_false = texts.other_text (b ∷ bs) (codes "false") four.0;
      not_cycle = texts.other_text (b ∷ bs) (codes "cycle") four.1;
    }

bare_stops : (n rest : List ℕ) → IsBare n → StopsAtHead is_alphanumeric rest → EndsWord n rest
bare_stops [] rest bare stop = absurd bare
bare_stops (b ∷ bs) rest bare stop = bare_ends b bs rest bare.0 stop

quoted_alone : (inner : List ℕ) (c : ℕ) → extends (34 ∷ (inner ++ 34 ∷ [])) c ≡ false
quoted_alone [] c = refl
quoted_alone (b ∷ bs) c = refl

lex_name : (n rest : List ℕ) (ts : List Token) (end : List ℕ) → StopsAtHead is_alphanumeric rest → LexesWord rest ts end → LexesWord (name_text n ++ rest) (token.Name n ∷ ts) end
lex_name n rest ts end stop lexes = elim (cases_Bool (is_plain n)) [
  | inl e ↦ (let bare = plain_bare n e in subst (λ (x : List ℕ). LexesWord (x ++ rest) (token.Name n ∷ ts) end) (sym (cond-true _ _ _ e))
      (lex_cons (token.Name n) n rest ts end (inl (bare, refl)) (bare_stops n rest bare.bare stop) lexes))
  | inr e ↦ (let word : List ℕ = 34 ∷ (flat_map escaped_byte n ++ 34 ∷ []) in
      subst (λ (x : List ℕ). LexesWord (x ++ rest) (token.Name n ∷ ts) end) (sym (cond-false _ _ _ e))
      (lex_cons (token.Name n) (34 ∷ (flat_map escaped_byte n ++ 34 ∷ [])) rest ts end (inr (flat_map escaped_byte n, escaped_quotes n, refl))
      (ends_anyhow (34 ∷ (flat_map escaped_byte n ++ 34 ∷ [])) rest (quoted_alone (flat_map escaped_byte n))) lexes))
]

-- a literal
lex_literal : (x : NameSet) (n rest : List ℕ) (ts : List Token) (end : List ℕ) → StopsAtHead is_alphanumeric rest → LexesWord rest ts end
    → LexesWord (name_literal_text x n ++ rest) (literal_tokens x n ++ ts) end
lex_literal x n rest ts end stop lexes = elim (cases_Bool (contains x n)) [
  | inl e ↦ subst (λ (w : List ℕ). LexesWord (w ++ rest) (literal_tokens x n ++ ts) end) (sym (cond-true _ _ _ e))
      (subst (λ (w : List Token). LexesWord (name_text n ++ rest) (w ++ ts) end) (sym (cond-true _ _ _ e)) (lex_name n rest ts end stop lexes))
  | inr e ↦ subst (λ (w : List ℕ). LexesWord (w ++ rest) (literal_tokens x n ++ ts) end) (sym (cond-false _ _ _ e))
      (subst (λ (w : List Token). LexesWord ((codes "!" ++ name_text n) ++ rest) (w ++ ts) end) (sym (cond-false _ _ _ e))
      (lex_cons token.Not (codes "!") (name_text n ++ rest) (token.Name n ∷ ts) end refl (ends_anyhow (codes "!") (name_text n ++ rest) (λ c. refl)) (lex_name n rest ts end stop lexes)))
]

-- a text that begins with a token, with spaces in front
record Begun (text : List ℕ) (ts : List Token) (end : List ℕ) : Type 0 where
  first : Token
  others : List Token
  is : ts ≡ first ∷ others
  lexes : LexesWord text (first ∷ others) end

spaced : (text : List ℕ) (ts : List Token) (end : List ℕ) → Begun text ts end → LexesWord (32 ∷ text) ts end
spaced text ts end b = subst (λ (x : List Token). LexesWord (32 ∷ text) x end) (sym b.is) (lex_space text b.first b.others end b.lexes)

begun : (text : List ℕ) (first : Token) (others ts : List Token) (end : List ℕ) → ts ≡ first ∷ others → LexesWord text ts end → Begun text ts end
begun text first others ts end is l = record { first = first; others = others; is = is; lexes = subst (λ (x : List Token). LexesWord text x end) is l }

abbrev Starts : List Token → Type 0
Starts ts = (first : Token) × (others : List Token) × (ts ≡ first ∷ others)

-- with a token and more after it
starts_more : (v w ts : List Token) (t : Token) → ((us : List Token) → Starts (v ++ us)) → Starts ((v ++ t ∷ w) ++ ts)
starts_more v w ts t starts = let b = starts (t ∷ w ++ ts) in (b.0, b.1, append_assoc v (t ∷ w) ts ∙ b.2)

-- an item's text, which ends where no token goes on, and its tokens
record Item {A : Type 0} (text : A → List ℕ) (tokens : A → List Token) (x : A) : Type 0 where
  starts : (ts : List Token) → Starts (tokens x ++ ts)
  lexes : (rest : List ℕ) (ts : List Token) (end : List ℕ) → StopsAtHead is_alphanumeric rest → LexesWord rest ts end → LexesWord (text x ++ rest) (tokens x ++ ts) end

-- a sign between items, with a space after it
record Between (text : List ℕ) (sign : Token) : Type 0 where
  stops : (more : List ℕ) → StopsAtHead is_alphanumeric (text ++ more)
  lexes : (more : List ℕ) (ts : List Token) (end : List ℕ) → Begun more ts end → LexesWord (text ++ more) (sign ∷ ts) end

separated_starts : {A : Type 0} (sign : Token) (text : A → List ℕ) (tokens : A → List Token) → ((x : A) → Item text tokens x) → (x : A) (xs : List A) (ts : List Token)
    → Starts (separated sign tokens (x ∷ xs) ++ ts)
separated_starts sign text tokens item x [] ts = (item x).starts ts
separated_starts sign text tokens item x (y ∷ ys) ts = starts_more (tokens x) (separated sign tokens (y ∷ ys)) ts sign (item x).starts

-- items with a sign between each two
lex_separated : {A : Type 0} (between : List ℕ) (sign : Token) (text : A → List ℕ) (tokens : A → List Token) → Between between sign → ((x : A) → Item text tokens x)
    → (x : A) (xs : List A) (rest : List ℕ) (ts : List Token) (end : List ℕ) → StopsAtHead is_alphanumeric rest → LexesWord rest ts end
    → LexesWord (joined between (map text (x ∷ xs)) ++ rest) (separated sign tokens (x ∷ xs) ++ ts) end
lex_separated between sign text tokens b item x [] rest ts end stop lexes = (item x).lexes rest ts end stop lexes
lex_separated between sign text tokens b item x (y ∷ ys) rest ts end stop lexes =
    let others : List ℕ = joined between (map text (y ∷ ys)) in
    let behind : List Token = separated sign tokens (y ∷ ys) in
    let later = lex_separated between sign text tokens b item y ys rest ts end stop lexes in
    let starts = separated_starts sign text tokens item y ys ts in
    let next = b.lexes (others ++ rest) (behind ++ ts) end (begun (others ++ rest) starts.0 starts.1 (behind ++ ts) end starts.2 later) in
    let whole = (item x).lexes (between ++ (others ++ rest)) (sign ∷ behind ++ ts) end (b.stops (others ++ rest)) next in
    let spelled : (text x ++ (between ++ others)) ++ rest ≡ text x ++ (between ++ (others ++ rest)) =
    append_assoc (text x) (between ++ others) rest ∙ ap (λ (w : List ℕ). text x ++ w) (append_assoc between others rest) in
    subst (λ (w : List ℕ). LexesWord w ((tokens x ++ (sign ∷ behind)) ++ ts) end) (sym spelled)
    (subst (λ (w : List Token). LexesWord (text x ++ (between ++ (others ++ rest))) w end) (sym (append_assoc (tokens x) (sign ∷ behind) ts)) whole)

literal_starts : (x : NameSet) (n : List ℕ) (ts : List Token) → Starts (literal_tokens x n ++ ts)
literal_starts x n ts = elim (cases_Bool (contains x n)) [
  | inl e ↦ (token.Name n, ts, ap (λ (w : List Token). w ++ ts) (cond-true _ _ _ e))
  | inr e ↦ (token.Not, token.Name n ∷ ts, ap (λ (w : List Token). w ++ ts) (cond-false _ _ _ e))
]

-- a literal of a letter, and the sign between two
literal_item : (x : NameSet) (n : List ℕ) → Item (name_literal_text x) (literal_tokens x) n
literal_item x n = record { starts = literal_starts x n; lexes = lex_literal x n }

between_literals : Between (codes " & ") token.And
between_literals = record {
  stops = λ more. refl;
  lexes = λ more ts end b. lex_space (codes "&" ++ (32 ∷ more)) token.And ts end (lex_cons token.And (codes "&") (32 ∷ more) ts end (inl refl) refl (spaced more ts end b));
}

letter_starts : (names : List (List ℕ)) (x : NameSet) (ts : List Token) → Starts (letter_tokens names x ++ ts)
letter_starts [] x ts = (token.True, ts, refl)
letter_starts (n ∷ ns) x ts = separated_starts token.And (name_literal_text x) (literal_tokens x) (literal_item x) n ns ts

lex_letter : (names : List (List ℕ)) (x : NameSet) (rest : List ℕ) (ts : List Token) (end : List ℕ) → StopsAtHead is_alphanumeric rest → LexesWord rest ts end
    → LexesWord (letter_text names x ++ rest) (letter_tokens names x ++ ts) end
lex_letter [] x rest ts end stop lexes = lex_cons token.True (codes "1") rest ts end (inl refl) (ends_anyhow (codes "1") rest (λ c. refl)) lexes
lex_letter (n ∷ ns) x rest ts end stop lexes =
    lex_separated (codes " & ") token.And (name_literal_text x) (literal_tokens x) between_literals (literal_item x) n ns rest ts end stop lexes

-- a letter of a word, and the sign between two
letter_item : (names : List (List ℕ)) (x : NameSet) → Item (letter_text names) (letter_tokens names) x
letter_item names x = record { starts = letter_starts names x; lexes = lex_letter names x }

between_letters : Between (codes "; ") token.Semicolon
between_letters = record {
  stops = λ more. refl;
  lexes = λ more ts end b. lex_cons token.Semicolon (codes ";") (32 ∷ more) ts end refl refl (spaced more ts end b);
}

-- the letters of the stem
stem_starts : (names : List (List ℕ)) (xs : List NameSet) (ts : List Token) → Starts ts → Starts (stem_tokens names xs ++ ts)
stem_starts names [] ts starts = starts
stem_starts names (x ∷ xs) ts starts = starts_more (letter_tokens names x) (stem_tokens names xs) ts token.Semicolon (letter_starts names x)

lex_stem : (names : List (List ℕ)) (xs : List NameSet) (rest : List ℕ) (ts : List Token) (t : Token) (us : List Token) (end : List ℕ) → ts ≡ t ∷ us → LexesWord rest ts end
    → LexesWord (flat_map (λ letter. letter_text names letter ++ codes "; ") xs ++ rest) (stem_tokens names xs ++ ts) end
lex_stem names [] rest ts t us end is lexes = lexes
lex_stem names (x ∷ xs) rest ts t us end is lexes =
    let others : List ℕ = flat_map (λ letter. letter_text names letter ++ codes "; ") xs in
    let more : List ℕ = others ++ rest in
    let later = lex_stem names xs rest ts t us end is lexes in
    let b = stem_starts names xs ts (t, us, is) in
    let next = between_letters.lexes more (stem_tokens names xs ++ ts) end (begun more b.0 b.1 (stem_tokens names xs ++ ts) end b.2 later) in
    let whole = lex_letter names x (59 ∷ 32 ∷ more) (token.Semicolon ∷ stem_tokens names xs ++ ts) end refl next in
    let text : ((letter_text names x ++ codes "; ") ++ others) ++ rest ≡ letter_text names x ++ (59 ∷ 32 ∷ more) = append_assoc (letter_text names x ++ codes "; ") others rest
    ∙ append_assoc (letter_text names x) (codes "; ") (others ++ rest) in
    subst (λ (w : List ℕ). LexesWord w ((letter_tokens names x ++ (token.Semicolon ∷ stem_tokens names xs)) ++ ts) end) (sym text)
    (subst (λ (w : List Token). LexesWord (letter_text names x ++ (59 ∷ 32 ∷ more)) w end) (sym (append_assoc (letter_tokens names x) (token.Semicolon ∷ stem_tokens names xs) ts)) whole)

-- the whole word
lex_some : (names : List (List ℕ)) (u : List NameSet) (x : NameSet) (xs : List NameSet) → LexesWord (word_text names u (x ∷ xs)) (word_tokens names u (x ∷ xs)) []
lex_some names u x xs =
    let close = lex_cons token.RightBrace (codes "}") [] [] [] refl tt refl in
    let cycle = lex_separated (codes "; ") token.Semicolon (letter_text names) (letter_tokens names) between_letters (letter_item names) x xs (codes "}") (token.RightBrace ∷ []) [] refl close in
    let brace = lex_cons token.LeftBrace (codes "{") (joined (codes "; ") (map (letter_text names) (x ∷ xs)) ++ codes "}") (cycle_tokens names (x ∷ xs) ++ token.RightBrace ∷ []) [] refl
    (ends_anyhow (codes "{") (joined (codes "; ") (map (letter_text names) (x ∷ xs)) ++ codes "}") (λ c. refl)) cycle in
    let word = lex_cons token.Cycle (codes "cycle") (codes "{" ++ (joined (codes "; ") (map (letter_text names) (x ∷ xs)) ++ codes "}"))
    (token.LeftBrace ∷ (cycle_tokens names (x ∷ xs) ++ token.RightBrace ∷ [])) [] refl refl brace in
    lex_stem names u (codes "cycle{" ++ (joined (codes "; ") (map (letter_text names) (x ∷ xs)) ++ codes "}"))
    (token.Cycle ∷ token.LeftBrace ∷ (cycle_tokens names (x ∷ xs) ++ token.RightBrace ∷ [])) token.Cycle (token.LeftBrace ∷ (cycle_tokens names (x ∷ xs) ++ token.RightBrace ∷ [])) [] refl word

pub printed_tokens : (names : List (List ℕ)) (u v : List NameSet) → 0 < length v → LexesWord (word_text names u v) (word_tokens names u v) []
printed_tokens names u [] some = absurd (omega arith)
printed_tokens names u (x ∷ xs) some = lex_some names u x xs
