-- The loop that reads a text token by token: its invariant, and its ends.
use Rattle.std.proofs.Common.{Bool, cond, true, false, ◌≡◌, ◌≢◌, ◌∙◌, ◌∷◌, ◌++◌, ◌+◌, ◌<◌, ◌≤◌, ◌^◌, List, None, Option, Some, [], ap, arith, drop}
use Rattle.std.proofs.Common.{inl, inr, length, length-append, length-drop, map, refl, subst, sym, ℕ}
use Rattle.std.proofs.lemmas.List.{append-nil, length-map}
use Rattle.std.proofs.lemmas.Option.{none-some, option_and_then_some, same_Some}
use Rattle.std.specs.Option.{option_map}
use Rattle.aut_base.specs.Label.{LabelTree, label_tree}
use Rattle.word_syntax.proofs.grammar.NamePlaces.{each_once}
use Rattle.word_syntax.proofs.grammar.NamePlaces.{agrees_front, distinct_differ, distinct_front, names_go, names_of-append, place_in, places_agree}
use Rattle.word_syntax.proofs.texts.Readings.{bad_writes_nothing}
use Rattle.word_syntax.proofs.grammar.Runs.{runs_push}
use Rattle.word_syntax.proofs.grammar.Words.{begins, begins_not, no_word, whole_word}
use Rattle.word_syntax.specs.Grammar.{IsWord, token_names}
use Rattle.word_syntax.specs.Tokens.{FollowsBlanks, IsWordFront, LexesWord}
use Rattle.word_syntax.specs.Writing.{IsBadAt, IsStoppedAt, StopsWord, WritesWord, WritesNothing, ended, misplaced, no_token}
use Rattle.word_syntax.specs.inner.Chains.{Agrees, HasTaken, NamesGo, word_state}
use Rattle.word_syntax.specs.inner.Machine as machine
use Rattle.word_syntax.specs.inner.Machine.{LetterState, WordState, letter_step, whole_letter, with_letter, word_start, word_step}
use Rattle.word_syntax.specs.inner.Nexts.{IsTokenNext, IsNothing, NoBlankFirst}
use Rattle.word_syntax.specs.inner.Reading.{HasReadTokens, HasReadTo, IsThrough}
use Rattle.word_syntax.specs.declared.stage.Stage.{Stage}
use Rattle.word_syntax.specs.declared.stage.Stage.TheVariants.{Stem, Brace, Cycle, End}
use Rattle.word_syntax.specs.declared.word.WordReader.{WordReader}
use Rattle.word_syntax.specs.declared.token.Token.{Token}
use Rattle.word_syntax.specs.declared.token.Token.TheVariants as token

lexes_push : (text : List ℕ) (ts : List Token) (rest bytes next : List ℕ) (t : Token) → LexesWord text ts rest → FollowsBlanks rest bytes → IsWordFront bytes t next
    → LexesWord text (ts ++ t ∷ []) next
lexes_push text [] rest bytes next t l a f = subst (λ (x : List ℕ). LexesWord x (t ∷ []) next) (sym l) (bytes, next, a, f, refl)
lexes_push text (u ∷ ts) rest bytes next t l a f = (l.0, l.1, l.2, l.3, lexes_push l.1 ts rest bytes next t l.4 a f)

-- another token, whatever the indices of names are
read_push : (tokens : List Token) (s next : WordState) (t : Token) (old new : List (List ℕ)) → old ≡ each_once (token_names tokens) → NamesGo t old new → HasReadTokens tokens s
    → ((place : List ℕ → ℕ) → Agrees place new → word_step place s t ≡ Some next) → HasReadTokens (tokens ++ t ∷ []) next
read_push tokens s next t old new is go read step place agrees =
    let more = distinct_front (token_names tokens) (token_names (t ∷ [])) in
    let P : List (List ℕ) → Type 0 = λ x. Agrees place x in
    let here : Agrees place new = subst P (sym (names_go tokens old new t is go)) agrees in
    let before : Agrees place (each_once (token_names tokens)) =
    agrees_front place (each_once (token_names tokens)) more.0 (subst P (ap each_once (names_of-append tokens (t ∷ [])) ∙ more.1) agrees) in
    runs_push (word_step place) word_start s next tokens t (read place before) (step place here)

-- a token adds at most one name, and at most one letter
grown : (t : Token) (old new : List (List ℕ)) → NamesGo t old new → length new ≤ length old + 1
grown (token.Name n) old new (inl (has, same)) = let e : length new ≡ length old = ap (λ (x : List (List ℕ)). length x) same in omega arith
grown (token.Name n) old new (inr (none, same)) = let e : length new ≡ length (old ++ n ∷ []) = ap (λ (x : List (List ℕ)). length x) same in omega (arith, length-append old (n ∷ []))
grown token.True old new same = let e : length new ≡ length old = ap (λ (x : List (List ℕ)). length x) same in omega arith
grown token.False old new same = let e : length new ≡ length old = ap (λ (x : List (List ℕ)). length x) same in omega arith
grown token.Not old new same = let e : length new ≡ length old = ap (λ (x : List (List ℕ)). length x) same in omega arith
grown token.And old new same = let e : length new ≡ length old = ap (λ (x : List (List ℕ)). length x) same in omega arith
grown token.Or old new same = let e : length new ≡ length old = ap (λ (x : List (List ℕ)). length x) same in omega arith
grown token.LeftParen old new same = let e : length new ≡ length old = ap (λ (x : List (List ℕ)). length x) same in omega arith
grown token.RightParen old new same = let e : length new ≡ length old = ap (λ (x : List (List ℕ)). length x) same in omega arith
grown token.Semicolon old new same = let e : length new ≡ length old = ap (λ (x : List (List ℕ)). length x) same in omega arith
grown token.Cycle old new same = let e : length new ≡ length old = ap (λ (x : List (List ℕ)). length x) same in omega arith
grown token.LeftBrace old new same = let e : length new ≡ length old = ap (λ (x : List (List ℕ)). length x) same in omega arith
grown token.RightBrace old new same = let e : length new ≡ length old = ap (λ (x : List (List ℕ)). length x) same in omega arith

abbrev letters : WordState → ℕ
letters s = length s.stem + length s.cycle

same_letters : (s next : WordState) (n : ℕ) → Some s ≡ Some next → letters s ≤ n → letters next ≤ n
same_letters s next n e h = let P : WordState → Type 0 = λ x. letters x ≤ n in subst P (same_Some s next e) h

ended_letters : (stage : Stage) (s next : WordState) (t : LabelTree) → machine.letter_ended stage s t ≡ Some next → letters next ≤ letters s + 1
ended_letters Stem s next t e = same_letters _ next (letters s + 1) e (omega (arith, length-append s.stem (t ∷ [])))
ended_letters Cycle s next t e = same_letters _ next (letters s + 1) e (omega (arith, length-append s.cycle (t ∷ [])))
ended_letters Brace s next t e = absurd (none-some next e)
ended_letters End s next t e = absurd (none-some next e)

closed_letters : (stage : Stage) (s next : WordState) (t : LabelTree) → machine.closed_at stage s t ≡ Some next → letters next ≤ letters s + 1
closed_letters Cycle s next t e = same_letters _ next (letters s + 1) e (omega (arith, length-append s.cycle (t ∷ [])))
closed_letters Stem s next t e = absurd (none-some next e)
closed_letters Brace s next t e = absurd (none-some next e)
closed_letters End s next t e = absurd (none-some next e)

tested_letters : (b : Bool) (s x next : WordState) → cond b (Some x) None ≡ Some next → letters x ≤ letters s + 1 → letters next ≤ letters s + 1
tested_letters true s x next e h = same_letters x next (letters s + 1) e h
tested_letters false s x next e h = absurd (none-some next e)

cycle_letters : (stage : Stage) (s next : WordState) → machine.cycle_at stage s ≡ Some next → letters next ≤ letters s + 1
cycle_letters Stem s next e = tested_letters (machine.is_fresh s.letter) s (record { stem = s.stem; cycle = s.cycle; stage = Brace; letter = s.letter }) next e (omega arith)
cycle_letters Cycle s next e = absurd (none-some next e)
cycle_letters Brace s next e = absurd (none-some next e)
cycle_letters End s next e = absurd (none-some next e)

brace_letters : (stage : Stage) (s next : WordState) → machine.brace_at stage s ≡ Some next → letters next ≤ letters s + 1
brace_letters Brace s next e = same_letters _ next (letters s + 1) e (omega arith)
brace_letters Stem s next e = absurd (none-some next e)
brace_letters Cycle s next e = absurd (none-some next e)
brace_letters End s next e = absurd (none-some next e)

inner_letters : (b : Bool) (s next : WordState) (o : Option LetterState) → cond b (option_map (with_letter s) o) None ≡ Some next → letters next ≤ letters s + 1
inner_letters true s next (Some l) e = same_letters (with_letter s l) next (letters s + 1) e (omega arith)
inner_letters true s next None e = absurd (none-some next e)
inner_letters false s next o e = absurd (none-some next e)

one_letter : (place : List ℕ → ℕ) (s next : WordState) (t : Token) → word_step place s t ≡ Some next → letters next ≤ letters s + 1
one_letter place s next token.Semicolon e = option_and_then_some (machine.letter_ended s.stage s) (whole_letter s.letter) next e (λ t whole f. ended_letters s.stage s next t f)
one_letter place s next token.RightBrace e = option_and_then_some (machine.closed_at s.stage s) (whole_letter s.letter) next e (λ t whole f. closed_letters s.stage s next t f)
one_letter place s next token.Cycle e = cycle_letters s.stage s next e
one_letter place s next token.LeftBrace e = brace_letters s.stage s next e
one_letter place s next token.True e = inner_letters (machine.has_letters s.stage) s next (letter_step place s.letter token.True) e
one_letter place s next token.False e = inner_letters (machine.has_letters s.stage) s next (letter_step place s.letter token.False) e
one_letter place s next (token.Name n) e = inner_letters (machine.has_letters s.stage) s next (letter_step place s.letter (token.Name n)) e
one_letter place s next token.Not e = inner_letters (machine.has_letters s.stage) s next (letter_step place s.letter token.Not) e
one_letter place s next token.And e = inner_letters (machine.has_letters s.stage) s next (letter_step place s.letter token.And) e
one_letter place s next token.Or e = inner_letters (machine.has_letters s.stage) s next (letter_step place s.letter token.Or) e
one_letter place s next token.LeftParen e = inner_letters (machine.has_letters s.stage) s next (letter_step place s.letter token.LeftParen) e
one_letter place s next token.RightParen e = inner_letters (machine.has_letters s.stage) s next (letter_step place s.letter token.RightParen) e

-- another token
pub midway_more : (text : List ℕ) (at start end : ℕ) (before after : WordReader) (t : Token) → HasReadTo text at before → IsTokenNext text at t start end → HasTaken before t after
    → HasReadTo text end after
midway_more text at start end before after t m n taken =
    let names = names_go m.tokens before.names after.names t m.names taken.names in
    let place = place_in after.names in
    let P : List (List ℕ) → Type 0 = λ x. Agrees (place_in x) x in
    let agrees : Agrees (place_in after.names) after.names = subst P (sym names) (places_agree (each_once (token_names (m.tokens ++ t ∷ []))) (distinct_differ (token_names (m.tokens ++ t ∷ [])))) in
    let longer = one_letter (place_in after.names) (word_state before) (word_state after) t (taken.steps (place_in after.names) agrees) in
    let more = grown t before.names after.names taken.names in
    let a = length-map before.stem label_tree in
    let b = length-map before.cycle label_tree in
    let c = length-map after.stem label_tree in
    let d = length-map after.cycle label_tree in
    record {
      tokens = m.tokens ++ t ∷ [];
      lexes = lexes_push text m.tokens (drop at text) (drop start text) (drop end text) t m.lexes n.blanks n.front;
      within = n.within;
      names = names;
      read = read_push m.tokens (word_state before) (word_state after) t before.names after.names m.names taken.names m.read taken.steps;
      few_names = omega (arith, more, m.few_names, n.later, n.some);
      few_letters = omega (arith, longer, m.few_letters, n.later, n.some);
    }

-- the parser stops after these blanks
stopped : (text : List ℕ) (at start : ℕ) (before : WordReader) → (m : HasReadTo text at before) → FollowsBlanks (drop at text) (drop start text) → start ≤ length text
    → StopsWord m.tokens (drop start text) → IsStoppedAt text start
stopped text at start before m blanks within stops = record {
  tokens = m.tokens;
  rest = drop at text;
  bytes = drop start text;
  lexes = m.lexes;
  begins = begins m.tokens (word_state before) m.read;
  after_blanks = blanks;
  offset = omega (arith, length-drop start text);
  stops = stops;
}

-- at a token that is rejected
pub stopped_at_token : (text : List ℕ) (at start end : ℕ) (before : WordReader) (t : Token) → HasReadTo text at before → IsTokenNext text at t start end
    → ((place : List ℕ → ℕ) → word_step place (word_state before) t ≡ None) → IsStoppedAt text start
stopped_at_token text at start end before t m n stuck =
    stopped text at start before m n.blanks (omega (arith, n.some, n.within)) (misplaced t n.front (begins_not m.tokens (word_state before) t m.read stuck))

some_bytes : (bytes : List ℕ) (tokens : List Token) → 0 < length bytes → NoBlankFirst bytes → ((t : Token) (rest : List ℕ) → IsWordFront bytes t rest → ⊥) → StopsWord tokens bytes
some_bytes [] tokens some first none = absurd (omega arith)
some_bytes (b ∷ bs) tokens some first none = no_token first none

-- at bytes that are no token
pub stopped_at_bytes : (text : List ℕ) (at start : ℕ) (before : WordReader) → HasReadTo text at before → IsNothing text at start → start < length text → IsStoppedAt text start
stopped_at_bytes text at start before m n some =
    stopped text at start before m n.blanks n.within (some_bytes (drop start text) m.tokens (omega (arith, length-drop start text)) n.first n.none)

-- all is read, and it is a word
pub written : (text : List ℕ) (r : WordReader) → length text < 2 ^ 32 → IsThrough text r → r.stage ≡ End
    → WritesWord text (record { names = r.names; stem = map label_tree r.stem; cycle = map label_tree r.cycle })
written text r short t is_end =
    let P : List (List ℕ) → Type 0 = λ x. IsWord t.tokens (record { names = x; stem = map label_tree r.stem; cycle = map label_tree r.cycle }) in
    record { short = short; tokens = t.tokens; rest = t.rest; lexes = t.lexes; blank = t.blank; word = subst P (sym t.names) (whole_word t.tokens (word_state r) t.read is_end) }

-- all is read, and it is none
pub ended_early : (text : List ℕ) (r : WordReader) → length text < 2 ^ 32 → IsThrough text r → r.stage ≢ End → IsBadAt text (length text) × WritesNothing text
ended_early text r short t not_end =
    let bad : IsBadAt text (length text) = inr (
      short,
      record {
        tokens = t.tokens;
        rest = t.rest;
        bytes = [];
        lexes = t.lexes;
        begins = begins t.tokens (word_state r) t.read;
        after_blanks = record { before = t.rest; split = sym (append-nil t.rest); blank = t.blank };
        offset = omega arith;
        stops = ended (λ p w. no_word t.tokens (word_state r) p t.read not_end w);
      },
    ) in
    (bad, λ p w. bad_writes_nothing text (length text) p bad w)

pub stopped_bad : (text : List ℕ) (k : ℕ) → length text < 2 ^ 32 → IsStoppedAt text k → IsBadAt text k × WritesNothing text
stopped_bad text k short s = let bad : IsBadAt text k = inr (short, s) in (bad, λ p w. bad_writes_nothing text k p bad w)
