-- Where a text is bad, the bytes that were taken show it; and no byte is taken past the one that shows an answer.
use Rattle.std.proofs.Common.{◌≡◌, ◌≢◌, ℕ, suc, ◌+◌, ◌-◌, true, not, is_some, List, [], ◌∷◌, ◌++◌, length, Option, Some, None, Result, Ok, Err, refl, sym, ap, subst, ◌∙◌, inl, inr}
use Rattle.std.proofs.lemmas.Bool.{false≢true}
use Rattle.std.proofs.lemmas.List.{append_assoc, append-nil, append_cancel_right}
use Rattle.std.specs.Prelude.{◌⊎◌}
use Rattle.aut_io.specs.Seen.{Seen}
use Rattle.hoa_lexer.proofs.next_token.Between.{between_as}
use Rattle.hoa_lexer.proofs.spelling.Comments.{unheld}
use Rattle.hoa_lexer.proofs.spelling.FirstBytes.{no_front}
use Rattle.hoa_lexer.specs.Blanks.{IsBlanks}
use Rattle.hoa_lexer.proofs.next_token.Asked.{last_is_asked_for}
use Rattle.hoa_lexer.specs.Reading as lexing
use Rattle.hoa_lexer.specs.Reading.{Tells, held_count, unread}
use Rattle.hoa_lexer.specs.Spelling.{IsDelimited, closes_itself}
use Rattle.hoa_lexer.specs.Text.{AskedForOne, HasFront, IsNext, IsShownBy, Lexes}
use Rattle.hoa_lexer.specs.declared.lexer.Lexer.{Lexer}
use Rattle.hoa_lexer.specs.declared.token.LexFault.{LexFault}
use Rattle.hoa_lexer.specs.declared.token.LexFault.TheVariants as lex
use Rattle.hoa_lexer.specs.declared.token.Token.{Token}
use Rattle.hoa_lexer.specs.declared.token.Token.TheVariants as token
use Rattle.hoa_parser.proofs.reading.FrontParts.{refuses_behind}
use Rattle.hoa_parser.proofs.standing.Begun.{bad_behind}
use Rattle.hoa_parser.proofs.standing.DeadEnds.{dead}
use Rattle.hoa_parser.proofs.standing.Needed.{needed_at_end}
use Rattle.hoa_parser.proofs.standing.OpenEnds.{open_end_asks}
use Rattle.hoa_parser.proofs.standing.Settled.{bad_is_hopeless, place_on}
use Rattle.hoa_parser.proofs.standing.StandingAnswers.{Opened, Starts, before, begun_with, nothing_begun, said_then, too_deep}
use Rattle.hoa_parser.specs.Grammar.{IsViable}
use Rattle.hoa_parser.specs.inner.Expecting as part
use Rattle.hoa_parser.specs.inner.Expecting.{Part, move}
use Rattle.hoa_parser.specs.inner.Faults.{read_fault}
use Rattle.hoa_parser.specs.inner.Parsing.{Abandons, Cursor, FailsParts, FailsAt, PassesTokens, Passed, RefusesToken, State, TooDeep, Unread, cursor_of, EndsOpen}
use Rattle.hoa_parser.specs.Reads.{AskedForLast, EndsDeep, IsHopeless, Shows}
use Rattle.hoa_parser.specs.Standing.{IsBegun, IsMisplaced, IsNoTokenAt}
use Rattle.hoa_parser.specs.declared.fault.ReadFault.{ReadFault}
use Rattle.hoa_parser.specs.declared.fault.ReadFault.TheVariants as fault
use Rattle.hoa_parser.specs.declared.read.Front.{Front}
use Rattle.hoa_parser.specs.declared.read.Front.TheVariants as front
use Rattle.aut_base.proofs.numbers.Truth.{true_from_not}
use Rattle.aut_base.proofs.lists.Lists.{right_empty}

-- the byte that is held, if any
abbrev pub held_bytes : Option ℕ → List ℕ
held_bytes None = []
held_bytes (Some b) = b ∷ []

pub unread_is : (held : Option ℕ) (left : List ℕ) → unread held left ≡ held_bytes held ++ left
unread_is None left = refl
unread_is (Some b) left = refl

-- where no byte past a token is held, the token is closed by its own last byte
holds_closed : (held : Option ℕ) (z : Token) → is_some held ≡ not (closes_itself z) → held ≡ None → closes_itself z ≡ true
holds_closed None z e n = true_from_not (closes_itself z) e
holds_closed (Some b) z e n = cc

closed_so : (held : Option ℕ) (z : Token) → (held ≡ None → closes_itself z ≡ true) → held_bytes held ≡ [] → closes_itself z ≡ true
closed_so None z c e = c refl
closed_so (Some b) z c e = cc

-- what a token and the byte that closes it show without the bytes behind them

pub ends_off : (t : Token) (rest more : List ℕ) → (rest ≡ [] → closes_itself t ≡ true) → IsDelimited t (rest ++ more) → IsDelimited t rest
ends_off (token.Identifier name) [] more c e = absurd (false≢true (c refl))
ends_off (token.Identifier name) (b ∷ rest) more c e = e
ends_off (token.Alias name) [] more c e = absurd (false≢true (c refl))
ends_off (token.Alias name) (b ∷ rest) more c e = e
ends_off (token.Int (suc n)) [] more c e = absurd (false≢true (c refl))
ends_off (token.Int (suc n)) (b ∷ rest) more c e = e
ends_off _ rest more c e = tt

pub next_off : (input rest more : List ℕ) (start i : ℕ) (t : Token) → (rest ≡ [] → closes_itself t ≡ true) → IsNext (input ++ more) start t i (rest ++ more) → IsNext input start t i rest
next_off input rest more start i t c n = record {
  before = n.before;
  bytes = n.front.word ++ rest;
  split = append_cancel_right input (n.before ++ (n.front.word ++ rest)) more
      (n.split ∙ ap (λ w. n.before ++ w) (n.front.split ∙ sym (append_assoc n.front.word rest more)) ∙ sym (append_assoc n.before (n.front.word ++ rest) more));
  blanks = n.blanks;
  place = n.place;
  front = record { word = n.front.word; split = refl; spells = n.front.spells; ends = ends_off t rest more c n.front.ends };
}

-- the bytes at the front of these, up to those
pub record Leaves (bytes rest : List ℕ) : Type 0 where
  pub before : List ℕ
  pub split : bytes ≡ before ++ rest

pub next_leaves : (input : List ℕ) (start : ℕ) (t : Token) (i : ℕ) (rest : List ℕ) → IsNext input start t i rest → Leaves input rest
next_leaves input start t i rest n = record {
  before = n.before ++ n.front.word;
  split = n.split ∙ ap (λ w. n.before ++ w) n.front.split ∙ sym (append_assoc n.before n.front.word rest);
}

pub lexes_leaves : (ts : List (Token × ℕ)) (input : List ℕ) (start : ℕ) (rest : List ℕ) → Lexes input start ts rest → Leaves input rest
lexes_leaves [] input start rest l = record { before = []; split = l }
lexes_leaves (t ∷ ts) input start rest l =
    let first = next_leaves input start t.0 t.1 l.0 l.1 in
    let others = lexes_leaves ts l.0 (start + (length input - length l.0)) rest l.2 in
    record { before = first.before ++ others.before; split = first.split ∙ ap (λ w. first.before ++ w) others.split ∙ sym (append_assoc first.before others.before rest) }

pub lexes_off : (ts : List (Token × ℕ)) (input : List ℕ) (start : ℕ) (rest more : List ℕ) → rest ≢ [] → Lexes (input ++ more) start ts (rest ++ more) → Lexes input start ts rest
lexes_off [] input start rest more some l = append_cancel_right input rest more l
lexes_off (t ∷ ts) input start rest more some l =
    let leaves = lexes_leaves ts l.0 (start + (length (input ++ more) - length l.0)) (rest ++ more) l.2 in
    let mid = leaves.before ++ rest in
    let same : l.0 ≡ mid ++ more = leaves.split ∙ sym (append_assoc leaves.before rest more) in (
      mid,
      next_off input mid more start t.1 t.0 (λ e. absurd (some (right_empty leaves.before rest e))) (subst (λ (w : List ℕ). IsNext (input ++ more) start t.0 t.1 w) same l.1),
      lexes_off ts mid (start + (length input - length mid)) rest more some
          (subst (λ (n : ℕ). Lexes (mid ++ more) n ts (rest ++ more)) (sym (place_on start input mid more))
          (subst (λ (w : List ℕ). Lexes w (start + (length (input ++ more) - length w)) ts (rest ++ more)) same l.2)),
    )

pub begun_off : (start : ℕ) (text : List ℕ) (tokens : List Token) (used : ℕ) (rest more : List ℕ) → rest ≢ [] → IsBegun start (text ++ more) tokens used (rest ++ more)
    → IsBegun start text tokens used rest
begun_off start text tokens used rest more some b = record {
  placed = b.placed;
  shown = b.shown;
  lexes = lexes_off b.placed text start rest more some b.lexes;
  used_is = b.used_is ∙ sym (place_on start text rest more);
  viable = b.viable;
  unfinished = b.unfinished;
}

pub hopeless_so : (k start : ℕ) (text left : List ℕ) (tokens : List Token) (used : ℕ) (rest : List ℕ) → IsBegun start text tokens used (rest ++ left) → rest ≢ []
    → IsMisplaced k tokens used rest ⊎ IsNoTokenAt k used rest → IsHopeless k start text left
hopeless_so k start text left tokens used rest begun some why =
    let leaves = lexes_leaves begun.placed text start (rest ++ left) begun.lexes in
    let taken = leaves.before ++ rest in
    let split : text ≡ taken ++ left = leaves.split ∙ sym (append_assoc leaves.before rest left) in
    let bad = bad_behind k (begun_off start taken tokens used rest left some (subst (λ (w : List ℕ). IsBegun start w tokens used (rest ++ left)) split begun)) why in
    record { used = taken; split = split; bad = bad; hopeless = λ more w behind whole. bad_is_hopeless start k taken more behind w bad whole }

-- a token that cannot stand there

pub next_some : (input : List ℕ) (start : ℕ) (t : Token) (i : ℕ) (rest : List ℕ) → IsNext input start t i rest → input ≢ []
next_some input start t i rest n e =
    let f : HasFront n.bytes = record { token = t; rest = rest; front = n.front } in
    no_front (subst HasFront (right_empty n.before n.bytes (sym n.split ∙ e)) f)

misplaced_at : (k start : ℕ) (text left : List ℕ) (tokens : List Token) (used : ℕ) (rest after : List ℕ) (z : Token) (held : Option ℕ) → IsBegun start text tokens used rest
    → IsNext rest used z k after → after ≡ unread held left → (held ≡ None → closes_itself z ≡ true)
    → ((most : ℕ) → IsViable most (tokens ++ z ∷ []) → ⊥) → (tokens ≢ [] → z ≢ token.Abort) → IsHopeless k start text left
misplaced_at k start text left tokens used rest after z held begun next ends closed is_dead no_abort =
    let last = held_bytes held in
    let behind : after ≡ last ++ left = ends ∙ unread_is held left in
    let leaves = next_leaves rest used z k after next in
    let taken = leaves.before ++ last in
    let split : rest ≡ taken ++ left = leaves.split ∙ ap (λ w. leaves.before ++ w) behind ∙ sym (append_assoc leaves.before last left) in
    let shown = next_off taken last left used k z (closed_so held z closed)
    (subst (λ (w : List ℕ). IsNext w used z k (last ++ left)) split (subst (λ (w : List ℕ). IsNext rest used z k w) behind next)) in
    hopeless_so k start text left tokens used taken (subst (λ (w : List ℕ). IsBegun start text tokens used w) split begun) (next_some taken used z k last shown)
    (inl (record { next_token = z; after = last; next = shown; dead = is_dead; no_abort = no_abort }))

-- no token

pub no_token_at : (k start : ℕ) (text left : List ℕ) (tokens : List Token) (used : ℕ) (rest : List ℕ) → IsBegun start text tokens used rest → IsShownBy k used rest left → IsHopeless k start text left
no_token_at k start text left tokens used rest begun by =
    let at : IsNoTokenAt k used by.used = by.shows in
    hopeless_so k start text left tokens used by.used (subst (λ (w : List ℕ). IsBegun start text tokens used w) by.split begun)
    (λ e. at.holds.1.some (right_empty at.before at.bytes (sym at.split ∙ e)))
    (inr at)

-- the last byte was asked for

pub asked_last : (start : ℕ) (text left : List ℕ) (tokens : List Token) (used : ℕ) (rest : List ℕ) → IsBegun start text tokens used rest → AskedForOne rest left → AskedForLast start text left
asked_last start text left tokens used rest begun one = record {
  byte = one.byte;
  asked = record { tokens = tokens; used = used; rest = rest; begun = begun; holds = record { at_hand = one.at_hand; split = one.split; asks = one.asks } };
}

passed_holds : (a b : Cursor) (ts : List Token) → Passed a ts b → is_some a.held ≡ not (closes_itself a.token) → is_some b.held ≡ not (closes_itself b.token)
passed_holds a b [] p h = subst (λ (x : Cursor). is_some x.held ≡ not (closes_itself x.token)) p h
passed_holds a b (t ∷ ts) p h = passed_holds p.0 b ts p.3 p.2.holds

-- for the token at hand
asked_for_token : (start : ℕ) (text left : List ℕ) (a last : Cursor) (target : List Part) → Starts start text a → PassesTokens (part.Whole ∷ []) a target last → last.rest ≡ unread last.held left
    → AskedForLast start text left
asked_for_token start text left a last target starts g ends =
    let s = before start text a last target g starts in
    asked_last start text left g.tokens s.used s.rest s.begun
    (last_is_asked_for s.rest s.used last.offset last.token last.held left (subst (λ (w : List ℕ). IsNext s.rest s.used last.token last.offset w) ends s.next)
    (passed_holds a last g.tokens g.passed starts.holds))

misplaced_shown : (k start : ℕ) (text left : List ℕ) (a b : Cursor) → Starts start text a → RefusesToken (part.Whole ∷ []) a b → k ≡ b.offset → b.token ≢ token.Abort → b.rest ≡ unread b.held left
    → IsHopeless k start text left
misplaced_shown k start text left a b starts r at other ends =
    let g = r.goes in
    let s = before start text a b r.target g starts in
    misplaced_at k start text left g.tokens s.used s.rest b.rest b.token b.held s.begun
    (subst (λ (n : ℕ). IsNext s.rest s.used b.token n b.rest) (sym at) s.next)
    ends
    (holds_closed b.held b.token (passed_holds a b g.tokens g.passed starts.holds))
    (dead g.tokens (g.left ++ []) b.token (g.leads.runs []) (λ most. g.over most [] ∙ r.refused most []))
    (λ some. other)

-- why the lexer gave no other token
shows_unread : (f : ReadFault) (start : ℕ) (text left : List ℕ) (a last : Cursor) → Starts start text a → Unread f (part.Whole ∷ []) a last → last.rest ≡ left → Shows (Err f) start text left
shows_unread (fault.Syntax k) start text left a last starts u ends =
    let begun = begun_with _ start text a last u starts in (
      no_token_at k start text left _ u.b.used u.b.rest begun (subst (λ (w : List ℕ). IsShownBy k u.b.used u.b.rest w) ends u.bytes.2),
      asked_last start text left _ u.b.used u.b.rest begun (subst (λ (w : List ℕ). AskedForOne u.b.rest w) ends u.bytes.1),
    )
shows_unread fault.Truncated start text left a last starts u ends =
    let none : left ≡ [] = sym ends ∙ u.bytes.1 in (
      none,
      record {
        tokens = u.goes.tokens ++ u.b.token ∷ [];
        used = u.b.used;
        rest = u.b.rest;
        begun = begun_with _ start text a last u starts;
        holds = record { at_hand = u.b.rest; split = sym (append-nil u.b.rest) ∙ ap (λ (w : List ℕ). u.b.rest ++ w) (sym none); asks = open_end_asks u.b.rest u.bytes.0 };
      },
    )
shows_unread fault.Depth start text left a last starts u ends = absurd u.bytes
shows_unread fault.Bytes start text left a last starts u ends = tt
shows_unread fault.Read start text left a last starts u ends = tt
shows_unread fault.Memory start text left a last starts u ends = tt

-- a token that opens one more than may be open
deep_shown : (start : ℕ) (text left : List ℕ) (a b : Cursor) → Starts start text a → TooDeep (part.Whole ∷ []) a b → b.rest ≡ unread b.held left → EndsDeep start text left
deep_shown start text left a b starts d ends =
    record { deep = too_deep start text a b starts d; held = b.held; behind = ends; needed = needed_at_end b.held b.token (passed_holds a b d.goes.tokens d.goes.passed starts.holds) }

-- why no automaton was read
pub shows_fault : (f : ReadFault) (start : ℕ) (text left : List ℕ) (a last : Cursor) → (Abandons f last.token → ⊥) → Starts start text a → FailsParts f (part.Whole ∷ []) a last
    → last.rest ≡ unread last.held left → Shows (Err f) start text left
shows_fault f start text left a last other starts (inr u) ends = shows_unread f start text left a last starts u (ends ∙ unheld last.held left u.held)
shows_fault (fault.Syntax k) start text left a last other starts (inl h) ends =
    (misplaced_shown k start text left a last starts h.0 h.1 other ends, asked_for_token start text left a last h.0.target starts h.0.goes ends)
shows_fault fault.Depth start text left a last other starts (inl h) ends =
    (deep_shown start text left a last starts h ends, asked_for_token start text left a last h.target starts h.goes ends)
shows_fault fault.Truncated start text left a last other starts (inl h) ends = absurd h
shows_fault fault.Bytes start text left a last other starts (inl h) ends = tt
shows_fault fault.Read start text left a last other starts (inl h) ends = tt
shows_fault fault.Memory start text left a last other starts (inl h) ends = tt

-- the automaton was abandoned
pub shows_aborted : (f : ReadFault) (start : ℕ) (text left : List ℕ) (a last : Cursor) → Abandons f last.token → Starts start text a → FailsParts f (part.Whole ∷ []) a last
    → last.rest ≡ unread last.held left → AskedForLast start text left
shows_aborted (fault.Syntax k) start text left a last abort starts (inl h) ends = asked_for_token start text left a last h.0.target starts h.0.goes ends
shows_aborted (fault.Syntax k) start text left a last abort starts (inr u) ends = absurd (u.no_abort abort)
shows_aborted fault.Truncated start text left a last never starts h ends = absurd never
shows_aborted fault.Depth start text left a last never starts h ends = absurd never
shows_aborted fault.Bytes start text left a last never starts h ends = absurd never
shows_aborted fault.Read start text left a last never starts h ends = absurd never
shows_aborted fault.Memory start text left a last never starts h ends = absurd never

shows_open : (start : ℕ) (old left : List ℕ) → IsBlanks old ⊎ EndsOpen old → left ≡ [] → Shows (Err fault.Truncated) start old left
shows_open start old left ends none = (
  none,
  record {
    tokens = [];
    used = start;
    rest = old;
    begun = nothing_begun start old;
    holds =
        record { at_hand = old; split = sym (append-nil old) ∙ ap (λ (w : List ℕ). old ++ w) (sym none); asks = open_end_asks old ends };
  },
)

-- no token was there
pub shows_lexing : (f : LexFault) (start offset : ℕ) (old left : List ℕ) → lexing.AnswersToken (Err f) start offset old left → Shows (Err (read_fault f)) start old left
shows_lexing (lex.BadToken k) start offset old left h = (no_token_at k start old left [] start old (nothing_begun start old) h.2, asked_last start old left [] start old (nothing_begun start old) h.1)
shows_lexing lex.OpenComment start offset old left h = shows_open start old left (inr (inl h.0)) h.1
shows_lexing lex.OpenString start offset old left h = shows_open start old left (inr (inr (inl h.0))) h.1
shows_lexing lex.OpenToken start offset old left h = shows_open start old left (inr (inr (inr h.0))) h.1
shows_lexing lex.Read start offset old left h = tt
shows_lexing lex.Bytes start offset old left h = tt
shows_lexing lex.Memory start offset old left h = tt

-- it was another than `HOA:`
pub shows_other : (start k : ℕ) (text left : List ℕ) (z : Token) (held : Option ℕ) → IsNext text start z k (unread held left) → is_some held ≡ not (closes_itself z)
    → move part.Whole z ≡ part.Refuses → Shows (Err (fault.Syntax k)) start text left
shows_other start k text left z held next holds other = (
  misplaced_at k start text left [] start text (unread held left) z held (nothing_begun start text) next refl (holds_closed held z holds)
      (dead [] (part.Whole ∷ []) z refl (λ most. refuses_behind most part.Whole [] z other)) (λ some. absurd (some refl)),
  asked_last start text left [] start text (nothing_begun start text) (last_is_asked_for text start k z held left next holds),
)

-- what is left in the inputs before and after an answer
abbrev pub Left : Lexer → Seen → Seen → (ℕ → List ℕ → List ℕ → Type 0) → Type 0
Left lexer seen seen' R = Tells seen seen' (λ x y. R (lexer.since - held_count lexer.held) (unread lexer.held x) y)

pub raw_aborted_shows : (f : ReadFault) (lexer : Lexer) (seen : Seen) (s s' : State) → Opened lexer seen s → Abandons f s'.ahead → FailsAt f (part.Whole ∷ []) s s'
    → Left lexer seen s'.seen (Shows (Ok front.Aborted))
raw_aborted_shows f lexer seen s s' opened abandons read =
    said_then lexer seen s s' (FailsParts f (part.Whole ∷ [])) _ opened read.text
    (λ x y z starts says. shows_aborted f _ _ z (cursor_of s y) (cursor_of s' z) abandons starts says refl)

pub raw_fault_shows : (f : ReadFault) (lexer : Lexer) (seen : Seen) (s s' : State) → Opened lexer seen s → (Abandons f s'.ahead → ⊥) → FailsAt f (part.Whole ∷ []) s s'
    → Left lexer seen s'.seen (Shows (Err f))
raw_fault_shows f lexer seen s s' opened other read =
    said_then lexer seen s s' (FailsParts f (part.Whole ∷ [])) _ opened read.text
    (λ x y z starts says. shows_fault f _ _ z (cursor_of s y) (cursor_of s' z) other starts says refl)

-- the lexer gave no token
pub raw_unlexed_shows : (f : LexFault) (result : Result Front ReadFault) (lexer lexer' : Lexer) (offset : ℕ) (seen seen' : Seen) → (e : ReadFault) × (result ≡ Err e) × (e ≡ read_fault f)
    → lexer'.held ≡ None
    → Tells seen seen' (λ x y. lexing.AnswersToken (Err f) (lexer.since - held_count lexer.held) offset (unread lexer.held x) (unread lexer'.held y)) → Left lexer seen seen' (Shows result)
raw_unlexed_shows f result lexer lexer' offset seen seen' same none said =
    between_as seen.left seen'.left _ _
    (λ x y h. subst (λ (r : Result Front ReadFault). Shows r (lexer.since - held_count lexer.held) (unread lexer.held x) y) (sym (same.1 ∙ ap Err same.2))
    (shows_lexing f _ offset (unread lexer.held x) y
    (subst (λ (w : List ℕ). lexing.AnswersToken (Err f) (lexer.since - held_count lexer.held) offset (unread lexer.held x) w) (unheld lexer'.held y none) h))) said

-- it gave another token than `HOA:`
pub raw_other_shows : (k : ℕ) (lexer : Lexer) (seen : Seen) (s : State) → Opened lexer seen s → k ≡ s.lexer.offset → move part.Whole s.ahead ≡ part.Refuses
    → Left lexer seen s.seen (Shows (Err (fault.Syntax k)))
raw_other_shows k lexer seen s opened same other =
    between_as seen.left s.seen.left _ _
    (λ x y h. shows_other _ k (unread lexer.held x) y s.ahead s.lexer.held
    (subst (λ (n : ℕ). IsNext (unread lexer.held x) (lexer.since - held_count lexer.held) s.ahead n (unread s.lexer.held y)) (sym same) h) opened.holds other) opened.next
