-- What the reading of an automaton says of what stands next in the text.
use Rattle.std.proofs.Common.{◌≡◌, ◌≢◌, ℕ, ◌+◌, ◌-◌, ◌≤◌, true, false, List, [], ◌∷◌, ◌++◌, length, map, Option, Some, is_some, not, Result, Ok, Err, refl, sym, ap, subst, ◌∙◌, inl, inr, arith}
use Rattle.std.proofs.lemmas.List.{append_assoc}
use Rattle.std.specs.Prelude.{◌⊎◌, flat_map}
use Rattle.aut_base.specs.declared.limit.TheConstants.{MOST_DEPTH}
use Rattle.aut_io.specs.Seen.{Seen}
use Rattle.hoa_lexer.proofs.next_token.Fronts.{length_unread}
use Rattle.hoa_lexer.specs.Blanks.{IsBlanks}
use Rattle.hoa_lexer.proofs.next_token.Between.{between_as, between_both, between_then}
use Rattle.hoa_lexer.specs.Moves.{Elsewhere, MovesLexer, stop_of_next}
use Rattle.hoa_lexer.specs.Reading as lexing
use Rattle.hoa_lexer.specs.Reading.{Tells, held_count, unread}
use Rattle.hoa_lexer.specs.Spelling.{closes_itself}
use Rattle.hoa_lexer.specs.Text.{IsNext}
use Rattle.hoa_lexer.specs.declared.lexer.Lexer.{Lexer}
use Rattle.hoa_lexer.specs.declared.token.LexFault.{LexFault}
use Rattle.hoa_lexer.specs.declared.token.LexFault.TheVariants as lex
use Rattle.hoa_lexer.specs.declared.token.Token.{Token}
use Rattle.hoa_lexer.specs.declared.token.Token.TheVariants as token
use Rattle.hoa_parser.proofs.grammar.HavePhrases.{have_phrases}
use Rattle.hoa_parser.proofs.grammar.PhrasesSpell.{phrases_spell}
use Rattle.hoa_parser.proofs.reading.Automata.{opening}
use Rattle.hoa_parser.proofs.standing.Begun.{aborted_behind, bad_behind, begun_with_tokens, cut_behind, deep_behind}
use Rattle.hoa_parser.proofs.standing.DeadEnds.{after_next, dead, deep, nothing_unfinished, nothing_viable}
use Rattle.hoa_parser.proofs.reading.FrontParts.{refuses_behind, unended_then}
use Rattle.hoa_parser.proofs.standing.Readings.{next_shorter}
use Rattle.hoa_parser.proofs.standing.StandingTokens.{stand_before, stand_with}
use Rattle.hoa_parser.proofs.grammar.Viability.{viable}
use Rattle.hoa_parser.specs.Grammar.{SpellsAutomaton}
use Rattle.hoa_parser.specs.inner.Expecting as part
use Rattle.hoa_parser.specs.inner.Expecting.{Part, parts_after, parts_behind, move}
use Rattle.hoa_parser.specs.inner.Faults.{read_fault}
use Rattle.hoa_parser.specs.Phrases.{AutomatonPhrase, automaton_tokens, item_tokens, state_tokens}
use Rattle.hoa_parser.specs.inner.Parsing.{Abandons, Cursor, FailsParts, FailsAt, PassesTokens, Passed, HoldsOfPlaces, ReadsTo, RefusesToken, Relation, State, TooDeep, Unended, Unread, cursor_of}
use Rattle.hoa_parser.specs.inner.Parsing.{EndsOpen}
use Rattle.hoa_parser.specs.inner.RuleReads.{IsAutomaton, open_tokens}
use Rattle.hoa_parser.specs.Raw.{Written, written}
use Rattle.hoa_parser.specs.Reads.{AnswersFront}
use Rattle.hoa_parser.specs.Standing.{IsAborted, IsBad, IsBegun, IsDeep, IsWhole}
use Rattle.hoa_parser.specs.declared.fault.ReadFault.{ReadFault}
use Rattle.hoa_parser.specs.declared.fault.ReadFault.TheVariants as fault
use Rattle.hoa_parser.specs.declared.read.Front.{Front}
use Rattle.hoa_parser.specs.declared.read.Front.TheVariants as front
use Rattle.hoa_parser.specs.declared.raw.Raw.{Raw}

-- every automaton ends with `--END--`
never_ended : (ts : List Token) → Unended (ts ++ token.End ∷ []) → ⊥
never_ended [] h = let no : true ≡ false = h.0 in cc
never_ended (t ∷ ts) h = never_ended ts h.1

ended_tokens : (p : AutomatonPhrase) → open_tokens p ++ token.End ∷ [] ≡ automaton_tokens p
ended_tokens p = ap (λ (ts : List Token). opening ∷ token.Identifier p.version ∷ ts) (append_assoc (flat_map item_tokens p.items) (token.Body ∷ flat_map state_tokens p.states) (token.End ∷ []))

spells_nothing : (ts : List Token) → Unended ts → (most : ℕ) (w : Written) → SpellsAutomaton most ts w → ⊥
spells_nothing ts unended most w s =
    let p = have_phrases most ts w s in
    never_ended (open_tokens p.phrase) (subst Unended (p.spelled ∙ sym (ended_tokens p.phrase)) unended)

-- The first token of the text is that of `a`, and a byte past it is held exactly where it was needed.
pub record Starts (start : ℕ) (text : List ℕ) (a : Cursor) : Type 0 where
  pub next : IsNext text start a.token a.offset a.rest
  pub used : a.used ≡ start + (length text - length a.rest)
  pub holds : is_some a.held ≡ not (closes_itself a.token)

-- before any token
pub nothing_begun : (start : ℕ) (text : List ℕ) → IsBegun start text [] start text
nothing_begun start text = record { placed = []; shown = refl; lexes = refl; used_is = omega arith; viable = nothing_viable; unfinished = nothing_unfinished }

-- before the token of `b`
pub record Before (start : ℕ) (text : List ℕ) (tokens : List Token) (b : Cursor) : Type 0 where
  pub used : ℕ
  pub rest : List ℕ
  pub begun : IsBegun start text tokens used rest
  pub next : IsNext rest used b.token b.offset b.rest

pub before : (start : ℕ) (text : List ℕ) (a b : Cursor) (target : List Part) (g : PassesTokens (part.Whole ∷ []) a target b) → Starts start text a → Before start text g.tokens b
before start text a b target g starts =
    let s = stand_before start text a b g.tokens starts.next starts.used g.passed in
    record {
      used = s.used;
      rest = s.rest;
      begun = begun_with_tokens s.stand (viable MOST_DEPTH g.tokens (g.left ++ []) (g.leads.runs [])) (spells_nothing g.tokens g.unended);
      next = s.next;
    }

-- behind it
pub begun_with : (f : ReadFault) (start : ℕ) (text : List ℕ) (a last : Cursor) (u : Unread f (part.Whole ∷ []) a last) → Starts start text a
    → IsBegun start text (u.goes.tokens ++ u.b.token ∷ []) u.b.used u.b.rest
begun_with f start text a last u starts =
    let g = u.goes in
    begun_with_tokens (stand_with start text a u.b g.tokens starts.next starts.used g.passed)
    (viable MOST_DEPTH (g.tokens ++ u.b.token ∷ []) (u.left ++ []) (after_next MOST_DEPTH g.tokens (g.left ++ []) u.b.token (g.leads.runs []) ∙ g.over MOST_DEPTH [] ∙ u.taken []))
    (spells_nothing (g.tokens ++ u.b.token ∷ []) (unended_then g.tokens (u.b.token ∷ []) g.unended (u.unended, tt)))

some_more : (ts : List Token) (z : Token) → ts ++ z ∷ [] ≢ []
some_more [] z e = cc
some_more (t ∷ ts) z e = cc

-- before a token that is not the first stand others
some_before : (a b : Cursor) (ts : List Token) → Passed a ts b → a.token ≡ opening → b.token ≡ token.Abort → ts ≢ []
some_before a b [] passed is abort e =
    let no : opening ≡ token.Abort = sym is ∙ ap (λ (x : Cursor). x.token) passed ∙ abort in
    cc
some_before a b (t ∷ ts) passed is abort e = cc

misplaced : (start : ℕ) (text : List ℕ) (a b : Cursor) (k : ℕ) → Starts start text a → RefusesToken (part.Whole ∷ []) a b → k ≡ b.offset → b.token ≢ token.Abort → IsBad start text k
misplaced start text a b k starts r at other =
    let g = r.goes in
    let s = before start text a b r.target g starts in
    bad_behind k s.begun (inl (record {
      next_token = b.token;
      after = b.rest;
      next = subst (λ (n : ℕ). IsNext s.rest s.used b.token n b.rest) (sym at) s.next;
      dead = dead g.tokens (g.left ++ []) b.token (g.leads.runs []) (λ most. g.over most [] ∙ r.refused most []);
      no_abort = λ some. other;
    }))

aborted : (start : ℕ) (text : List ℕ) (a b : Cursor) → Starts start text a → a.token ≡ opening → RefusesToken (part.Whole ∷ []) a b → b.token ≡ token.Abort → IsAborted start text b.rest
aborted start text a b starts is r abort =
    let g = r.goes in
    let s = before start text a b r.target g starts in
    aborted_behind s.begun (some_before a b g.tokens g.passed is abort) (subst (λ (z : Token). IsNext s.rest s.used z b.offset b.rest) abort s.next)

abbrev pub too_deep : (start : ℕ) (text : List ℕ) (a b : Cursor) → Starts start text a → TooDeep (part.Whole ∷ []) a b → IsDeep start text
too_deep start text a b starts d =
    let g = d.goes in
    let s = before start text a b d.target g starts in
    let both = deep d.most g.tokens (g.left ++ []) (d.left ++ []) b.token (g.leads.runs []) (g.over MOST_DEPTH [] ∙ d.refused []) (g.over d.most [] ∙ d.taken []) d.more in
    deep_behind d.most s.begun s.next both.0 both.1

ends_so : (tokens : List Token) (rest : List ℕ) → tokens ≢ [] → IsBlanks rest ⊎ EndsOpen rest → (tokens ≢ []) × IsBlanks rest ⊎ EndsOpen rest
ends_so tokens rest some (inl h) = inl (some, h)
ends_so tokens rest some (inr h) = inr h

-- why the lexer gave no other token
answers_unread : (f : ReadFault) (start : ℕ) (text : List ℕ) (a last : Cursor) → Starts start text a → Unread f (part.Whole ∷ []) a last → AnswersFront (Err f) start text last.rest
answers_unread (fault.Syntax k) start text a last starts u = bad_behind k (begun_with _ start text a last u starts) (inr u.bytes.0)
answers_unread fault.Truncated start text a last starts u =
    cut_behind (begun_with _ start text a last u starts) (ends_so (u.goes.tokens ++ u.b.token ∷ []) u.b.rest (some_more u.goes.tokens u.b.token) u.bytes.0)
answers_unread fault.Depth start text a last starts u = absurd u.bytes
answers_unread fault.Bytes start text a last starts u =
    record { tokens = u.goes.tokens ++ u.b.token ∷ []; used = u.b.used; rest = u.b.rest; begun = begun_with _ start text a last u starts; holds = u.bytes }
answers_unread fault.Read start text a last starts u =
    record { tokens = u.goes.tokens ++ u.b.token ∷ []; used = u.b.used; rest = u.b.rest; begun = begun_with _ start text a last u starts; holds = u.bytes }
answers_unread fault.Memory start text a last starts u =
    record { tokens = u.goes.tokens ++ u.b.token ∷ []; used = u.b.used; rest = u.b.rest; begun = begun_with _ start text a last u starts; holds = inl u.bytes }

-- why no automaton was read
pub answers_fault : (f : ReadFault) (start : ℕ) (text : List ℕ) (a last : Cursor) → (Abandons f last.token → ⊥) → Starts start text a → FailsParts f (part.Whole ∷ []) a last
    → AnswersFront (Err f) start text last.rest
answers_fault f start text a last other starts (inr u) = answers_unread f start text a last starts u
answers_fault (fault.Syntax k) start text a last other starts (inl h) = misplaced start text a last k starts h.0 h.1 other
answers_fault fault.Depth start text a last other starts (inl h) = too_deep start text a last starts h
answers_fault fault.Memory start text a last other starts (inl h) =
    let s = before start text a last h.0 h.1 starts in
    record { tokens = h.1.tokens; used = s.used; rest = s.rest; begun = s.begun; holds = inr (record { next_token = last.token; offset = last.offset; next = s.next }) }
answers_fault fault.Truncated start text a last other starts (inl h) = absurd h
answers_fault fault.Bytes start text a last other starts (inl h) = absurd h
answers_fault fault.Read start text a last other starts (inl h) = absurd h

-- the automaton was abandoned
pub answers_aborted : (f : ReadFault) (start : ℕ) (text : List ℕ) (a last : Cursor) → Abandons f last.token → Starts start text a → a.token ≡ opening → FailsParts f (part.Whole ∷ []) a last
    → IsAborted start text last.rest
answers_aborted (fault.Syntax k) start text a last abort starts is (inl h) = aborted start text a last starts is h.0 abort
answers_aborted (fault.Syntax k) start text a last abort starts is (inr u) = absurd (u.no_abort abort)
answers_aborted fault.Truncated start text a last never starts is h = absurd never
answers_aborted fault.Depth start text a last never starts is h = absurd never
answers_aborted fault.Bytes start text a last never starts is h = absurd never
answers_aborted fault.Read start text a last never starts is h = absurd never
answers_aborted fault.Memory start text a last never starts is h = absurd never

-- an automaton that was read
pub answers_whole : (raw : Raw) (start : ℕ) (text : List ℕ) (a b : Cursor) → Starts start text a → IsAutomaton raw a b → IsWhole start text (written raw) b.rest
answers_whole raw start text a b starts is =
    let w = is.is_written in
    let s = stand_with start text a b (open_tokens w.phrase) starts.next starts.used w.passed in
    record {
      placed = s.placed;
      lexes = s.lexes;
      spells = phrases_spell MOST_DEPTH (map (λ p. p.0) s.placed) (written raw) (record {
        phrase = w.phrase;
        within = w.within;
        spelled = s.shown ∙ ap (λ (z : Token). open_tokens w.phrase ++ z ∷ []) is.ends ∙ ended_tokens w.phrase;
        means = w.means;
      });
    }

-- an automaton begins with no other token
pub answers_other : (start : ℕ) (text : List ℕ) (z : Token) (k : ℕ) (new : List ℕ) → IsNext text start z k new → move part.Whole z ≡ part.Refuses → IsBad start text k
answers_other start text z k new next other =
    bad_behind k (nothing_begun start text) (inl (record {
      next_token = z;
      after = new;
      next = next;
      dead = dead [] (part.Whole ∷ []) z refl (λ most. refuses_behind most part.Whole [] z other);
      no_abort = λ some. absurd (some refl);
    }))

-- no token was there
pub answers_lexing : (f : LexFault) (start offset : ℕ) (old new : List ℕ) → lexing.AnswersToken (Err f) start offset old new → AnswersFront (Err (read_fault f)) start old new
answers_lexing (lex.BadToken k) start offset old new h = bad_behind k (nothing_begun start old) (inr h.0)
answers_lexing lex.OpenComment start offset old new h = cut_behind (nothing_begun start old) (inr (inl h.0))
answers_lexing lex.OpenString start offset old new h = cut_behind (nothing_begun start old) (inr (inr (inl h.0)))
answers_lexing lex.OpenToken start offset old new h = cut_behind (nothing_begun start old) (inr (inr (inr h.0)))
answers_lexing lex.Read start offset old new h = record { tokens = []; used = start; rest = old; begun = nothing_begun start old; holds = h }
answers_lexing lex.Bytes start offset old new h = record { tokens = []; used = start; rest = old; begun = nothing_begun start old; holds = h }
answers_lexing lex.Memory start offset old new h = record { tokens = []; used = start; rest = old; begun = nothing_begun start old; holds = inl h }

used_so : (since since' taken taken' hold hold' x y old new : ℕ) → hold ≤ since → since' + taken ≡ since + taken' → taken' + y ≡ taken + x → taken ≤ taken' → old ≡ hold + x → new ≡ hold' + y
    → new ≤ old → since' - hold' ≡ (since - hold) + (old - new)
used_so since since' taken taken' hold hold' x y old new within same took later is is' shorter = omega (arith, within, same, took, later, is, is', shorter)

-- the first token that the lexer gave
starts_so : (lexer : Lexer) (s : State) (x y : List ℕ) → IsNext (unread lexer.held x) (lexer.since - held_count lexer.held) s.ahead s.lexer.offset (unread s.lexer.held y)
    → is_some s.lexer.held ≡ not (closes_itself s.ahead)
    → s.lexer.since + lexer.taken ≡ lexer.since + s.lexer.taken → s.lexer.taken + length y ≡ lexer.taken + length x → lexer.taken ≤ s.lexer.taken
    → Starts (lexer.since - held_count lexer.held) (unread lexer.held x) (cursor_of s y)
starts_so lexer s x y next holds since took later = record {
  next = next;
  used = used_so lexer.since s.lexer.since lexer.taken s.lexer.taken (held_count lexer.held) (held_count s.lexer.held) (length x) (length y) _ _
      lexer.held_within since took later (length_unread lexer.held x) (length_unread s.lexer.held y) (next_shorter _ _ _ _ _ next);
  holds = holds;
}

-- what the lexer said of the first token
pub record Opened (lexer : Lexer) (seen : Seen) (s : State) : Type 0 where
  pub moves : MovesLexer Elsewhere lexer s.lexer seen s.seen
  pub holds : is_some s.lexer.held ≡ not (closes_itself s.ahead)
  pub next : Tells seen s.seen (λ x y. IsNext (unread lexer.held x) (lexer.since - held_count lexer.held) s.ahead s.lexer.offset (unread s.lexer.held y))

-- and what was read then
pub said_then : (lexer : Lexer) (seen : Seen) (s s' : State) (A : Relation) (R : List ℕ → List ℕ → Type 0) → Opened lexer seen s → HoldsOfPlaces s s' A
    → ((x y z : List ℕ) → Starts (lexer.since - held_count lexer.held) (unread lexer.held x) (cursor_of s y) → A (cursor_of s y) (cursor_of s' z) → R x z) → Tells seen s'.seen R
said_then lexer seen s s' A R opened read f =
    between_then seen.left s.seen.left s'.seen.left
    (λ x y. Starts (lexer.since - held_count lexer.held) (unread lexer.held x) (cursor_of s y))
    (λ y z. A (cursor_of s y) (cursor_of s' z)) R f
    (between_both seen.left s.seen.left _ _ _ (λ x y h k. starts_so lexer s x y h opened.holds opened.moves.since k opened.moves.later) opened.next opened.moves.taken)
    read

first_so : (t : Option Token) (z : Token) (start offset : ℕ) (old new : List ℕ) → t ≡ Some z → lexing.AnswersToken (Ok t) start offset old new → IsNext old start z offset new
first_so t z start offset old new some h = subst (λ (o : Option Token). lexing.AnswersToken (Ok o) start offset old new) some h

-- the lexer gave a token
pub opened_so : (t : Option Token) (lexer : Lexer) (seen : Seen) (s : State) → t ≡ Some s.ahead
    → Tells seen s.seen (λ x y. lexing.AnswersToken (Ok t) (lexer.since - held_count lexer.held) s.lexer.offset (unread lexer.held x) (unread s.lexer.held y))
    → lexing.HoldsPast (Ok t) s.lexer.held → MovesLexer (stop_of_next {A = Token} (Ok t)) lexer s.lexer seen s.seen → Opened lexer seen s
opened_so t lexer seen s some answers holds moves = record {
  moves = subst (λ (o : Option Token). MovesLexer (stop_of_next {A = Token} (Ok o)) lexer s.lexer seen s.seen) some moves;
  holds = subst (λ (o : Option Token). lexing.HoldsPast (Ok o) s.lexer.held) some holds;
  next = between_as seen.left s.seen.left _ _ (λ x y h. first_so t s.ahead _ s.lexer.offset _ _ some h) answers;
}

-- the unread bytes before and after an answer
abbrev pub Between : Lexer → Seen → State → (ℕ → List ℕ → List ℕ → Type 0) → Type 0
Between lexer seen s R = Tells seen s.seen (λ x y. R (lexer.since - held_count lexer.held) (unread lexer.held x) (unread s.lexer.held y))

pub raw_whole : (raw : Raw) (lexer : Lexer) (seen : Seen) (s s' : State) → Opened lexer seen s → ReadsTo (part.Whole ∷ []) (part.States ∷ []) (IsAutomaton raw) s s'
    → Between lexer seen s' (AnswersFront (Ok (front.Whole raw)))
raw_whole raw lexer seen s s' opened read =
    said_then lexer seen s s' (λ a b. IsAutomaton raw a b × PassesTokens (part.Whole ∷ []) a (part.States ∷ []) b) _ opened read.text
    (λ x y z starts says. answers_whole raw _ _ (cursor_of s y) (cursor_of s' z) starts says.0)

pub raw_aborted : (f : ReadFault) (lexer : Lexer) (seen : Seen) (s s' : State) → Opened lexer seen s → s.ahead ≡ opening → Abandons f s'.ahead → FailsAt f (part.Whole ∷ []) s s'
    → Between lexer seen s' (AnswersFront (Ok front.Aborted))
raw_aborted f lexer seen s s' opened is abandons read =
    said_then lexer seen s s' (FailsParts f (part.Whole ∷ [])) _ opened read.text
    (λ x y z starts says. answers_aborted f _ _ (cursor_of s y) (cursor_of s' z) abandons starts is says)

pub raw_fault : (f : ReadFault) (lexer : Lexer) (seen : Seen) (s s' : State) → Opened lexer seen s → (Abandons f s'.ahead → ⊥) → FailsAt f (part.Whole ∷ []) s s'
    → Between lexer seen s' (AnswersFront (Err f))
raw_fault f lexer seen s s' opened other read =
    said_then lexer seen s s' (FailsParts f (part.Whole ∷ [])) _ opened read.text
    (λ x y z starts says. answers_fault f _ _ (cursor_of s y) (cursor_of s' z) other starts says)

-- the lexer gave no token
pub raw_unlexed : (f : LexFault) (result : Result Front ReadFault) (lexer lexer' : Lexer) (offset : ℕ) (seen seen' : Seen) → (e : ReadFault) × (result ≡ Err e) × (e ≡ read_fault f)
    → Tells seen seen' (λ x y. lexing.AnswersToken (Err f) (lexer.since - held_count lexer.held) offset (unread lexer.held x) (unread lexer'.held y))
    → Tells seen seen' (λ x y. AnswersFront result (lexer.since - held_count lexer.held) (unread lexer.held x) (unread lexer'.held y))
raw_unlexed f result lexer lexer' offset seen seen' same said =
    between_as seen.left seen'.left _ _
    (λ x y h. subst (λ (r : Result Front ReadFault). AnswersFront r (lexer.since - held_count lexer.held) (unread lexer.held x) (unread lexer'.held y)) (sym (same.1 ∙ ap Err same.2))
    (answers_lexing f _ offset _ _ h)) said

-- it gave another token than `HOA:`
pub raw_other : (k : ℕ) (lexer : Lexer) (seen : Seen) (s : State) → Opened lexer seen s → k ≡ s.lexer.offset → move part.Whole s.ahead ≡ part.Refuses
    → Between lexer seen s (AnswersFront (Err (fault.Syntax k)))
raw_other k lexer seen s opened same other =
    between_as seen.left s.seen.left _ _ (λ x y h. answers_other _ (unread lexer.held x) s.ahead k (unread s.lexer.held y)
    (subst (λ (n : ℕ). IsNext (unread lexer.held x) (lexer.since - held_count lexer.held) s.ahead n (unread s.lexer.held y)) (sym same) h) other) opened.next
