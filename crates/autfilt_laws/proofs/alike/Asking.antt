-- A prefix of a text that needs more bytes holds no whole automaton.
use Rattle.std.proofs.Common.{◌≡◌, ◌≢◌, ◌∙◌, ◌+◌, ◌-◌, ◌<◌, ◌≤◌, ℕ, Bool, true, false, not, is_some, Option, Some, None, List, [], ◌∷◌, ◌++◌, ap}
use Rattle.std.proofs.Common.{append-nil, append_assoc, arith, length, length-append, refl, subst, sym}
use Rattle.std.proofs.lemmas.List.{map-append}
use Rattle.autfilt_laws.specs.Places.{NoneAsksBehind}
use Rattle.hoa_lexer.proofs.next_token.Fronts.{front_of}
use Rattle.hoa_lexer.proofs.next_token.Unique.{one_next_token}
use Rattle.hoa_lexer.proofs.spelling.FirstBytes.{spelled_some}
use Rattle.hoa_lexer.specs.Spelling as spelling
use Rattle.hoa_lexer.specs.Reading.{unread}
use Rattle.hoa_lexer.specs.Spelling.{closes_itself}
use Rattle.hoa_lexer.specs.Text.{AsksForMore, IsNext, Lexes}
use Rattle.hoa_lexer.specs.declared.token.Token.{Token}
use Rattle.hoa_lexer.specs.declared.token.Token.TheVariants as token
use Rattle.hoa_parser.proofs.grammar.NoAbort.{no_abort_inside}
use Rattle.hoa_parser.proofs.grammar.OneRaw.{whole_goes_no_further}
use Rattle.hoa_parser.proofs.standing.Halts.{shown}
use Rattle.hoa_parser.proofs.standing.Hopeless.{next_leaves, next_off}
use Rattle.hoa_parser.proofs.standing.Needed.{held_as_needed}
use Rattle.hoa_parser.proofs.standing.Readings.{lexes_more, lexes_shorter}
use Rattle.hoa_parser.specs.Grammar.{IsViable, SpellsAutomaton}
use Rattle.hoa_parser.specs.Raw.{Written}
use Rattle.hoa_parser.specs.Reads.{AsksOn, EndsDeep}
use Rattle.hoa_parser.specs.Standing.{IsAborted, IsBegun}
use Rattle.std.specs.Prelude.{codes}
use Rattle.aut_base.specs.declared.limit.TheConstants.{MOST_DEPTH}

-- ---- lists

some_length : (xs : List ℕ) → xs ≢ [] → 0 < length xs
some_length [] some = absurd (some refl)
some_length (x ∷ xs) some = omega arith

pub record Between (a x b y : List ℕ) : Type 0 where
  pub mid : List ℕ
  pub behind : x ≡ mid ++ y
  pub before : b ≡ a ++ mid

pub split_longer : (a x b y : List ℕ) → a ++ x ≡ b ++ y → length y ≤ length x → Between a x b y
split_longer [] x b y e long = record { mid = b; behind = e; before = refl }
split_longer (d ∷ a) x [] y e long = absurd (omega (arith, long, simp length-append at (ap length e)))
split_longer (d ∷ a) x (f ∷ b) y e long =
    let whole : d ∷ (a ++ x) ≡ f ∷ (b ++ y) = e in
    let tail : a ++ x ≡ b ++ y = cc in
    let first : f ≡ d = cc in
    let rest = split_longer a x b y tail long in
    record { mid = rest.mid; behind = rest.behind; before = λ i. first i ∷ rest.before i }

last_same : (a b : List Token) (x y : Token) → a ++ x ∷ [] ≡ b ++ y ∷ [] → x ≡ y
last_same [] [] x y e = (let whole : x ∷ [] ≡ y ∷ [] = e in cc)
last_same [] (c ∷ b) x y e = absurd (omega (arith, ap length e, length-append b (y ∷ [])))
last_same (c ∷ a) [] x y e = absurd (omega (arith, ap length e, length-append a (x ∷ [])))
last_same (c ∷ a) (d ∷ b) x y e = (let whole : c ∷ (a ++ x ∷ []) ≡ d ∷ (b ++ y ∷ []) = e in last_same a b x y cc)

-- ---- tokens

next_strictly : (input : List ℕ) (start : ℕ) (t : Token) (i : ℕ) (rest : List ℕ) → IsNext input start t i rest → length rest < length input
next_strictly input start t i rest n =
    let some = some_length n.front.word (λ e. spelled_some t (subst (spelling.Spells t) e n.front.spells)) in
    omega (arith, some, simp length-append at (ap length n.split), simp length-append at (ap length n.front.split))

-- the last token of an automaton is complete with its own last byte
last_is_end : (ts : List Token) (w : Written) (s : SpellsAutomaton MOST_DEPTH ts w) (done : List Token) (t : Token) → ts ≡ done ++ t ∷ [] → t ≡ token.End
last_is_end ts w s done t e =
    last_same done (token.HeaderName (codes "HOA") ∷ token.Identifier w.version ∷ (s.item_tokens ++ token.Body ∷ s.state_tokens)) t token.End
    (sym e ∙ s.spelled
    ∙ ap (λ (us : List Token). token.HeaderName (codes "HOA") ∷ token.Identifier w.version ∷ us) (sym (append_assoc s.item_tokens (token.Body ∷ s.state_tokens) (token.End ∷ []))))

-- ---- two readings of one text

-- One reading stops and asks for more after these tokens; the other reads the tokens `whole`, up to `rest`.
record IsApart (tokens whole : List Token) (new rest : List ℕ) : Type 0 where
  -- the last token of the other is complete with its own last byte, where both stop at the same byte
  closing : (done : List Token) (t : Token) → whole ≡ done ++ t ∷ [] → length rest ≡ length new → closes_itself t ≡ true
  -- the first reading isn't the longer one
  beyond : (us : List Token) → tokens ≡ whole ++ us → ⊥

module _ (tokens whole : List Token) (at_hand new rest : List ℕ) (are : IsApart tokens whole new rest) (asks : AsksForMore at_hand) (short : length new ≤ length rest) where
  -- a token of the other is complete within what the first has read
  closed : (q : Token × ℕ) (qs : List (Token × ℕ)) (done : List Token) (start : ℕ) (after : List ℕ) → whole ≡ done ++ q.0 ∷ shown qs → IsNext (at_hand ++ new) start q.0 q.1 after
      → Lexes after (start + (length (at_hand ++ new) - length after)) qs rest → ⊥
  closed q qs done start after is n lexes =
      let leaves = next_leaves (at_hand ++ new) start q.0 q.1 after n in
      let longer = lexes_shorter after (start + (length (at_hand ++ new) - length after)) qs rest lexes in
      let parts = split_longer leaves.before after at_hand new (sym leaves.split) (omega (arith, short, longer)) in
      asks.unclosed (front_of at_hand start q.0 q.1 parts.mid
      (next_off at_hand parts.mid new start q.1 q.0 (λ none. last qs is lexes (ap length parts.behind ∙ ap (λ (m : List ℕ). length (m ++ new)) none))
      (subst (λ (r : List ℕ). IsNext (at_hand ++ new) start q.0 q.1 r) parts.behind n)))
    where
      last : (others : List (Token × ℕ)) → whole ≡ done ++ q.0 ∷ shown others → Lexes after (start + (length (at_hand ++ new) - length after)) others rest → length after ≡ length new
          → closes_itself q.0 ≡ true
      last [] same l size = are.closing done q.0 same (sym (ap length l) ∙ size)
      last (o ∷ os) same l size =
          let less = next_strictly after (start + (length (at_hand ++ new) - length after)) o.0 o.1 l.0 l.1 in
          let more = lexes_shorter l.0 ((start + (length (at_hand ++ new) - length after)) + (length after - length l.0)) os rest l.2 in
          absurd (omega (arith, less, more, size, short))

  apart : (ps qs : List (Token × ℕ)) (done : List Token) (input : List ℕ) (start : ℕ) (behind : List ℕ) → tokens ≡ done ++ shown ps → whole ≡ done ++ shown qs
      → Lexes input start ps behind → Lexes input start qs rest → behind ≡ at_hand ++ new → ⊥
  apart ps [] done input start behind a b f g e = are.beyond (shown ps) (a ∙ ap (λ (ts : List Token). ts ++ shown ps) (sym (b ∙ append-nil done)))
  apart [] (q ∷ qs) done input start behind a b f g e =
      let here : input ≡ at_hand ++ new = f ∙ e in
      closed q qs done start g.0 b (subst (λ (r : List ℕ). IsNext r start q.0 q.1 g.0) here g.1)
      (subst (λ (r : List ℕ). Lexes g.0 (start + (length r - length g.0)) qs rest) here g.2)
  apart (p ∷ ps) (q ∷ qs) done input start behind a b f g e =
      let same = one_next_token input start p.0 q.0 p.1 q.1 f.0 g.0 f.1 g.1 in
      apart ps qs (done ++ p.0 ∷ []) f.0 (start + (length input - length f.0)) behind
      (a ∙ sym (append_assoc done (p.0 ∷ []) (shown ps)))
      (b ∙ ap (λ (t : Token). done ++ t ∷ shown qs) (sym same.0) ∙ sym (append_assoc done (p.0 ∷ []) (shown qs)))
      f.2 (subst (λ (r : List ℕ). Lexes r (start + (length input - length r)) qs rest) (sym same.2) g.2) e

-- so there is no such text
none_asks : (start : ℕ) (text new rest : List ℕ) (placed : List (Token × ℕ)) (a : AsksOn start text new) → IsApart a.tokens (shown placed) new rest → Lexes text start placed rest
    → length new ≤ length rest → ⊥
none_asks start text new rest placed a are lexes short =
    apart a.tokens (shown placed) a.holds.at_hand new rest are a.holds.asks short a.begun.placed placed [] text start a.rest (sym a.begun.shown) refl a.begun.lexes lexes a.holds.split

-- ---- where a whole automaton is next

-- a prefix of an automaton that needs more isn't a whole automaton with tokens after it
beyond_whole : (tokens whole us : List Token) (w : Written) → IsViable MOST_DEPTH tokens
    → ((most : ℕ) (v : Written) → SpellsAutomaton most tokens v → ⊥) → SpellsAutomaton MOST_DEPTH whole w → tokens ≡ whole ++ us → ⊥
beyond_whole tokens whole [] w viable unfinished spelled e = unfinished MOST_DEPTH w (subst (λ (ts : List Token). SpellsAutomaton MOST_DEPTH ts w) (sym (e ∙ append-nil whole)) spelled)
beyond_whole tokens whole (u ∷ us) w viable unfinished spelled e =
    let none : u ∷ us ≡ [] = whole_goes_no_further MOST_DEPTH MOST_DEPTH whole (u ∷ us) w spelled (subst (λ (ts : List Token). IsViable MOST_DEPTH ts) e viable) in
    cc

pub none_asks_behind : NoneAsksBehind
none_asks_behind start text w rest new whole asks short =
    none_asks start text new rest whole.placed asks (record {
      closing = λ done t is size. ap closes_itself (last_is_end (shown whole.placed) w whole.spells done t is);
      beyond = λ us. beyond_whole asks.tokens (shown whole.placed) us w asks.begun.viable asks.begun.unfinished whole.spells;
    }) whole.lexes short

-- ---- where another token follows what was read

module _ (start : ℕ) (text : List ℕ) (tokens : List Token) (used : ℕ) (rest : List ℕ) (t : Token) (offset : ℕ) (after new : List ℕ) (begun : IsBegun start text tokens used rest)
    (next : IsNext rest used t offset after) where
  abbrev with_it : List (Token × ℕ)
  with_it = begun.placed ++ (t, offset) ∷ []

  with_it_shown : shown with_it ≡ tokens ++ t ∷ []
  with_it_shown = map-append (λ (p : Token × ℕ). p.0) begun.placed ((t, offset) ∷ []) ∙ ap (λ (ts : List Token). ts ++ t ∷ []) begun.shown

  with_it_read : Lexes text start with_it after
  with_it_read =
      lexes_more text start begun.placed rest used (t, offset) after begun.lexes (lexes_shorter text start begun.placed rest begun.lexes) begun.used_is next

  pub none_asks_behind_token : (a : AsksOn start text new) → (length after ≡ length new → closes_itself t ≡ true) → ((us : List Token) → a.tokens ≡ tokens ++ t ∷ us → ⊥)
      → length new ≤ length after → ⊥
  none_asks_behind_token a closes beyond =
      none_asks start text new after with_it a (record {
        closing = λ done u is size. subst (λ (x : Token). closes_itself x ≡ true) (last_same tokens done t u (sym with_it_shown ∙ is)) (closes size);
        beyond = λ us is. beyond us (is ∙ ap (λ (ts : List Token). ts ++ us) with_it_shown ∙ append_assoc tokens (t ∷ []) us);
      }) with_it_read

-- where a token nests too deep
pub deep_fewer : (start : ℕ) (text left : List ℕ) → EndsDeep start text left → length left ≤ length text
deep_fewer start text left h =
    let d = h.deep in
    let begun = lexes_shorter text start d.begun.placed d.rest d.begun.lexes in
    let less = next_strictly d.rest d.used d.next_token d.offset d.after d.next in
    omega (arith, begun, less, held_fewer h.held left d.after h.behind)
  where
    held_fewer : (held : Option ℕ) (left after : List ℕ) → after ≡ unread held left → length left ≤ length after
    held_fewer None left after is = omega (arith, ap length is)
    held_fewer (Some b) left after is = omega (arith, ap length is)

pub none_asks_behind_deep : (start : ℕ) (text left new : List ℕ) → EndsDeep start text left → AsksOn start text new → length new ≤ length left → ⊥
none_asks_behind_deep start text left new h a short =
    let d = h.deep in
    none_asks_behind_token start text d.tokens d.used d.rest d.next_token d.offset d.after new d.begun d.next a
    (λ size. closed_there h.held d.next_token left new d.after h.behind (held_as_needed h.held d.next_token h.needed) short size)
    (λ us is. d.too_deep (viable_front (d.tokens ++ d.next_token ∷ []) us
    (subst (λ (ts : List Token). IsViable MOST_DEPTH ts) (is ∙ sym (append_assoc d.tokens (d.next_token ∷ []) us)) a.begun.viable)))
    (behind_no_shorter h.held left new d.after h.behind short)
  where
    viable_front : (ts us : List Token) → IsViable MOST_DEPTH (ts ++ us) → IsViable MOST_DEPTH ts
    viable_front ts us v =
        record { more = us ++ v.more; whole = v.whole; spelled = subst (λ (ws : List Token). SpellsAutomaton MOST_DEPTH ws v.whole) (append_assoc ts us v.more) v.spelled }

    behind_no_shorter : (held : Option ℕ) (left new after : List ℕ) → after ≡ unread held left → length new ≤ length left → length new ≤ length after
    behind_no_shorter None left new after is short = omega (arith, short, ap length is)
    behind_no_shorter (Some b) left new after is short = omega (arith, short, ap length is)

    closed_there : (held : Option ℕ) (t : Token) (left new after : List ℕ) → after ≡ unread held left → is_some held ≡ not (closes_itself t) → length new ≤ length left → length after ≡ length new
        → closes_itself t ≡ true
    closed_there None t left new after is needed short size = open_no (closes_itself t) needed
      where
        open_no : (b : Bool) → false ≡ not b → b ≡ true
        open_no true e = refl
        open_no false e = absurd (let no : false ≡ true = e in cc)
    closed_there (Some b) t left new after is needed short size = absurd (omega (arith, short, size, ap length is))

-- where an automaton is abandoned
pub none_asks_behind_abort : (start : ℕ) (text after new : List ℕ) → IsAborted start text after → AsksOn start text new → length new ≤ length after → ⊥
none_asks_behind_abort start text after new h a =
    none_asks_behind_token start text h.tokens h.used h.rest token.Abort h.holds.1 after new h.begun h.holds.2 a (λ size. refl)
    (λ us is. no_abort_inside MOST_DEPTH h.tokens us (subst (λ (ts : List Token). IsViable MOST_DEPTH ts) is a.begun.viable))
