-- The shortest prefix that shows a bad token is unique, so readers that take no more stop at the same byte.
use Rattle.std.proofs.Common.{◌≡◌, ◌⊎◌, ℕ, ◌+◌, ◌-◌, List, [], ◌∷◌, ◌++◌, length, inl, inr, refl, sym, ap, ◌∙◌, subst, arith}
use Rattle.std.proofs.lemmas.List.{append_assoc, append-nil, append_cancel_right, length-append}
use Rattle.aut_base.specs.declared.limit.TheConstants.{MOST_DEPTH}
use Rattle.autfilt_run.specs.Runs.{IsSyntaxFault}
use Rattle.hoa_lexer.proofs.next_token.Fronts.{front_of}
use Rattle.hoa_lexer.proofs.next_token.Unique.{one_next_token}
use Rattle.hoa_lexer.specs.Text.{AfterBlanks, AsksForMore, HasFront, IsNext, Lexes}
use Rattle.hoa_lexer.specs.declared.token.Token.{Token}
use Rattle.hoa_parser.proofs.standing.Halts.{Halts, halts_here, reading, shown}
use Rattle.hoa_parser.proofs.standing.Hopeless.{Leaves, lexes_leaves}
use Rattle.hoa_parser.proofs.standing.NextCases.{HasNext, next_no_fault}
use Rattle.hoa_parser.proofs.standing.Readings.{place}
use Rattle.hoa_parser.proofs.standing.Settled.{front_on, next_on, no_token_at_on, place_on}
use Rattle.hoa_parser.specs.Grammar.{IsViable}
use Rattle.hoa_parser.specs.Reads.{AskedForLast, AsksOn, IsHopeless}
use Rattle.hoa_parser.specs.Standing as standing
use Rattle.hoa_parser.specs.Standing.{IsBad, IsMisplaced, IsNoTokenAt}

-- ---- adding bytes at the end

token_on : (x more : List ℕ) → AfterBlanks x HasFront → AfterBlanks (x ++ more) HasFront
token_on x more a = record {
  before = a.before;
  bytes = a.bytes ++ more;
  split = ap (λ w. w ++ more) a.split ∙ append_assoc a.before a.bytes more;
  blanks = a.blanks;
  holds = record { token = a.holds.token; rest = a.holds.rest ++ more; front = front_on a.bytes a.holds.rest more a.holds.token a.holds.front };
}

fault_on : (k : ℕ) (tokens : List Token) (used : ℕ) (rest more : List ℕ) → IsMisplaced k tokens used rest ⊎ IsNoTokenAt k used rest
    → IsMisplaced k tokens used (rest ++ more) ⊎ IsNoTokenAt k used (rest ++ more)
fault_on k tokens used rest more (inl m) = inl (record {
  next_token = m.next_token;
  after = m.after ++ more;
  next = next_on rest m.after more used k m.next_token m.next;
  dead = m.dead;
  no_abort = m.no_abort;
})
fault_on k tokens used rest more (inr n) = inr (no_token_at_on k used rest more n)

-- ---- the next token, whatever offset is counted from

next_of : (used : ℕ) (x : List ℕ) (a : AfterBlanks x HasFront) → HasNext used x a.holds.token
next_of used x a = record {
  offset = used + length a.before;
  after = a.holds.rest;
  next = record { before = a.before; bytes = a.bytes; split = a.split; blanks = a.blanks; place = refl; front = a.holds.front };
}

next_from : (used start : ℕ) (x : List ℕ) (t : Token) (i : ℕ) (rest : List ℕ) → IsNext x start t i rest → HasNext used x t
next_from used start x t i rest n = record {
  offset = used + length n.before;
  after = rest;
  next = record { before = n.before; bytes = n.bytes; split = n.split; blanks = n.blanks; place = refl; front = n.front };
}

-- ---- a prefix that needs more bytes contains no bad token

asks_no_token : (x more : List ℕ) → AsksForMore (x ++ more) → AfterBlanks x HasFront → ⊥
asks_no_token x more a f = a.unclosed (token_on x more f)

asks_no_fault : (k : ℕ) (tokens : List Token) (used : ℕ) (x more : List ℕ) → AsksForMore (x ++ more) → IsMisplaced k tokens used x ⊎ IsNoTokenAt k used x → ⊥
asks_no_fault k tokens used x more a (inl m) = asks_no_token x more a (front_of x used m.next_token k m.after m.next)
asks_no_fault k tokens used x more a (inr n) =
    let whole = x ++ (more ++ a.more) in
    let closes = subst (λ (w : List ℕ). AfterBlanks w HasFront) (append_assoc x more a.more) a.closes in
    next_no_fault k used whole closes.holds.token (next_of used whole closes) (no_token_at_on k used x (more ++ a.more) n)

-- One reading finds a bad token at its rest. Another, of the same bytes and more, needs more.
record TwoReadings (k used : ℕ) (tokens others : List Token) (rest at_hand : List ℕ) : Type 0 where
  halts : Halts (standing.Bad k) tokens used rest
  viable : IsViable MOST_DEPTH others
  asks : AsksForMore at_hand

module _ (k used : ℕ) (tokens others : List Token) (rest extra new at_hand : List ℕ) (r : TwoReadings k used tokens others rest at_hand) where
  -- the bytes read from here on are among those at hand
  at_hand_here : (x : List ℕ) → x ++ (extra ++ new) ≡ at_hand ++ new → AsksForMore (x ++ extra)
  at_hand_here x e = subst AsksForMore (append_cancel_right at_hand (x ++ extra) new (sym e ∙ sym (append_assoc x extra new))) r.asks

  -- the second reading isn't longer than the first
  goes_no_further : (t : Token) (us : List Token) → HasNext used (rest ++ (extra ++ new)) t → others ≡ tokens ++ t ∷ us → ⊥
  goes_no_further t us n is =
      halts_here (standing.Bad k) tokens us t used (rest ++ (extra ++ new)) (r.halts.0, fault_on k tokens used rest (extra ++ new) r.halts.1) n
      (subst (λ (ts : List Token). IsViable MOST_DEPTH ts) is r.viable)

  -- so two such readings are impossible, where the second has all bytes of the first
  apart : (ps qs : List (Token × ℕ)) (done : List Token) (input : List ℕ) (start : ℕ) (behind : List ℕ)
      → tokens ≡ done ++ shown ps → others ≡ done ++ shown qs
      → Lexes input start ps rest → Lexes (input ++ (extra ++ new)) start qs behind → behind ≡ at_hand ++ new → ⊥
  apart [] [] done input start behind a b f g e =
      asks_no_fault k tokens used rest extra (at_hand_here rest (ap (λ w. w ++ (extra ++ new)) (sym f) ∙ g ∙ e)) r.halts.1
  apart [] (q ∷ qs) done input start behind a b f g e =
      let same : tokens ≡ done = a ∙ append-nil done in
      let next = subst (λ (w : List ℕ). IsNext (w ++ (extra ++ new)) start q.0 q.1 g.0) f g.1 in
      goes_no_further q.0 (shown qs) (next_from used start (rest ++ (extra ++ new)) q.0 q.1 g.0 next)
      (b ∙ ap (λ (ts : List Token). ts ++ q.0 ∷ shown qs) (sym same))
  apart (p ∷ ps) [] done input start behind a b f g e =
      asks_no_token input extra (at_hand_here input (g ∙ e)) (front_of input start p.0 p.1 f.0 f.1)
  apart (p ∷ ps) (q ∷ qs) done input start behind a b f g e =
      let more = extra ++ new in
      let same = one_next_token (input ++ more) start p.0 q.0 p.1 q.1 (f.0 ++ more) g.0 (next_on input f.0 more start p.1 p.0 f.1) g.1 in
      let moved = subst (λ (w : List ℕ). Lexes w (start + (length (input ++ more) - length w)) qs behind) (sym same.2) g.2 in
      let there = subst (λ (n : ℕ). Lexes (f.0 ++ more) n qs behind) (sym (place_on start input f.0 more)) moved in
      apart ps qs (done ++ p.0 ∷ []) f.0 (start + (length input - length f.0)) behind
      (a ∙ sym (append_assoc done (p.0 ∷ []) (shown ps)))
      (b ∙ ap (λ (t : Token). done ++ t ∷ shown qs) (sym same.0) ∙ sym (append_assoc done (p.0 ∷ []) (shown qs)))
      f.2 there e

-- a reading that needs more hasn't all bytes that show a bad token
pub no_earlier : (k start : ℕ) (bytes extra new : List ℕ) → IsBad start bytes k → AsksOn start (bytes ++ (extra ++ new)) new → ⊥
no_earlier k start bytes extra new bad a =
    let r = reading (standing.Bad k) start bytes bad in
    let viable = subst (λ (ts : List Token). IsViable MOST_DEPTH ts) (sym a.begun.shown) a.begun.viable in
    apart k (place start bytes r.rest) (shown r.placed) (shown a.begun.placed) r.rest extra new a.holds.at_hand
    (record { halts = r.halts; viable = viable; asks = a.holds.asks })
    r.placed a.begun.placed [] bytes start a.rest refl refl r.lexes a.begun.lexes a.holds.split

-- ---- two ends of one text

pub asked_leaves : (start : ℕ) (text new : List ℕ) → AsksOn start text new → Leaves text new
asked_leaves start text new a =
    let l = lexes_leaves a.begun.placed text start a.rest a.begun.lexes in
    record { before = l.before ++ a.holds.at_hand; split = l.split ∙ ap (λ w. l.before ++ w) a.holds.split ∙ sym (append_assoc l.before a.holds.at_hand new) }

either_longer : (a x b : List ℕ) (c : ℕ) (y : List ℕ) → a ++ x ≡ b ++ c ∷ y → Leaves x (c ∷ y) ⊎ Leaves y x
either_longer [] x b c y e = inl (record { before = b; split = e })
either_longer (d ∷ a) x [] c y e = inr (record { before = a; split = (let whole : c ∷ y ≡ d ∷ (a ++ x) = sym e in cc) })
either_longer (d ∷ a) x (f ∷ b) c y e = either_longer a x b c y (let whole : d ∷ (a ++ x) ≡ f ∷ (b ++ c ∷ y) = e in cc)

one_end_of_both : (x y : List ℕ) → Leaves x y → Leaves y x → x ≡ y
one_end_of_both x y a b = go a.before a.split
  where
    go : (before : List ℕ) → x ≡ before ++ y → x ≡ y
    go [] e = e
    go (c ∷ cs) e = absurd (omega (arith, simp length-append at (ap length e), simp length-append at (ap length b.split)))

-- the prefix that shows it isn't longer than the one that was asked for
pub no_later : (k start : ℕ) (text x y : List ℕ) → IsHopeless k start text x → AskedForLast start text y → Leaves y x
no_later k start text x y h a =
    let l = asked_leaves start text (a.byte ∷ y) a.asked in
    go (either_longer h.used x l.before a.byte y (sym h.split ∙ l.split))
  where
    go : Leaves x (a.byte ∷ y) ⊎ Leaves y x → Leaves y x
    go (inr l) = l
    go (inl l) =
        let all : text ≡ h.used ++ (l.before ++ a.byte ∷ y) = h.split ∙ ap (λ (w : List ℕ). h.used ++ w) l.split in
        absurd (no_earlier k start h.used l.before (a.byte ∷ y) h.bad (subst (λ (w : List ℕ). AsksOn start w (a.byte ∷ y)) all a.asked))

pub one_bad_place : (k start : ℕ) (rest x y : List ℕ) → IsSyntaxFault k start rest x → IsSyntaxFault k start rest y → x ≡ y
one_bad_place k start rest x y a b = one_end_of_both x y (no_later k start rest y x b.shown a.last) (no_later k start rest x y a.shown b.last)
