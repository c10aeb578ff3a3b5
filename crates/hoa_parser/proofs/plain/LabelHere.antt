-- A plain label that was passed.
use Rattle.std.proofs.Common.{◌≡◌, ℕ, suc, ◌+◌, ◌-◌, ◌≤◌, false, List, [], ◌∷◌, ◌++◌, length, take, not, is_some, Some, None, refl, sym, ap, subst, ◌∙◌, arith}
use Rattle.aut_base.specs.declared.limit.TheConstants.{MOST_DEPTH}
use Rattle.aut_io.specs.Seen.{Seen}
use Rattle.hoa_lexer.specs.Moves.{Elsewhere, MovesLexer}
use Rattle.hoa_lexer.specs.Reading.{Tells, held_count, unread}
use Rattle.hoa_lexer.specs.Spelling.{closes_itself}
use Rattle.hoa_lexer.specs.inner.Steps.{PassesBlanks}
use Rattle.hoa_lexer.specs.declared.lexer.Lexer.{Lexer}
use Rattle.hoa_lexer.proofs.next_token.Between.{between_both}
use Rattle.hoa_lexer.proofs.spelling.Comments.{unheld}
use Rattle.hoa_lexer.specs.declared.token.Token.{Token}
use Rattle.hoa_lexer.specs.declared.token.Token.TheVariants as token
use Rattle.hoa_lexer.proofs.spelling.FirstBytes.{mark_front}
use Rattle.hoa_parser.specs.Phrases.{Label, Lands, Lnots, LabelWithin, LandsWithin, LnotsWithin, and_lnot, label, label_tokens, lands_tokens, lnot_tokens, lnots_tokens, no_land, no_lnot, or_land}
use Rattle.hoa_parser.specs.inner.Expecting.{ClosingBracket, Factor, Factors, MaybeLabel, Part, Products, parts_after, parts_behind, expected_label}
use Rattle.hoa_parser.specs.inner.Parsing.{Cursor, PassesTokens, Passed, ReadsTo, cursor_of, reader_state}
use Rattle.hoa_parser.specs.inner.RuleReads.{IsOpened}
use Rattle.hoa_parser.specs.declared.raw.RawLabel.{RawLabel}
use Rattle.hoa_parser.specs.inner.AtHand.{IsLabel, Spelled}
use Rattle.hoa_parser.proofs.grammar.AfterLabels.{left, lnot_follows, regrouped, taken}
use Rattle.hoa_parser.proofs.plain.Going.{label_unended}
use Rattle.hoa_parser.proofs.plain.Here.{Before, bytes_taken, cursor_at, spelled_before, taken_of}
use Rattle.hoa_parser.proofs.plain.Passing.{cursor, passed_spelled, spelled_behind}
use Rattle.hoa_parser.proofs.plain.Signs.{spelled_length}

-- what is expected behind a label, before it is known that it is over
lnots_left : (fs : Lnots) (others : List Part) (c : List Token) → LnotsWithin MOST_DEPTH 0 fs
    → parts_after MOST_DEPTH (Factors 0 ∷ others) (lnots_tokens fs ++ c) ≡ parts_after MOST_DEPTH (Factors 0 ∷ others) c
lnots_left no_lnot others c w = refl
lnots_left (and_lnot f fs) others c w =
    taken MOST_DEPTH (Factors 0) (Factor 0 ∷ Factors 0 ∷ []) others token.Amp ((lnot_tokens f ++ lnots_tokens fs) ++ c) refl (omega arith)
    ∙ regrouped MOST_DEPTH (Factor 0 ∷ Factors 0 ∷ others) (lnot_tokens f) (lnots_tokens fs) c
    ∙ lnot_follows MOST_DEPTH 0 f (Factors 0 ∷ others) (lnots_tokens fs ++ c) (omega arith) w.0
    ∙ lnots_left fs others c w.1

lands_left : (ls : Lands) (others : List Part) → LandsWithin MOST_DEPTH 0 ls → parts_after MOST_DEPTH (Factors 0 ∷ Products 0 ∷ others) (lands_tokens ls) ≡ Some (Factors 0 ∷ Products 0 ∷ others)
lands_left no_land others w = refl
lands_left (or_land f fs ls) others w =
    left MOST_DEPTH (Factors 0) (Products 0 ∷ others) (lands_tokens (or_land f fs ls)) refl
    ∙ taken MOST_DEPTH (Products 0) (expected_label 0) others token.Bar (lnot_tokens f ++ (lnots_tokens fs ++ lands_tokens ls)) refl (omega arith)
    ∙ lnot_follows MOST_DEPTH 0 f (Factors 0 ∷ Products 0 ∷ others) (lnots_tokens fs ++ lands_tokens ls) (omega arith) w.0
    ∙ lnots_left fs (Products 0 ∷ others) (lands_tokens ls) w.1
    ∙ lands_left ls others w.2

label_left : (l : Label) (others : List Part) → LabelWithin MOST_DEPTH 0 l → parts_after MOST_DEPTH (expected_label 0 ++ others) (label_tokens l) ≡ Some (Factors 0 ∷ Products 0 ∷ others)
label_left (label f fs ls) others w =
    lnot_follows MOST_DEPTH 0 f (Factors 0 ∷ Products 0 ∷ others) (lnots_tokens fs ++ lands_tokens ls) (omega arith) w.0
    ∙ lnots_left fs (Products 0 ∷ others) (lands_tokens ls) w.1
    ∙ lands_left ls others w.2

label_goes : (l : Label) (a b : Cursor) → LabelWithin MOST_DEPTH 0 l → Passed a (token.LeftBracket ∷ label_tokens l) b → b.token ≡ token.RightBracket
    → PassesTokens (MaybeLabel ∷ []) a (ClosingBracket ∷ []) b
label_goes l a b w passed closes = record {
  tokens = token.LeftBracket ∷ label_tokens l;
  passed = passed;
  left = Factors 0 ∷ Products 0 ∷ ClosingBracket ∷ [];
  leads = record {
    runs = λ others. taken MOST_DEPTH MaybeLabel (expected_label 0 ++ ClosingBracket ∷ []) others token.LeftBracket (label_tokens l) refl (omega arith)
        ∙ label_left l (ClosingBracket ∷ others) w;
  };
  unended = (refl, label_unended l);
  over = λ most others. subst (λ (t : Token). parts_behind most (Factors 0 ∷ Products 0 ∷ ClosingBracket ∷ others) t ≡ parts_behind most (ClosingBracket ∷ others) t) (sym closes) refl;
}

-- a label behind its `[` was passed, and its `]` is at hand
opened_goes : (l : RawLabel) (bytes next : List ℕ) (a b : Cursor) → IsLabel l bytes (93 ∷ next) → a.token ≡ token.LeftBracket → b.token ≡ token.RightBracket → b.held ≡ None
    → a.rest ≡ take (length bytes - length next) bytes ++ b.rest → a.used + length a.rest ≡ b.offset + suc (length b.rest) → a.used + length a.rest ≡ b.used + length b.rest
    → IsOpened l a b × PassesTokens (MaybeLabel ∷ []) a (ClosingBracket ∷ []) b
opened_goes l bytes next a b p first second none taken o u =
    let ts : List Token = label_tokens p.phrase in
    let y : List ℕ = b.rest in
    let front : Before ts bytes 93 next = spelled_before ts bytes 93 next p.spelled in
    let spelled : Spelled a.rest ts (93 ∷ y) = subst (λ (w : List ℕ). Spelled w ts (93 ∷ y)) (sym (bytes_taken front.front next y bytes a.rest 93 front.split taken)) (front.again y) in
    let to_cursor : Passed a (a.token ∷ ts) (cursor token.RightBracket b.offset b.used None y) =
    passed_spelled ts a token.RightBracket b.offset b.used None (93 ∷ y) y spelled (mark_front token.RightBracket 93 y refl) o u refl in
    let passed : Passed a (token.LeftBracket ∷ ts) b =
    subst (λ (c : Cursor). Passed a (token.LeftBracket ∷ ts) c) (cursor_at token.RightBracket b second none)
    (subst (λ (t : Token). Passed a (t ∷ ts) (cursor token.RightBracket b.offset b.used None y)) first to_cursor) in
    ((passed.0, (passed.0, passed.1, passed.2, refl), record { phrase = p.phrase; within = p.within; passed = passed.3; means = p.means }), label_goes p.phrase a b p.within passed second)

pub opened_reads : (l : RawLabel) (bytes next hand : List ℕ) (count : ℕ) (z z' : Token) (x x' : Lexer) (seen seen' : Seen) → IsLabel l bytes (93 ∷ next) → z ≡ token.LeftBracket
    → z' ≡ token.RightBracket → x.held ≡ None
    → x'.held ≡ None → bytes ≡ take (length bytes) hand → count ≡ length bytes - length next → Tells seen seen' (λ u v. u ≡ take count hand ++ v) → x'.offset + 1 ≡ x'.since
    → MovesLexer Elsewhere x x' seen seen' → x'.spent ≡ false → ReadsTo (MaybeLabel ∷ []) (ClosingBracket ∷ []) (IsOpened l) (reader_state x z seen) (reader_state x' z' seen')
opened_reads l bytes next hand count z z' x x' seen seen' p opens closes none none' front is passes last moves unspent = record {
  moves = moves;
  spent = unspent;
  holds = λ h. ap is_some none' ∙ sym (ap (λ t. not (closes_itself t)) closes);
  text = between_both seen.left seen'.left _ _ _ (λ u v e m.
      let open_u : unread x.held u ≡ u = unheld x.held u none in
      let open_v : unread x'.held v ≡ v = unheld x'.held v none' in
      let no : held_count x.held ≡ 0 = ap held_count none in
      let no' : held_count x'.held ≡ 0 = ap held_count none' in
      let few : length bytes - length next ≤ length bytes = omega arith in
      opened_goes l bytes next (cursor_of (reader_state x z seen) u) (cursor_of (reader_state x' z' seen') v) p opens closes none'
      (open_u ∙ taken_of (length bytes - length next) (length bytes) hand bytes u v front few (e ∙ ap (λ n. take n hand ++ v) is) ∙ ap (λ w. take (length bytes - length next) bytes ++ w) (sym open_v))
      (omega (arith, ap length open_u, ap length open_v, no, no', m, moves.since, last))
      (omega (arith, ap length open_u, ap length open_v, no, no', m, moves.since)))
      passes moves.taken;
}

pub label_length : (l : RawLabel) (bytes next : List ℕ) → IsLabel l bytes (93 ∷ next) → suc (length next) ≤ length bytes
label_length l bytes next p = spelled_length (label_tokens p.phrase) bytes (93 ∷ next) p.spelled

pub label_before : (l : RawLabel) (b : ℕ) (x x' y next : List ℕ) → PassesBlanks x x' → IsLabel l x' y → y ≡ b ∷ next → b ≡ 93 → IsLabel l x (93 ∷ next)
label_before l b x x' y next blanks p parts_behind closes = subst (IsLabel l x) (parts_behind ∙ ap (λ c. c ∷ next) closes) (record {
  phrase = p.phrase;
  within = p.within;
  spelled = spelled_behind (label_tokens p.phrase) x x' y blanks p.spelled;
  means = p.means;
})
