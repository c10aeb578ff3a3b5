-- Edges and states up to their edges that were passed, where what begins behind them is at hand.
use Rattle.std.proofs.Common.{◌≡◌, ℕ, ◌+◌, ◌-◌, ◌≤◌, false, not, is_some, List, [], ◌∷◌, ◌++◌, length, take, None, Some, refl, sym, ap, subst, ◌∙◌, arith}
use Rattle.std.specs.Prelude.{codes}
use Rattle.std.proofs.lemmas.List.{length-append}
use Rattle.aut_io.specs.Seen.{Seen}
use Rattle.hoa_lexer.specs.Moves.{Elsewhere, MovesLexer}
use Rattle.hoa_lexer.specs.Reading.{Tells, held_count, unread}
use Rattle.hoa_lexer.specs.Spelling.{closes_itself}
use Rattle.hoa_lexer.specs.Text.{IsFront}
use Rattle.hoa_lexer.specs.declared.lexer.Lexer.{Lexer}
use Rattle.hoa_lexer.specs.declared.token.Token.{Token}
use Rattle.hoa_lexer.specs.declared.token.Token.TheVariants as token
use Rattle.hoa_lexer.proofs.next_token.Between.{between_both}
use Rattle.hoa_lexer.proofs.spelling.Comments.{unheld}
use Rattle.hoa_lexer.proofs.spelling.FirstBytes.{mark_front}
use Rattle.hoa_parser.specs.Phrases.{label_tokens, optional_marks}
use Rattle.hoa_parser.specs.declared.parse.body.StateHead.{StateHead}
use Rattle.hoa_parser.specs.declared.parse.plain.Next.{Next}
use Rattle.hoa_parser.specs.declared.parse.plain.Next.TheVariants as next
use Rattle.hoa_parser.specs.declared.raw.RawEdge.{RawEdge}
use Rattle.hoa_parser.specs.inner.AtHand.{IsPlain, IsPlainHead, Spelled, next_word, next_token}
use Rattle.hoa_parser.specs.inner.Expecting.{Edges, Part, States}
use Rattle.hoa_parser.specs.inner.Parsing.{Cursor, PassesTokens, Passed, ReadsTo, Relation, cursor_of, reader_state}
use Rattle.hoa_parser.specs.inner.RuleReads.{IsEdge, IsHead}
use Rattle.hoa_parser.proofs.plain.Going.{edge_goes, head_goes}
use Rattle.hoa_parser.proofs.plain.Here.{Before, cursor_at, spelled_before, taken_of, word_taken}
use Rattle.hoa_parser.proofs.plain.Passing.{passed_spelled}
use Rattle.hoa_parser.proofs.plain.Signs.{spelled_length}
use Rattle.hoa_parser.proofs.reading.Bodies.{state_name}

-- ---- the token with which that begins

next_front : (n : Next) (x : List ℕ) → IsFront (next_word n ++ x) (next_token n) x
next_front next.Edge x = mark_front token.LeftBracket 91 x refl
next_front next.State x = record { word = codes "State:"; split = refl; spells = ((refl, refl), refl); ends = tt }

next_closes : (n : Next) → false ≡ not (closes_itself (next_token n))
next_closes next.Edge = refl
next_closes next.State = refl

pub next_some : (n : Next) → 1 ≤ length (next_word n)
next_some next.Edge = omega arith
next_some next.State = omega arith

-- the tokens stand before it, whatever stands behind that
record BeforeNext (ts : List Token) (x : List ℕ) (n : Next) (left : List ℕ) : Type 0 where
  front : List ℕ
  split : x ≡ front ++ (next_word n ++ left)
  again : (v : List ℕ) → Spelled (front ++ (next_word n ++ v)) ts (next_word n ++ v)

before_next : (ts : List Token) (x : List ℕ) (n : Next) (left : List ℕ) → Spelled x ts (next_word n ++ left) → BeforeNext ts x n left
before_next ts x next.Edge left s =
    let k : Before ts x 91 left = spelled_before ts x 91 left s in
    record { front = k.front; split = k.split; again = k.again }
before_next ts x next.State left s =
    let k : Before ts x 83 (codes "tate:" ++ left) = spelled_before ts x 83 (codes "tate:" ++ left) s in
    record { front = k.front; split = k.split; again = λ v. k.again (codes "tate:" ++ v) }

-- the tokens behind that of `a` were passed
passed_next : (ts : List Token) (n : Next) (bytes left : List ℕ) (a b : Cursor) → Spelled bytes ts (next_word n ++ left) → b.token ≡ next_token n → b.held ≡ None
    → a.rest ≡ take (length bytes - length left) bytes ++ b.rest → a.used + length a.rest ≡ b.offset + length (next_word n ++ b.rest) → a.used + length a.rest ≡ b.used + length b.rest
    → Passed a (a.token ∷ ts) b
passed_next ts n bytes left a b s at none taken o u =
    let y : List ℕ = b.rest in
    let k : BeforeNext ts bytes n left = before_next ts bytes n left s in
    let here : Spelled a.rest ts (next_word n ++ y) =
    subst (λ (w : List ℕ). Spelled w ts (next_word n ++ y)) (sym (word_taken k.front (next_word n) left y bytes a.rest k.split taken)) (k.again y) in
    subst (λ (c : Cursor). Passed a (a.token ∷ ts) c) (cursor_at (next_token n) b at none)
    (passed_spelled ts a (next_token n) b.offset b.used None (next_word n ++ y) y here (next_front n y) o u (next_closes n))

-- ---- what a lexer that passed the bytes has read

-- what is so of the places, where the tokens were passed
abbrev Said : List Token → List Part → List Part → Relation → Next → Token → Type 0
Said ts parts target A n z = (a b : Cursor) → a.token ≡ z → b.token ≡ next_token n → Passed a (a.token ∷ ts) b → A a b × PassesTokens parts a target b

reads_next : (ts : List Token) (parts target : List Part) (A : Relation) (n : Next) (bytes left hand : List ℕ) (count : ℕ) (z z' : Token) (l l' : Lexer) (seen seen' : Seen)
    → Said ts parts target A n z → Spelled bytes ts (next_word n ++ left) → z' ≡ next_token n → l.held ≡ None → l'.held ≡ None → bytes ≡ take (length bytes) hand
    → count ≡ length bytes - length left → Tells seen seen' (λ x y. x ≡ take count hand ++ y) → l'.offset + length (next_word n) ≡ l'.since → MovesLexer Elsewhere l l' seen seen' → l'.spent ≡ false
    → ReadsTo parts target A (reader_state l z seen) (reader_state l' z' seen')
reads_next ts parts target A n bytes left hand count z z' l l' seen seen' said s at none none' front is passes last moves unspent = record {
  moves = moves;
  spent = unspent;
  holds = λ h. ap is_some none' ∙ next_closes n ∙ sym (ap (λ t. not (closes_itself t)) at);
  text = between_both seen.left seen'.left _ _ _ (λ x y e m.
      let open_x : unread l.held x ≡ x = unheld l.held x none in
      let open_y : unread l'.held y ≡ y = unheld l'.held y none' in
      let no : held_count l.held ≡ 0 = ap held_count none in
      let no' : held_count l'.held ≡ 0 = ap held_count none' in
      let few : length bytes - length left ≤ length bytes = omega arith in
      said (cursor_of (reader_state l z seen) x) (cursor_of (reader_state l' z' seen') y) refl at
      (passed_next ts n bytes left (cursor_of (reader_state l z seen) x) (cursor_of (reader_state l' z' seen') y) s at none'
      (open_x ∙ taken_of (length bytes - length left) (length bytes) hand bytes x y front few (e ∙ ap (λ c. take c hand ++ y) is) ∙ ap (λ w. take (length bytes - length left) bytes ++ w) (sym open_y))
      (omega (arith, ap length open_x, ap length open_y, no, no', m, moves.since, last, length-append (next_word n) (unread l'.held y)))
      (omega (arith, ap length open_x, ap length open_y, no, no', m, moves.since))))
      passes moves.taken;
}

next_length : (ts : List Token) (n : Next) (bytes left : List ℕ) → Spelled bytes ts (next_word n ++ left) → length (next_word n) + length left ≤ length bytes
next_length ts n bytes left s = omega (arith, spelled_length ts bytes (next_word n ++ left) s, length-append (next_word n) left)

-- ---- an edge behind its `[`

edge_said : (edge : RawEdge) (n : Next) (bytes y : List ℕ) (z : Token) (p : IsPlain edge bytes y) → z ≡ token.LeftBracket
    → Said ((label_tokens p.label ++ token.RightBracket ∷ []) ++ (token.Int p.goal ∷ optional_marks p.marks)) (Edges ∷ []) (Edges ∷ []) (IsEdge edge) n z
edge_said edge n bytes y z p first a b is at to =
    let ts : List Token = (label_tokens p.label ++ token.RightBracket ∷ []) ++ (token.Int p.goal ∷ optional_marks p.marks) in
    let passed : Passed a (token.LeftBracket ∷ ts) b = subst (λ (t : Token). Passed a (t ∷ ts) b) (is ∙ first) to in (
      record {
        phrase = record { label = Some p.label; to = record { first = p.goal; others = [] }; marks = p.marks };
        within = p.within;
        passed = passed;
        means = p.means;
      },
      edge_goes n p.label p.goal p.marks a b p.within passed at,
    )

pub edge_reads : (edge : RawEdge) (n : Next) (bytes left hand : List ℕ) (count : ℕ) (z z' : Token) (l l' : Lexer) (seen seen' : Seen) → IsPlain edge bytes (next_word n ++ left)
    → z ≡ token.LeftBracket → z' ≡ next_token n → l.held ≡ None → l'.held ≡ None → bytes ≡ take (length bytes) hand → count ≡ length bytes - length left
    → Tells seen seen' (λ x y. x ≡ take count hand ++ y) → l'.offset + length (next_word n) ≡ l'.since → MovesLexer Elsewhere l l' seen seen' → l'.spent ≡ false
    → ReadsTo (Edges ∷ []) (Edges ∷ []) (IsEdge edge) (reader_state l z seen) (reader_state l' z' seen')
edge_reads edge n bytes left hand count z z' l l' seen seen' p first at none none' front is passes last moves unspent =
    reads_next ((label_tokens p.label ++ token.RightBracket ∷ []) ++ (token.Int p.goal ∷ optional_marks p.marks)) (Edges ∷ []) (Edges ∷ []) (IsEdge edge)
    n bytes left hand count z z' l l' seen seen' (edge_said edge n bytes (next_word n ++ left) z p first) p.spelled at none none' front is passes last moves unspent

pub edge_length : (edge : RawEdge) (n : Next) (bytes left : List ℕ) → IsPlain edge bytes (next_word n ++ left) → length (next_word n) + length left ≤ length bytes
edge_length edge n bytes left p = next_length ((label_tokens p.label ++ token.RightBracket ∷ []) ++ (token.Int p.goal ∷ optional_marks p.marks)) n bytes left p.spelled

-- ---- a state behind its `State:`

head_said : (head : StateHead) (n : Next) (bytes y : List ℕ) (z : Token) (p : IsPlainHead head bytes y) → z ≡ state_name
    → Said (token.Int head.number ∷ optional_marks p.marks) (States ∷ []) (Edges ∷ States ∷ []) (IsHead head) n z
head_said head n bytes y z p first a b is at to =
    let ts : List Token = token.Int head.number ∷ optional_marks p.marks in
    let passed : Passed a (state_name ∷ ts) b = subst (λ (t : Token). Passed a (t ∷ ts) b) (is ∙ first) to in (
      record { phrase = record { label = None; number = head.number; name = None; marks = p.marks }; within = tt; passed = passed; means = p.means },
      head_goes n head.number p.marks a b passed at,
    )

pub head_reads : (head : StateHead) (n : Next) (bytes left hand : List ℕ) (count : ℕ) (z z' : Token) (l l' : Lexer) (seen seen' : Seen) → IsPlainHead head bytes (next_word n ++ left)
    → z ≡ state_name → z' ≡ next_token n → l.held ≡ None → l'.held ≡ None → bytes ≡ take (length bytes) hand → count ≡ length bytes - length left
    → Tells seen seen' (λ x y. x ≡ take count hand ++ y) → l'.offset + length (next_word n) ≡ l'.since → MovesLexer Elsewhere l l' seen seen' → l'.spent ≡ false
    → ReadsTo (States ∷ []) (Edges ∷ States ∷ []) (IsHead head) (reader_state l z seen) (reader_state l' z' seen')
head_reads head n bytes left hand count z z' l l' seen seen' p first at none none' front is passes last moves unspent =
    reads_next (token.Int head.number ∷ optional_marks p.marks) (States ∷ []) (Edges ∷ States ∷ []) (IsHead head)
    n bytes left hand count z z' l l' seen seen' (head_said head n bytes (next_word n ++ left) z p first) p.spelled at none none' front is passes last moves unspent

pub head_length : (head : StateHead) (n : Next) (bytes left : List ℕ) → IsPlainHead head bytes (next_word n ++ left) → length (next_word n) + length left ≤ length bytes
head_length head n bytes left p = next_length (token.Int head.number ∷ optional_marks p.marks) n bytes left p.spelled
