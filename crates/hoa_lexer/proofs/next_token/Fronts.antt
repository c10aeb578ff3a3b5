-- The first bytes after blanks: what they can be where a token, a comment or a fault is next.
use Rattle.std.proofs.Common.{◌≡◌, ◌≢◌, ℕ, zero, suc, ◌+◌, ◌&&◌, ◌==◌, true, false, List, [], ◌∷◌, ◌++◌, length, Option, Some, None, Result, Ok, Err}
use Rattle.std.proofs.Common.{inl, inr, refl, sym, subst, ◌∙◌, ap, arith, ⊎_elim}
use Rattle.std.proofs.lemmas.Bool.{false≢true, and_right, cases_Bool}
use Rattle.std.proofs.lemmas.List.{append_assoc, append-nil, length-append}
use Rattle.aut_base.proofs.lists.Lists.{cons-head}
use Rattle.hoa_lexer.specs.Blanks.{ClosesComments, IsBlanks, IsOpenComment}
use Rattle.hoa_lexer.specs.Blanks.IsBlanks.{nothing, space, comment}
use Rattle.hoa_lexer.specs.Bytes.{is_space}
use Rattle.hoa_lexer.specs.Reading.{unread, held_count, AnswersToken, BeginsNoToken, BeginsToken, PlacesOffset}
use Rattle.hoa_lexer.specs.inner.Steps.{closing, ClosesComment, IsReadFault, IsSolid, PassesBlanks, SkipsComment, SkipsBlanks, Pauses, ReadsToken, TriesByte, UsesBlanks}
use Rattle.hoa_lexer.specs.Text.{IsFront, HasFront, IsNext, AfterBlanks, IsOpenString, IsOpenToken, IsNoToken, AsksForMore, AskedForOne, AsksPast, IsShownBy}
use Rattle.hoa_lexer.proofs.spelling.Comments.{closing_after, closing_sound, unheld, holding, steps_out, steps_in, steps_on}
use Rattle.hoa_lexer.proofs.spelling.FirstBytes.{front_head, no_front, no_space, no_slash, solid}
use Rattle.hoa_lexer.specs.declared.token.LexFault.{LexFault}
use Rattle.hoa_lexer.specs.declared.token.LexFault.TheVariants.{BadToken, OpenComment, OpenString, OpenToken, Read, Bytes, Memory}
use Rattle.hoa_lexer.specs.declared.token.Token.{Token}
use Rattle.hoa_lexer.specs.declared.token.Token.TheVariants.{Bang}

-- a token's first byte is no blank

front_space : (b : ℕ) (bs : List ℕ) → is_space b ≡ true → HasFront (b ∷ bs) → ⊥
front_space b bs h f = no_space f.token b (front_head b bs f.token f.rest f.front).kinds h

front_slash : (bs : List ℕ) → HasFront (47 ∷ bs) → ⊥
front_slash bs f = no_slash f.token (front_head 47 bs f.token f.rest f.front).kinds

along : (a b : List ℕ) → a ≡ b → HasFront a → HasFront b
along a b e f = subst HasFront e f

pub front_spaces : (b : ℕ) (bs bytes : List ℕ) → is_space b ≡ true → bytes ≡ b ∷ bs → HasFront bytes → ⊥
front_spaces b bs bytes h e f = front_space b bs h (along _ _ e f)

pub front_slashes : (bs bytes : List ℕ) → bytes ≡ 47 ∷ bs → HasFront bytes → ⊥
front_slashes bs bytes e f = front_slash bs (along _ _ e f)

pub space_no_slash : (b : ℕ) → is_space b ≡ true → b ≡ 47 → ⊥
space_no_slash b h e = false≢true (ap is_space (sym e) ∙ h)

-- after no blanks
pub at_once : (y : List ℕ) (P : List ℕ → Type 0) → P y → AfterBlanks y P
at_once y P h = record { before = []; bytes = y; split = refl; blanks = nothing; holds = h }

pub skips_none : (x : List ℕ) → PassesBlanks x x
skips_none x = record { before = []; split = refl; blanks = nothing }

-- two comments that begin at the same byte end at the same byte
pub same_close : (body body' bs bs' xs xs' : List ℕ) → ClosesComments 1 body → ClosesComments 1 body' → (body ++ bs) ++ xs ≡ (body' ++ bs') ++ xs' → bs ++ xs ≡ bs' ++ xs'
same_close body body' bs bs' xs xs' h k e =
    let here = closing_after 1 body (bs ++ xs) h in
    let there = closing_after 1 body' (bs' ++ xs') k in
    let whole : body ++ (bs ++ xs) ≡ body' ++ (bs' ++ xs') = sym (append_assoc body bs xs) ∙ e ∙ append_assoc body' bs' xs' in
    let same : Some (bs ++ xs) ≡ Some (bs' ++ xs') = sym here ∙ ap (closing 1) whole ∙ there in
    cc

-- the bytes begin with no blank
pub record NoBlank (bytes : List ℕ) : Type 0 where
  pub no_space : (b : ℕ) (rest : List ℕ) → bytes ≡ b ∷ rest → is_space b ≡ true → ⊥
  pub no_comment : (body rest : List ℕ) → bytes ≡ 47 ∷ 42 ∷ (body ++ rest) → ClosesComments 1 body → ⊥

front_no_blank : (bytes : List ℕ) → HasFront bytes → NoBlank bytes
front_no_blank bytes f = record {
  no_space = λ b rest e h. front_spaces b rest bytes h e f;
  no_comment = λ body rest e k. front_slashes (42 ∷ (body ++ rest)) bytes e f;
}

-- Blanks that are followed by no blank contain all other blanks that the text begins with.
skips_rest : (before before' x y : List ℕ) → IsBlanks before → IsBlanks before' → before ++ x ≡ before' ++ y → NoBlank y → PassesBlanks x y
skips_rest before before' x y nothing k e n = record { before = before'; split = e; blanks = k }
skips_rest (b ∷ bs) before' x y (space h r) nothing e n = absurd (n.no_space b (bs ++ x) (sym e) h)
skips_rest (b ∷ bs) (c ∷ cs) x y (space h r) (space k s) e n = skips_rest bs cs x y r s (let whole : b ∷ (bs ++ x) ≡ c ∷ (cs ++ y) = e in cc) n
skips_rest (b ∷ bs) before' x y (space h r) (comment body cs k s t) e n =
    absurd (space_no_slash b h (let whole : b ∷ (bs ++ x) ≡ 47 ∷ 42 ∷ ((body ++ cs) ++ y) = e ∙ ap (λ z. z ++ y) t in cc))
skips_rest before before' x y (comment body bs h r t) nothing e n =
    absurd (n.no_comment body (bs ++ x) (sym e ∙ ap (λ z. z ++ x) t ∙ ap (λ z. 47 ∷ 42 ∷ z) (append_assoc body bs x)) h)
skips_rest before (c ∷ cs) x y (comment body bs h r t) (space k s) e n =
    absurd (space_no_slash c k (let whole : 47 ∷ 42 ∷ ((body ++ bs) ++ x) ≡ c ∷ (cs ++ y) = sym (ap (λ z. z ++ x) t) ∙ e in cc))
skips_rest before before' x y (comment body bs h r t) (comment body' bs' k s u) e n =
    skips_rest bs bs' x y r s
    (same_close body body' bs bs' x y h k
    (let whole : 47 ∷ 42 ∷ ((body ++ bs) ++ x) ≡ 47 ∷ 42 ∷ ((body' ++ bs') ++ y) = sym (ap (λ z. z ++ x) t) ∙ e ∙ ap (λ z. z ++ y) u in cc)) n

pub front_after : (before before' x y : List ℕ) → IsBlanks before → IsBlanks before' → before ++ x ≡ before' ++ y → HasFront y → AfterBlanks x HasFront
front_after before before' x y h k e f =
    let s = skips_rest before before' x y h k e (front_no_blank y f) in
    record { before = s.before; bytes = y; split = s.split; blanks = s.blanks; holds = f }

nothing_before : (x y before : List ℕ) → NoBlank x → x ≡ before ++ y → IsBlanks before → x ≡ y
nothing_before x y before n e nothing = e
nothing_before x y (b ∷ bs) n e (space h r) = absurd (n.no_space b (bs ++ y) e h)
nothing_before x y before n e (comment body bs h r t) = absurd (n.no_comment body (bs ++ y) (e ∙ ap (λ z. z ++ y) t ∙ ap (λ z. 47 ∷ 42 ∷ z) (append_assoc body bs y)) h)

-- the blanks at the beginning of a text end at one offset
pub one_place : (before before' x y : List ℕ) → IsBlanks before → IsBlanks before' → before ++ x ≡ before' ++ y → NoBlank x → NoBlank y → x ≡ y
one_place before before' x y h k e m n =
    let s = skips_rest before before' x y h k e n in
    nothing_before x y s.before m s.split s.blanks

-- so the next token begins at one offset
pub same_place : (before before' x y : List ℕ) → IsBlanks before → IsBlanks before' → before ++ x ≡ before' ++ y → HasFront x → HasFront y → x ≡ y
same_place before before' x y h k e f g = one_place before before' x y h k e (front_no_blank x f) (front_no_blank y g)

pub blanks_append : (a b : List ℕ) → IsBlanks a → IsBlanks b → IsBlanks (a ++ b)
blanks_append a b nothing k = k
blanks_append (c ∷ cs) b (space h r) k = space h (blanks_append cs b r k)
blanks_append a b (comment body bs h r t) k =
    comment body (bs ++ b) h (blanks_append bs b r k)
    (ap (λ z. z ++ b) t ∙ ap (λ z. 47 ∷ 42 ∷ z) (append_assoc body bs b))

pub skips_then : (x y z : List ℕ) → PassesBlanks x y → PassesBlanks y z → PassesBlanks x z
skips_then x y z s r = record {
  before = s.before ++ r.before;
  split = s.split ∙ ap (λ w. s.before ++ w) r.split ∙ sym (append_assoc s.before r.before z);
  blanks = blanks_append s.before r.before s.blanks r.blanks;
}

pub skip_space : (b : ℕ) (x y z : List ℕ) → is_space b ≡ true → y ≡ b ∷ z → PassesBlanks x y → PassesBlanks x z
skip_space b x y z h e s = skips_then x y z s (record { before = b ∷ []; split = e; blanks = space h nothing })

bang : HasFront (33 ∷ [])
bang = record { token = Bang; rest = []; front = record { word = 33 ∷ []; split = refl; spells = refl; ends = tt } }

-- open comments can be closed

abbrev closers : ℕ → List ℕ
closers zero = 33 ∷ []
closers (suc d) = 42 ∷ 47 ∷ closers d

closing_closers : (d : ℕ) → closing d (closers d) ≡ Some (33 ∷ [])
closing_closers zero = refl
closing_closers (suc d) = closing_closers d

record Reopens (d : ℕ) (bytes : List ℕ) : Type 0 where
  more : List ℕ
  closed : closing d (bytes ++ more) ≡ Some (33 ∷ [])

reopen_two : (d b c : ℕ) (bs : List ℕ)
    → (closing d bs ≡ None → Reopens d bs)
    → (closing (suc (suc d)) bs ≡ None → Reopens (suc (suc d)) bs)
    → (closing (suc d) (c ∷ bs) ≡ None → Reopens (suc d) (c ∷ bs))
    → closing (suc d) (b ∷ c ∷ bs) ≡ None → Reopens (suc d) (b ∷ c ∷ bs)
reopen_two d b c bs out into on e = elim (cases_Bool ((b == 42) && (c == 47))) [
  | inl h ↦ (let r = out (sym (steps_out d b c bs h) ∙ e) in record { more = r.more; closed = steps_out d b c (bs ++ r.more) h ∙ r.closed })
  | inr h ↦ elim (cases_Bool ((b == 47) && (c == 42))) [
    | inl k ↦ (let r = into (sym (steps_in d b c bs h k) ∙ e) in record { more = r.more; closed = steps_in d b c (bs ++ r.more) h k ∙ r.closed })
    | inr k ↦ (let r = on (sym (steps_on d b c bs h k) ∙ e) in record { more = r.more; closed = steps_on d b c (bs ++ r.more) h k ∙ r.closed })
  ]
]

reopen : (d : ℕ) (bytes : List ℕ) → closing d bytes ≡ None → Reopens d bytes
reopen zero bytes e = absurd (cc)
reopen (suc d) [] e = record { more = closers (suc d); closed = closing_closers (suc d) }
reopen (suc d) (b ∷ []) e = record {
  more = 10 ∷ closers (suc d);
  closed = steps_on d b 10 (closers (suc d)) (and_right _ _ refl) (and_right _ _ refl) ∙ closing_closers d;
}
reopen (suc d) (b ∷ c ∷ bs) e =
    reopen_two d b c bs (reopen d bs) (reopen (suc (suc d)) bs) (reopen (suc d) (c ∷ bs)) e

-- a comment that is open
open_front : (x before bytes : List ℕ) → ((rest : List ℕ) → x ≡ 42 ∷ rest → closing 1 rest ≡ None) → 47 ∷ x ≡ before ++ bytes → IsBlanks before → HasFront bytes → ⊥
open_front x before bytes h e nothing f = front_slashes x bytes (sym e) f
open_front x (b ∷ bs) bytes h e (space k r) f = space_no_slash b k (let whole : 47 ∷ x ≡ b ∷ (bs ++ bytes) = e in cc)
open_front x before bytes h e (comment body bs k r t) f =
    let whole : 47 ∷ x ≡ 47 ∷ 42 ∷ ((body ++ bs) ++ bytes) = e ∙ ap (λ z. z ++ bytes) t in
    let inside : x ≡ 42 ∷ ((body ++ bs) ++ bytes) = cc in
    let left_open : closing 1 ((body ++ bs) ++ bytes) ≡ None = h _ inside in
    let done : closing 1 ((body ++ bs) ++ bytes) ≡ Some (bs ++ bytes) = ap (closing 1) (append_assoc body bs bytes) ∙ closing_after 1 body (bs ++ bytes) k in
    cc

pub asks_comment : (seen : List ℕ) → closing 1 seen ≡ None → AsksForMore (47 ∷ 42 ∷ seen)
asks_comment seen e =
    let r = reopen 1 seen e in
    let w = closing_sound 1 (seen ++ r.more) (33 ∷ []) r.closed in
    record {
      unclosed = λ a. open_front (42 ∷ seen) a.before a.bytes (λ rest k. let same : seen ≡ rest = cc in sym (ap (closing 1) same) ∙ e) a.split a.blanks a.holds;
      more = r.more;
      closes = record {
        before = 47 ∷ 42 ∷ w.body;
        bytes = 33 ∷ [];
        split = ap (λ z. 47 ∷ 42 ∷ z) w.split;
        blanks = comment w.body [] w.closes nothing (ap (λ z. 47 ∷ 42 ∷ z) (sym (append-nil w.body)));
        holds = bang;
      };
    }

pub asks_slash : AsksForMore (47 ∷ [])
asks_slash = record {
  unclosed = λ a. open_front [] a.before a.bytes (λ rest k. absurd (cc)) a.split a.blanks a.holds;
  more = 42 ∷ 42 ∷ 47 ∷ 33 ∷ [];
  closes = record {
    before = 47 ∷ 42 ∷ 42 ∷ 47 ∷ [];
    bytes = 33 ∷ [];
    split = refl;
    blanks = comment (42 ∷ 47 ∷ []) [] tt nothing refl;
    holds = bang;
  };
}

no_after_nil : (before bytes : List ℕ) → [] ≡ before ++ bytes → HasFront bytes → ⊥
no_after_nil [] bytes e f = no_front (along _ _ (sym e) f)
no_after_nil (b ∷ bs) bytes e f = cc

pub asks_blanks : (before : List ℕ) → IsBlanks before → AsksForMore before
asks_blanks before h = record {
  unclosed = λ a.
      let w = front_after before a.before [] a.bytes h a.blanks (append-nil before ∙ a.split) a.holds in
      no_after_nil w.before w.bytes w.split w.holds;
  more = 33 ∷ [];
  closes = record { before = before; bytes = 33 ∷ []; split = refl; blanks = h; holds = bang };
}

-- the first two bytes of a comment, or what is there instead of the second

pub skip_closed : (result : Result (Unit {0}) LexFault) (start : ℕ) (x y z : List ℕ) → x ≡ 42 ∷ y → ClosesComment result y z → SkipsComment result start (47 ∷ x) z
skip_closed (Ok done) start x y z e h =
    let w = closing_sound 1 y z h in
    let split = w.split in
    record {
      before = 47 ∷ 42 ∷ w.body;
      split = ap (λ v. 47 ∷ v) e ∙ ap (λ v. 47 ∷ 42 ∷ v) split;
      blanks = comment w.body [] w.closes nothing (ap (λ v. 47 ∷ 42 ∷ v) (sym (append-nil w.body)));
    }
skip_closed (Err OpenComment) start x y z e h = (
  at_once (47 ∷ x) _ (record {
    rest = y;
    opens = ap (λ v. 47 ∷ v) e;
    open_still = λ body more k w. let done : closing 1 y ≡ Some more = ap (closing 1) k ∙ closing_after 1 body more w in let none = h.0 in cc;
  }),
  h.1,
)
skip_closed (Err Bytes) start x y z e h =
    record { at_hand = 47 ∷ 42 ∷ h.0; split = ap (λ v. 47 ∷ v) e ∙ ap (λ v. 47 ∷ 42 ∷ v) h.1; asks = asks_comment h.0 h.2 }
skip_closed (Err Read) start x y z e h =
    record { at_hand = 47 ∷ 42 ∷ h.0; split = ap (λ v. 47 ∷ v) e ∙ ap (λ v. 47 ∷ 42 ∷ v) h.1; asks = asks_comment h.0 h.2 }
skip_closed (Err (BadToken n)) start x y z e h = absurd h
skip_closed (Err OpenString) start x y z e h = absurd h
skip_closed (Err OpenToken) start x y z e h = absurd h
skip_closed (Err Memory) start x y z e h = absurd h

slash_no_comment : (k start b : ℕ) (x y : List ℕ) → k ≡ start → (b ≡ 42 → ⊥) → x ≡ b ∷ y → AfterBlanks (47 ∷ x) (λ bytes. (k + length bytes ≡ start + length (47 ∷ x)) × IsNoToken bytes)
slash_no_comment k start b x y s n e = at_once (47 ∷ x) _ (
  ap (λ v. v + length (47 ∷ x)) s,
  record {
    some = λ w. cc;
    no_space = solid 47 x refl;
    no_comment = λ rest w. n (let same : b ∷ y ≡ 42 ∷ rest = cc in cc);
    no_slash = λ w. let same : b ∷ y ≡ [] = cc in cc;
    no_token = λ w. front_slash (x ++ w.more) w.front;
  },
)

pub skip_bad : (k start b : ℕ) (x y : List ℕ) → k ≡ start → (b ≡ 42 → ⊥) → x ≡ b ∷ y → SkipsComment (Err (BadToken k)) start (47 ∷ x) y
skip_bad k start b x y s n e = (
  slash_no_comment k start b x y s n e,
  record { at_hand = 47 ∷ []; byte = b; split = ap (λ w. 47 ∷ w) e; asks = asks_slash },
  record { used = 47 ∷ b ∷ []; split = ap (λ w. 47 ∷ w) e; shows = slash_no_comment k start b (b ∷ []) [] s n refl },
)

pub skip_end : (h : Option ℕ) (start : ℕ) (x z : List ℕ) → h ≡ None → x ≡ [] → z ≡ [] → SkipsComment (Err OpenToken) start (47 ∷ x) (unread h z)
skip_end h start x z n e k = (
  at_once (47 ∷ x) _ (record {
    some = λ w. cc;
    no_string = λ rest w. cc;
    unclosed = front_slash x;
    begins = inl (ap (λ v. 47 ∷ v) e);
  }),
  unheld h z n ∙ k,
)

pub skip_err : (fault : LexFault) (h : Option ℕ) (start : ℕ) (x z : List ℕ) → IsReadFault fault → h ≡ None → x ≡ z → SkipsComment (Err fault) start (47 ∷ x) (unread h z)
skip_err Read h start x z r k e = record { at_hand = 47 ∷ []; split = ap (λ v. 47 ∷ v) (e ∙ sym (unheld h z k)); asks = asks_slash }
skip_err Bytes h start x z r k e = record { at_hand = 47 ∷ []; split = ap (λ v. 47 ∷ v) (e ∙ sym (unheld h z k)); asks = asks_slash }
skip_err (BadToken n) h start x z r k e = absurd r
skip_err OpenComment h start x z r k e = absurd r
skip_err OpenString h start x z r k e = absurd r
skip_err OpenToken h start x z r k e = absurd r
skip_err Memory h start x z r k e = absurd r

pub length_unread : (h : Option ℕ) (y : List ℕ) → length (unread h y) ≡ held_count h + length y
length_unread None y = omega arith
length_unread (Some b) y = omega arith

-- faults after blanks

after_skips : (x y : List ℕ) (P Q : List ℕ → Type 0) → ((bytes : List ℕ) → P bytes → Q bytes) → PassesBlanks x y → AfterBlanks y P → AfterBlanks x Q
after_skips x y P Q f s a = record {
  before = s.before ++ a.before;
  bytes = a.bytes;
  split = s.split ∙ ap (λ w. s.before ++ w) a.split ∙ sym (append_assoc s.before a.before a.bytes);
  blanks = blanks_append s.before a.before s.blanks a.blanks;
  holds = f a.bytes a.holds;
}

pub asks_after : (before at_hand : List ℕ) → IsBlanks before → AsksForMore at_hand → AsksForMore (before ++ at_hand)
asks_after before at_hand h a = record {
  unclosed = λ w. a.unclosed (front_after before w.before at_hand w.bytes h w.blanks w.split w.holds);
  more = a.more;
  closes = after_skips ((before ++ at_hand) ++ a.more) (at_hand ++ a.more) HasFront HasFront (λ bytes f. f)
      (record { before = before; split = append_assoc before at_hand a.more; blanks = h }) a.closes;
}

shown_after : (k start start' : ℕ) (x y z : List ℕ) → PassesBlanks x y → start + length x ≡ start' + length y → IsShownBy k start' y z → IsShownBy k start x z
shown_after k start start' x y z s e a =
    let whole = ap length s.split ∙ length-append s.before y in
    record {
      used = s.before ++ a.used;
      split = s.split ∙ ap (λ w. s.before ++ w) a.split ∙ sym (append_assoc s.before a.used z);
      shows = after_skips (s.before ++ a.used) a.used (λ bytes. (k + length bytes ≡ start' + length a.used) × IsNoToken bytes)
          (λ bytes. (k + length bytes ≡ start + length (s.before ++ a.used)) × IsNoToken bytes)
          (λ bytes h. (omega (arith, h.0, e, whole, length-append s.before a.used), h.1))
          (record { before = s.before; split = refl; blanks = s.blanks }) a.shows;
    }

asks_behind : (x y z : List ℕ) → PassesBlanks x y → AsksPast y z → AsksPast x z
asks_behind x y z s a = record {
  at_hand = s.before ++ a.at_hand;
  split = s.split ∙ ap (λ w. s.before ++ w) a.split ∙ sym (append_assoc s.before a.at_hand z);
  asks = asks_after s.before a.at_hand s.blanks a.asks;
}

pub fails_after : (fault : LexFault) (start start' offset offset' : ℕ) (x y z : List ℕ) → PassesBlanks x y → start + length x ≡ start' + length y → AnswersToken (Err fault) start' offset' y z
    → AnswersToken (Err fault) start offset x z
fails_after (BadToken k) start start' offset offset' x y z s e a = (
  after_skips x y (λ bytes. (k + length bytes ≡ start' + length y) × IsNoToken bytes) (λ bytes. (k + length bytes ≡ start + length x) × IsNoToken bytes)
      (λ bytes h. (h.0 ∙ sym e, h.1)) s a.0,
  record {
    at_hand = s.before ++ a.1.at_hand;
    byte = a.1.byte;
    split = s.split ∙ ap (λ w. s.before ++ w) a.1.split ∙ sym (append_assoc s.before a.1.at_hand (a.1.byte ∷ z));
    asks = asks_after s.before a.1.at_hand s.blanks a.1.asks;
  },
  shown_after k start start' x y z s e a.2,
)
fails_after OpenComment start start' offset offset' x y z s e a = (after_skips x y IsOpenComment IsOpenComment (λ bytes h. h) s a.0, a.1)
fails_after OpenString start start' offset offset' x y z s e a = (after_skips x y IsOpenString IsOpenString (λ bytes h. h) s a.0, a.1)
fails_after OpenToken start start' offset offset' x y z s e a = (after_skips x y IsOpenToken IsOpenToken (λ bytes h. h) s a.0, a.1)
fails_after Bytes start start' offset offset' x y z s e a =
    asks_behind x y z s a
fails_after Read start start' offset offset' x y z s e a =
    asks_behind x y z s a
fails_after Memory start start' offset offset' x y z s e a =
    asks_behind x y z s a

pub blanks_err : (fault : LexFault) (h : Option ℕ) (start : ℕ) (x y z : List ℕ) → IsReadFault fault → h ≡ None → PassesBlanks x y → y ≡ z → AnswersToken (Err fault) start 0 x (unread h z)
blanks_err Read h start x y z r k s e = record { at_hand = s.before; split = s.split ∙ ap (λ w. s.before ++ w) (e ∙ sym (unheld h z k)); asks = asks_blanks s.before s.blanks }
blanks_err Bytes h start x y z r k s e = record { at_hand = s.before; split = s.split ∙ ap (λ w. s.before ++ w) (e ∙ sym (unheld h z k)); asks = asks_blanks s.before s.blanks }
blanks_err (BadToken n) h start x y z r k s e = absurd r
blanks_err OpenComment h start x y z r k s e = absurd r
blanks_err OpenString h start x y z r k s e = absurd r
blanks_err OpenToken h start x y z r k s e = absurd r
blanks_err Memory h start x y z r k s e = absurd r

pub blanks_to : (b : ℕ) (x y z : List ℕ) → PassesBlanks x y → y ≡ b ∷ z → PassesBlanks x (b ∷ z)
blanks_to b x y z s e = record { before = s.before; split = s.split ∙ ap (λ w. s.before ++ w) e; blanks = s.blanks }

pub skips_byte : (o h : Option ℕ) (b start : ℕ) (x y : List ℕ) → o ≡ Some b → h ≡ Some b → SkipsBlanks (Ok o) start x (unread h y) → PassesBlanks x (b ∷ y)
skips_byte None h b start x y e k s = cc
skips_byte (Some c) h b start x y e k s = record { before = s.before; split = s.split ∙ ap (λ w. s.before ++ w) (holding h b y k); blanks = s.blanks }

pub solid_space : (o : Option ℕ) (b : ℕ) → o ≡ Some b → IsSolid (Ok o) → is_space b ≡ false
solid_space None b e s = cc
solid_space (Some c) b e s = (let same : b ≡ c = cc in ap is_space same ∙ s.0)

pub solid_slash : (o : Option ℕ) (b : ℕ) → o ≡ Some b → IsSolid (Ok o) → b ≢ 47
solid_slash None b e s = λ k. absurd (let other : None ≡ Some b = e in cc)
solid_slash (Some c) b e s = (let same : b ≡ c = cc in λ k. s.1 (sym same ∙ k))

-- a token after blanks

pub front_of : (input : List ℕ) (start : ℕ) (token : Token) (offset : ℕ) (rest : List ℕ) → IsNext input start token offset rest → AfterBlanks input HasFront
front_of input start token offset rest n = record { before = n.before; bytes = n.bytes; split = n.split; blanks = n.blanks; holds = record { token = token; rest = rest; front = n.front } }

-- where a token can begin with the bytes, no blank does
solid_after : (at_hand before bytes more : List ℕ) → at_hand ≢ [] → HasFront (at_hand ++ more) → at_hand ≡ before ++ bytes → IsBlanks before → HasFront bytes → HasFront at_hand
solid_after at_hand before bytes more n f e nothing w = along _ _ (sym e) w
solid_after at_hand (b ∷ bs) bytes more n f e (space k r) w = absurd (front_spaces b ((bs ++ bytes) ++ more) (at_hand ++ more) k (ap (λ v. v ++ more) e) f)
solid_after at_hand before bytes more n f e (comment body bs k r t) w =
    absurd (front_slashes (42 ∷ (((body ++ bs) ++ bytes) ++ more)) (at_hand ++ more) (ap (λ v. v ++ more) (e ∙ ap (λ v. v ++ bytes) t)) f)

pauses_ask : (y z : List ℕ) (p : Pauses y z) → AsksForMore p.at_hand
pauses_ask y z p = record {
  unclosed = λ a. p.unclosed (solid_after p.at_hand a.before a.bytes p.begins.more p.some p.begins.front a.split a.blanks a.holds);
  more = p.begins.more;
  closes = record { before = []; bytes = p.at_hand ++ p.begins.more; split = refl; blanks = nothing; holds = p.begins.front };
}

asked_for_one : (y z : List ℕ) → TriesByte y z → AskedForOne y z
asked_for_one y z t = ⊎_elim
    (λ first. record { at_hand = []; byte = t.byte; split = first; asks = asks_blanks [] nothing })
    (λ p. record { at_hand = p.at_hand; byte = t.byte; split = p.split; asks = pauses_ask y (t.byte ∷ z) p })
    t.past

-- the answer of the lexer where the token's own function answered a fault, and no blank came before
token_err_here : (fault : LexFault) (offset : ℕ) (y z : List ℕ) → ReadsToken (Err fault) offset y z → AnswersToken (Err fault) offset offset y z
token_err_here (BadToken k) offset y z h = (
  at_once y (λ bytes. (k + length bytes ≡ offset + length y) × IsNoToken bytes) (ap (λ n. n + length y) h.0, h.1),
  asked_for_one y z h.2,
  record {
    used = h.3.used;
    split = h.3.split;
    shows = at_once h.3.used (λ bytes. (k + length bytes ≡ offset + length h.3.used) × IsNoToken bytes) (ap (λ n. n + length h.3.used) h.0, h.3.none);
  },
)
token_err_here OpenComment offset y z h = absurd h
token_err_here OpenString offset y z h = (at_once y IsOpenString h.0, h.1)
token_err_here OpenToken offset y z h = (at_once y IsOpenToken h.0, h.1)
token_err_here Bytes offset y z h = record { at_hand = h.at_hand; split = h.split; asks = pauses_ask y z h }
token_err_here Read offset y z h = record { at_hand = h.at_hand; split = h.split; asks = pauses_ask y z h }
token_err_here Memory offset y z h = record { at_hand = h.at_hand; split = h.split; asks = pauses_ask y z h }

pub token_err : (fault : LexFault) (start offset : ℕ) (x y z : List ℕ) → PassesBlanks x y → start + length x ≡ offset + length y → ReadsToken (Err fault) offset y z
    → AnswersToken (Err fault) start offset x z
token_err fault start offset x y z s e h = fails_after fault start offset offset offset x y z s e (token_err_here fault offset y z h)

pub token_ok : (token : Token) (start offset : ℕ) (x y z : List ℕ) → PassesBlanks x y → start + length x ≡ offset + length y → IsFront y token z → IsNext x start token offset z
token_ok token start offset x y z s e f = record {
  before = s.before;
  bytes = y;
  split = s.split;
  blanks = s.blanks;
  place = omega (arith, e, simp length-append at (ap length s.split));
  front = f;
}

pub err_offset : (fault : LexFault) (start offset offset' : ℕ) (x z : List ℕ) → AnswersToken (Err fault) start offset x z → AnswersToken (Err fault) start offset' x z
err_offset fault start offset offset' x z a = fails_after fault start start offset' offset x x z (skips_none x) refl a

-- the offset after a fault

used_of : (fault : LexFault) (start offset : ℕ) (x z : List ℕ) → AnswersToken (Err fault) start offset x z → (used : List ℕ) × (x ≡ used ++ z)
used_of (BadToken k) start offset x z a = (a.2.used, a.2.split)
used_of OpenComment start offset x z a = (x, sym (ap (λ w. x ++ w) a.1 ∙ append-nil x))
used_of OpenString start offset x z a = (x, sym (ap (λ w. x ++ w) a.1 ∙ append-nil x))
used_of OpenToken start offset x z a = (x, sym (ap (λ w. x ++ w) a.1 ∙ append-nil x))
used_of Bytes start offset x z a = (a.at_hand, a.split)
used_of Read start offset x z a = (a.at_hand, a.split)
used_of Memory start offset x z a = (a.at_hand, a.split)

begins_slash : (used x z : List ℕ) → 47 ∷ x ≡ used ++ z → BeginsNoToken used
begins_slash [] x z e = tt
begins_slash (b ∷ bs) x z e = sym (cons-head 47 b x (bs ++ z) e)

pub comment_begun : (fault : LexFault) (start : ℕ) (x y z : List ℕ) → PassesBlanks x (47 ∷ y) → SkipsComment (Err fault) start (47 ∷ y) z → UsesBlanks x z
comment_begun fault start x y z s a =
    let u = used_of fault start 0 (47 ∷ y) z a in
    record { before = s.before; bytes = u.0; split = s.split ∙ ap (λ w. s.before ++ w) u.1 ∙ sym (append_assoc s.before u.0 z); blanks = s.blanks; none = begins_slash u.0 y z u.1 }

pub blanks_begun : (h : Option ℕ) (x y z : List ℕ) → h ≡ None → PassesBlanks x y → y ≡ z → UsesBlanks x (unread h z)
blanks_begun h x y z n s e = record {
  before = s.before;
  bytes = [];
  split = s.split ∙ ap (λ w. s.before ++ w) (e ∙ sym (unheld h z n)) ∙ ap (λ w. w ++ unread h z) (sym (append-nil s.before));
  blanks = s.blanks;
  none = tt;
}

pub places_blanks : (fault : LexFault) (start offset offset' : ℕ) (x z : List ℕ) → offset' ≡ offset → UsesBlanks x z → PlacesOffset (Err fault) start offset offset' x z
places_blanks fault start offset offset' x z e u = (u.before ++ u.bytes, u.split, record { before = u.before; bytes = u.bytes; split = refl; blanks = u.blanks; place = inr (u.none, e) })

token_used : (fault : LexFault) (offset : ℕ) (y z : List ℕ) → ReadsToken (Err fault) offset y z → (used : List ℕ) × (used ≢ []) × (y ≡ used ++ z)
token_used (BadToken k) offset y z h = (h.3.used, h.3.none.some, h.3.split)
token_used OpenComment offset y z h = absurd h
token_used OpenString offset y z h = (y, λ e. (let opens = h.0.opens in cc), sym (ap (λ w. y ++ w) h.1 ∙ append-nil y))
token_used OpenToken offset y z h = (y, h.0.some, sym (ap (λ w. y ++ w) h.1 ∙ append-nil y))
token_used Bytes offset y z h = (h.at_hand, h.some, h.split)
token_used Read offset y z h = (h.at_hand, h.some, h.split)
token_used Memory offset y z h = (h.at_hand, h.some, h.split)

begins_token : (first : ℕ) (used y z : List ℕ) → is_space first ≡ false → first ≢ 47 → used ≢ [] → first ∷ y ≡ used ++ z → BeginsToken used
begins_token first [] y z s n k e = k refl
begins_token first (b ∷ bs) y z s n k e =
    let same : first ≡ b = cons-head first b y (bs ++ z) e in
    (ap is_space (sym same) ∙ s, λ w. n (same ∙ w))

pub places_token : (fault : LexFault) (first start old offset : ℕ) (x y z : List ℕ) → is_space first ≡ false → first ≢ 47 → PassesBlanks x (first ∷ y)
    → start + length x ≡ offset + length (first ∷ y) → ReadsToken (Err fault) offset (first ∷ y) z → PlacesOffset (Err fault) start old offset x z
places_token fault first start old offset x y z solid no_slash s e h =
    let u = token_used fault offset (first ∷ y) z h in (
      s.before ++ u.0,
      s.split ∙ ap (λ w. s.before ++ w) u.2 ∙ sym (append_assoc s.before u.0 z),
      record {
        before = s.before;
        bytes = u.0;
        split = refl;
        blanks = s.blanks;
        place = inl (begins_token first u.0 y z solid no_slash u.1 u.2, omega (arith, e, simp length-append at (ap length s.split)));
      },
    )
