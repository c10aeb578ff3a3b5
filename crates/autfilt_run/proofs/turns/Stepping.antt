-- What a session does with the open file and with the next one, as events of a run.
use Rattle.std.proofs.Common.{◌≡◌, ℕ, zero, suc, ◌+◌, ◌≤◌, true, false, List, [], ◌∷◌, length, drop, slice_get, Option, Some, None, Ok, refl, sym, ap, ◌∙◌, subst, arith}
use Rattle.std.proofs.lemmas.Bool.{false≢true}
use Rattle.aut_base.specs.declared.limit.TheConstants.{MOST_BYTES}
use Rattle.aut_io.specs.Outside.{Opened, Texts, text_of}
use Rattle.aut_io.specs.Seen.{Opens, Seen}
use Rattle.autfilt_run.proofs.turns.Points.{at_stream_end, read_on, taken_at}
use Rattle.autfilt_run.specs.Events.{EndsStream, IsGood, OpensStream, Point, ReadsOn, Stream, opened_at, bytes_before}
use Rattle.autfilt_run.specs.OperandEvents.{TakesOperand}
use Rattle.autfilt_run.specs.Plans.{files_of, tried_name}
use Rattle.autfilt_run.specs.Points.{IsAt, IsInStream, name_in}
use Rattle.autfilt_run.specs.Runs.{AtNamed, AtStream, taken_in, taken_until}
use Rattle.autfilt_run.specs.Turns.{BeginsText, IsAllRead}
use Rattle.autfilt_run.specs.declared.session.Session.{Session}
use Rattle.filter_plan.specs.declared.plan.Plan.{Plan}
use Rattle.hoa_lexer.specs.Moves.{AtEnd, MovesLexer, Stop}
use Rattle.hoa_lexer.specs.Reading.{Between}
use Rattle.hoa_parser.specs.Raw.{Written}

-- `P` of what the inputs have left, which is known where it was known before
record IsTold (P : List ℕ → Type 0) (left : Option (List ℕ)) : Type 0 where
  now : List ℕ
  told : left ≡ Some now
  holds : P now

told_of : (rest : List ℕ) (left : Option (List ℕ)) (R : List ℕ → List ℕ → Type 0) → Between (Some rest) left R → IsTold (R rest) left
told_of rest None R h = absurd h
told_of rest (Some now) R h = record { now = now; told = refl; holds = h }

told : (before left : Option (List ℕ)) (rest : List ℕ) (R : List ℕ → List ℕ → Type 0) → before ≡ Some rest → Between before left R → IsTold (R rest) left
told before left rest R is h = told_of rest left R (subst (λ (x : Option (List ℕ)). Between x left R) is h)

-- the open file
pub record IsOpen (s : Session) (left : Option (List ℕ)) (p : Point) : Type 0 where
  pub stream : Stream
  pub is : p.stream ≡ Some stream
  pub told : left ≡ Some stream.rest
  pub named : name_in s ≡ stream.name
  pub since : s.lexer.since + length stream.rest ≡ length stream.text
  pub taken : s.lexer.taken ≡ p.before + s.lexer.since

open_as : (s : Session) (left : Option (List ℕ)) (p : Point) (o : Option Stream) → p.stream ≡ o → IsInStream o s left p.before → s.is_open ≡ true → IsOpen s left p
open_as s left p None is h opened_so = absurd (false≢true (sym h.0 ∙ opened_so))
open_as s left p (Some t) is h opened_so = record { stream = t; is = is; told = h.1; named = h.2; since = h.3; taken = h.4 }

pub is_open : (s : Session) (left : Option (List ℕ)) (p : Point) → IsAt s left p → s.is_open ≡ true → IsOpen s left p
is_open s left p h opened_so = open_as s left p p.stream refl h.stream opened_so

pub record IsClosed (s : Session) (p : Point) : Type 0 where
  pub is : p.stream ≡ None
  pub taken : s.lexer.taken ≡ p.before

closed_as : (s : Session) (left : Option (List ℕ)) (p : Point) (o : Option Stream) → p.stream ≡ o → IsInStream o s left p.before → s.is_open ≡ false → IsClosed s p
closed_as s left p None is h closed = record { is = is; taken = h.1 }
closed_as s left p (Some t) is h closed = absurd (false≢true (sym closed ∙ h.0))

pub is_closed : (s : Session) (left : Option (List ℕ)) (p : Point) → IsAt s left p → s.is_open ≡ false → IsClosed s p
is_closed s left p h closed = closed_as s left p p.stream refl h.stream closed

place_is : (n : ℕ) (text rest : List ℕ) → n + length rest ≡ length text → n ≡ bytes_before text rest
place_is n text rest h = omega arith

-- ---- the open file is read further

-- what a session doesn't change while it reads
pub record KeepsOn (old new : Session) : Type 0 where
  pub plan : new.plan ≡ old.plan
  pub tried : new.tried ≡ old.tried
  pub few : new.lexer.taken ≤ MOST_BYTES

-- The session goes to a point before these names.
pub record GoesTo (P : Point → Type 0) (coming : List (List ℕ)) (new : Session) (left : Option (List ℕ)) : Type 0 where
  pub point : Point
  pub goes : P point
  pub at : IsAt new left point
  pub comes : point.coming ≡ coming

pub name_as : (old new : Session) → new.plan ≡ old.plan → new.tried ≡ old.tried → name_in new ≡ name_in old
name_as old new plan tried = ap (λ (p : Plan). tried_name (files_of p) new.tried) plan ∙ ap (tried_name (files_of old.plan)) tried

since_after : (since since' taken taken' rest next text : ℕ) → since + rest ≡ text → taken' + next ≡ taken + rest → since' + taken ≡ since + taken' → since' + next ≡ text
since_after since since' taken taken' rest next text a b c = omega (arith, a, b, c)

taken_after : (since since' taken taken' before : ℕ) → taken ≡ before + since → since' + taken ≡ since + taken' → taken' ≡ before + since'
taken_after since since' taken taken' before a b = omega (arith, a, b)

-- what was read of the open file, and how many bytes were taken
record ReadTo (R : ℕ → List ℕ → List ℕ → Type 0) (new : Session) (left : Option (List ℕ)) (p : Point) (stream : Stream) : Type 0 where
  next : List ℕ
  told : left ≡ Some next
  stands : R (bytes_before stream.text stream.rest) stream.rest next
  few : p.before + bytes_before stream.text next ≤ MOST_BYTES
  since : new.lexer.since + length next ≡ length stream.text
  taken : new.lexer.taken ≡ p.before + new.lexer.since

read_to : (R : ℕ → List ℕ → List ℕ → Type 0) (old new : Session) (s t : Seen) (p : Point) (stop : Stop) → (at : IsOpen old s.left p) → Between s.left t.left (R old.lexer.since)
    → MovesLexer stop old.lexer new.lexer s t
    → new.lexer.taken ≤ MOST_BYTES → ReadTo R new t.left p at.stream
read_to R old new s t p stop at read moves few =
    let stream = at.stream in
    let x = told s.left t.left stream.rest (R old.lexer.since) at.told read in
    let n = told s.left t.left stream.rest (λ a b. new.lexer.taken + length b ≡ old.lexer.taken + length a) at.told moves.taken in
    let same : Some n.now ≡ Some x.now = sym n.told ∙ x.told in
    let same_now : n.now ≡ x.now = cc in
    let counted : new.lexer.taken + length x.now ≡ old.lexer.taken + length stream.rest = ap (λ (l : List ℕ). new.lexer.taken + length l) (sym same_now) ∙ n.holds in
    let since = since_after old.lexer.since new.lexer.since old.lexer.taken new.lexer.taken (length stream.rest) (length x.now) (length stream.text) at.since counted moves.since in
    let taken = taken_after old.lexer.since new.lexer.since old.lexer.taken new.lexer.taken p.before at.taken moves.since in
    record {
      next = x.now;
      told = x.told;
      stands = subst (λ (k : ℕ). R k stream.rest x.now) (place_is old.lexer.since stream.text stream.rest at.since) x.holds;
      few = omega (arith, place_is new.lexer.since stream.text x.now since, taken, few);
      since = since;
      taken = taken;
    }

pub reads_on : (R : ℕ → List ℕ → List ℕ → Type 0) (old new : Session) (s t : Seen) (p : Point) (stop : Stop) → IsAt old s.left p → old.is_open ≡ true → new.is_open ≡ true
    → Between s.left t.left (R old.lexer.since) → MovesLexer stop old.lexer new.lexer s t → KeepsOn old new → GoesTo (λ q. ReadsOn p R new.kept q) p.coming new t.left
reads_on R old new s t p stop stands opened_so opened_now read moves keeps =
    let at = is_open old s.left p stands opened_so in
    let to = read_to R old new s t p stop at read moves keeps.few in
    record {
      point = read_on p at.stream to.next new.kept;
      goes = record { stream = at.stream; is_open = at.is; next = to.next; stands = to.stands; few = to.few; to = refl };
      at = record { kept = refl; left_is = sym to.told; stream = (opened_now, to.told, name_as old new keeps.plan keeps.tried ∙ at.named, to.since, to.taken) };
      comes = refl;
    }

-- an automaton is taken as an operand, and the rest of the file is left unread
pub takes_operand : (w : Written) (old new : Session) (s t : Seen) (p : Point) (stop : Stop) → IsAt old s.left p → old.is_open ≡ true → new.is_open ≡ false → new.kept ≡ old.kept
    → Between s.left t.left (λ rest next. IsGood old.lexer.since rest w next) → MovesLexer stop old.lexer new.lexer s t → KeepsOn old new → GoesTo (λ q. TakesOperand w p q) p.coming new t.left
takes_operand w old new s t p stop stands opened_so closed kept read moves keeps =
    let at = is_open old s.left p stands opened_so in
    let to = read_to (λ start rest next. IsGood start rest w next) old new s t p stop at read moves keeps.few in
    record {
      point = taken_at p at.stream to.next;
      goes = record { stream = at.stream; is_open = at.is; next = to.next; good = to.stands; few = to.few; to = refl };
      at = record { kept = stands.kept ∙ sym kept; left_is = sym to.told; stream = (closed, to.taken ∙ ap (λ (n : ℕ). p.before + n) (place_is new.lexer.since at.stream.text to.next to.since)) };
      comes = refl;
    }

-- the number of bytes that were taken
pub stream_counted : (old new : Session) (s t : Seen) (p : Point) (stop : Stop) → IsAt old s.left p → old.is_open ≡ true → MovesLexer stop old.lexer new.lexer s t
    → taken_until p t.left ≡ new.lexer.taken
stream_counted old new s t p stop stands opened_so moves =
    let at = is_open old s.left p stands opened_so in
    let stream = at.stream in
    let n = told s.left t.left stream.rest (λ a b. new.lexer.taken + length b ≡ old.lexer.taken + length a) at.told moves.taken in
    let since = since_after old.lexer.since new.lexer.since old.lexer.taken new.lexer.taken (length stream.rest) (length n.now) (length stream.text) at.since n.holds moves.since in
    let taken = taken_after old.lexer.since new.lexer.since old.lexer.taken new.lexer.taken p.before at.taken moves.since in
    let here : taken_until p t.left ≡ p.before + bytes_before stream.text n.now = ap (λ o. p.before + taken_in o t.left) at.is ∙ ap (λ l. p.before + taken_in (Some stream) l) n.told in
    omega (arith, here, place_is new.lexer.since stream.text n.now since, taken)

-- what is next in the open file ends the run
pub stops_at : (on : Type 0) (R : ℕ → List ℕ → List ℕ → Type 0) (old : Session) (s t : Seen) (p : Point) → IsAt old s.left p → old.is_open ≡ true → on
    → Between s.left t.left (R old.lexer.since) → AtStream on p t.left R
stops_at on R old s t p stands opened_so asks read =
    let at = is_open old s.left p stands opened_so in
    let x = told s.left t.left at.stream.rest (R old.lexer.since) at.told read in
    record {
      asks = asks;
      stream = at.stream;
      is_open = at.is;
      now = x.now;
      told = x.told;
      stands = subst (λ (k : ℕ). R k at.stream.rest x.now) (place_is old.lexer.since at.stream.text at.stream.rest at.since) x.holds;
    }

pub one_name : (o : Option Stream) (a b : Stream) → o ≡ Some a → o ≡ Some b → a.name ≡ b.name
one_name o a b e f = let same : Some a ≡ Some b = sym e ∙ f in let one : a ≡ b = cc in ap (λ (x : Stream). x.name) one

-- the same with the name of the file
pub stops_named : (on : Type 0) (R : ℕ → List ℕ → List ℕ → Type 0) (old : Session) (s t : Seen) (p : Point) (name : List ℕ) → name ≡ name_in old → IsAt old s.left p → old.is_open ≡ true → on
    → Between s.left t.left (R old.lexer.since) → AtNamed on p name t.left R
stops_named on R old s t p name is stands opened_so asks read =
    let at = stops_at on R old s t p stands opened_so asks read in
    let there = is_open old s.left p stands opened_so in
    record { at = at; named = one_name p.stream at.stream there.stream at.is_open there.is ∙ sym there.named ∙ sym is }

-- ---- the end of the file

pub ends_stream : (old new : Session) (s t : Seen) (p : Point) → IsAt old s.left p → old.is_open ≡ true → new.is_open ≡ false → new.kept ≡ old.kept
    → Between s.left t.left IsAllRead → MovesLexer AtEnd old.lexer new.lexer s t → new.lexer.most ≡ MOST_BYTES → KeepsOn old new → GoesTo (λ q. EndsStream p q) p.coming new t.left
ends_stream old new s t p stands opened_so closed kept read moves most keeps =
    let at = is_open old s.left p stands opened_so in
    let stream = at.stream in
    let x = told s.left t.left stream.rest IsAllRead at.told read in
    let n = told s.left t.left stream.rest (λ a b. new.lexer.taken + length b ≡ old.lexer.taken + length a) at.told moves.taken in
    let same : Some n.now ≡ Some x.now = sym n.told ∙ x.told in
    let same_now : n.now ≡ x.now = cc in
    let counted : new.lexer.taken + length x.now ≡ old.lexer.taken + length stream.rest = ap (λ (l : List ℕ). new.lexer.taken + length l) (sym same_now) ∙ n.holds in
    let since = since_after old.lexer.since new.lexer.since old.lexer.taken new.lexer.taken (length stream.rest) (length x.now) (length stream.text) at.since counted moves.since in
    let taken = taken_after old.lexer.since new.lexer.since old.lexer.taken new.lexer.taken p.before at.taken moves.since in
    let none : length x.now ≡ 0 = ap length x.holds.1 in
    record {
      point = at_stream_end p stream;
      goes = record { stream = stream; is_open = at.is; blank = x.holds.0; few = omega (arith, since, taken, none, moves.within, most); to = refl };
      at = record { kept = stands.kept ∙ sym kept; left_is = ap Some (sym x.holds.1) ∙ sym x.told; stream = (closed, omega (arith, since, taken, none)) };
      comes = refl;
    }

-- ---- the next file is opened

pub rest_from : (names : List (List ℕ)) (k : ℕ) (name : List ℕ) → slice_get names k ≡ Some name → drop k names ≡ name ∷ drop (suc k) names
rest_from [] k name h = let none : None ≡ Some name = h in cc
rest_from (x ∷ xs) zero name h = let same : Some x ≡ Some name = h in let first : x ≡ name = cc in ap (λ y. y ∷ xs) first
rest_from (x ∷ xs) (suc k) name h = rest_from xs k name h

pub opens_stream : (texts : Texts) (old new : Session) (s t : Seen) (p : Point) (name : List ℕ) (others : List (List ℕ)) → s.texts ≡ Some texts → IsAt old s.left p → old.is_open ≡ false
    → p.coming ≡ name ∷ others
    → Opens s name (Ok tt) t → BeginsText old new → name_in new ≡ name → new.is_open ≡ true → new.kept ≡ old.kept → GoesTo (λ q. OpensStream texts name p q) others new t.left
opens_stream texts old new s t p name others told_texts stands closed next opens begins named opened_so kept =
    let at = is_closed old s.left p stands closed in
    let left : t.left ≡ Some (text_of texts name) = subst (λ (x : Option Texts). Opened x name t.left) told_texts opens.opened in
    let start : new.lexer.since ≡ 0 = begins.since in
    record {
      point = opened_at p others name (text_of texts name);
      goes = record { closed = at.is; others = others; next = next; to = refl };
      at = record { kept = stands.kept ∙ sym kept; left_is = sym left; stream = (opened_so, left, named, omega (arith, start), omega (arith, start, begins.taken, at.taken)) };
      comes = refl;
    }

-- the bytes that were taken of the files before, where none is open
pub closed_counted : (old : Session) (left left' : Option (List ℕ)) (p : Point) → IsAt old left p → old.is_open ≡ false → taken_until p left' ≡ old.lexer.taken
closed_counted old left left' p stands closed =
    let c = is_closed old left p stands closed in
    let none : taken_until p left' ≡ p.before = ap (λ o. p.before + taken_in o left') c.is ∙ omega arith in
    none ∙ sym c.taken
