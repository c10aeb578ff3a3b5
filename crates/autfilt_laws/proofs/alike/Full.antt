-- Where the limit of bytes is reached and another byte is needed, no event happens and a run ends with no other fault.
use Rattle.std.proofs.Common.{◌≡◌, ◌∙◌, ℕ, ◌+◌, ◌<◌, ◌≤◌, List, [], ◌∷◌, ◌++◌, length, Option, Some, None, ap, arith, inl, inr, length-append, refl, subst, sym}
use Rattle.aut_base.specs.declared.limit.Limit.{Limit}
use Rattle.aut_base.specs.declared.limit.Limit.TheVariants as limit
use Rattle.aut_base.specs.declared.limit.TheConstants.{MOST_BYTES}
use Rattle.aut_io.specs.Outside.{Texts, text_of}
use Rattle.autfilt_run.specs.declared.ended.End.TheVariants as end
use Rattle.autfilt_laws.proofs.alike.Asking.{deep_fewer, none_asks_behind, none_asks_behind_abort, none_asks_behind_deep, split_longer}
use Rattle.autfilt_laws.proofs.alike.BadPlaces.{asked_leaves, no_earlier}
use Rattle.autfilt_laws.proofs.alike.Looks.{one_stream}
use Rattle.autfilt_laws.proofs.existence.Shorter.{aborted_less, whole_less}
use Rattle.autfilt_laws.specs.Runs.{IsByText}
use Rattle.autfilt_run.proofs.turns.Points.{read_on}
use Rattle.autfilt_run.specs.Events.{Dropped, Ended, Event, EventLeads, Happen, Kept, Opened, Point, Skipped, Stream, bytes_before, start_of}
use Rattle.autfilt_run.specs.OperandEvents.{AreRead, FileOpened, OperandEvent, PassedOver, Proceeds, Taken}
use Rattle.autfilt_run.specs.Runs.{AtStream, IsCounted, StopsReading, StopsAtLimit, StopsAtOperand, taken_in, taken_until}
use Rattle.autfilt_run.specs.declared.fault.RunFault.{RunFault}
use Rattle.autfilt_run.specs.declared.fault.RunFault.TheVariants as fault
use Rattle.filter_plan.specs.declared.plan.Plan.{Plan}
use Rattle.hoa_parser.specs.Raw.{Written}
use Rattle.hoa_parser.specs.Reads.{AsksOn, EndsDeep, IsHopeless}
use Rattle.hoa_parser.specs.Standing.{IsAborted, IsWhole}

-- the limit of bytes is reached, and another byte is needed
pub record IsFull (p : Point) : Type 0 where
  pub stream : Stream
  pub is_open : p.stream ≡ Some stream
  pub new : List ℕ
  pub asks : AsksOn (bytes_before stream.text stream.rest) stream.rest new
  pub full : p.before + bytes_before stream.text new ≡ MOST_BYTES

-- ---- what is left of the open file is no longer than the file

abbrev pub IsFitted : Point → Type 0
IsFitted p = (s : Stream) → p.stream ≡ Some s → length s.rest ≤ length s.text

pub fitted_start : (names : List (List ℕ)) (left : Option (List ℕ)) (before : ℕ) → IsFitted (start_of names left before)
fitted_start names left before s is = absurd (let some : None ≡ Some s = is in cc)

fitted_with : (q : Point) (z : Stream) → q.stream ≡ Some z → length z.rest ≤ length z.text → IsFitted q
fitted_with q z is less s other = subst (λ (x : Stream). length x.rest ≤ length x.text) (one_stream q.stream z s is other) less

fitted_closed : (q : Point) → q.stream ≡ None → IsFitted q
fitted_closed q closed s is = absurd (let some : None ≡ Some s = sym closed ∙ is in cc)

-- where more was read of the open file
fitted_on : (p q : Point) (s : Stream) (next : List ℕ) (kept : ℕ) → IsFitted p → p.stream ≡ Some s → length next < length s.rest → q ≡ read_on p s next kept → IsFitted q
fitted_on p q s next kept f is less to =
    let fits : length next ≤ length s.text = omega (arith, less, f s is) in
    fitted_with q (record { name = s.name; text = s.text; rest = next }) (ap (λ (x : Point). x.stream) to) fits

pub fitted_goes : (texts : Texts) (e : Event) (p q : Point) → IsFitted p → EventLeads texts e p q → IsFitted q
fitted_goes texts (Opened name) p q f g =
    let text = text_of texts name in
    let fits : length text ≤ length text = omega arith in
    fitted_with q (record { name = name; text = text; rest = text }) (ap (λ (x : Point). x.stream) g.to) fits
fitted_goes texts (Kept w text) p q f g = fitted_on p q g.stream g.next (p.kept + 1) f g.is_open (whole_less (bytes_before g.stream.text g.stream.rest) g.stream.rest w g.next g.stands.whole) g.to
fitted_goes texts (Dropped w) p q f g = fitted_on p q g.stream g.next p.kept f g.is_open (whole_less (bytes_before g.stream.text g.stream.rest) g.stream.rest w g.next g.stands.whole) g.to
fitted_goes texts (Skipped name) p q f g =
    let r = g.reads in
    fitted_on p q r.stream r.next p.kept f r.is_open (aborted_less (bytes_before r.stream.text r.stream.rest) r.stream.rest r.next r.stands) r.to
fitted_goes texts Ended p q f g = fitted_closed q (ap (λ (x : Point). x.stream) g.to)

pub fitted_proceeds : (texts : Texts) (e : OperandEvent) (p q : Point) → IsFitted p → Proceeds texts e p q → IsFitted q
fitted_proceeds texts (FileOpened name) p q f g = fitted_goes texts (Opened name) p q f g
fitted_proceeds texts (Taken w) p q f g = fitted_closed q (ap (λ (x : Point). x.stream) g.to)
fitted_proceeds texts (PassedOver name) p q f g = fitted_goes texts (Skipped name) p q f g

pub fitted_happen : (plan : Plan) (texts : Texts) (events : List Event) (p q : Point) → IsFitted p → Happen plan texts events p q → IsFitted q
fitted_happen plan texts [] p q f h = subst IsFitted h f
fitted_happen plan texts (e ∷ events) p q f h = fitted_happen plan texts events h.1 q (fitted_goes texts e p h.1 f h.2) h.3

pub fitted_read : (texts : Texts) (events : List OperandEvent) (p q : Point) → IsFitted p → AreRead texts events p q → IsFitted q
fitted_read texts [] p q f h = subst IsFitted h f
fitted_read texts (e ∷ events) p q f h = fitted_read texts events h.0 q (fitted_proceeds texts e p h.0 f h.1) h.2

-- ---- what is next there

asked_fewer : (start : ℕ) (text new : List ℕ) → AsksOn start text new → length new ≤ length text
asked_fewer start text new a = let l = asked_leaves start text new a in omega (arith, simp length-append at (ap length l.split))

hopeless_fewer : (k start : ℕ) (text left : List ℕ) → IsHopeless k start text left → length left ≤ length text
hopeless_fewer k start text left h = omega (arith, simp length-append at (ap length h.split))

module _ (p : Point) (fitted : IsFitted p) (h : IsFull p) where
  abbrev from : ℕ
  from = bytes_before h.stream.text h.stream.rest

  -- a reader within the limit of bytes hasn't taken more
  no_further : (now : List ℕ) → length now ≤ length h.stream.rest → p.before + bytes_before h.stream.text now ≤ MOST_BYTES → length h.new ≤ length now
  no_further now less few = omega (arith, few, h.full, less, fitted h.stream h.is_open, asked_fewer from h.stream.rest h.new h.asks)

  no_whole : (w : Written) (next : List ℕ) → IsWhole from h.stream.rest w next → p.before + bytes_before h.stream.text next ≤ MOST_BYTES → ⊥
  no_whole w next whole few =
      none_asks_behind from h.stream.rest w next h.new whole h.asks (no_further next (omega (arith, whole_less from h.stream.rest w next whole)) few)

  no_abort : (next : List ℕ) → IsAborted from h.stream.rest next → p.before + bytes_before h.stream.text next ≤ MOST_BYTES → ⊥
  no_abort next aborted few =
      none_asks_behind_abort from h.stream.rest next h.new aborted h.asks (no_further next (omega (arith, aborted_less from h.stream.rest next aborted)) few)

  no_bad : (k : ℕ) (left : List ℕ) → IsHopeless k from h.stream.rest left → p.before + bytes_before h.stream.text left ≤ MOST_BYTES → ⊥
  no_bad k left bad few =
      let asked = asked_leaves from h.stream.rest h.new h.asks in
      let parts = split_longer bad.used left asked.before h.new (sym bad.split ∙ asked.split) (no_further left (hopeless_fewer k from h.stream.rest left bad) few) in
      let all : h.stream.rest ≡ bad.used ++ (parts.mid ++ h.new) = bad.split ∙ ap (λ (w : List ℕ). bad.used ++ w) parts.behind in
      no_earlier k from bad.used parts.mid h.new bad.bad (subst (λ (w : List ℕ). AsksOn from w h.new) all h.asks)

  no_deep : (left : List ℕ) → EndsDeep from h.stream.rest left → p.before + bytes_before h.stream.text left ≤ MOST_BYTES → ⊥
  no_deep left deep few = none_asks_behind_deep from h.stream.rest left h.new deep h.asks (no_further left (deep_fewer from h.stream.rest left deep) few)

  no_end : p.before + length h.stream.text < MOST_BYTES → ⊥
  no_end few = omega (arith, few, h.full)

-- in the open file, whatever its name
module _ (p : Point) (fitted : IsFitted p) (h : IsFull p) (s : Stream) (is_open : p.stream ≡ Some s) where
  same : s ≡ h.stream
  same = one_stream p.stream s h.stream is_open h.is_open

  few_there : (now : List ℕ) → p.before + bytes_before s.text now ≤ MOST_BYTES → p.before + bytes_before h.stream.text now ≤ MOST_BYTES
  few_there now few = subst (λ (z : Stream). p.before + bytes_before z.text now ≤ MOST_BYTES) same few

  pub not_whole : (w : Written) (next : List ℕ) → IsWhole (bytes_before s.text s.rest) s.rest w next → p.before + bytes_before s.text next ≤ MOST_BYTES → ⊥
  not_whole w next whole few = no_whole p fitted h w next (subst (λ (z : Stream). IsWhole (bytes_before z.text z.rest) z.rest w next) same whole) (few_there next few)

  pub not_aborted : (next : List ℕ) → IsAborted (bytes_before s.text s.rest) s.rest next → p.before + bytes_before s.text next ≤ MOST_BYTES → ⊥
  not_aborted next aborted few = no_abort p fitted h next (subst (λ (z : Stream). IsAborted (bytes_before z.text z.rest) z.rest next) same aborted) (few_there next few)

  pub not_bad : (k : ℕ) (left : List ℕ) → IsHopeless k (bytes_before s.text s.rest) s.rest left → p.before + bytes_before s.text left ≤ MOST_BYTES → ⊥
  not_bad k left bad few = no_bad p fitted h k left (subst (λ (z : Stream). IsHopeless k (bytes_before z.text z.rest) z.rest left) same bad) (few_there left few)

  pub not_deep : (left : List ℕ) → EndsDeep (bytes_before s.text s.rest) s.rest left → p.before + bytes_before s.text left ≤ MOST_BYTES → ⊥
  not_deep left deep few = no_deep p fitted h left (subst (λ (z : Stream). EndsDeep (bytes_before z.text z.rest) z.rest left) same deep) (few_there left few)

  pub not_ended : p.before + length s.text < MOST_BYTES → ⊥
  not_ended few = no_end p fitted h (subst (λ (z : Stream). p.before + length z.text < MOST_BYTES) same few)

-- ---- no event happens there

pub full_goes : (texts : Texts) (e : Event) (p q : Point) → IsFitted p → IsFull p → EventLeads texts e p q → ⊥
full_goes texts (Opened name) p q f h g = let some : None ≡ Some h.stream = sym g.closed ∙ h.is_open in cc
full_goes texts (Kept w text) p q f h g = not_whole p f h g.stream g.is_open w g.next g.stands.whole g.few
full_goes texts (Dropped w) p q f h g = not_whole p f h g.stream g.is_open w g.next g.stands.whole g.few
full_goes texts (Skipped name) p q f h g = not_aborted p f h g.reads.stream g.reads.is_open g.reads.next g.reads.stands g.reads.few
full_goes texts Ended p q f h g = not_ended p f h g.stream g.is_open g.few

pub full_proceeds : (texts : Texts) (e : OperandEvent) (p q : Point) → IsFitted p → IsFull p → Proceeds texts e p q → ⊥
full_proceeds texts (FileOpened name) p q f h g = full_goes texts (Opened name) p q f h g
full_proceeds texts (Taken w) p q f h g = not_whole p f h g.stream g.is_open w g.next g.good.whole g.few
full_proceeds texts (PassedOver name) p q f h g = full_goes texts (Skipped name) p q f h g

-- ---- a run ends with no other fault there

-- the number of bytes that were taken of the open file
taken_there : (p : Point) (s : Stream) (left : Option (List ℕ)) (now : List ℕ) → p.stream ≡ Some s → left ≡ Some now → taken_until p left ≡ p.before + bytes_before s.text now
taken_there p s left now is told = ap (λ (o : Option Stream). p.before + taken_in o left) is ∙ ap (λ (o : Option (List ℕ)). p.before + taken_in (Some s) o) told

module _ (on : Type 0) (over : Limit → Written → Type 0) (p : Point) (left : Option (List ℕ)) (fitted : IsFitted p) where
  few_taken : (stops : ℕ → List ℕ → List ℕ → Type 0) (f : RunFault) → IsCounted f p left → (a : AtStream on p left stops) → p.before + bytes_before a.stream.text a.now ≤ MOST_BYTES
  few_taken stops f c a = subst (λ (n : ℕ). n ≤ MOST_BYTES) (taken_there p a.stream left a.now a.is_open a.told) c.few

  -- of a text that is read to its end
  all_taken : (stops : ℕ → List ℕ → List ℕ → Type 0) → IsCounted fault.Truncated p left → (a : AtStream on p left stops) → a.now ≡ [] → p.before + length a.stream.text < MOST_BYTES
  all_taken stops c a none =
      let taken : taken_until p left ≡ p.before + bytes_before a.stream.text [] = taken_there p a.stream left a.now a.is_open a.told
      ∙ ap (λ (x : List ℕ). p.before + bytes_before a.stream.text x) none in
      let less : p.before + bytes_before a.stream.text [] < MOST_BYTES = subst (λ (n : ℕ). n < MOST_BYTES) taken (c.below (inl refl)) in
      omega (arith, less)

  limit_apart : (which : Limit) → AtStream on p left (StopsReading over (fault.Limit which)) → IsCounted (fault.Limit which) p left → (which ≡ limit.Bytes → ⊥) → IsFull p → ⊥
  limit_apart which a c other h = by_cases a.stands
    where
      by_cases : StopsAtLimit which over (bytes_before a.stream.text a.stream.rest) a.stream.rest a.now → ⊥
      by_cases (inl s) = not_deep p fitted h a.stream a.is_open a.now s.1.ends (few_taken _ _ c a)
      by_cases (inr (inl s)) = other s.0
      by_cases (inr (inr s)) = not_whole p fitted h a.stream a.is_open s.automaton a.now s.whole (few_taken _ _ c a)

  pub full_apart : (f : RunFault) → IsByText (end.Fault f) → AtStream on p left (StopsReading over f) → IsCounted f p left → (f ≡ fault.Limit limit.Bytes → ⊥) → IsFull p → ⊥
  full_apart (fault.SyntaxAt k) by_cases a c other h = not_bad p fitted h a.stream a.is_open k a.now a.stands.shown (few_taken _ _ c a)
  full_apart fault.Truncated by_cases a c other h = not_ended p fitted h a.stream a.is_open (all_taken _ c a a.stands.nothing)
  full_apart (fault.Invalid rule) by_cases a c other h = not_whole p fitted h a.stream a.is_open a.stands.automaton a.now a.stands.whole (few_taken _ _ c a)
  full_apart (fault.Limit which) by_cases a c other h = limit_apart which a c (λ e. other (ap fault.Limit e)) h
  full_apart fault.CannotOpen by_cases a c other h = absurd by_cases
  full_apart fault.ReadFault by_cases a c other h = absurd by_cases
  full_apart fault.WriteFault by_cases a c other h = absurd by_cases
  full_apart fault.Memory by_cases a c other h = absurd by_cases

-- nor where an operand is read

none_now : (start : ℕ) (rest now : List ℕ) → StopsAtOperand fault.Truncated start rest now → now ≡ []
none_now start rest now (inl h) = h.nothing
none_now start rest now (inr h) = h.1

pub full_apart_there : (on : Type 0) (p : Point) (left : Option (List ℕ)) → IsFitted p → (f : RunFault) → IsByText (end.Fault f) → AtStream on p left (StopsAtOperand f) → IsCounted f p left
    → (f ≡ fault.Limit limit.Bytes → ⊥) → IsFull p → ⊥
full_apart_there on p left fitted fault.Truncated by_cases a c other h =
    not_ended p fitted h a.stream a.is_open (all_taken on (λ which w. ⊥) p left fitted _ c a (none_now (bytes_before a.stream.text a.stream.rest) a.stream.rest a.now a.stands))
full_apart_there on p left fitted (fault.SyntaxAt k) by_cases a c other h = full_apart on (λ which w. ⊥) p left fitted (fault.SyntaxAt k) by_cases a c other h
full_apart_there on p left fitted (fault.Invalid rule) by_cases a c other h = full_apart on (λ which w. ⊥) p left fitted (fault.Invalid rule) by_cases a c other h
full_apart_there on p left fitted (fault.Limit which) by_cases a c other h = full_apart on (λ which w. ⊥) p left fitted (fault.Limit which) by_cases a c other h
full_apart_there on p left fitted fault.CannotOpen by_cases a c other h = absurd by_cases
full_apart_there on p left fitted fault.ReadFault by_cases a c other h = absurd by_cases
full_apart_there on p left fitted fault.WriteFault by_cases a c other h = absurd by_cases
full_apart_there on p left fitted fault.Memory by_cases a c other h = absurd by_cases

-- ---- two runs that end at the limit of bytes

-- two readers that need more of one text and took as many bytes have the same left
asked_same : (start : ℕ) (text x y : List ℕ) → AsksOn start text x → AsksOn start text y → length x ≡ length y → x ≡ y
asked_same start text x y a b size =
    let l = asked_leaves start text x a in
    let m = asked_leaves start text y b in
    let parts = split_longer l.before x m.before y (sym l.split ∙ m.split) (omega (arith, size)) in
    go parts.mid parts.behind
  where
    go : (mid : List ℕ) → x ≡ mid ++ y → x ≡ y
    go [] e = e
    go (c ∷ mid) e = absurd (omega (arith, size, simp length-append at (ap length e)))

-- the same where all bytes were taken that the limit allows
pub full_same : (p : Point) (s : Stream) (l k : Option (List ℕ)) (x y : List ℕ) → IsFitted p → p.stream ≡ Some s → l ≡ Some x → k ≡ Some y → AsksOn (bytes_before s.text s.rest) s.rest x
    → AsksOn (bytes_before s.text s.rest) s.rest y → IsCounted (fault.Limit limit.Bytes) p l → IsCounted (fault.Limit limit.Bytes) p k → x ≡ y
full_same p s l k x y fitted is left left' a b c d =
    let first : p.before + bytes_before s.text x ≡ MOST_BYTES = sym (taken_there p s l x is left) ∙ c.reached refl in
    let second : p.before + bytes_before s.text y ≡ MOST_BYTES = sym (taken_there p s k y is left') ∙ d.reached refl in
    asked_same (bytes_before s.text s.rest) s.rest x y a b
    (omega (arith, first, second, asked_fewer (bytes_before s.text s.rest) s.rest x a, asked_fewer (bytes_before s.text s.rest) s.rest y b, fitted s is))

pub one_full : (on : Type 0) (stops : ℕ → List ℕ → List ℕ → Type 0) (p : Point) (left : Option (List ℕ)) → ((start : ℕ) (rest now : List ℕ) → stops start rest now → AsksOn start rest now)
    → AtStream on p left stops → IsCounted (fault.Limit limit.Bytes) p left → IsFull p
one_full on stops p left asking a c = record {
  stream = a.stream;
  is_open = a.is_open;
  new = a.now;
  asks = asking (bytes_before a.stream.text a.stream.rest) a.stream.rest a.now a.stands;
  full = sym (taken_there p a.stream left a.now a.is_open a.told) ∙ c.reached refl;
}
