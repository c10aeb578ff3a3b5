-- What is next in the rest of the open file, and the point that it leads to, are unique.
use Rattle.std.proofs.Common.{◌≡◌, ℕ, List, [], Option, Some, None, sym, ap, ◌∙◌, subst}
use Rattle.aut_io.specs.Outside.{Texts}
use Rattle.autfilt_run.proofs.turns.Points.{at_stream_end, read_on, taken_at}
use Rattle.autfilt_run.specs.Events.{EndsStream, IsGood, OpensStream, PassesOver, Point, ReadsOn, Stream, bytes_before}
use Rattle.autfilt_run.specs.OperandEvents.{TakesOperand}
use Rattle.hoa_parser.specs.Raw.{Written}
use Rattle.hoa_parser.specs.Standing as standing
use Rattle.hoa_parser.specs.Standing.{OneStanding, Standing, Stands}

-- something is next in the rest of the open file, and `next` follows it
pub record Look (p : Point) (what : List ℕ → Standing) (to : Stream → List ℕ → Point) (q : Point) : Type 0 where
  pub stream : Stream
  pub is_open : p.stream ≡ Some stream
  pub next : List ℕ
  pub stands : Stands (what next) (bytes_before stream.text stream.rest) stream.rest
  pub goes : q ≡ to stream next

abbrev pub look_at : (p q : Point) (w : Written) (kept : ℕ) → ReadsOn p (λ start rest next. IsGood start rest w next) kept q → Look p (λ x. standing.Whole w x) (λ s x. read_on p s x kept) q
look_at p q w kept h = record { stream = h.stream; is_open = h.is_open; next = h.next; stands = h.stands.whole; goes = h.to }

abbrev pub look_over : (p q : Point) (name : List ℕ) → PassesOver name p q → Look p (λ x. standing.Aborted x) (λ s x. read_on p s x p.kept) q
look_over p q name h = record { stream = h.reads.stream; is_open = h.reads.is_open; next = h.reads.next; stands = h.reads.stands; goes = h.reads.to }

abbrev pub look_behind : (p q : Point) → EndsStream p q → Look p (λ x. standing.Blank) (λ s x. at_stream_end p s) q
look_behind p q h = record { stream = h.stream; is_open = h.is_open; next = []; stands = h.blank; goes = h.to }

abbrev pub look_taken : (p q : Point) (w : Written) → TakesOperand w p q → Look p (λ x. standing.Whole w x) (λ s x. taken_at p s x) q
look_taken p q w h = record { stream = h.stream; is_open = h.is_open; next = h.next; stands = h.good.whole; goes = h.to }

-- ---- uniqueness

pub one_stream : (o : Option Stream) (s t : Stream) → o ≡ Some s → o ≡ Some t → s ≡ t
one_stream o s t a b = let same : Some s ≡ Some t = sym a ∙ b in cc

-- what is next in the open file is unique
pub one_standing_in : OneStanding → (o : Option Stream) (s t : Stream) (a b : Standing) → o ≡ Some s → o ≡ Some t → Stands a (bytes_before s.text s.rest) s.rest
    → Stands b (bytes_before t.text t.rest) t.rest → a ≡ b
one_standing_in one o s t a b is is' x y =
    let P : Stream → Type 0 = λ z. Stands b (bytes_before z.text z.rest) z.rest in
    one (bytes_before s.text s.rest) s.rest a b x (subst P (sym (one_stream o s t is is')) y)

pub one_look : OneStanding → (p q r : Point) (W V : List ℕ → Standing) (F G : Stream → List ℕ → Point) (a : Look p W F q) (b : Look p V G r) → W a.next ≡ V b.next
one_look one p q r W V F G a b = one_standing_in one p.stream a.stream b.stream (W a.next) (V b.next) a.is_open b.is_open a.stands b.stands

-- the point that it leads to is unique
pub one_point : (p q r : Point) (W V : List ℕ → Standing) (F : Stream → List ℕ → Point) (a : Look p W F q) (b : Look p V F r) → a.next ≡ b.next → q ≡ r
one_point p q r W V F a b same =
    let stream = one_stream p.stream a.stream b.stream a.is_open b.is_open in
    a.goes ∙ ap (λ s. F s a.next) stream ∙ ap (F b.stream) same ∙ sym b.goes

pub whole_is : (w v : Written) (x y : List ℕ) → standing.Whole w x ≡ standing.Whole v y → (w ≡ v) × (x ≡ y)
whole_is w v x y e =
    let first : w ≡ v = cc in
    let after : x ≡ y = cc in
    (first, after)

pub aborted_is : (x y : List ℕ) → standing.Aborted x ≡ standing.Aborted y → x ≡ y
aborted_is x y e = cc

-- no file is opened where one is open
pub unopened : (texts : Texts) (name : List ℕ) (p q r : Point) (W : List ℕ → Standing) (F : Stream → List ℕ → Point) → OpensStream texts name p q → Look p W F r → ⊥
unopened texts name p q r W F a b = let none : None ≡ Some b.stream = sym a.closed ∙ b.is_open in cc
