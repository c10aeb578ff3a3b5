-- There is a run over the files of operands.
use Rattle.std.proofs.Common.{◌≡◌, ◌⊎◌, ℕ, zero, suc, ◌+◌, ◌<◌, ◌≤◌, List, [], ◌∷◌, length, Option, Some, None, refl, inl, inr, arith}
use Rattle.std.proofs.lemmas.List.Sums.{sum_by-cons}
use Rattle.aut_base.specs.declared.limit.Limit.TheVariants as limit
use Rattle.aut_base.specs.declared.limit.TheConstants.{MOST_BYTES}
use Rattle.aut_io.specs.Outside.{Texts, text_of}
use Rattle.autfilt_run.specs.declared.ended.End.TheVariants as end
use Rattle.autfilt_laws.proofs.alike.OperandEnds.{IsThrough}
use Rattle.autfilt_laws.proofs.existence.Found.{AreShown, Found, OneAborted, OneGood, OneRefused, OnlyBlanks, something_found}
use Rattle.autfilt_laws.proofs.existence.Shorter.{aborted_less}
use Rattle.autfilt_laws.proofs.existence.Stopping.{is_counted, stops_operand, stops_where}
use Rattle.autfilt_laws.specs.Runs.{IsByText, size_of}
use Rattle.autfilt_run.proofs.turns.Points.{read_on, taken_at}
use Rattle.autfilt_run.specs.Events.{Point, Stream, opened_at, bytes_before}
use Rattle.autfilt_run.specs.OperandEvents.{AreRead, FileOpened, OperandEvent, PassedOver, Proceeds, Taken}
use Rattle.autfilt_run.specs.Runs.{AtNamed, IsCounted, StopsAtOperand, StopsInOperands}
use Rattle.autfilt_run.specs.declared.fault.RunFault.{RunFault}
use Rattle.autfilt_run.specs.declared.fault.RunFault.TheVariants as fault
use Rattle.hoa_parser.specs.Standing.{SomeStanding}

abbrev pub NotNone : Type 0 → Type 0
NotNone X = (X → ⊥) → ⊥

-- a fault ends the run here
pub record IsStoppedThere (p : Point) : Type 0 where
  pub fault : RunFault
  pub by_text : IsByText (end.Fault fault)
  pub name : List ℕ
  pub left : Option (List ℕ)
  pub stops : StopsInOperands fault name p left
  pub counted : IsCounted fault p left

-- All operands are read from here on, with `spare` bytes left up to the limit; or a fault ends the run.
pub record ReadsThere (texts : Texts) (spare : ℕ) (p : Point) : Type 0 where
  pub taken : List OperandEvent
  pub point : Point
  pub read : AreRead texts taken p point
  pub ends : (IsThrough point × (point.before + spare < MOST_BYTES)) ⊎ IsStoppedThere point

module _ (some : SomeStanding) (shown : AreShown) (texts : Texts) (spare : ℕ) where
  behind_one : (e : OperandEvent) (p q : Point) → Proceeds texts e p q → ReadsThere texts spare q → ReadsThere texts spare p
  behind_one e p q goes r = record { taken = e ∷ r.taken; point = r.point; read = (q, goes, r.read); ends = r.ends }

  stopped : (p : Point) (s : Stream) (more : ℕ) → p.stream ≡ Some s → p.before + (length s.text + more) < MOST_BYTES
      → (f : RunFault) (left : List ℕ) → IsByText (end.Fault f) → (f ≡ fault.Limit limit.Bytes → ⊥) → StopsAtOperand f (bytes_before s.text s.rest) s.rest left → ReadsThere texts spare p
  stopped p s more is few f left by other h =
      let at : AtNamed (Unit {0}) p s.name (Some left) (StopsAtOperand f) = record { at = record { asks = tt; stream = s; is_open = is; now = left; told = refl; stands = h }; named = refl } in
      let here : IsStoppedThere p = record {
        fault = f;
        by_text = by;
        name = s.name;
        left = Some left;
        stops = stops_where (Unit {0}) StopsAtOperand f s.name p (Some left) by at;
        counted = is_counted f p s left more other is few;
      } in
      record { taken = []; point = p; read = refl; ends = inr here }

  -- in an open file
  at_rest : (p : Point) (s : Stream) (more : ℕ) → p.stream ≡ Some s → p.before + (length s.text + more) < MOST_BYTES
      → ((next : List ℕ) → length next < length s.rest → NotNone (ReadsThere texts spare (read_on p s next p.kept)))
      → ((next : List ℕ) → NotNone (ReadsThere texts spare (taken_at p s next)))
      → NotNone (ReadsThere texts spare p)
  at_rest p s more is few deeper behind none = something_found (λ which w. ⊥) (bytes_before s.text s.rest) s.rest some shown go
    where
      go : Found (λ which w. ⊥) (bytes_before s.text s.rest) s.rest → ⊥
      go (OnlyBlanks h) = none (stopped p s more is few fault.Truncated [] tt (λ e. cc) (inr (h, refl)))
      go (OneGood w next h) =
          behind next (λ r. none (behind_one (Taken w) p (taken_at p s next) (record { stream = s; is_open = is; next = next; good = h; few = omega (arith, few); to = refl }) r))
      go (OneAborted next h) =
          deeper next (aborted_less (bytes_before s.text s.rest) s.rest next h)
          (λ r. none (behind_one (PassedOver s.name) p (read_on p s next p.kept)
          (record { reads = record { stream = s; is_open = is; next = next; stands = h; few = omega (arith, few); to = refl }; named = refl }) r))
      go (OneRefused h) = none (stopped p s more is few h.fault h.left h.by_text h.other (stops_operand h.fault (bytes_before s.text s.rest) s.rest h.left h.stops))

  -- what the names after the file lead to
  abbrev Behind : List (List ℕ) → ℕ → Type 0
  Behind names more = (q : Point) → q.coming ≡ names → q.stream ≡ None → q.before + more < MOST_BYTES → NotNone (ReadsThere texts spare q)

  in_file : (n : ℕ) (p : Point) (s : Stream) (more : ℕ) → p.stream ≡ Some s → length s.rest ≤ n → p.before + (length s.text + more) < MOST_BYTES → Behind p.coming more
      → NotNone (ReadsThere texts spare p)
  in_file zero p s more is small few behind =
      at_rest p s more is few (λ next l. absurd (omega (arith, l, small))) (λ next. behind (taken_at p s next) refl refl (omega (arith, few)))
  in_file (suc n) p s more is small few behind =
      at_rest p s more is few
      (λ next l. in_file n (read_on p s next p.kept) (record { name = s.name; text = s.text; rest = next }) more refl (omega (arith, l, small)) few behind)
      (λ next. behind (taken_at p s next) refl refl (omega (arith, few)))

  pub in_files : (names : List (List ℕ)) (p : Point) → p.coming ≡ names → p.stream ≡ None → p.before + (size_of texts names + spare) < MOST_BYTES → NotNone (ReadsThere texts spare p)
  in_files [] p is closed few none = none (record { taken = []; point = p; read = refl; ends = inl (record { closed = closed; none = is }, omega (arith, few)) })
  in_files (name ∷ names) p is closed few none =
      let text = text_of texts name in
      let more = size_of texts names + spare in
      let size : size_of texts (name ∷ names) ≡ length text + size_of texts names = sum_by-cons (λ (x : List ℕ). length (text_of texts x)) name names in
      let q = opened_at p names name text in
      in_file (length text) q (record { name = name; text = text; rest = text }) more refl (omega arith) (omega (arith, few, size)) (λ r coming none_open l. in_files names r coming none_open l)
      (λ r. none (behind_one (FileOpened name) p q (record { closed = closed; others = names; next = is; to = refl }) r))
