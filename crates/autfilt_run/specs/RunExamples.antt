-- Small runs: what happens over texts that are blank, what is written, how a run ends and what is answered. Values and
-- counter-values that one sees by eye.
use Rattle.std.specs.Prelude.{◌≡◌, ℕ, true, List, [], ◌∷◌, Option, None, Some, codes}
use Rattle.aut_base.specs.declared.limit.Limit.{Limit}
use Rattle.aut_base.specs.declared.limit.Limit.TheVariants as limit
use Rattle.aut_io.specs.Outside.{Texts, text_of}
use Rattle.aut_io.specs.Seen.{Seen, SinkSeen}
use Rattle.autfilt_run.specs.Ends.{ended_of}
use Rattle.autfilt_run.specs.Events.{Dropped, Ended, Event, Happen, Kept, Opened, Point, Skipped, start_of, tally}
use Rattle.autfilt_run.specs.Run.{EndsAt, EndsBecause, PrintsRun, end_of}
use Rattle.autfilt_run.specs.Runs.{IsCounted, StopsAtOperand, StopsReading}
use Rattle.autfilt_run.specs.Status.{status_of}
use Rattle.autfilt_run.specs.declared.ended.End.TheVariants as end
use Rattle.autfilt_run.specs.declared.ended.Ended.TheVariants as ended
use Rattle.autfilt_run.specs.declared.fault.RunFault.TheVariants as fault
use Rattle.filter_plan.specs.declared.plan.Plan.{Plan}
use Rattle.hoa_parser.specs.Raw.{Written}
use Rattle.plan_meaning.specs.FilterExamples.{plain}

-- two names of streams
abbrev pub x : List ℕ
x = codes "x"

abbrev pub y : List ℕ
y = codes "y"

-- the point before both are read
abbrev pub before_both : Point
before_both = start_of (x ∷ y ∷ []) None 0

-- the point behind three bytes, where nothing is left to read
abbrev pub behind_both : Point
behind_both = record { coming = []; stream = None; left = Some []; before = 3; kept = 0 }

-- in `x` stands one space, and in `y` a space and a line feed
pub record AreBlank (texts : Texts) : Type 0 where
  pub first : text_of texts x ≡ codes " "
  pub second : text_of texts y ≡ codes " \n"

-- `-n 0` and `-c`
abbrev pub asks_none : Plan
asks_none = record plain { most = Some 0 }

abbrev pub counting : Plan
counting = record plain { count = true }

-- an automaton of which this is written
abbrev pub one : Written → Event
one w = Kept w (codes "one\n")

abbrev pub two : Written → Event
two w = Kept w (codes "two\n")

-- ---- what happens

pub record WhatHappens : Type 0 where
  -- each stream is opened and read to its end, one after the other
  pub both : (texts : Texts) → AreBlank texts → Happen plain texts (Opened x ∷ Ended ∷ Opened y ∷ Ended ∷ []) before_both behind_both
  -- not the second first, nor both at once, nor an end before the beginning
  pub not_second : (texts : Texts) (events : List Event) (q : Point) → ¬ Happen plain texts (Opened y ∷ events) before_both q
  pub not_at_once : (texts : Texts) (events : List Event) (q : Point) → ¬ Happen plain texts (Opened x ∷ Opened y ∷ events) before_both q
  pub not_ended : (texts : Texts) (events : List Event) (q : Point) → ¬ Happen plain texts (Ended ∷ events) before_both q
  -- no automaton stands where nothing is open
  pub not_kept : (texts : Texts) (w : Written) (text : List ℕ) (events : List Event) (q : Point) → ¬ Happen plain texts (Kept w text ∷ events) before_both q
  -- a text is not left before its end
  pub not_left : (texts : Texts) (events : List Event) (q : Point) → text_of texts x ≡ codes "HOA" → ¬ Happen plain texts (Opened x ∷ Ended ∷ events) before_both q
  -- nothing happens where no automaton is asked for
  pub none : (texts : Texts) → Happen asks_none texts [] before_both before_both
  pub no_more : (texts : Texts) (event : Event) (events : List Event) (q : Point) → ¬ Happen asks_none texts (event ∷ events) before_both q

-- ---- why it ends

pub record WhyItEnds : Type 0 where
  -- all is read, or as many were kept as were asked for
  pub all_read : EndsAt plain [] end.NoneOutput [] behind_both (Some [])
  pub not_all_read : ¬ EndsAt plain [] end.NoneOutput [] before_both None
  pub none_asked : EndsAt asks_none [] end.NoneOutput [] before_both None
  -- the next stream can't be opened, and no other one
  pub cannot_open : EndsAt plain [] (end.Fault fault.CannotOpen) x before_both (Some [])
  pub not_other : ¬ EndsAt plain [] (end.Fault fault.CannotOpen) y before_both (Some [])
  pub not_behind : (name : List ℕ) (left : Option (List ℕ)) → ¬ EndsAt plain [] (end.Fault fault.CannotOpen) name behind_both left
  -- a read fails of a stream that is open alone
  pub not_closed : (name : List ℕ) (left : Option (List ℕ)) → ¬ EndsAt plain [] (end.Fault fault.ReadFault) name before_both left
  -- words that are no plan end no run over streams
  pub not_usage : (p : Plan) (name : List ℕ) (q : Point) (left : Option (List ℕ)) → ¬ EndsAt p [] end.Usage name q left
  -- where an operand is read, only blanks are too little
  pub no_operand : StopsAtOperand fault.Truncated 0 (codes " ") []
  -- no text stands for a file that can't be opened or a write that fails
  pub no_text : (start : ℕ) (rest left : List ℕ) → ¬ StopsReading (λ which w. ⊥) fault.CannotOpen start rest left
  pub no_write : (start : ℕ) (rest left : List ℕ) → ¬ StopsReading (λ which w. ⊥) fault.WriteFault start rest left
  -- the limit of bytes is told after that many, and others before
  pub not_early : ¬ IsCounted (fault.Limit limit.Bytes) before_both None
  pub early : IsCounted (fault.Limit limit.Pairs) before_both None

-- ---- what is written

pub record WhatIsWritten : Type 0 where
  -- the texts of those that were kept, in order, behind what was written before
  pub in_order : (v w : Written) → PrintsRun plain end.Output (Opened x ∷ one v ∷ Dropped w ∷ two w ∷ Ended ∷ []) (Some (codes "so far\n")) (Some (codes "so far\none\ntwo\n"))
  pub not_reversed : (v w : Written) → ¬ PrintsRun plain end.Output (one v ∷ two w ∷ []) (Some []) (Some (codes "two\none\n"))
  pub not_less : (v w : Written) → ¬ PrintsRun plain end.Output (one v ∷ two w ∷ []) (Some []) (Some (codes "one\n"))
  -- the number under `-c`, and no number else
  pub count_none : PrintsRun counting end.NoneOutput [] (Some []) (Some (codes "0\n"))
  pub count_two : (v w : Written) → PrintsRun counting end.Output (Kept v [] ∷ Dropped w ∷ Kept w [] ∷ []) (Some []) (Some (codes "2\n"))
  pub no_count : PrintsRun plain end.NoneOutput [] (Some []) (Some [])
  pub not_count : ¬ PrintsRun plain end.NoneOutput [] (Some []) (Some (codes "0\n"))
  -- what was kept before a fault, and then no number
  pub before_fault : (v : Written) → PrintsRun plain (end.Fault fault.ReadFault) (one v ∷ []) (Some []) (Some (codes "one\n"))
  pub no_count_at_fault : PrintsRun counting (end.Fault fault.ReadFault) [] (Some []) (Some [])
  pub not_count_at_fault : ¬ PrintsRun counting (end.Fault fault.ReadFault) [] (Some []) (Some (codes "0\n"))
  -- a part of the last one where a write fails
  pub part : (v w : Written) → PrintsRun plain (end.Fault fault.WriteFault) (one v ∷ two w ∷ []) (Some []) (Some (codes "one\ntw"))

-- ---- what is answered

-- what is told where no call failed so far, and with a count of faults one higher
abbrev pub calm : Seen
calm = record { texts = None; left = None; openings = 0; open_faults = 0; read_faults = 0 }

abbrev pub no_open : Seen
no_open = record calm { open_faults = 1 }

abbrev pub no_read : Seen
no_read = record calm { read_faults = 1 }

abbrev pub calm_sink : SinkSeen
calm_sink = record { written = None; faults = 0 }

abbrev pub failed_write : SinkSeen
failed_write = record calm_sink { faults = 1 }

pub record WhatIsAnswered : Type 0 where
  -- a fault of the outside where its own count rose, and only there
  pub cannot_open : EndsBecause ended.CannotOpen calm no_open calm_sink calm_sink
  pub not_open : ¬ EndsBecause ended.CannotOpen calm calm calm_sink calm_sink
  pub not_open_read : ¬ EndsBecause ended.CannotOpen calm no_read calm_sink calm_sink
  pub read_fault : EndsBecause ended.ReadFault calm no_read calm_sink calm_sink
  pub not_read : ¬ EndsBecause ended.ReadFault calm calm calm_sink calm_sink
  pub write_fault : EndsBecause ended.WriteFault calm calm calm_sink failed_write
  pub not_write : ¬ EndsBecause ended.WriteFault calm calm calm_sink calm_sink
  -- any other answer only where none rose
  pub output : EndsBecause ended.Output calm calm calm_sink calm_sink
  pub not_output : ¬ EndsBecause ended.Output calm calm calm_sink failed_write
  pub not_syntax : ¬ EndsBecause ended.Syntax calm no_read calm_sink calm_sink
  pub not_memory : ¬ EndsBecause ended.Memory calm no_open calm_sink calm_sink
  -- by how many were kept and skipped, where all was read; `passed` automata were passed over before
  pub some_kept : (w : Written) → end_of (tally 0 (Opened x ∷ one w ∷ Dropped w ∷ Ended ∷ [])) ≡ end.Output
  pub none_kept : (w : Written) → end_of (tally 0 (Opened x ∷ Dropped w ∷ Ended ∷ [])) ≡ end.NoneOutput
  pub one_skipped : (w : Written) → end_of (tally 0 (Opened x ∷ one w ∷ Skipped x ∷ Ended ∷ [])) ≡ end.Aborts
  pub one_passed : end_of (tally 1 []) ≡ end.Aborts
  -- the answer, and the exit status
  pub syntax_error : (k : ℕ) → ended_of (end.Fault (fault.SyntaxAt k)) ≡ ended.Syntax
  pub truncated : ended_of (end.Fault fault.Truncated) ≡ ended.Syntax
  pub status_output : status_of ended.Output ≡ 0
  pub status_none : status_of ended.NoneOutput ≡ 1
  pub status_aborts : status_of ended.Aborts ≡ 2
  pub status_usage : status_of ended.Usage ≡ 2
  pub status_syntax : status_of ended.Syntax ≡ 2
  pub status_limit : (which : Limit) → status_of (ended.Limit which) ≡ 2
  pub status_write : status_of ended.WriteFault ≡ 2
  pub status_memory : status_of ended.Memory ≡ 3

pub record RunExamples : Type 0 where
  pub happens : WhatHappens
  pub ends : WhyItEnds
  pub written : WhatIsWritten
  pub answered : WhatIsAnswered
