-- What holds of a run of a plan holds for an equal plan, wherever its patterns are stored.
use Rattle.std.proofs.Common.{◌≡◌, ◌∙◌, ◌⊎◌, ℕ, Bool, true, false, List, [], ◌∷◌, Option, Some, None, ap, inl, inr, refl, subst, sym}
use Rattle.std.proofs.Common.{drop}
use Rattle.std.specs.Prelude.{MatchBool}
use Rattle.std.specs.Option.{option_map}
use Rattle.aut_base.specs.CanonicalLabel.{canonical}
use Rattle.aut_base.specs.Automaton.{Automaton}
use Rattle.aut_base.specs.declared.limit.Limit.{Limit}
use Rattle.aut_io.specs.Outside.{Texts}
use Rattle.autfilt_run.specs.Run.{AreAllRead, EndsAt, RunsTo}
use Rattle.autfilt_run.specs.declared.ended.End.{End}
use Rattle.autfilt_run.specs.declared.ended.End.TheVariants as end
use Rattle.autfilt_laws.proofs.alike.LeftBehind.{IsLeftBehind}
use Rattle.autfilt_laws.specs.Runs.{EndsBefore, EndsInStreams, IsEnded, Outcome, streams_from, texts_or}
use Rattle.autfilt_run.specs.Due.{IsResult, IsPrinted}
use Rattle.autfilt_run.specs.Events.{AreJudged, Dropped, Ended, Event, IsEventJudged, Kept, Opened, Point, Skipped}
use Rattle.autfilt_run.specs.OperandEvents.{OperandEvent, operands_read}
use Rattle.autfilt_run.specs.Over.{IsOverLimit, IsOverPrinting, StopsPrinting}
use Rattle.autfilt_run.specs.Plans.{prints_each}
use Rattle.autfilt_run.specs.Runs.{AtNamed, StandsWith, StopsRun, StopsReading}
use Rattle.autfilt_run.specs.declared.fault.RunFault.{RunFault}
use Rattle.autfilt_run.specs.declared.fault.RunFault.TheVariants as fault
use Rattle.filter_plan.specs.Laws.{SamePlan}
use Rattle.filter_plan.specs.declared.plan.Output.{Output}
use Rattle.filter_plan.specs.declared.plan.Output.TheVariants.{Hoa, Stats, Refute}
use Rattle.filter_plan.specs.declared.plan.Plan.{Plan}
use Rattle.hoa_parser.specs.Raw.{Written}
use Rattle.hoa_reader.specs.Described.{described}
use Rattle.hoa_reader.specs.Elaborating.{PassesLimit}
use Rattle.plan_meaning.specs.Filters.{AcceptsWord, AllHold, FailsAtFilter, Filter, IsDropped, IsKept, PassesAt, RejectsWord, filter_options, filters}
use Rattle.plan_meaning.specs.Promises.{HasFewSetsUnder}
use Rattle.plan_meaning.specs.Standing.{those_standing}
use Rattle.word_syntax.specs.Grammar.{WordPattern}
use Rattle.word_syntax.specs.Writing.{word_pattern}
use Rattle.word_syntax.specs.declared.pattern.Pattern.{Pattern}

-- ---- the end of a reading, with other limits after it

module _ (over more : Limit → Written → Type 0) (wider : (which : Limit) (w : Written) → over which w → more which w) where
  stands_with : (P Q : Written → Type 0) (start : ℕ) (rest next : List ℕ) → ((w : Written) → P w → Q w) → StandsWith P start rest next → StandsWith Q start rest next
  stands_with P Q start rest next h s = record { automaton = s.automaton; whole = s.whole; holds = h s.automaton s.holds }

  either : (which : Limit) (w : Written) → PassesLimit which w ⊎ over which w → PassesLimit which w ⊎ more which w
  either which w (inl a) = inl a
  either which w (inr o) = inr (wider which w o)

  at_limit : (which : Limit) (start : ℕ) (rest left : List ℕ) → StopsReading over (fault.Limit which) start rest left → StopsReading more (fault.Limit which) start rest left
  at_limit which start rest left (inl h) = inl h
  at_limit which start rest left (inr (inl h)) = inr (inl h)
  at_limit which start rest left (inr (inr h)) = inr (inr (stands_with _ _ start rest left (either which) h))

  at_fault : (f : RunFault) (start : ℕ) (rest left : List ℕ) → StopsReading over f start rest left → StopsReading more f start rest left
  at_fault (fault.SyntaxAt k) start rest left h = h
  at_fault fault.Truncated start rest left h = h
  at_fault (fault.Invalid rule) start rest left h = h
  at_fault (fault.Limit which) start rest left h = at_limit which start rest left h
  at_fault fault.ReadFault start rest left h = h
  at_fault fault.Memory start rest left h = h
  at_fault fault.CannotOpen start rest left h = h
  at_fault fault.WriteFault start rest left h = h

  at_named : (on : Type 0) (f : RunFault) (p : Point) (name : List ℕ) (left : Option (List ℕ)) → AtNamed on p name left (StopsReading over f) → AtNamed on p name left (StopsReading more f)
  at_named on f p name left h = record {
    at = record { asks = h.at.asks; stream = h.at.stream; is_open = h.at.is_open; now = h.at.now; told = h.at.told; stands = at_fault f _ _ _ h.at.stands };
    named = h.named;
  }

-- ---- a plan with equal patterns

options_same : (c : WordPattern → Filter) (x y : Option Pattern) → option_map word_pattern x ≡ option_map word_pattern y
    → option_map (λ (p : Pattern). c (word_pattern p)) x ≡ option_map (λ (p : Pattern). c (word_pattern p)) y
options_same c x y e = split x ∙ (ap (option_map c) e ∙ sym (split y))
  where
    split : (o : Option Pattern) → option_map (λ (p : Pattern). c (word_pattern p)) o ≡ option_map c (option_map word_pattern o)
    split None = refl
    split (Some p) = refl

module _ (q : Plan) (first second : Option Pattern) (same_first : option_map word_pattern first ≡ option_map word_pattern q.accept_word)
    (same_second : option_map word_pattern second ≡ option_map word_pattern q.reject_word) where
  abbrev r : Plan
  r = record q { accept_word = first; reject_word = second }

  same_filters : (ops : List Automaton) → filters r ops ≡ filters q ops
  same_filters ops =
      let a = options_same AcceptsWord first q.accept_word same_first in
      let b = options_same RejectsWord second q.reject_word same_second in
      λ i. those_standing (a i ∷ b i ∷ drop 2 (filter_options q ops))

  kept : (ops : List Automaton) (a : Automaton) → IsKept r ops a → IsKept q ops a
  kept ops a h = subst (λ (fs : List Filter). MatchBool q.invert (FailsAtFilter fs a) (AllHold fs a)) (same_filters ops) h

  dropped : (ops : List Automaton) (a : Automaton) → IsDropped r ops a → IsDropped q ops a
  dropped ops a h = subst (λ (fs : List Filter). MatchBool q.invert (AllHold fs a) (FailsAtFilter fs a)) (same_filters ops) h

  made : (ops : List Automaton) (w : Written) (m : Automaton) → IsResult r ops w m → IsResult q ops w m
  made ops w m h = record { makes = h.makes; promises = h.promises; few_sets = λ is. few (h.few_sets is); accepts = h.accepts }
    where
      few : HasFewSetsUnder r ops (canonical (described w)) m → HasFewSetsUnder q ops (canonical (described w)) m
      few h = record { before = h.before; makes = h.makes; few = h.few }

  printed : (o : Output) (ops : List Automaton) (w : Written) (text : List ℕ) → IsPrinted o r ops w text → IsPrinted o q ops w text
  printed Hoa ops w text h = record { made = h.made; is_made = made ops w h.made h.is_made; same = h.same; reads_as = h.reads_as }
  printed (Stats pieces) ops w text h = (h.0, made ops w h.0 h.1, h.2)
  printed (Refute file) ops w text h = h

  due_where : (b : Bool) (ops : List Automaton) (w : Written) (text : List ℕ) → MatchBool b (IsPrinted r.output r ops w text) (text ≡ []) → MatchBool b (IsPrinted q.output q ops w text) (text ≡ [])
  due_where true ops w text h = printed q.output ops w text h
  due_where false ops w text h = h

  judged : (ops : List Automaton) (e : Event) → IsEventJudged r ops e → IsEventJudged q ops e
  judged ops (Kept w text) h = (kept ops (described w) h.0, due_where (prints_each q) ops w text h.1)
  judged ops (Dropped w) h = dropped ops (described w) h
  judged ops (Opened name) h = tt
  judged ops (Skipped name) h = tt
  judged ops Ended h = tt

  all_judged : (ops : List Automaton) (events : List Event) → AreJudged r ops events → AreJudged q ops events
  all_judged ops [] h = tt
  all_judged ops (e ∷ events) h = (judged ops e h.0, all_judged ops events h.1)

  stops_printing : (o : Output) (ops : List Automaton) (which : Limit) (a : Automaton) → StopsPrinting o which r ops a → StopsPrinting o which q ops a
  stops_printing Hoa ops which a h = h
  stops_printing (Stats pieces) ops which a h = h
  stops_printing (Refute file) ops which a h = h

  over : (ops : List Automaton) (which : Limit) (w : Written) → IsOverLimit which r ops w → IsOverLimit which q ops w
  over ops which w h = record { valid = h.valid; within = h.within; over = either h.over }
    where
      either : PassesAt which (filters r ops) (described w) ⊎ IsOverPrinting which r ops w → PassesAt which (filters q ops) (described w) ⊎ IsOverPrinting which q ops w
      either (inl f) = inl (subst (λ (fs : List Filter). PassesAt which fs (described w)) (same_filters ops) f)
      either (inr c) = inr (record { kept = kept ops (described w) c.kept; prints = c.prints; stops = stops_printing q.output ops which _ c.stops })

  stops : (ops : List Automaton) (f : RunFault) (name : List ℕ) (p : Point) (left : Option (List ℕ)) → StopsRun r ops f name p left → StopsRun q ops f name p left
  stops ops fault.CannotOpen name p left h = h
  stops ops fault.WriteFault name p left h = h
  stops ops fault.Memory name p left h = h
  stops ops fault.ReadFault name p left h = at_named _ _ (over ops) _ fault.ReadFault p name left h
  stops ops (fault.SyntaxAt k) name p left h = at_named _ _ (over ops) _ (fault.SyntaxAt k) p name left h
  stops ops fault.Truncated name p left h = at_named _ _ (over ops) _ fault.Truncated p name left h
  stops ops (fault.Invalid rule) name p left h = at_named _ _ (over ops) _ (fault.Invalid rule) p name left h
  stops ops (fault.Limit which) name p left h = at_named _ _ (over ops) _ (fault.Limit which) p name left h

  ends_at : (ops : List Automaton) (e : End) (name : List ℕ) (p : Point) (left : Option (List ℕ)) → EndsAt r ops e name p left → EndsAt q ops e name p left
  ends_at ops (end.Fault f) name p left h = (stops ops f name p left h.0, h.1)
  ends_at ops end.Usage name p left h = h
  ends_at ops end.Output name p left h = h
  ends_at ops end.NoneOutput name p left h = h
  ends_at ops end.Aborts name p left h = h

  runs_to : (ops : List Automaton) (texts : Texts) (from : Point) (left : Option (List ℕ)) (events : List Event) (e : End) (name : List ℕ)
      → RunsTo r ops texts from left events e name → RunsTo q ops texts from left events e name
  runs_to ops texts from left events e name h = record { point = h.point; happen = h.happen; ends = ends_at ops e name h.point left h.ends; numbered = h.numbered }

  all_read : (texts : Texts) (left : Option (List ℕ)) (taken : List OperandEvent) (p : Point) → AreAllRead r texts left taken p → AreAllRead q texts left taken p
  all_read texts left taken p h = record { read = h.read; none_coming = h.none_coming; none_open = h.none_open }

  before : (texts : Texts) (left : Option (List ℕ)) (o : Outcome) → EndsBefore r texts left o → EndsBefore q texts left o
  before texts left o h = record {
    fault = h.fault;
    ends = h.ends;
    none = h.none;
    stops = record { point = h.stops.point; read = h.stops.read; stops = h.stops.stops; counted = h.stops.counted };
  }

  behind : (texts : Texts) (left : Option (List ℕ)) (o : Outcome) → EndsInStreams r texts left o → EndsInStreams q texts left o
  behind texts left o h = record {
    point = h.point;
    read = all_read texts left o.taken h.point h.read;
    judged = all_judged (operands_read o.taken) o.events h.judged;
    tallied = h.tallied;
    runs = runs_to (operands_read o.taken) (texts_or q.made texts) (streams_from q h.point) o.left o.events o.end o.name h.runs;
  }

  left_behind : (texts : Texts) (left : Option (List ℕ)) (o : Outcome) (now : Option (List ℕ)) → IsLeftBehind r texts left o now → IsLeftBehind q texts left o now
  left_behind texts left o now (inl (is, inl none)) = inl (is, inl none)
  left_behind texts left o now (inl (is, inr h)) = inl (is, inr (before texts left o h))
  left_behind texts left o now (inr (made, point, read, is)) = inr (made, point, all_read texts left o.taken point read, is)

  ended : (texts : Texts) (left : Option (List ℕ)) (o : Outcome) → IsEnded r texts left o → IsEnded q texts left o
  ended texts left o h = record { by_text = h.by_text; ran = either h.ran }
    where
      either : EndsBefore r texts left o ⊎ EndsInStreams r texts left o → EndsBefore q texts left o ⊎ EndsInStreams q texts left o
      either (inl b) = inl (before texts left o b)
      either (inr b) = inr (behind texts left o b)

pub same_plan_ended : (p q : Plan) (texts : Texts) (left : Option (List ℕ)) (o : Outcome) → SamePlan p q → IsEnded p texts left o → IsEnded q texts left o
same_plan_ended p q texts left o same h =
    ended q p.accept_word p.reject_word same.accept_word same.reject_word texts left o (subst (λ (z : Plan). IsEnded z texts left o) same.others h)

pub same_plan_left : (p q : Plan) (texts : Texts) (left : Option (List ℕ)) (o : Outcome) (now : Option (List ℕ)) → SamePlan p q → IsLeftBehind p texts left o now → IsLeftBehind q texts left o now
same_plan_left p q texts left o now same h =
    left_behind q p.accept_word p.reject_word same.accept_word same.reject_word texts left o now (subst (λ (z : Plan). IsLeftBehind z texts left o now) same.others h)
