-- What the reader answers, in terms of a session.
use Rattle.std.proofs.Common.{◌≡◌, ◌⊎◌, ℕ, ◌-◌, List, Option, None, Result, Ok, Err, refl, sym, subst, inl, inr, arith}
use Rattle.aut_base.specs.declared.limit.Limit.{Limit}
use Rattle.autfilt_run.specs.Events.{IsGood}
use Rattle.autfilt_run.specs.Faults.{fault_of_reading}
use Rattle.autfilt_run.specs.Runs.{StopsReading, WantsMemory}
use Rattle.autfilt_run.specs.Turns.{IsAllRead}
use Rattle.autfilt_run.specs.declared.fault.RunFault.TheVariants as run
use Rattle.hoa_lexer.proofs.next_token.Between.{between_as, between_both}
use Rattle.hoa_lexer.specs.Reading.{Between, held_count, unread}
use Rattle.hoa_parser.specs.Raw.{Written, written}
use Rattle.hoa_parser.specs.Reads.{AnswersFront, AsksOn, HoldsBehind, Shows}
use Rattle.hoa_parser.specs.Standing.{Aborted, Stands, Whole}
use Rattle.hoa_parser.specs.declared.fault.ReadFault.{ReadFault}
use Rattle.hoa_parser.specs.declared.fault.ReadFault.TheVariants as fault
use Rattle.hoa_parser.specs.declared.raw.Raw.{Raw}
use Rattle.hoa_parser.specs.declared.read.Front.{Front}
use Rattle.hoa_parser.specs.declared.read.Front.TheVariants as front
use Rattle.hoa_reader.specs.Counts.{PassesNone}
use Rattle.hoa_reader.specs.Elaborating.{PassesLimit}
use Rattle.hoa_reader.specs.Validity.{IsFirstBroken, IsValid}
use Rattle.hoa_reader.specs.declared.elaborate.Rule.{Rule}

-- the lexer holds nothing, so what is unread is what the inputs have left
nothing_less : (n : ℕ) → n - 0 ≡ n
nothing_less n = omega arith

-- what the reader answers, and which bytes show it
abbrev pub AnswersFrom : Result Front ReadFault → ℕ → Option ℕ → Option ℕ → List ℕ → List ℕ → Type 0
AnswersFrom r start held held' old new = AnswersFront r (start - held_count held) (unread held old) (unread held' new) × Shows r (start - held_count held) (unread held old) new

abbrev pub AnswersAt : Result Front ReadFault → ℕ → Option ℕ → List ℕ → List ℕ → Type 0
AnswersAt r start held' old new = AnswersFront r start old (unread held' new) × Shows r start old new

-- where no byte was held before
unheld_before : (r : Result Front ReadFault) (start : ℕ) (held held' : Option ℕ) (old new : List ℕ) → held ≡ None → AnswersFrom r start held held' old new → AnswersAt r start held' old new
unheld_before r start held held' old new e h =
    let N : ℕ → Type 0 = λ n. AnswersFrom r n None held' old new in
    let H : Option ℕ → Type 0 = λ x. AnswersFrom r start x held' old new in
    let Z : ℕ → Type 0 = λ n. AnswersFront r n old (unread held' new) × Shows r n old new in
    subst Z (nothing_less start) (subst H e h)

-- both facts of what a reader answers, where no byte was held before
pub read_at : (r : Result Front ReadFault) (start : ℕ) (held held' : Option ℕ) (left left' : Option (List ℕ)) → held ≡ None
    → Between left left' (λ old new. AnswersFront r (start - held_count held) (unread held old) (unread held' new))
    → Between left left' (λ old new. Shows r (start - held_count held) (unread held old) new)
    → Between left left' (AnswersAt r start held')
read_at r start held held' left left' e a b = between_both left left' _ _ _ (λ old new p q. unheld_before r start held held' old new e (p, q)) a b

-- an error ends the run
stops_reading : (over : Limit → Written → Type 0) (f : ReadFault) (start : ℕ) (held' : Option ℕ) (old new : List ℕ) → HoldsBehind (Err f) held' → AnswersAt (Err f) start held' old new
    → StopsReading over (fault_of_reading f) start old new
stops_reading over (fault.Syntax k) start held' old new n h = record { bad = h.0; shown = h.1.0; last = h.1.1 }
stops_reading over fault.Truncated start held' old new n h = record { cut = h.0; nothing = h.1.0; asks = h.1.1 }
stops_reading over fault.Depth start held' old new n h = inl (refl, record { deep = h.0; ends = h.1.0; last = h.1.1 })
stops_reading over fault.Bytes start held' old new n h = inr (inl (refl, subst (λ (x : Option ℕ). AsksOn start old (unread x new)) n h.0))
stops_reading over fault.Read start held' old new n h = subst (λ (x : Option ℕ). StopsReading over run.ReadFault start old (unread x new)) n h.0
stops_reading over fault.Memory start held' old new n h = inl (held', h.0)

pub stops : (over : Limit → Written → Type 0) (f : ReadFault) (start : ℕ) (held' : Option ℕ) (left left' : Option (List ℕ)) → HoldsBehind (Err f) held'
    → Between left left' (AnswersAt (Err f) start held') → Between left left' (StopsReading over (fault_of_reading f) start)
stops over f start held' left left' n h = between_as left left' (AnswersAt (Err f) start held') (StopsReading over (fault_of_reading f) start)
    (λ old new k. stops_reading over f start held' old new n k) h

-- an automaton was read whole
pub is_whole : (field : Front) (raw : Raw) (start : ℕ) (held' : Option ℕ) (left left' : Option (List ℕ))
    → field ≡ front.Whole raw → HoldsBehind (Ok field) held' → Between left left' (AnswersAt (Ok field) start held')
    → Between left left' (λ old new. Stands (Whole (written raw) new) start old)
is_whole field raw start held' left left' e k h =
    let P : Front → Type 0 = λ x. HoldsBehind (Ok x) held' → Between left left' (AnswersAt (Ok x) start held') → Between left left' (λ old new. Stands (Whole (written raw) new) start old) in
    subst P (sym e)
    (λ k h. between_as left left' _ _ (λ old new a. subst (λ (x : Option ℕ). Stands (Whole (written raw) (unread x new)) start old) k a.0) h)
    k h

-- an abandoned automaton was skipped
pub is_skipped : (field : Front) (start : ℕ) (held' : Option ℕ) (left left' : Option (List ℕ))
    → field ≡ front.Aborted → HoldsBehind (Ok field) held' → Between left left' (AnswersAt (Ok field) start held')
    → Between left left' (λ old new. Stands (Aborted new) start old)
is_skipped field start held' left left' e k h =
    let P : Front → Type 0 = λ x. HoldsBehind (Ok x) held' → Between left left' (AnswersAt (Ok x) start held') → Between left left' (λ old new. Stands (Aborted new) start old) in
    subst P (sym e)
    (λ k h. between_as left left' _ _ (λ old new a. subst (λ (x : Option ℕ). Stands (Aborted (unread x new)) start old) k a.0) h)
    k h

-- only blanks were left
pub is_blank : (field : Front) (start : ℕ) (held' : Option ℕ) (left left' : Option (List ℕ))
    → field ≡ front.Blank → HoldsBehind (Ok field) held' → Between left left' (AnswersAt (Ok field) start held') → Between left left' IsAllRead
is_blank field start held' left left' e k h =
    let P : Front → Type 0 = λ x. HoldsBehind (Ok x) held' → Between left left' (AnswersAt (Ok x) start held') → Between left left' IsAllRead in
    subst P (sym e)
    (λ k h. between_as left left' _ _ (λ old new a. subst (λ (x : Option ℕ). IsAllRead old (unread x new)) k a.0) h)
    k h

pub is_good : (w : Written) (start : ℕ) (left left' : Option (List ℕ)) → IsValid w → PassesNone w
    → Between left left' (λ old new. Stands (Whole w new) start old) → Between left left' (λ old new. IsGood start old w new)
is_good w start left left' valid within h =
    between_as left left' (λ old new. Stands (Whole w new) start old) (λ old new. IsGood start old w new)
    (λ old new whole. record { whole = whole; valid = valid; within = within }) h

-- it was read whole, and is not valid, passes a limit, or memory was wanting for it
pub is_broken : (over : Limit → Written → Type 0) (rule : Rule) (w : Written) (start : ℕ) (left left' : Option (List ℕ)) → IsFirstBroken rule w
    → Between left left' (λ old new. Stands (Whole w new) start old) → Between left left' (StopsReading over (run.Invalid rule) start)
is_broken over rule w start left left' broken h = between_as left left' _ (StopsReading over (run.Invalid rule) start) (λ old new s. record { automaton = w; whole = s; holds = broken }) h

pub is_past : (over : Limit → Written → Type 0) (which : Limit) (w : Written) (start : ℕ) (left left' : Option (List ℕ)) → PassesLimit which w ⊎ over which w
    → Between left left' (λ old new. Stands (Whole w new) start old) → Between left left' (StopsReading over (run.Limit which) start)
is_past over which w start left left' p h =
    between_as left left' _ (StopsReading over (run.Limit which) start) (λ old new s. inr (inr (record { automaton = w; whole = s; holds = p }))) h

pub is_wanting : (w : Written) (start : ℕ) (left left' : Option (List ℕ))
    → Between left left' (λ old new. Stands (Whole w new) start old) → Between left left' (WantsMemory start)
is_wanting w start left left' h = between_as left left' _ (WantsMemory start) (λ old new s. inr (record { automaton = w; whole = s; holds = tt })) h
