-- Where a run ended by what is next in a text, the name of the file and what is left are unique.
use Rattle.std.proofs.Common.{◌≡◌, ℕ, true, List, [], Option, Some, refl, sym, ap, ◌∙◌, subst, inl, inr}
use Rattle.aut_base.specs.Automaton.{Automaton}
use Rattle.aut_base.specs.declared.limit.Limit.{Limit}
use Rattle.aut_base.specs.declared.limit.Limit.TheVariants as limit
use Rattle.autfilt_run.specs.Notes.{line_of, line_of_fault}
use Rattle.autfilt_run.specs.Run.{EndsAt}
use Rattle.autfilt_run.specs.declared.ended.End.{End}
use Rattle.autfilt_run.specs.declared.ended.End.TheVariants as end
use Rattle.autfilt_laws.proofs.alike.AtBytes.{asks_at_bytes}
use Rattle.autfilt_laws.proofs.alike.BadPlaces.{one_bad_place}
use Rattle.autfilt_laws.proofs.alike.Full.{IsFitted, full_same}
use Rattle.autfilt_laws.proofs.alike.Looks.{one_stream, whole_is}
use Rattle.autfilt_laws.specs.Runs.{IsByText, TellsName}
use Rattle.autfilt_run.proofs.handling.PassedLimits.{plan_passes}
use Rattle.autfilt_run.specs.Events.{Point, Stream, bytes_before}
use Rattle.autfilt_run.specs.Over.{IsOverLimit}
use Rattle.autfilt_run.specs.Plans.{asks_on}
use Rattle.autfilt_run.specs.Runs.{AtNamed, IsCounted, IsTooDeep, StandsWith, StopsReading, StopsAtLimit, StopsAtOperand, StopsInOperands, StopsWhere}
use Rattle.autfilt_run.specs.declared.fault.RunFault.{RunFault}
use Rattle.autfilt_run.specs.declared.fault.RunFault.TheVariants as fault
use Rattle.filter_plan.specs.declared.plan.Plan.{Plan}
use Rattle.hoa_parser.proofs.standing.OneStanding.{one_deep_end}
use Rattle.hoa_parser.specs.Raw.{Written}
use Rattle.hoa_parser.specs.Reads.{AsksOn}
use Rattle.hoa_parser.specs.Standing as standing
use Rattle.hoa_parser.specs.Standing.{OneStanding}

-- the open file has the name in hand
pub at_named : (on : Type 0) (stops : RunFault → ℕ → List ℕ → List ℕ → Type 0) (f : RunFault) (name : List ℕ) (p : Point) (left : Option (List ℕ))
    → IsByText (end.Fault f) → StopsWhere on stops f name p left → AtNamed on p name left (stops f)
at_named on stops (fault.SyntaxAt k) name p left by h = h
at_named on stops fault.Truncated name p left by h = h
at_named on stops (fault.Invalid rule) name p left by h = h
at_named on stops (fault.Limit which) name p left by h = h
at_named on stops fault.CannotOpen name p left by h = absurd by
at_named on stops fault.ReadFault name p left by h = absurd by
at_named on stops fault.WriteFault name p left by h = absurd by
at_named on stops fault.Memory name p left by h = absurd by

-- ---- what is left

-- after a whole automaton
one_behind : OneStanding → (P : Written → Type 0) (start : ℕ) (rest x y : List ℕ) → StandsWith P start rest x → StandsWith P start rest y → x ≡ y
one_behind one P start rest x y a b =
    let is = one start rest (standing.Whole a.automaton x) (standing.Whole b.automaton y) a.whole b.whole in
    (whole_is a.automaton b.automaton x y is).1

-- no automaton is whole where a token nests too deep
not_both : OneStanding → (P : Written → Type 0) (start : ℕ) (rest x y : List ℕ) → IsTooDeep start rest x → StandsWith P start rest y → ⊥
not_both one P start rest x y a b = let none : standing.Deep ≡ standing.Whole b.automaton y = one start rest standing.Deep (standing.Whole b.automaton y) a.deep b.whole in cc

-- at a limit, by when it is told
one_at_limit : OneStanding → (over : Limit → Written → Type 0) (which : Limit) (start : ℕ) (rest x y : List ℕ) → (which ≡ limit.Bytes → x ≡ y)
    → StopsAtLimit which over start rest x → StopsAtLimit which over start rest y → x ≡ y
one_at_limit one over which start rest x y full (inl a) (inl b) = one_deep_end start rest x y a.1.ends b.1.ends
one_at_limit one over which start rest x y full (inl a) (inr (inl b)) = full b.0
one_at_limit one over which start rest x y full (inl a) (inr (inr b)) = absurd (not_both one _ start rest x y a.1 b)
one_at_limit one over which start rest x y full (inr (inl a)) b = full a.0
one_at_limit one over which start rest x y full (inr (inr a)) (inl b) = absurd (not_both one _ start rest y x b.1 a)
one_at_limit one over which start rest x y full (inr (inr a)) (inr (inl b)) = full b.0
one_at_limit one over which start rest x y full (inr (inr a)) (inr (inr b)) = one_behind one _ start rest x y a b

-- what is left when a run ends with this fault in one text is unique
abbrev IsOneLeft : (RunFault → ℕ → List ℕ → List ℕ → Type 0) → RunFault → Type 0
IsOneLeft stops f =
    IsByText (end.Fault f) → (start : ℕ) (rest x y : List ℕ) → (f ≡ fault.Limit limit.Bytes → x ≡ y) → stops f start rest x → stops f start rest y → x ≡ y

one_left : OneStanding → (over : Limit → Written → Type 0) (f : RunFault) → IsOneLeft (StopsReading over) f
one_left one over (fault.SyntaxAt k) by start rest x y full a b = one_bad_place k start rest x y a b
one_left one over fault.Truncated by start rest x y full a b = a.nothing ∙ sym b.nothing
one_left one over (fault.Invalid rule) by start rest x y full a b = one_behind one _ start rest x y a b
one_left one over (fault.Limit which) by start rest x y full a b =
    one_at_limit one over which start rest x y (λ is. full (ap fault.Limit is)) a b
one_left one over fault.CannotOpen by start rest x y full a b = absurd by
one_left one over fault.ReadFault by start rest x y full a b = absurd by
one_left one over fault.WriteFault by start rest x y full a b = absurd by
one_left one over fault.Memory by start rest x y full a b = absurd by

none_left : (start : ℕ) (rest x : List ℕ) → StopsAtOperand fault.Truncated start rest x → x ≡ []
none_left start rest x (inl h) = h.nothing
none_left start rest x (inr h) = h.1

one_left_in_operand : OneStanding → (f : RunFault) → IsOneLeft StopsAtOperand f
one_left_in_operand one fault.Truncated by start rest x y full a b = none_left start rest x a ∙ sym (none_left start rest y b)
one_left_in_operand one (fault.SyntaxAt k) by start rest x y full a b = one_left one (λ which w. ⊥) (fault.SyntaxAt k) by start rest x y full a b
one_left_in_operand one (fault.Invalid rule) by start rest x y full a b = one_left one (λ which w. ⊥) (fault.Invalid rule) by start rest x y full a b
one_left_in_operand one (fault.Limit which) by start rest x y full a b = one_left one (λ which w. ⊥) (fault.Limit which) by start rest x y full a b
one_left_in_operand one fault.CannotOpen by start rest x y full a b = absurd by
one_left_in_operand one fault.ReadFault by start rest x y full a b = absurd by
one_left_in_operand one fault.WriteFault by start rest x y full a b = absurd by
one_left_in_operand one fault.Memory by start rest x y full a b = absurd by

-- ---- two runs with the same end at one point

pub record IsOnePlace (e : End) (n m : List ℕ) (l k : Option (List ℕ)) : Type 0 where
  pub name : TellsName e → n ≡ m
  pub left : l ≡ k

-- at the limit of bytes a reader needs more
abbrev AreAsking : (RunFault → ℕ → List ℕ → List ℕ → Type 0) → Type 0
AreAsking stops = (start : ℕ) (rest now : List ℕ) → stops (fault.Limit limit.Bytes) start rest now → AsksOn start rest now

one_place : (on : Type 0) (stops : RunFault → ℕ → List ℕ → List ℕ → Type 0) (f : RunFault) (p : Point) (n m : List ℕ) (l k : Option (List ℕ))
    → IsByText (end.Fault f) → IsFitted p → AreAsking stops → IsOneLeft stops f → StopsWhere on stops f n p l → IsCounted f p l → StopsWhere on stops f m p k → IsCounted f p k
    → IsOnePlace (end.Fault f) n m l k
one_place on stops f p n m l k by fitted asking one x c y d =
    let a = at_named on stops f n p l by x in
    let b = at_named on stops f m p k by y in
    let s = a.at.stream in
    let same = one_stream p.stream s b.at.stream a.at.is_open b.at.is_open in
    let there = subst (λ (z : Stream). stops f (bytes_before z.text z.rest) z.rest b.at.now) (sym same) b.at.stands in
    record {
      name = λ tells. sym a.named ∙ ap (λ (z : Stream). z.name) same ∙ b.named;
      left = a.at.told ∙ ap Some (one by (bytes_before s.text s.rest) s.rest a.at.now b.at.now (λ is. full is s a.at.now b.at.now a.at.is_open a.at.told b.at.told a.at.stands there) a.at.stands
          there) ∙ sym b.at.told;
    }
  where
    full : f ≡ fault.Limit limit.Bytes → (s : Stream) (x y : List ℕ) → p.stream ≡ Some s → l ≡ Some x → k ≡ Some y → stops f (bytes_before s.text s.rest) s.rest x
        → stops f (bytes_before s.text s.rest) s.rest y → x ≡ y
    full is s x y open_here left left' a b =
        let P : List ℕ → RunFault → Type 0 = λ now g. stops g (bytes_before s.text s.rest) s.rest now in
        full_same p s l k x y fitted open_here left left' (asking (bytes_before s.text s.rest) s.rest x (subst (P x) is a)) (asking (bytes_before s.text s.rest) s.rest y (subst (P y) is b))
        (subst (λ (g : RunFault). IsCounted g p l) is c) (subst (λ (g : RunFault). IsCounted g p k) is d)

-- in the files of operands
pub one_place_before : OneStanding → (f : RunFault) (p : Point) (n m : List ℕ) (l k : Option (List ℕ)) → IsByText (end.Fault f) → IsFitted p
    → StopsInOperands f n p l → IsCounted f p l → StopsInOperands f m p k → IsCounted f p k → IsOnePlace (end.Fault f) n m l k
one_place_before one f p n m l k by fitted x c y d =
    one_place (Unit {0}) StopsAtOperand f p n m l k by fitted (λ start rest now h. asks_at_bytes (λ which w. ⊥) (λ which w o. absurd o) start rest now h) (one_left_in_operand one f) x c y d

-- where all was read
place_behind : (e : End) (n m : List ℕ) (l k : Option (List ℕ)) → (TellsName e → ⊥) → l ≡ k → IsOnePlace e n m l k
place_behind e n m l k none same = record { name = λ tells. absurd (none tells); left = same }

-- in the streams
pub one_place_in_streams : OneStanding → (plan : Plan) (ops : List Automaton) (e : End) (p : Point) (n m : List ℕ) (l k : Option (List ℕ)) → IsByText e → IsFitted p
    → EndsAt plan ops e n p l → EndsAt plan ops e m p k → IsOnePlace e n m l k
one_place_in_streams one plan ops (end.Fault f) p n m l k by fitted x y =
    one_place (asks_on plan p.kept ≡ true) (StopsReading (λ which w. IsOverLimit which plan ops w)) f p n m l k by fitted
    (λ start rest now h. asks_at_bytes (λ which w. IsOverLimit which plan ops w) (λ which w o. plan_passes which plan ops w o) start rest now h)
    (one_left one (λ which w. IsOverLimit which plan ops w) f) x.0 x.1 y.0 y.1
one_place_in_streams one plan ops end.Output p n m l k by fitted x y = place_behind end.Output n m l k (λ tells. tells) (x.1 ∙ sym y.1)
one_place_in_streams one plan ops end.NoneOutput p n m l k by fitted x y = place_behind end.NoneOutput n m l k (λ tells. tells) (x.1 ∙ sym y.1)
one_place_in_streams one plan ops end.Aborts p n m l k by fitted x y = place_behind end.Aborts n m l k (λ tells. tells) (x.1 ∙ sym y.1)
one_place_in_streams one plan ops end.Usage p n m l k by fitted x y = absurd by

-- ---- the line about the end

pub one_line_about : (e : End) (n m : List ℕ) → (TellsName e → n ≡ m) → line_of e n ≡ line_of e m
one_line_about (end.Fault f) n m same = ap (line_of_fault f) (same tt)
one_line_about end.Output n m same = refl
one_line_about end.NoneOutput n m same = refl
one_line_about end.Aborts n m same = refl
one_line_about end.Usage n m same = refl
