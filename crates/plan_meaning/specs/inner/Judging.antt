-- Answers of filters and of the verdict as truth values or faults, for the contracts of private functions.
use Rattle.std.specs.Prelude.{◌≡◌, Bool, true, false, List, All, filter_map, Option, Some, IfSome, Result, Ok, Err}
use Rattle.std.specs.Option.{option_map}
use Rattle.aut_base.specs.Automaton.{Automaton}
use Rattle.aut_core.specs.SymbolicAutomata.{automaton_of}
use Rattle.filter_plan.specs.declared.plan.Plan.{Plan}
use Rattle.plan_meaning.specs.Complements.{KeepsComplement}
use Rattle.plan_meaning.specs.Filters.{AcceptsWord, AllHold, Edges, EquivalentTo, FailsAtFilter, Filter, HoldsWithin, IncludedIn, Intersects, IsComplete}
use Rattle.plan_meaning.specs.Filters.{IsDeterministic, IsEmpty, IsUnambiguous, LacksWithin, Names, PassesLimitOf, PassesAt, RejectsWord, Sets, States}
use Rattle.plan_meaning.specs.Limits.{IsIncluded, IsWithinInclusion, PassesOfInclusion}
use Rattle.plan_meaning.specs.Operands.{IsOfReadSize, operand_at, place_of_equivalent_to, place_of_included_in}
use Rattle.plan_meaning.specs.declared.complements.Complements.{Complements}
use Rattle.plan_meaning.specs.declared.fault.PlanFault.{PlanFault}
use Rattle.plan_meaning.specs.declared.fault.PlanFault.TheVariants as fault
use Rattle.plan_meaning.specs.declared.judging.filter.Filter as coded
use Rattle.plan_meaning.specs.declared.judging.filter.Filter.TheVariants as code
use Rattle.word_syntax.specs.Writing.{word_pattern}

-- all of these filters hold, or one doesn't
abbrev pub Judges : Bool → List Filter → Automaton → Type 0
Judges true fs a = AllHold fs a
Judges false fs a = FailsAtFilter fs a

-- the same of an answer that may be a fault: a limit that a filter passes while all before it hold
abbrev pub JudgesWithin : Result Bool PlanFault → List Filter → Automaton → Type 0
JudgesWithin (Ok b) fs a = Judges b fs a
JudgesWithin (Err (fault.Limit which)) fs a = PassesAt which fs a
JudgesWithin (Err fault.Memory) fs a = Unit {0}

-- this filter holds, or doesn't, or passes a limit
abbrev pub ExaminesFilter : Result Bool PlanFault → Filter → Automaton → Type 0
ExaminesFilter (Ok true) f a = HoldsWithin f a
ExaminesFilter (Ok false) f a = LacksWithin f a
ExaminesFilter (Err (fault.Limit which)) f a = PassesLimitOf which f a
ExaminesFilter (Err fault.Memory) f a = Unit {0}

-- the one is included in the other, or isn't, or a limit is passed
abbrev pub ComparesInclusion : Result Bool PlanFault → Automaton → Automaton → Type 0
ComparesInclusion (Ok true) a b = IsWithinInclusion a b × IsIncluded a b
ComparesInclusion (Ok false) a b = IsWithinInclusion a b × (IsIncluded a b → ⊥)
ComparesInclusion (Err (fault.Limit which)) a b = PassesOfInclusion which a b
ComparesInclusion (Err fault.Memory) a b = Unit {0}

-- ---- the filters as code has them

abbrev pub filter_of : coded.Filter → Filter
filter_of (code.AcceptsWord pattern) = AcceptsWord (word_pattern pattern.now)
filter_of (code.RejectsWord pattern) = RejectsWord (word_pattern pattern.now)
filter_of code.IsEmpty = IsEmpty
filter_of (code.IncludedIn other) = IncludedIn (automaton_of other.now)
filter_of (code.EquivalentTo other) = EquivalentTo (automaton_of other.now)
filter_of (code.Intersects other) = Intersects (automaton_of other.now)
filter_of code.IsDeterministic = IsDeterministic
filter_of code.IsComplete = IsComplete
filter_of code.IsUnambiguous = IsUnambiguous
filter_of (code.States range) = States range.now
filter_of (code.Edges range) = Edges range.now
filter_of (code.Sets range) = Sets range.now
filter_of (code.Names range) = Names range.now

-- those that are asked for
abbrev pub asked_for : List (Option coded.Filter) → List Filter
asked_for = filter_map (option_map filter_of)

-- the filter's operand is that of its option, and has the size of an automaton that is read
abbrev pub IsFrom : Plan → List Automaton → coded.Filter → Type 0
IsFrom p ops (code.AcceptsWord pattern) = Unit {0}
IsFrom p ops (code.RejectsWord pattern) = Unit {0}
IsFrom p ops code.IsEmpty = Unit {0}
IsFrom p ops (code.IncludedIn other) = IsOfReadSize (automaton_of other.now) × (operand_at p.included_in place_of_included_in ops ≡ Some (automaton_of other.now))
IsFrom p ops (code.EquivalentTo other) = IsOfReadSize (automaton_of other.now) × (operand_at p.equivalent_to (place_of_equivalent_to p) ops ≡ Some (automaton_of other.now))
IsFrom p ops (code.Intersects other) = IsOfReadSize (automaton_of other.now)
IsFrom p ops code.IsDeterministic = Unit {0}
IsFrom p ops code.IsComplete = Unit {0}
IsFrom p ops code.IsUnambiguous = Unit {0}
IsFrom p ops (code.States range) = Unit {0}
IsFrom p ops (code.Edges range) = Unit {0}
IsFrom p ops (code.Sets range) = Unit {0}
IsFrom p ops (code.Names range) = Unit {0}

abbrev pub AreFrom : Plan → List Automaton → List (Option coded.Filter) → Type 0
AreFrom p ops filters = All (λ filter. IfSome filter (IsFrom p ops)) filters

-- the filter's operand has the size of an automaton that is read, and the complement that is kept for the filter, if any,
-- is that of the operand
abbrev pub IsFilterReady : coded.Filter → Complements → Type 0
IsFilterReady (code.AcceptsWord pattern) cs = Unit {0}
IsFilterReady (code.RejectsWord pattern) cs = Unit {0}
IsFilterReady code.IsEmpty cs = Unit {0}
IsFilterReady (code.IncludedIn other) cs = IsOfReadSize (automaton_of other.now) × KeepsComplement (automaton_of other.now) cs.included_in
IsFilterReady (code.EquivalentTo other) cs = IsOfReadSize (automaton_of other.now) × KeepsComplement (automaton_of other.now) cs.equivalent_to
IsFilterReady (code.Intersects other) cs = IsOfReadSize (automaton_of other.now)
IsFilterReady code.IsDeterministic cs = Unit {0}
IsFilterReady code.IsComplete cs = Unit {0}
IsFilterReady code.IsUnambiguous cs = Unit {0}
IsFilterReady (code.States range) cs = Unit {0}
IsFilterReady (code.Edges range) cs = Unit {0}
IsFilterReady (code.Sets range) cs = Unit {0}
IsFilterReady (code.Names range) cs = Unit {0}

-- the complements that are kept for other options are unchanged
abbrev pub LeavesOthers : coded.Filter → Complements → Complements → Type 0
LeavesOthers (code.IncludedIn other) old new = (new.equivalent_to ≡ old.equivalent_to) × (new.refuted ≡ old.refuted)
LeavesOthers (code.EquivalentTo other) old new = (new.included_in ≡ old.included_in) × (new.refuted ≡ old.refuted)
LeavesOthers _ old new = new ≡ old
