-- Laws of plans: there is one verdict on each automaton, the changes make one automaton or pass one limit, and only listed
-- limits are passed.
use Rattle.std.specs.Prelude.{◌≡◌, List, Contains}
use Rattle.aut_base.specs.Automaton.{Automaton}
use Rattle.aut_base.specs.declared.limit.Limit.{Limit}
use Rattle.filter_plan.specs.declared.plan.Plan.{Plan}
use Rattle.plan_meaning.specs.Changes.{Change, MakesAll, PassesIn, StopsIn, changes_of, limits_of_change}
use Rattle.plan_meaning.specs.Filters.{Filter, IsDropped, IsKept, PassesAt, PassesLimitOf, filters, limits_of_filter}
use Rattle.plan_meaning.specs.Limits.{PassesOfInclusion, limits_of_inclusion}

-- the verdict on an automaton
pub data Verdict : Type 0 where
  Kept : Verdict
  Dropped : Verdict
  Over : Limit → Verdict

abbrev pub IsVerdict : Verdict → Plan → List Automaton → Automaton → Type 0
IsVerdict Kept p ops a = IsKept p ops a
IsVerdict Dropped p ops a = IsDropped p ops a
IsVerdict (Over which) p ops a = PassesAt which (filters p ops) a

-- There is at most one verdict,
abbrev pub VerdictIsOne : Type 0
VerdictIsOne = (p : Plan) (ops : List Automaton) (a : Automaton) (v w : Verdict) → IsVerdict v p ops a → IsVerdict w p ops a → v ≡ w

-- and there is one on each automaton (said by double negation).
abbrev pub AVerdictExists : Type 0
AVerdictExists = (p : Plan) (ops : List Automaton) (a : Automaton) → ((v : Verdict) → IsVerdict v p ops a → ⊥) → ⊥

-- Where two automata are compared, no more than one limit is passed.
abbrev pub OneLimitOfInclusion : Type 0
OneLimitOfInclusion = (which other : Limit) (a b : Automaton) → PassesOfInclusion which a b → PassesOfInclusion other a b → which ≡ other

-- A filter passes no limits but those of its list, and neither does a change, nor the comparison of two automata.
pub record PassTheirOwn : Type 0 where
  pub filter : (f : Filter) (which : Limit) (a : Automaton) → PassesLimitOf which f a → Contains (limits_of_filter f) which
  pub change : (c : Change) (which : Limit) (a : Automaton) → PassesIn which c a → Contains (limits_of_change c) which
  pub inclusion : (which : Limit) (a b : Automaton) → PassesOfInclusion which a b → Contains limits_of_inclusion which

-- A list of changes makes at most one automaton, or else passes at most one limit, and never both.
pub record AreDetermined (cs : List Change) (a : Automaton) : Type 0 where
  pub made : (m n : Automaton) → MakesAll cs a m → MakesAll cs a n → m ≡ n
  pub either : (m : Automaton) (which : Limit) → MakesAll cs a m → StopsIn which cs a → ⊥
  pub limit : (which other : Limit) → StopsIn which cs a → StopsIn other cs a → which ≡ other

abbrev pub ChangesAreDetermined : Type 0
ChangesAreDetermined = (cs : List Change) (a : Automaton) → AreDetermined cs a

-- Of each automaton the changes of a plan make an automaton, or they pass a limit (said by double negation).
abbrev pub ChangesExist : Type 0
ChangesExist = (p : Plan) (ops : List Automaton) (a : Automaton) → ((made : Automaton) → MakesAll (changes_of p ops) a made → ⊥)
    → ((which : Limit) → StopsIn which (changes_of p ops) a → ⊥) → ⊥
