-- A word that one automaton accepts and another doesn't.
use Rattle.std.specs.Prelude.{Option, MatchOption, Result, Ok, Err}
use Rattle.aut_base.specs.Automaton.{Automaton}
use Rattle.aut_base.specs.declared.letter.Lasso.{Lasso}
use Rattle.plan_meaning.specs.Limits.{HaveFewNames, IsIncluded, IsWithinInclusion, PassesOfInclusion}
use Rattle.plan_meaning.specs.Refutations.{Refutes}
use Rattle.plan_meaning.specs.declared.fault.PlanFault.{PlanFault}
use Rattle.plan_meaning.specs.declared.fault.PlanFault.TheVariants as fault

-- No limit is passed, and a word was found, or there is none.
pub record IsFoundBeside (a b : Automaton) (answer : Option Lasso) : Type 0 where
  pub within : IsWithinInclusion a b
  pub few : HaveFewNames a b
  pub found : MatchOption answer (IsIncluded a b) (Refutes a b)

abbrev pub FindsBeside : Result (Option Lasso) PlanFault → Automaton → Automaton → Type 0
FindsBeside (Ok answer) a b = IsFoundBeside a b answer
FindsBeside (Err (fault.Limit which)) a b = PassesOfInclusion which a b
FindsBeside (Err fault.Memory) a b = Unit {0}
