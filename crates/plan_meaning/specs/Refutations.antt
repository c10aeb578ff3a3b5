-- A word that one automaton accepts and another doesn't, or that there is none.
use Rattle.std.specs.Prelude.{◌≡◌, ◌++◌, All, Option, MatchOption, Result, Ok, Err}
use Rattle.aut_base.specs.Acceptance.{Accepts}
use Rattle.aut_base.specs.Automaton.{Automaton}
use Rattle.aut_base.specs.Word.{IsReduced}
use Rattle.aut_base.specs.declared.letter.Lasso.{Lasso}
use Rattle.aut_core.specs.OtherNames.{joined_names}
use Rattle.plan_meaning.specs.Limits.{IsIncluded, IsWithinInclusion, PassesOfInclusion}
use Rattle.plan_meaning.specs.declared.fault.PlanFault.{PlanFault}
use Rattle.plan_meaning.specs.declared.fault.PlanFault.TheVariants as fault
use Rattle.plan_meaning.specs.declared.refuting.Refutation.{Refutation}
use Rattle.word_syntax.specs.Printing.{HoldsOnly}

-- The word is a reduced lasso over the names of both. The first accepts it, and the second doesn't.
pub record Refutes (a b : Automaton) (w : Lasso) : Type 0 where
  pub reduced : IsReduced w.stem w.cycle
  pub own_names : All (HoldsOnly (joined_names a.names b.names)) (w.stem ++ w.cycle)
  pub accepted : Accepts a w.stem w.cycle
  pub rejected : Accepts b w.stem w.cycle → ⊥

-- the word, with the names of both
pub record IsRefutation (a b : Automaton) (r : Refutation) : Type 0 where
  pub refutes : Refutes a b r.word
  pub names : r.names ≡ joined_names a.names b.names

-- No limit is passed, and a refutation was found, or there is none.
pub record IsRefutedOr (a b : Automaton) (answer : Option Refutation) : Type 0 where
  pub within : IsWithinInclusion a b
  pub found : MatchOption answer (IsIncluded a b) (IsRefutation a b)

-- what each answer of `refute` means
abbrev pub Refuted : Result (Option Refutation) PlanFault → Automaton → Automaton → Type 0
Refuted (Ok answer) a b = IsRefutedOr a b answer
Refuted (Err (fault.Limit which)) a b = PassesOfInclusion which a b
Refuted (Err fault.Memory) a b = Unit {0}
