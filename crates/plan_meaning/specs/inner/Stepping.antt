-- Steps, the functions that each make a list of changes: their answers, and the sizes of automata before and after them.
use Rattle.std.specs.Prelude.{◌≡◌, ◌≢◌, ℕ, ◌+◌, ◌-◌, ◌*◌, ◌^◌, ◌≤◌, List, [], ◌∷◌, filter_map, Option, Result, Ok, Err}
use Rattle.std.specs.Option.{option_map}
use Rattle.ap_project.specs.Laws.{SayTheSame}
use Rattle.aut_base.specs.Acceptance.{Accepts}
use Rattle.aut_base.specs.Automaton.{Automaton}
use Rattle.aut_base.specs.declared.limit.TheConstants.{MOST_NODES, MOST_PAIRS, MOST_SETS, MOST_STATES, MOST_TREES}
use Rattle.aut_core.specs.SymbolicAutomata.{SymbolicAutomaton, automaton_of}
use Rattle.aut_core.specs.Deterministic.{IsComplete, IsDeterministic}
use Rattle.filter_plan.specs.declared.plan.Form.{Form}
use Rattle.filter_plan.specs.declared.plan.Form.TheVariants as form
use Rattle.plan_meaning.specs.Changes.{Bring, Change, Complement, Complete, MakesWithin, Product, ProductOr, RemoveAp, StopsIn, Sum, Trim, said_by_all}
use Rattle.parity_det.specs.Promises.{IsParityMinOdd}
use Rattle.plan_meaning.specs.Operands.{IsOfReadSize}
use Rattle.plan_meaning.specs.declared.changing.list.Change as coded
use Rattle.plan_meaning.specs.declared.changing.list.Change.TheVariants as code
use Rattle.plan_meaning.specs.declared.fault.PlanFault.{PlanFault}
use Rattle.plan_meaning.specs.declared.fault.PlanFault.TheVariants as fault

-- what a change promises of the automaton made, beside which one it is
abbrev pub PromisesForm : Form → Automaton → Type 0
PromisesForm form.AsIs made = Unit {0}
PromisesForm form.Deterministic made = IsDeterministic made
PromisesForm form.Parity made = IsParityMinOdd made
PromisesForm form.Buchi made = Unit {0}
PromisesForm form.RemoveFin made = Unit {0}
PromisesForm form.Dnf made = Unit {0}
PromisesForm form.Monitor made = IsDeterministic made

abbrev pub Promises : Change → Automaton → Automaton → Type 0
Promises (Product b) a made = Unit {0}
Promises (ProductOr b) a made = Unit {0}
Promises (Sum b) a made = Unit {0}
Promises (RemoveAp h) a made = Unit {0}
Promises Trim a made = Unit {0}
Promises Complement a made = Unit {0}
Promises (Bring f) a made = PromisesForm f made
Promises Complete a made = IsComplete made × (IsDeterministic a → IsDeterministic made) × (IsComplete a → made ≡ a)

-- the changes make this of the automaton, one after the other, and each keeps its promise
abbrev pub MakesAsPromised : List Change → Automaton → Automaton → Type 0
MakesAsPromised [] a made = made ≡ a
MakesAsPromised (c ∷ cs) a made = (next : Automaton) × MakesWithin c a next × Promises c a next × MakesAsPromised cs next made

-- the changes make this automaton, and its language is what they make of the language of `a`
pub record IsMadeAsPromised (cs : List Change) (a made : Automaton) : Type 0 where
  pub all : MakesAsPromised cs a made
  pub says : SayTheSame (λ u v. Accepts made u v) (said_by_all cs (λ u v. Accepts a u v))

-- the answer of a step that makes these changes
abbrev pub StepsChanges : List Change → Automaton → Result SymbolicAutomaton PlanFault → Type 0
StepsChanges cs a (Ok made) = IsMadeAsPromised cs a (automaton_of made)
StepsChanges cs a (Err (fault.Limit which)) = StopsIn which cs a
StepsChanges cs a (Err fault.Memory) = Unit {0}

-- ---- sizes

-- no more states and sets than these
pub record IsSizeWithin (most_states most_sets : ℕ) (a : Automaton) : Type 0 where
  pub states : a.states ≤ most_states
  pub sets : a.sets ≤ most_sets

-- sizes of an automaton, each after the one before it: made by a product of automata that are read; by a product-or of that
-- with one that is read; by a sum of that with one that is read; by a complement of that; by a form of that, so that one
-- more state and set can be numbered; and by completion of that
abbrev pub IsOfProductSize : Automaton → Type 0
IsOfProductSize = IsSizeWithin MOST_PAIRS (MOST_SETS + MOST_SETS)

abbrev pub IsOfProductOrSize : Automaton → Type 0
IsOfProductOrSize = IsSizeWithin MOST_PAIRS (MOST_SETS + MOST_SETS + 1 + (MOST_SETS + 1))

abbrev pub IsOfSumSize : Automaton → Type 0
IsOfSumSize = IsSizeWithin (MOST_PAIRS + MOST_STATES) (MOST_SETS + MOST_SETS + 1 + (MOST_SETS + 1) + MOST_SETS + 1)

abbrev pub IsOfComplementSize : Automaton → Type 0
IsOfComplementSize = IsSizeWithin (MOST_PAIRS + MOST_STATES + MOST_TREES) (MOST_SETS + MOST_SETS + 1 + (MOST_SETS + 1) + MOST_SETS + 1 + (2 * MOST_NODES + 1))

abbrev pub HasRoom : Automaton → Type 0
HasRoom = IsSizeWithin (2 ^ 32 - 2) (2 ^ 32 - 2)

abbrev pub IsOfLastSize : Automaton → Type 0
IsOfLastSize = IsSizeWithin (2 ^ 32 - 1) (2 ^ 32 - 1)

-- the operand of the change has the size of an automaton that is read, and its form isn't `AsIs`
abbrev pub IsPossible : Change → Type 0
IsPossible (Product b) = IsOfReadSize b
IsPossible (ProductOr b) = IsOfReadSize b
IsPossible (Sum b) = IsOfReadSize b
IsPossible (RemoveAp h) = Unit {0}
IsPossible Trim = Unit {0}
IsPossible Complement = Unit {0}
IsPossible (Bring f) = f ≢ form.AsIs
IsPossible Complete = Unit {0}

-- the size that an automaton may have before a change,
abbrev pub IsOfSizeBefore : Change → Automaton → Type 0
IsOfSizeBefore (Product b) = IsOfReadSize
IsOfSizeBefore (ProductOr b) = IsOfProductSize
IsOfSizeBefore (Sum b) = IsOfProductOrSize
IsOfSizeBefore (RemoveAp h) = IsOfSumSize
IsOfSizeBefore Trim = IsOfSumSize
IsOfSizeBefore Complement = IsOfSumSize
IsOfSizeBefore (Bring f) = IsOfComplementSize
IsOfSizeBefore Complete = HasRoom

-- and the size that it has after it
abbrev pub IsOfSizeBehind : Change → Automaton → Type 0
IsOfSizeBehind (Product b) = IsOfProductSize
IsOfSizeBehind (ProductOr b) = IsOfProductOrSize
IsOfSizeBehind (Sum b) = IsOfSumSize
IsOfSizeBehind (RemoveAp h) = IsOfSumSize
IsOfSizeBehind Trim = IsOfSumSize
IsOfSizeBehind Complement = IsOfComplementSize
IsOfSizeBehind (Bring f) = HasRoom
IsOfSizeBehind Complete = IsOfLastSize

-- the changes can be made of the automaton, one after the other
abbrev pub IsOfSizeFor : List Change → Automaton → Type 0
IsOfSizeFor [] a = IsOfLastSize a
IsOfSizeFor (c ∷ cs) a = IsPossible c × IsOfSizeBefore c a × ((made : Automaton) → IsOfSizeBehind c made → IsOfSizeFor cs made)

-- ---- the changes as code has them

abbrev pub change_of : coded.Change → Change
change_of (code.Product b) = Product (automaton_of b.now)
change_of (code.ProductOr b) = ProductOr (automaton_of b.now)
change_of (code.Sum b) = Sum (automaton_of b.now)
change_of (code.RemoveAp h) = RemoveAp h.now
change_of code.Trim = Trim
change_of code.Complement = Complement
change_of (code.Bring f) = Bring f
change_of code.Complete = Complete

-- those that are asked for
abbrev pub changes_asked : List (Option coded.Change) → List Change
changes_asked = filter_map (option_map change_of)
