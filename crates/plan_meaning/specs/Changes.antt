-- What a plan makes of an automaton: operations, at most one form, and completion, one after the other.
use Rattle.std.specs.Prelude.{◌≡◌, ◌⊎◌, ◌<◌, ℕ, true, List, [], ◌∷◌, ◌++◌, Option, Result, Ok, Err}
use Rattle.std.specs.Bool.{then_some}
use Rattle.std.specs.Option.{option_map}
use Rattle.std.specs.Result.{result_map_both}
use Rattle.acc_forms.specs.Atoms.{has_fin}
use Rattle.acc_forms.specs.Joined.{conj, disj}
use Rattle.acc_forms.specs.Terms.{of_terms, terms}
use Rattle.ap_project.specs.Hiding.{HiddenSays, SomeWord, hidden}
use Rattle.aut_base.specs.Acceptance.{Accepts}
use Rattle.aut_base.specs.Automaton.{Automaton}
use Rattle.aut_base.specs.Word.{NameSet, letter_at}
use Rattle.aut_base.specs.declared.limit.Limit.{Limit}
use Rattle.aut_base.specs.declared.limit.Limit.TheVariants as limit
use Rattle.aut_core.specs.SymbolicAutomata.{SymbolicAutomaton, automaton_of}
use Rattle.aut_core.specs.Deterministic as core
use Rattle.aut_ops.specs.Completion.{completed}
use Rattle.aut_ops.specs.Products.{IsProduct, over_both}
use Rattle.aut_ops.specs.Sums.{side_by_side}
use Rattle.aut_ops.specs.Trimming.{IsTrimmed}
use Rattle.degeneralise.specs.Buchi.{NeedsTooManyTerms, buchi}
use Rattle.exploration.specs.declared.fault.Fault.TheVariants as explored
use Rattle.filter_plan.specs.Words.{has_form}
use Rattle.filter_plan.specs.declared.plan.Form.{Form}
use Rattle.filter_plan.specs.declared.plan.Form.TheVariants as form
use Rattle.filter_plan.specs.declared.plan.Hidden.{Hidden}
use Rattle.filter_plan.specs.declared.plan.Plan.{Plan}
use Rattle.fin_removal.specs.Copies.{HasTooManyTerms, without_fin}
use Rattle.monitor_form.specs.Subsets.{IsMonitorAutomaton, MeetsLimit}
use Rattle.parity_det.specs.Complements.{IsComplementAutomaton}
use Rattle.parity_det.specs.Determinisation.{IsDeterminisation}
use Rattle.plan_meaning.specs.Limits.{HaveManyNames, PassesBuchi, PassesOfBoth, PassesOfEither, PassesParityLimit, PassesUnlessDeterministic, limits_of_parity, limits_of_product}
use Rattle.plan_meaning.specs.Operands.{operand_at, place_of_product, place_of_product_or, place_of_sum}
use Rattle.plan_meaning.specs.Standing.{those_standing}
use Rattle.plan_meaning.specs.declared.fault.PlanFault.{PlanFault}
use Rattle.plan_meaning.specs.declared.fault.PlanFault.TheVariants as fault

-- a change, with its operand, proposition or form
pub data Change : Type 0 where
  Product : Automaton → Change
  ProductOr : Automaton → Change
  Sum : Automaton → Change
  RemoveAp : Hidden → Change
  Trim : Change
  Complement : Change
  Bring : Form → Change
  Complete : Change

-- ---- one change

abbrev pub IsMadeInForm : Form → Automaton → Automaton → Type 0
IsMadeInForm form.AsIs a made = ⊥
IsMadeInForm form.Deterministic a made = (core.IsDeterministic a × (made ≡ a)) ⊎ ((core.IsDeterministic a → ⊥) × IsDeterminisation (buchi a) made)
IsMadeInForm form.Parity a made = IsDeterminisation (buchi a) made
IsMadeInForm form.Buchi a made = made ≡ buchi a
IsMadeInForm form.RemoveFin a made = made ≡ without_fin a
IsMadeInForm form.Dnf a made = made ≡ record a { formula = of_terms (terms a.formula) }
IsMadeInForm form.Monitor a made = IsMonitorAutomaton a made

-- what the change makes of an automaton, exactly
abbrev pub Makes : Change → Automaton → Automaton → Type 0
Makes (Product b) a made = IsProduct conj (over_both a b a) (over_both a b b) made
Makes (ProductOr b) a made = IsProduct disj (over_both a b (completed a)) (over_both a b (completed b)) made
Makes (Sum b) a made = made ≡ side_by_side (over_both a b a) (over_both a b b)
Makes (RemoveAp h) a made = made ≡ hidden h.how h.name a
Makes Trim a made = IsTrimmed a made
Makes Complement a made = IsComplementAutomaton a made
Makes (Bring f) a made = IsMadeInForm f a made
Makes Complete a made = made ≡ completed a

-- a monitor: the limits of the Büchi form, and then the first limit that its subset construction meets
abbrev pub PassesMonitor : Limit → Automaton → Type 0
PassesMonitor limit.Classes a = (NeedsTooManyTerms a.formula → ⊥) × MeetsLimit a explored.Classes
PassesMonitor limit.Subsets a = (NeedsTooManyTerms a.formula → ⊥) × MeetsLimit a explored.States
PassesMonitor which a = PassesBuchi which a

-- the limit is the first that a count of the change passes
abbrev pub PassesForm : Limit → Form → Automaton → Type 0
PassesForm which form.AsIs a = ⊥
PassesForm which form.Deterministic a = PassesUnlessDeterministic which a
PassesForm which form.Parity a = PassesParityLimit which a
PassesForm which form.Buchi a = PassesBuchi which a
PassesForm which form.RemoveFin a = (which ≡ limit.Terms) × (has_fin a.formula ≡ true) × HasTooManyTerms a
PassesForm which form.Dnf a = (which ≡ limit.Terms) × HasTooManyTerms a
PassesForm which form.Monitor a = PassesMonitor which a

abbrev pub PassesIn : Limit → Change → Automaton → Type 0
PassesIn which (Product b) a = PassesOfBoth which a b
PassesIn which (ProductOr b) a = PassesOfEither which a b
PassesIn which (Sum b) a = (which ≡ limit.Names) × HaveManyNames a b
PassesIn which (RemoveAp h) a = ⊥
PassesIn which Trim a = ⊥
PassesIn which Complement a = PassesUnlessDeterministic which a
PassesIn which (Bring f) a = PassesForm which f a
PassesIn which Complete a = ⊥

-- the limits that a change may pass: it passes none of the others
abbrev pub limits_of_form : Form → List Limit
limits_of_form form.AsIs = []
limits_of_form form.Deterministic = limits_of_parity
limits_of_form form.Parity = limits_of_parity
limits_of_form form.Buchi = limit.Terms ∷ limit.BuchiStates ∷ []
limits_of_form form.RemoveFin = limit.Terms ∷ []
limits_of_form form.Dnf = limit.Terms ∷ []
limits_of_form form.Monitor = limit.Terms ∷ limit.BuchiStates ∷ limit.Classes ∷ limit.Subsets ∷ []

abbrev pub limits_of_change : Change → List Limit
limits_of_change (Product b) = limits_of_product
limits_of_change (ProductOr b) = limits_of_product
limits_of_change (Sum b) = limit.Names ∷ []
limits_of_change (RemoveAp h) = []
limits_of_change Trim = []
limits_of_change Complement = limits_of_parity
limits_of_change (Bring f) = limits_of_form f
limits_of_change Complete = []

-- ---- the changes of a plan

-- the operations in the order in which they are made, each if its option is given,
abbrev pub operation_options : Plan → List Automaton → List (Option Change)
operation_options p ops = option_map Product (operand_at p.product (place_of_product p) ops)
    ∷ option_map ProductOr (operand_at p.product_or (place_of_product_or p) ops)
    ∷ option_map Sum (operand_at p.sum (place_of_sum p) ops)
    ∷ option_map RemoveAp p.remove_ap
    ∷ then_some p.trim Trim
    ∷ then_some p.complement Complement
    ∷ []

-- and after them the form, unless it is left as it is, and completion
abbrev pub changes_of : Plan → List Automaton → List Change
changes_of p ops = those_standing (operation_options p ops ++ (then_some (has_form p.form) (Bring p.form) ∷ then_some p.complete Complete ∷ []))

-- ---- all of them

-- a change within all limits
pub record MakesWithin (c : Change) (a made : Automaton) : Type 0 where
  pub within : (which : Limit) → PassesIn which c a → ⊥
  pub makes : Makes c a made

-- the changes make this of the automaton, one after the other
abbrev pub MakesAll : List Change → Automaton → Automaton → Type 0
MakesAll [] a made = made ≡ a
MakesAll (c ∷ cs) a made = (next : Automaton) × MakesWithin c a next × MakesAll cs next made

-- a change passes a limit, and all before it are made
abbrev pub StopsIn : Limit → List Change → Automaton → Type 0
StopsIn which [] a = ⊥
StopsIn which (c ∷ cs) a = PassesIn which c a ⊎ ((next : Automaton) × MakesWithin c a next × StopsIn which cs next)

-- what each answer of `change` means
abbrev pub Changed : Result Automaton PlanFault → List Change → Automaton → Type 0
Changed (Ok made) cs a = MakesAll cs a made
Changed (Err (fault.Limit which)) cs a = StopsIn which cs a
Changed (Err fault.Memory) cs a = Unit {0}

-- the same for an answer with a symbolic automaton
abbrev pub ChangedTo : Result SymbolicAutomaton PlanFault → List Change → Automaton → Type 0
ChangedTo result cs a = Changed (result_map_both automaton_of (λ fault. fault) result) cs a

-- ---- what is accepted, over all lasso words

abbrev pub Language : Type 1
Language = List NameSet → List NameSet → Type 0

-- what a form makes of a language: a monitor its safety closure, the words each of whose prefixes is a prefix of some word
-- of it, and any other form the language itself
abbrev pub said_in_form : Form → Language → Language
said_in_form form.AsIs says u v = says u v
said_in_form form.Deterministic says u v = says u v
said_in_form form.Parity says u v = says u v
said_in_form form.Buchi says u v = says u v
said_in_form form.RemoveFin says u v = says u v
said_in_form form.Dnf says u v = says u v
said_in_form form.Monitor says u v = (n : ℕ) → SomeWord says (λ x y. (k : ℕ) → k < n → letter_at x y k ≡ letter_at u v k)

-- what a change makes of a language: the intersection with that of the operand, the union with it, the language with a name
-- hidden, its complement, what the form makes of it, or the language itself
abbrev pub said_by : Change → Language → Language
said_by (Product b) says u v = says u v × Accepts b u v
said_by (ProductOr b) says u v = says u v ⊎ Accepts b u v
said_by (Sum b) says u v = says u v ⊎ Accepts b u v
said_by (RemoveAp h) says u v = HiddenSays h.how h.name says u v
said_by Trim says u v = says u v
said_by Complement says u v = says u v → ⊥
said_by (Bring f) says u v = said_in_form f says u v
said_by Complete says u v = says u v

abbrev pub said_by_all : List Change → Language → Language
said_by_all [] says = says
said_by_all (c ∷ cs) says = said_by_all cs (said_by c says)

-- the language that a plan asks for: that of the automaton, changed by product, product-or, sum, the hiding of a
-- proposition, the complement and the form
abbrev pub set_operation : Plan → List Automaton → Automaton → Language
set_operation p ops a = said_by_all (changes_of p ops) (λ u v. Accepts a u v)
