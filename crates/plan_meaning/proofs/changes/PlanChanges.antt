-- The changes that a plan can have, and that an automaton which was read can go through them.
use Rattle.std.proofs.Common.{◌≡◌, Bool, true, false, ℕ, List, [], ◌∷◌, ◌++◌, Contains, Option, Some, None, IfSome, arith, refl, slice_get}
use Rattle.std.specs.Bool.{then_some}
use Rattle.std.specs.List.{AllByRecursion}
use Rattle.std.specs.Option.{option_map}
use Rattle.aut_base.proofs.lists.Members.{placed_there}
use Rattle.aut_base.specs.Automaton.{Automaton}
use Rattle.filter_plan.specs.Words.{has_form}
use Rattle.filter_plan.specs.declared.plan.Form.{Form}
use Rattle.filter_plan.specs.declared.plan.Form.TheVariants as form
use Rattle.filter_plan.specs.declared.plan.Plan.{Plan}
use Rattle.plan_meaning.specs.Changes.{Bring, Change, Complement, Complete, Product, ProductOr, RemoveAp, Sum, Trim, changes_of, operation_options}
use Rattle.plan_meaning.specs.Operands.{IsOfReadSize, operand_at, place_of_product, place_of_product_or, place_of_sum}
use Rattle.plan_meaning.specs.Standing.{those_standing}
use Rattle.plan_meaning.specs.inner.Stepping.{HasRoom, IsOfComplementSize, IsOfLastSize, IsOfProductOrSize, IsOfProductSize, IsOfSizeBefore, IsOfSizeBehind, IsOfSizeFor, IsOfSumSize, IsPossible}

-- the operand of the change is one of the plan's, and its form isn't `AsIs`
abbrev pub IsOfPlan : List Automaton → Change → Type 0
IsOfPlan ops (Product b) = Contains ops b
IsOfPlan ops (ProductOr b) = Contains ops b
IsOfPlan ops (Sum b) = Contains ops b
IsOfPlan ops (RemoveAp h) = Unit {0}
IsOfPlan ops Trim = Unit {0}
IsOfPlan ops Complement = Unit {0}
IsOfPlan ops (Bring f) = f ≡ form.AsIs → ⊥
IsOfPlan ops Complete = Unit {0}

-- ---- what holds of the change of an option, if that is given

record IfAsked (P : Change → Type 0) (o : Option Change) : Type 0 where
  holds : IfSome o P

of_value : {X : Type 0} (P : Change → Type 0) (c : X → Change) (o : Option X) → ((x : X) → P (c x)) → IfAsked P (option_map c o)
of_value P c None holds = record { holds = tt }
of_value P c (Some x) holds = record { holds = holds x }

of_operand : (P : Change → Type 0) (c : Automaton → Change) (o : Option (List ℕ)) (place : ℕ) (ops : List Automaton) → ((b : Automaton) → Contains ops b → P (c b))
    → IfAsked P (option_map c (operand_at o place ops))
of_operand P c None place ops holds = record { holds = tt }
of_operand P c (Some name) place ops holds = by_cases (slice_get ops place) refl
  where
    by_cases : (found : Option Automaton) → slice_get ops place ≡ found → IfAsked P (option_map c found)
    by_cases None is = record { holds = tt }
    by_cases (Some b) is = record { holds = holds b (placed_there ops place b is) }

of_flag : (P : Change → Type 0) (c : Change) (asked : Bool) → P c → IfAsked P (then_some asked c)
of_flag P c false holds = record { holds = tt }
of_flag P c true holds = record { holds = holds }

of_form : (P : Change → Type 0) (f : Form) → ((g : Form) → (g ≡ form.AsIs → ⊥) → P (Bring g)) → IfAsked P (then_some (has_form f) (Bring f))
of_form P form.AsIs holds = record { holds = tt }
of_form P form.Deterministic holds = record { holds = holds form.Deterministic (λ e. cc) }
of_form P form.Parity holds = record { holds = holds form.Parity (λ e. cc) }
of_form P form.Buchi holds = record { holds = holds form.Buchi (λ e. cc) }
of_form P form.RemoveFin holds = record { holds = holds form.RemoveFin (λ e. cc) }
of_form P form.Dnf holds = record { holds = holds form.Dnf (λ e. cc) }
of_form P form.Monitor holds = record { holds = holds form.Monitor (λ e. cc) }

-- ---- and of all changes of a plan

abbrev pub options : Plan → List Automaton → List (Option Change)
options p ops = operation_options p ops ++ (then_some (has_form p.form) (Bring p.form) ∷ then_some p.complete Complete ∷ [])

record All (P : Change → Type 0) (os : List (Option Change)) : Type 0 where
  all : AllByRecursion P (those_standing os)

none : (P : Change → Type 0) → All P []
none P = record { all = tt }

more : (P : Change → Type 0) (o : Option Change) (os : List (Option Change)) → IfAsked P o → All P os → All P (o ∷ os)
more P None os first rest = record { all = rest.all }
more P (Some c) os first rest = record { all = (first.holds, rest.all) }

pub each_of_plan : (p : Plan) (ops : List Automaton) → AllByRecursion (IsOfPlan ops) (changes_of p ops)
each_of_plan p ops = each.all
  where
    P : Change → Type 0
    P = IsOfPlan ops

    each : All P (options p ops)
    each =
        more P _ _ (of_operand P Product p.product (place_of_product p) ops (λ b there. there))
        (more P _ _ (of_operand P ProductOr p.product_or (place_of_product_or p) ops (λ b there. there))
        (more P _ _ (of_operand P Sum p.sum (place_of_sum p) ops (λ b there. there))
        (more P _ _ (of_value P RemoveAp p.remove_ap (λ h. tt))
        (more P _ _ (of_flag P Trim p.trim tt)
        (more P _ _ (of_flag P Complement p.complement tt)
        (more P _ _ (of_form P p.form (λ f asked. asked))
        (more P _ _ (of_flag P Complete p.complete tt) (none P))))))))

-- ---- sizes

product_of_read : (a : Automaton) → IsOfReadSize a → IsOfProductSize a
product_of_read a h = record { states = omega (arith, h.states); sets = omega (arith, h.sets) }

product_or_of_product : (a : Automaton) → IsOfProductSize a → IsOfProductOrSize a
product_or_of_product a h = record { states = omega (arith, h.states); sets = omega (arith, h.sets) }

sum_of_product_or : (a : Automaton) → IsOfProductOrSize a → IsOfSumSize a
sum_of_product_or a h = record { states = omega (arith, h.states); sets = omega (arith, h.sets) }

complement_of_sum : (a : Automaton) → IsOfSumSize a → IsOfComplementSize a
complement_of_sum a h = record { states = omega (arith, h.states); sets = omega (arith, h.sets) }

room_of_complement : (a : Automaton) → IsOfComplementSize a → HasRoom a
room_of_complement a h = record { states = omega (arith, h.states); sets = omega (arith, h.sets) }

last_of_room : (a : Automaton) → HasRoom a → IsOfLastSize a
last_of_room a h = record { states = omega (arith, h.states); sets = omega (arith, h.sets) }

-- ---- a plan can make its changes, one after the other

-- the change can be made of automata of one size, and makes automata of another
record Leads (Before Behind : Automaton → Type 0) (c : Change) : Type 0 where
  possible : IsPossible c
  before : (a : Automaton) → Before a → IsOfSizeBefore c a
  behind : (a : Automaton) → IsOfSizeBehind c a → Behind a

-- the changes that are asked for can be made of automata of this size, one after the other
record AreReady (Size : Automaton → Type 0) (os : List (Option Change)) : Type 0 where
  ready : (a : Automaton) → Size a → IsOfSizeFor (those_standing os) a

ends : AreReady IsOfLastSize []
ends = record { ready = λ a h. h }

-- with one more change before them, which leads to that size or isn't asked for
led : (Before Behind : Automaton → Type 0) (o : Option Change) (os : List (Option Change)) → IfAsked (Leads Before Behind) o → ((a : Automaton) → Before a → Behind a) → AreReady Behind os
    → AreReady Before (o ∷ os)
led Before Behind None os leads grows rest = record { ready = λ a h. rest.ready a (grows a h) }
led Before Behind (Some c) os leads grows rest =
    record { ready = λ a h. (leads.holds.possible, leads.holds.before a h, λ made is. rest.ready made (leads.holds.behind made is)) }

same : (Size : Automaton → Type 0) (a : Automaton) → Size a → Size a
same Size a h = h

-- the change has these sizes itself
at_sizes : (c : Change) → IsPossible c → Leads (IsOfSizeBefore c) (IsOfSizeBehind c) c
at_sizes c possible = record { possible = possible; before = λ a h. h; behind = λ a h. h }

pub sizes_of_plan : (p : Plan) (ops : List Automaton) → ((b : Automaton) → Contains ops b → IsOfReadSize b) → (a : Automaton) → IsOfReadSize a → IsOfSizeFor (changes_of p ops) a
sizes_of_plan p ops read = all.ready
  where
    all : AreReady IsOfReadSize (options p ops)
    all =
        led IsOfReadSize IsOfProductSize _ _ (of_operand _ Product p.product (place_of_product p) ops (λ b there. at_sizes (Product b) (read b there))) product_of_read
        (led IsOfProductSize IsOfProductOrSize _ _ (of_operand _ ProductOr p.product_or (place_of_product_or p) ops (λ b there. at_sizes (ProductOr b) (read b there))) product_or_of_product
        (led IsOfProductOrSize IsOfSumSize _ _ (of_operand _ Sum p.sum (place_of_sum p) ops (λ b there. at_sizes (Sum b) (read b there))) sum_of_product_or
        (led IsOfSumSize IsOfSumSize _ _ (of_value _ RemoveAp p.remove_ap (λ h. at_sizes (RemoveAp h) tt)) (same IsOfSumSize)
        (led IsOfSumSize IsOfSumSize _ _ (of_flag _ Trim p.trim (at_sizes Trim tt)) (same IsOfSumSize)
        (led IsOfSumSize IsOfComplementSize _ _ (of_flag _ Complement p.complement (at_sizes Complement tt)) complement_of_sum
        (led IsOfComplementSize HasRoom _ _ (of_form _ p.form (λ f asked. at_sizes (Bring f) asked)) room_of_complement
        (led HasRoom IsOfLastSize _ _ (of_flag _ Complete p.complete (at_sizes Complete tt)) last_of_room ends)))))))
