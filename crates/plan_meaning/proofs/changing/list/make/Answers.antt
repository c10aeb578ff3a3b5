use Rattle.std.proofs.Common.{◌≡◌, IfOk, Result, subst, sym}
use Rattle.aut_base.specs.Automaton.{Automaton}
use Rattle.aut_core.specs.SymbolicAutomata.{SymbolicAutomaton, automaton_of}
use Rattle.plan_meaning.specs.inner.Stepping.{IsOfSizeBefore, IsOfSizeBehind, change_of}
use Rattle.plan_meaning.specs.declared.changing.list.Change as coded
use Rattle.plan_meaning.proofs.changing.list.make.Goals as goal

-- the sizes before and after a change, for equal changes
before : (x y : coded.Change) → x ≡ y → (a : Automaton) → IsOfSizeBefore (change_of x) a → IsOfSizeBefore (change_of y) a
before x y is a = subst (λ (z : coded.Change). IsOfSizeBefore (change_of z) a) is

behind : {E : Type 0} (x y : coded.Change) → x ≡ y → (r : Result SymbolicAutomaton E) → IfOk r (λ made. IsOfSizeBehind (change_of y) (automaton_of made))
    → IfOk r (λ made. IsOfSizeBehind (change_of x) (automaton_of made))
behind x y is r = subst (λ (z : coded.Change). IfOk r (λ made. IsOfSizeBehind (change_of z) (automaton_of made))) (sym is)

pub product_with-requires-clause-size : goal.product_with-requires-clause-size
product_with-requires-clause-size c = before _ _ c.in-Product.is _ c.requires.size

pub product_or_with-requires-clause-size : goal.product_or_with-requires-clause-size
product_or_with-requires-clause-size c = before _ _ c.in-ProductOr.is _ c.requires.size

pub sum_with-requires-clause-size : goal.sum_with-requires-clause-size
sum_with-requires-clause-size c = before _ _ c.in-Sum.is _ c.requires.size

pub hide-requires : goal.hide-requires
hide-requires c = record { size = before _ _ c.in-RemoveAp.is _ c.requires.size }

pub trimmed-requires : goal.trimmed-requires
trimmed-requires c = record { size = before _ _ c.in-Trim.is _ c.requires.size }

pub complemented-requires : goal.complemented-requires
complemented-requires c = record { size = before _ _ c.in-Complement.is _ c.requires.size }

pub bring-requires-clause-size : goal.bring-requires-clause-size
bring-requires-clause-size c = before _ _ c.in-Bring.is _ c.requires.size

pub complete-requires : goal.complete-requires
complete-requires c = record { size = before _ _ c.in-Complete.is _ c.requires.size }

pub returns-in-Product-clause-size : goal.returns-in-Product-clause-size
returns-in-Product-clause-size c = behind _ _ c.in-Product.is c.product_with.result c.product_with.ensures.size

pub returns-in-ProductOr-clause-size : goal.returns-in-ProductOr-clause-size
returns-in-ProductOr-clause-size c = behind _ _ c.in-ProductOr.is c.product_or_with.result c.product_or_with.ensures.size

pub returns-in-Sum-clause-size : goal.returns-in-Sum-clause-size
returns-in-Sum-clause-size c = behind _ _ c.in-Sum.is c.sum_with.result c.sum_with.ensures.size

pub returns-in-RemoveAp-clause-size : goal.returns-in-RemoveAp-clause-size
returns-in-RemoveAp-clause-size c = behind _ _ c.in-RemoveAp.is c.hide.result c.hide.ensures.size

pub returns-in-Trim-clause-size : goal.returns-in-Trim-clause-size
returns-in-Trim-clause-size c = behind _ _ c.in-Trim.is c.trimmed.result c.trimmed.ensures.size

pub returns-in-Complement-clause-size : goal.returns-in-Complement-clause-size
returns-in-Complement-clause-size c = behind _ _ c.in-Complement.is c.complemented.result c.complemented.ensures.size

pub returns-in-Bring-clause-size : goal.returns-in-Bring-clause-size
returns-in-Bring-clause-size c = behind _ _ c.in-Bring.is c.bring.result c.bring.ensures.size

pub returns-in-Complete-clause-size : goal.returns-in-Complete-clause-size
returns-in-Complete-clause-size c = behind _ _ c.in-Complete.is c.complete.result c.complete.ensures.size
