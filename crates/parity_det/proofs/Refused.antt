-- An exploration of trees that is refused meets the limit that it names, and meets it first.
use Rattle.std.proofs.Common.{◌≡◌, List, inl, inr, refl, subst}
use Rattle.aut_base.specs.Automaton.{Automaton}
use Rattle.exploration.specs.Explorations.{IsFaultMet}
use Rattle.exploration.specs.Turns.{Comes, LimitMet, begin}
use Rattle.exploration.specs.declared.fault.Fault.{Fault}
use Rattle.exploration.specs.declared.fault.Fault.TheVariants as limit
use Rattle.parity_det.proofs.TreeMoves.{start_tree}
use Rattle.parity_det.specs.Determinisation.{tree_rules}
use Rattle.parity_det.specs.Faults.{fault_of_exploration}
use Rattle.parity_det.specs.inner.Systems.{MeetsFirst}
use Rattle.parity_det.specs.declared.fault.DetFault.TheVariants as det
use Rattle.safra_trees.specs.Trees.{Node}

-- the limit that comes first
pub met_first : (b : Automaton) (start : List Node) (f wanted : Fault) → start ≡ start_tree b → IsFaultMet (tree_rules b) (begin start) f → f ≡ wanted → (wanted ≡ limit.Memory → ⊥)
    → MeetsFirst b wanted
met_first b start f wanted same met is other =
    subst (λ (s : List Node). Comes (tree_rules b) (begin s) (LimitMet wanted)) same (elim (subst (IsFaultMet (tree_rules b) (begin start)) is met) [
      | inl memory ↦ absurd (other memory)
      | inr comes ↦ comes
    ])

pub trees_fault : (f : Fault) → fault_of_exploration f ≡ det.Trees → f ≡ limit.States
trees_fault limit.States is = refl
trees_fault limit.Classes is = absurd cc
trees_fault limit.StepFailed is = absurd cc
trees_fault limit.Memory is = absurd cc

pub nodes_fault : (f : Fault) → fault_of_exploration f ≡ det.Nodes → f ≡ limit.StepFailed
nodes_fault limit.StepFailed is = refl
nodes_fault limit.States is = absurd cc
nodes_fault limit.Classes is = absurd cc
nodes_fault limit.Memory is = absurd cc

pub classes_fault : (f : Fault) → fault_of_exploration f ≡ det.Classes → f ≡ limit.Classes
classes_fault limit.Classes is = refl
classes_fault limit.States is = absurd cc
classes_fault limit.StepFailed is = absurd cc
classes_fault limit.Memory is = absurd cc
