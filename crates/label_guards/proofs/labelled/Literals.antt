-- The places of literals, alone and together with another place.
use Rattle.std.proofs.Common.{◌≡◌, ℕ, Bool, true, false, not, ◌&&◌, ◌||◌, if◌then◌else◌, ◌∙◌, ap, refl, sym}
use Rattle.aut_base.specs.CanonicalLabel.{literal_tree}
use Rattle.aut_base.specs.Label.{Prop, Not, truth}
use Rattle.label_guards.specs.declared.cubes.Literal.{Literal}
use Rattle.label_guards.specs.declared.guards.Operation.{Operation}
use Rattle.label_guards.specs.Guards.{IsGuardOf, literal_truth, truth_in}
use Rattle.label_guards.specs.Nodes.{Grows, IsReducedDiagram}
use Rattle.label_guards.specs.Operations.{IsJoin, IsPlaceOf, joins}
use Rattle.label_guards.specs.Pieces.{literal_of}
use Rattle.label_guards.specs.Store.{Has, HasPlace, Store, outcome}
use Rattle.label_guards.specs.declared.guard.Guard.{Guard}
use Rattle.label_guards.proofs.diagrams.Outcomes.{outcome-false, outcome-true}
use Rattle.label_guards.proofs.labelled.LabelTruth.{at, guard_of, truth_is}
use Rattle.label_guards.proofs.labelled.Parts.{IsBranch, joined_branch, joined_place, met_branch, place_same}

-- the literal as a label says the same
tree_truth : (l : Literal) (on : ℕ → Bool) → truth on (literal_tree (literal_of l)) ≡ literal_truth l.prop l.holds on
tree_truth l on = by_cases l.holds
  where
    by_cases : (b : Bool) → truth on (if b then Prop l.prop else Not (Prop l.prop)) ≡ (if b then on l.prop else not (on l.prop))
    by_cases true = refl
    by_cases false = refl

pub met_above : (s t : Store) (l : Literal) (place result : ℕ) → IsBranch s t (literal_tree (literal_of l)) 0 place result
    → IsPlaceOf t (λ on. literal_truth l.prop l.holds on && outcome s.nodes on place) result
met_above s t l place result is =
    place_same t _ _ result (λ on. ap (λ (b : Bool). b && outcome s.nodes on place) (tree_truth l on)) (met_branch s t _ (literal_tree (literal_of l)) place result refl is)

pub joined_above : (s t : Store) (l : Literal) (place result : ℕ) → IsBranch s t (literal_tree (literal_of l)) place 1 result
    → IsPlaceOf t (λ on. literal_truth l.prop l.holds on || outcome s.nodes on place) result
joined_above s t l place result is =
    place_same t _ _ result (λ on. ap (λ (b : Bool). b || outcome s.nodes on place) (tree_truth l on)) (joined_branch s t _ (literal_tree (literal_of l)) place result refl is)

-- the place of a literal alone
alone : (s t : Store) (l : Literal) (result : ℕ) → IsBranch s t (literal_tree (literal_of l)) 0 1 result → IsPlaceOf t (literal_truth l.prop l.holds) result
alone s t l result is = record {
  has = is.has;
  truth = λ on. is.truth on
      ∙ ((λ i. if truth on (literal_tree (literal_of l)) then outcome-true s.nodes on i else outcome-false s.nodes on i) ∙ (itself (truth on (literal_tree (literal_of l))) ∙ tree_truth l on));
}
  where
    itself : (b : Bool) → (if b then true else false) ≡ b
    itself true = refl
    itself false = refl

-- a literal and a place, by the table's operations
pub joined_beside : {s t u : Store} → Grows s t → Grows t u → (operation : Operation) (l : Literal) (own place result : ℕ) → HasPlace s place
    → IsBranch s t (literal_tree (literal_of l)) 0 1 own → IsJoin u operation own place result
    → IsPlaceOf u (λ on. joins operation (literal_truth l.prop l.holds on) (outcome s.nodes on place)) result
joined_beside {s} {t} first second operation l own place result has is joined =
    joined_place first second operation (literal_truth l.prop l.holds) own place result has (alone s t l own is) joined

-- the guard of a literal and another guard
pub beside_guard : {old new : Store} → IsReducedDiagram old.names old.nodes → IsReducedDiagram new.names new.nodes → (operation : Operation) (prop : ℕ) (holds : Bool) (g : Guard) (place : ℕ)
    → Has old g
    → IsPlaceOf new (λ on. joins operation (literal_truth prop holds on) (outcome old.nodes on g.place)) place
    → IsGuardOf new (λ on. joins operation (literal_truth prop holds on) (truth_in old g on)) (at place)
beside_guard {old} {new} was is operation prop holds g place has placed = guard_of new is _ (at place) placed.has
    (λ on. placed.truth on ∙ (λ i. joins operation (literal_truth prop holds on) (sym (truth_is old was g has on) i)))
