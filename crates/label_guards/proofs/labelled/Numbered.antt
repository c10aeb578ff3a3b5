-- The place that is true where one proposition is as it has to be, and where a later place is.
use Rattle.std.proofs.Common.{◌≡◌, ℕ, ◌∙◌, Bool, true, false, ◌&&◌, if◌then◌else◌, refl}
use Rattle.std.specs.Bool.{beq}
use Rattle.label_guards.specs.Nodes.{Grows, IsChoice}
use Rattle.label_guards.specs.Store.{Store, HasPlace, outcome}
use Rattle.label_guards.proofs.diagrams.Growth.{outcome_kept}
use Rattle.label_guards.proofs.diagrams.Outcomes.{outcome-false}

-- where the proposition has to hold
pub held : {s t : Store} → Grows s t → (prop place made : ℕ) → HasPlace s place → IsChoice t prop 0 place made
    → (on : ℕ → Bool) → outcome t.nodes on made ≡ (beq (on prop) true && outcome s.nodes on place)
held {s} {t} grows prop place made has choice on =
    choice.truth on ∙ ((λ i. if on prop then outcome_kept grows on place has i else outcome-false t.nodes on i) ∙ taken (on prop) (outcome s.nodes on place))
  where
    taken : (b c : Bool) → (if b then c else false) ≡ (beq b true && c)
    taken true c = refl
    taken false c = refl

-- where it has to fail
pub failed : {s t : Store} → Grows s t → (prop place made : ℕ) → HasPlace s place → IsChoice t prop place 0 made
    → (on : ℕ → Bool) → outcome t.nodes on made ≡ (beq (on prop) false && outcome s.nodes on place)
failed {s} {t} grows prop place made has choice on =
    choice.truth on ∙ ((λ i. if on prop then outcome-false t.nodes on i else outcome_kept grows on place has i) ∙ taken (on prop) (outcome s.nodes on place))
  where
    taken : (b c : Bool) → (if b then false else c) ≡ (beq b false && c)
    taken true c = refl
    taken false c = refl
