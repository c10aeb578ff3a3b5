-- The label of a place says what the place says.
use Rattle.std.proofs.Common.{◌≡◌, ◌↔◌, ◌⊎◌, ℕ, zero, suc, ◌<◌, ◌∙◌, Bool, true, false, not, nat_eq, IsTrue, List, [], length, inl, inr, sym, refl, ap, arith}
use Rattle.aut_base.specs.CanonicalLabel.{canonical_label, label_of_truth}
use Rattle.aut_base.specs.Label.{LabelTree, truth, holds_at}
use Rattle.aut_base.specs.Valuation.{holds_in, truth_on, letter_of}
use Rattle.aut_base.specs.Word.{NameSet}
use Rattle.aut_base.proofs.canonical.CanonicalTruth.{truth-label_of}
use Rattle.aut_base.proofs.canonical.ValuationLetters.{letter_of_holds}
use Rattle.label_guards.specs.declared.guard.Guard.{Guard}
use Rattle.label_guards.specs.declared.guards.Operation.{Operation}
use Rattle.label_guards.specs.declared.guards.Operation.TheVariants.{Xor}
use Rattle.label_guards.specs.Guards.{truth_in, IsGuardOf, IsNeverMet, AreMetAlike, AreNames, IsMetByNone, IsMetByTheSame}
use Rattle.label_guards.specs.Nodes.{IsReducedDiagram, Grows}
use Rattle.label_guards.specs.Operations.{joins, differs, IsJoin, IsPlaceOf}
use Rattle.label_guards.specs.Store.{Store, Has, HasPlace, Keeps, outcome, label_at, label_in}
use Rattle.label_guards.proofs.diagrams.Agreement.{outcome_agrees}
use Rattle.label_guards.proofs.diagrams.Growth.{has_kept, outcome_kept}
use Rattle.label_guards.proofs.diagrams.Outcomes.{outcome-false, outcome-true}
use Rattle.label_guards.proofs.diagrams.Unique.{unique_on, outcome_firsts}

pub truth_is : (s : Store) → IsReducedDiagram s.names s.nodes → (g : Guard) → Has s g → (on : ℕ → Bool) → truth_in s g on ≡ outcome s.nodes on g.place
unfolding label_at
truth_is s is g has on = truth-label_of on s.names (λ v. outcome s.nodes (holds_in v) g.place) ∙ sym (outcome_firsts s is g.place has on)

pub keeps : {old new : Store} → Grows old new → Keeps old new
unfolding label_at
keeps {old} {new} grows = record {
  names = grows.names;
  has = λ g h. has_kept grows g.place h;
  labels = λ g has i. label_of_truth (grows.names i) (λ v. outcome_kept grows (holds_in v) g.place has i);
}

-- a guard is told by its place
pub guard_of : (s : Store) → IsReducedDiagram s.names s.nodes → (says : (ℕ → Bool) → Bool) (g : Guard) → Has s g → ((on : ℕ → Bool) → outcome s.nodes on g.place ≡ says on) → IsGuardOf s says g
guard_of s is says g has h = record { has = has; truth = λ on. truth_is s is g has on ∙ h on }

abbrev pub at : ℕ → Guard
at place = record { place = place }

pub never_is : (s : Store) → IsReducedDiagram s.names s.nodes → IsGuardOf s (λ on. false) (at 0)
never_is s is = guard_of s is (λ on. false) (at 0) (omega arith) (outcome-false s.nodes)

pub always_is : (s : Store) → IsReducedDiagram s.names s.nodes → IsGuardOf s (λ on. true) (at 1)
always_is s is = guard_of s is (λ on. true) (at 1) (omega arith) (outcome-true s.nodes)

-- a store without nodes has the two constants alone
pub only_constants : (s : Store) → IsReducedDiagram s.names s.nodes → s.nodes ≡ [] → (g : Guard) → Has s g → IsGuardOf s (λ on. false) g ⊎ IsGuardOf s (λ on. true) g
only_constants s is none g has = let size : length s.nodes ≡ 0 = ap length none in this g.place (omega arith)
  where
    this : (place : ℕ) → place < 2 → IsGuardOf s (λ on. false) (at place) ⊎ IsGuardOf s (λ on. true) (at place)
    this zero within = inl (never_is s is)
    this (suc zero) within = inr (always_is s is)
    this (suc (suc place)) within = absurd (omega arith)

pub joined_guard : {old new : Store} → IsReducedDiagram old.names old.nodes → IsReducedDiagram new.names new.nodes → Grows old new → (operation : Operation) (g h : Guard) (place : ℕ) → Has old g
    → Has old h → IsJoin new operation g.place h.place place → IsGuardOf new (λ on. joins operation (truth_in old g on) (truth_in old h on)) (at place)
joined_guard {old} {new} was is grows operation g h place left right joined = guard_of new is _ (at place) joined.has (λ on.
    joined.truth on ∙ (λ i. joins operation ((outcome_kept grows on g.place left ∙ sym (truth_is old was g left on)) i) ((outcome_kept grows on h.place right ∙ sym (truth_is old was h right on)) i)))

differs-true : (b : Bool) → differs b true ≡ not b
differs-true true = refl
differs-true false = refl

pub negated_guard : {old new : Store} → IsReducedDiagram old.names old.nodes → IsReducedDiagram new.names new.nodes → Grows old new → (g : Guard) (place : ℕ) → Has old g
    → IsJoin new Xor g.place 1 place
    → IsGuardOf new (λ on. not (truth_in old g on)) (at place)
negated_guard {old} {new} was is grows g place has joined = guard_of new is _ (at place) joined.has (λ on.
    joined.truth on ∙ ((λ i. differs ((outcome_kept grows on g.place has ∙ sym (truth_is old was g has on)) i) (outcome-true new.nodes on i)) ∙ differs-true (truth_in old g on)))

-- one number, one truth
by_number : (p q : ℕ) (P : Type 0) → (p ≡ q → P) → (P → p ≡ q) → IsTrue (nat_eq p q) ↔ P
by_number p q P to from = ((λ e. to (same_number e)), (λ p. number_same (from p)))
  where
    same_number : nat_eq p q ≡ true → p ≡ q
    same_number e = grind arith

    number_same : p ≡ q → nat_eq p q ≡ true
    number_same e = grind arith

-- a letter for each valuation
at_letter : (s : Store) → IsReducedDiagram s.names s.nodes → (names : List (List ℕ)) → AreNames s names → (p : ℕ) → HasPlace s p → (v : List Bool) → length v ≡ s.names
    → outcome s.nodes (holds_at names (letter_of names v)) p ≡ outcome s.nodes (holds_in v) p
at_letter s is names are p has v size =
    let count = are.0 in
    outcome_agrees s is p has (holds_at names (letter_of names v)) (holds_in v) (λ i x y. letter_of_holds names v i are.1 (size ∙ sym count))

pub same_labels : (s : Store) → IsReducedDiagram s.names s.nodes → (g h : Guard) → Has s g → Has s h → IsTrue (nat_eq g.place h.place) ↔ (label_in s g ≡ label_in s h)
same_labels s is g h left right = by_number g.place h.place _ (λ e. ap (label_at s) e) (λ e. unique_on s is g.place h.place left right (λ v size.
    sym (truth_is s is g left (holds_in v)) ∙ (ap (truth (holds_in v)) e ∙ truth_is s is h right (holds_in v))))

pub same_valuations : (s : Store) → IsReducedDiagram s.names s.nodes → (g h : Guard) → Has s g → Has s h → IsTrue (nat_eq g.place h.place) ↔ AreMetAlike s g h
same_valuations s is g h left right = by_number g.place h.place _ (λ e v size. ap (λ (p : ℕ). truth_on (label_at s p) v) e) (λ same. unique_on s is g.place h.place left right (λ v size.
    sym (truth_is s is g left (holds_in v)) ∙ (same v size ∙ truth_is s is h right (holds_in v))))

pub same_letters : (s : Store) → IsReducedDiagram s.names s.nodes → (g h : Guard) → Has s g → Has s h → (names : List (List ℕ)) → AreNames s names
    → IsTrue (nat_eq g.place h.place) ↔ IsMetByTheSame s names g h
same_letters s is g h left right names are = by_number g.place h.place _ (λ e letter. ap (λ (p : ℕ). truth_in s (at p) (holds_at names letter)) e)
    (λ same. unique_on s is g.place h.place left right (λ v size.
    let letter : NameSet = letter_of names v in
    sym (at_letter s is names are g.place left v size)
    ∙ (sym (truth_is s is g left (holds_at names letter)) ∙ (same letter ∙ (truth_is s is h right (holds_at names letter) ∙ at_letter s is names are h.place right v size)))))

pub false_valuations : (s : Store) → IsReducedDiagram s.names s.nodes → (g : Guard) → Has s g → IsTrue (nat_eq g.place 0) ↔ IsNeverMet s g
false_valuations s is g has = by_number g.place 0 _ (λ e v size. ap (λ (p : ℕ). truth_on (label_at s p) v) e ∙ (never_is s is).truth (holds_in v))
    (λ none. unique_on s is g.place 0 has (omega arith) (λ v size.
    sym (truth_is s is g has (holds_in v)) ∙ (none v size ∙ sym (outcome-false s.nodes (holds_in v)))))

pub false_letters : (s : Store) → IsReducedDiagram s.names s.nodes → (g : Guard) → Has s g → (names : List (List ℕ)) → AreNames s names → IsTrue (nat_eq g.place 0) ↔ IsMetByNone s names g
false_letters s is g has names are = by_number g.place 0 _ (λ e letter. ap (λ (p : ℕ). truth_in s (at p) (holds_at names letter)) e ∙ (never_is s is).truth (holds_at names letter))
    (λ none. unique_on s is g.place 0 has (omega arith) (λ v size.
    let letter : NameSet = letter_of names v in
    sym (at_letter s is names are g.place has v size) ∙ (sym (truth_is s is g has (holds_at names letter)) ∙ (none letter ∙ sym (outcome-false s.nodes (holds_in v))))))

-- the label of a place with the truth of a label
pub canonical_at : {old new : Store} → Grows old new → (t : LabelTree) (place : ℕ) → IsPlaceOf new (λ on. truth on t) place → label_at new place ≡ canonical_label old.names t
unfolding label_at
canonical_at grows t place is = λ i. label_of_truth (grows.names i) (λ v. is.truth (holds_in v) i)

-- where the walk down a diagram ends
pub walked : (s : Store) → IsReducedDiagram s.names s.nodes → (g : Guard) → Has s g → (on : ℕ → Bool) (place : ℕ) → place < 2 → outcome s.nodes on place ≡ outcome s.nodes on g.place
    → nat_eq place 1 ≡ truth_in s g on
walked s is g has on zero end same = sym (truth_is s is g has on ∙ (sym same ∙ outcome-false s.nodes on))
walked s is g has on (suc zero) end same = sym (truth_is s is g has on ∙ (sym same ∙ outcome-true s.nodes on))
walked s is g has on (suc (suc place)) end same = absurd (omega arith)
