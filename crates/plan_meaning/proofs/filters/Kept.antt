-- The complements that are kept, while filters are examined one after the other.
use Rattle.std.proofs.Common.{◌≡◌, ◌∙◌, ◌<◌, ℕ, get_or, is_some, true, length, List, [], ◌∷◌, Option, Some, IfSome, None, subst, sym}
use Rattle.std.specs.Option.{option_map}
use Rattle.std.specs.List.{AllByRecursion}
use Rattle.std.proofs.lemmas.List.Elements.{All-cons, All-nil}
use Rattle.aut_base.specs.Automaton.{Automaton}
use Rattle.aut_core.specs.SymbolicAutomata.{SymbolicAutomaton}
use Rattle.filter_plan.specs.declared.plan.Plan.{Plan}
use Rattle.plan_meaning.specs.Complements.{AreComplementsKept, KeepsComplement, StayKept, StaysKept}
use Rattle.plan_meaning.specs.declared.complements.Complements.{Complements}
use Rattle.plan_meaning.specs.declared.judging.filter.Filter as coded
use Rattle.plan_meaning.specs.declared.judging.filter.Filter.TheVariants as code
use Rattle.plan_meaning.specs.inner.Judging.{AreFrom, IsFrom, IsFilterReady, LeavesOthers}

-- the complement that is kept of an operand is that of its option
keeps_on : (o : Option Automaton) (b : Automaton) (slot : Option SymbolicAutomaton) → o ≡ Some b → KeepsComplement b slot → IfSome o (λ x. KeepsComplement x slot)
keeps_on o b slot is h = subst (λ (x : Option Automaton). IfSome x (λ y. KeepsComplement y slot)) (sym is) h

stays : (o : Option Automaton) (old new : Option SymbolicAutomaton) → new ≡ old → IfSome o (λ x. KeepsComplement x old) → IfSome o (λ x. KeepsComplement x new)
stays o old new same h = subst (λ (slot : Option SymbolicAutomaton). IfSome o (λ x. KeepsComplement x slot)) (sym same) h

-- ---- complements that are kept stay, over one call and the next

stays_kept_on : (x y z : Option SymbolicAutomaton) → StaysKept x y → StaysKept y z → StaysKept x z
stays_kept_on x y z first next some = next (subst (λ (s : Option SymbolicAutomaton). is_some s ≡ true) (sym (first some)) some) ∙ first some

pub stay_kept_on : {a b c : Complements} → StayKept a b → StayKept b c → StayKept a c
stay_kept_on first next = record {
  included_in = stays_kept_on _ _ _ first.included_in next.included_in;
  equivalent_to = stays_kept_on _ _ _ first.equivalent_to next.equivalent_to;
  refuted = stays_kept_on _ _ _ first.refuted next.refuted;
}

module _ (p : Plan) (ops : List Automaton) where
  pub kept_on : (f : coded.Filter) (old new : Complements) → IsFrom p ops f → AreComplementsKept p ops old → IsFilterReady f new → LeavesOthers f old new → AreComplementsKept p ops new
  kept_on (code.IncludedIn other) old new from kept now others = record {
    included_in = keeps_on _ _ new.included_in from.1 now.1;
    equivalent_to = stays _ old.equivalent_to new.equivalent_to others.0 kept.equivalent_to;
    refuted = stays _ old.refuted new.refuted others.1 kept.refuted;
  }
  kept_on (code.EquivalentTo other) old new from kept now others = record {
    included_in = stays _ old.included_in new.included_in others.0 kept.included_in;
    equivalent_to = keeps_on _ _ new.equivalent_to from.1 now.1;
    refuted = stays _ old.refuted new.refuted others.1 kept.refuted;
  }
  kept_on _ old new from kept now others = subst (AreComplementsKept p ops) (sym others) kept

  -- a filter of a list
  pub from_at : (xs : List (Option coded.Filter)) (i : ℕ) (d : Option coded.Filter) (f : coded.Filter) → AreFrom p ops xs → i < length xs → get_or xs i d ≡ Some f → IsFrom p ops f
  from_at xs i d f all within is = subst (λ (o : Option coded.Filter). IfSome o (IsFrom p ops)) is (all i d within)

  -- each filter of a list, where it is one after the other
  pub are_from : (xs : List (Option coded.Filter)) → AllByRecursion (λ x. IfSome x (IsFrom p ops)) xs → AreFrom p ops xs
  are_from [] h = All-nil (λ x. IfSome x (IsFrom p ops))
  are_from (x ∷ xs) h = All-cons (λ y. IfSome y (IsFrom p ops)) x xs h.0 (are_from xs h.1)

-- an operand that is given is the one of the definition
pub operand_is : {B : Type 0} (P : B → Type 0) (view : B → Automaton) (found : Option B) (there : Option Automaton) → option_map view found ≡ there → IfSome found P
    → IfSome found (λ x. P x × (there ≡ Some (view x)))
operand_is P view None there is h = tt
operand_is P view (Some x) there is h = (h, sym is)
