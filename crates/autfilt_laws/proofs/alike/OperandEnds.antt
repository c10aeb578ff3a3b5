-- The texts alone determine where a run ends in the files of operands.
use Rattle.std.proofs.Common.{◌≡◌, ◌⊎◌, ℕ, List, [], ◌∷◌, Option, Some, None, refl, sym, ◌∙◌, subst, inl, inr}
use Rattle.aut_io.specs.Outside.{Texts}
use Rattle.autfilt_run.specs.declared.ended.End.TheVariants as end
use Rattle.autfilt_laws.proofs.alike.EndPlaces.{at_named}
use Rattle.autfilt_laws.proofs.alike.Faults.{Halted, Stopped, both_stopped, halted_look, in_operands, one_in_operands, open_there, stopped_in_operand, unfit_whole}
use Rattle.autfilt_laws.proofs.alike.Full.{IsFitted, fitted_proceeds, full_proceeds}
use Rattle.autfilt_laws.proofs.alike.Looks.{look_over, look_taken}
use Rattle.autfilt_laws.proofs.alike.Operands.{one_proceeds}
use Rattle.autfilt_laws.specs.Runs.{IsByText}
use Rattle.autfilt_run.specs.Events.{Point}
use Rattle.autfilt_run.specs.OperandEvents.{AreRead, FileOpened, OperandEvent, PassedOver, Proceeds, Taken}
use Rattle.autfilt_run.specs.Runs.{IsCounted, StopsAtOperand, StopsInOperands}
use Rattle.autfilt_run.specs.declared.fault.RunFault.{RunFault}
use Rattle.hoa_parser.specs.Standing.{OneStanding}

abbrev pub IsStoppedIn : Point → RunFault → Type 0
IsStoppedIn p f = Stopped (Unit {0}) in_operands p f

pub stopped_there : (f : RunFault) (name : List ℕ) (p : Point) (left : Option (List ℕ)) → IsByText (end.Fault f) → IsFitted p → StopsInOperands f name p left → IsCounted f p left → IsStoppedIn p f
stopped_there f name p left by fitted h c = stopped_in_operand f p left by fitted (at_named (Unit {0}) StopsAtOperand f name p left by h).at c

-- no file is open, and no other is to be opened
pub record IsThrough (p : Point) : Type 0 where
  pub closed : p.stream ≡ None
  pub none : p.coming ≡ []

-- something ended the run, or all were read
abbrev pub EndsThere : Point → Type 0
EndsThere p = ((f : RunFault) × IsStoppedIn p f) ⊎ IsThrough p

none_behind : OneStanding → (texts : Texts) (f : RunFault) (e : OperandEvent) (p q : Point) → Halted (Unit {0}) in_operands p f → Proceeds texts e p q → ⊥
none_behind one texts f (FileOpened n) p q h g = let none : None ≡ Some h.stream = sym g.closed ∙ h.is_open in cc
none_behind one texts f (Taken w) p q h g =
    unfit_whole in_operands w g.next f (halted_look one (Unit {0}) in_operands p q f _ _ h (look_taken p q w g)) g.good.valid g.good.within (λ which o. o)
none_behind one texts f (PassedOver n) p q h g = halted_look one (Unit {0}) in_operands p q f _ _ h (look_over p q n g)

no_more : OneStanding → (texts : Texts) (f : RunFault) (e : OperandEvent) (p q : Point) → IsFitted p → IsStoppedIn p f → Proceeds texts e p q → ⊥
no_more one texts f e p q fitted (inl h) g = none_behind one texts f e p q h.halted g
no_more one texts f e p q fitted (inr h) g = full_proceeds texts e p q fitted h.full g

closed_proceeds : (texts : Texts) (e : OperandEvent) (p q : Point) → IsThrough p → Proceeds texts e p q → ⊥
closed_proceeds texts (FileOpened n) p q h g = let all : (n ∷ g.others) ≡ [] = sym g.next ∙ h.none in cc
closed_proceeds texts (Taken w) p q h g = let some : None ≡ Some g.stream = sym h.closed ∙ g.is_open in cc
closed_proceeds texts (PassedOver n) p q h g = let some : None ≡ Some g.reads.stream = sym h.closed ∙ g.reads.is_open in cc

nothing_more : OneStanding → (texts : Texts) (e : OperandEvent) (p q : Point) → IsFitted p → EndsThere p → Proceeds texts e p q → ⊥
nothing_more one texts e p q fitted (inl h) g = no_more one texts h.0 e p q fitted h.1 g
nothing_more one texts e p q fitted (inr h) g = closed_proceeds texts e p q h g

pub same_operands : OneStanding → (texts : Texts) (es fs : List OperandEvent) (p q r : Point) → IsFitted p → AreRead texts es p q → AreRead texts fs p r → EndsThere q → EndsThere r
    → (es ≡ fs) × (q ≡ r)
same_operands one texts [] [] p q r fitted a b x y = (refl, sym a ∙ b)
same_operands one texts [] (f ∷ fs) p q r fitted a b x y = absurd (nothing_more one texts f p b.0 fitted (subst EndsThere (sym a) x) b.1)
same_operands one texts (e ∷ es) [] p q r fitted a b x y = absurd (nothing_more one texts e p a.0 fitted (subst EndsThere (sym b) y) a.1)
same_operands one texts (e ∷ es) (f ∷ fs) p q r fitted a b x y =
    let same = one_proceeds one texts e f p a.0 b.0 a.1 b.1 in
    let rest = same_operands one texts es fs a.0 q r (fitted_proceeds texts e p a.0 fitted a.1) a.2 (subst (λ (z : Point). AreRead texts fs z r) (sym same.1) b.2) x y in
    let first : e ≡ f = same.0 in
    let others : es ≡ fs = rest.0 in
    let whole : (e ∷ es) ≡ (f ∷ fs) = cc in
    (whole, rest.1)

pub one_fault : OneStanding → (p : Point) (f g : RunFault) → IsStoppedIn p f → IsStoppedIn p g → f ≡ g
one_fault one p f g a b = both_stopped one (Unit {0}) in_operands one_in_operands p f g a b

pub not_through : (p : Point) (f : RunFault) → IsStoppedIn p f → IsThrough p → ⊥
not_through p f h t = open_there (Unit {0}) in_operands p f h t.closed
