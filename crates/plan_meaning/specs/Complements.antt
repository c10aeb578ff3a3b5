-- The complements that are kept from one automaton to the next, each that of the operand of its option.
use Rattle.std.specs.Prelude.{◌≡◌, ◌+◌, ◌*◌, ◌≤◌, List, Option, IfSome, is_some, true}
use Rattle.aut_base.specs.Automaton.{Automaton}
use Rattle.aut_base.specs.declared.limit.Limit.{Limit}
use Rattle.aut_base.specs.declared.limit.TheConstants.{MOST_NODES}
use Rattle.aut_core.specs.SymbolicAutomata.{SymbolicAutomaton, automaton_of}
use Rattle.filter_plan.specs.declared.plan.Plan.{Plan}
use Rattle.parity_det.specs.Complements.{IsComplementAutomaton}
use Rattle.parity_laws.specs.Complement.{AreComplementLanguages}
use Rattle.plan_meaning.specs.Limits.{PassesUnlessDeterministic}
use Rattle.plan_meaning.specs.Operands.{operand_at, place_of_equivalent_to, place_of_included_in, refuted_operand}
use Rattle.plan_meaning.specs.declared.complements.Complements.{Complements}

-- `co` is the complement of `b`, whose construction passes no limit.
pub record IsKeptComplement (b co : Automaton) : Type 0 where
  pub complements : AreComplementLanguages b co
  pub shape : IsComplementAutomaton b co
  pub names : co.names ≡ b.names
  pub sets : co.sets ≤ b.sets + (2 * MOST_NODES + 1)
  pub within : (which : Limit) → PassesUnlessDeterministic which b → ⊥

-- if a complement is kept, it is that of this automaton
abbrev pub KeepsComplement : Automaton → Option SymbolicAutomaton → Type 0
KeepsComplement b kept = IfSome kept (λ co. IsKeptComplement b (automaton_of co))

-- If a complement is kept for an option, it is that of the option's operand.
pub record AreComplementsKept (p : Plan) (ops : List Automaton) (cs : Complements) : Type 0 where
  pub included_in : IfSome (operand_at p.included_in place_of_included_in ops) (λ b. KeepsComplement b cs.included_in)
  pub equivalent_to : IfSome (operand_at p.equivalent_to (place_of_equivalent_to p) ops) (λ b. KeepsComplement b cs.equivalent_to)
  pub refuted : IfSome (refuted_operand p ops) (λ b. KeepsComplement b cs.refuted)

-- A complement that was kept before is kept unchanged.
abbrev pub StaysKept : Option SymbolicAutomaton → Option SymbolicAutomaton → Type 0
StaysKept old new = is_some old ≡ true → new ≡ old

pub record StayKept (old new : Complements) : Type 0 where
  pub included_in : StaysKept old.included_in new.included_in
  pub equivalent_to : StaysKept old.equivalent_to new.equivalent_to
  pub refuted : StaysKept old.refuted new.refuted

-- nothing is kept yet, so that it is true of any operands
abbrev pub AreFresh : Complements → Type 0
AreFresh cs = (p : Plan) (ops : List Automaton) → AreComplementsKept p ops cs
