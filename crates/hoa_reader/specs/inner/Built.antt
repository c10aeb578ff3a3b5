-- The automaton that is built but for what is moved out of the header, and what both make together.
use Rattle.std.specs.Prelude.{◌≡◌, ℕ, IsTrue, List, length, map}
use Rattle.aut_base.specs.Formula.{formula_tree}
use Rattle.aut_base.specs.declared.formula.Formula.{Formula}
use Rattle.aut_core.specs.SymbolicAutomata.{SymbolicAutomaton}
use Rattle.aut_core.specs.Links.{StandFor}
use Rattle.hoa_parser.specs.Raw.{Written}
use Rattle.hoa_reader.specs.Counts.{PassesNone}
use Rattle.hoa_reader.specs.Described.{described, state_count}
use Rattle.hoa_reader.specs.Validity.{IsValid, acceptance_of, written_names}
use Rattle.hoa_reader.specs.declared.elaborate.body.Body.{Body}
use Rattle.hoa_reader.specs.inner.Implicit.{AreImplicit}
use Rattle.hoa_reader.specs.inner.TreeEdges.{settled}

-- It is valid and within the limits, and this is what it describes but for names and condition. Its links stand for the edges, with
-- canonical labels.
pub record IsBodyOf (w : Written) (b : Body) : Type 0 where
  pub valid : IsValid w
  pub within : PassesNone w
  pub starts : b.starts ≡ (described w).starts
  pub states : b.states ≡ state_count w
  pub sets : b.sets ≡ (acceptance_of w).sets
  pub count : b.guards.names ≡ length (written_names w)
  pub stand : StandFor b.guards b.links (map (settled (length (written_names w))) (described w).edges)
  pub implicit : IsTrue b.implicit → AreImplicit (length (written_names w)) (state_count w) w.states

-- the automaton of names, of a condition and of the rest
abbrev pub symbolic_of_body : List (List ℕ) → Formula → Body → SymbolicAutomaton
symbolic_of_body names formula b = record {
  names = names;
  starts = b.starts;
  states = b.states;
  links = b.links;
  sets = b.sets;
  formula = formula_tree formula;
  store = b.guards;
}
