-- An automaton under another condition over its sets.
use Rattle.std.specs.Prelude.{ℕ, Bool, List}
use Rattle.std.proofs.Common.{ap}
use Rattle.aut_base.specs.Automaton.{Automaton}
use Rattle.aut_base.specs.Formula.{FormulaTree, SetsBelow}
use Rattle.aut_core.specs.SymbolicAutomata.{SymbolicAutomaton}
use Rattle.aut_core.specs.Kept.{IsIndexed}

-- its index and its flags stay right, since they don't depend on the condition
pub kept_under : (c : SymbolicAutomaton) (f : FormulaTree) (rows : List ℕ) (deterministic complete : Bool) → SetsBelow c.sets f → IsIndexed c rows deterministic complete
    → IsIndexed (record c { formula = f }) rows deterministic complete
kept_under c f rows deterministic complete below kept = record {
  core = record {
    parts = record {
      few = kept.core.parts.few;
      store_names = kept.core.parts.store_names;
      starts_differ = kept.core.parts.starts_differ;
      starts = kept.core.parts.starts;
      in_order = kept.core.parts.in_order;
      links = λ k d within. (let link = kept.core.parts.links k d within in record { from = link.from; guard = link.guard; to = link.to; marks = link.marks });
      formula = below;
    };
    well_formed = record {
      names_differ = kept.core.well_formed.names_differ;
      starts_differ = kept.core.well_formed.starts_differ;
      starts = kept.core.well_formed.starts;
      in_order = kept.core.well_formed.in_order;
      edges = λ k d within. (let e = kept.core.well_formed.edges k d within in record { from = e.from; to = e.to; label = e.label; marks = e.marks; marks_rise = e.marks_rise });
      formula = below;
    };
    settled = ap (λ (a : Automaton). record a { formula = f }) kept.core.settled;
  };
  index = kept.index;
  deterministic = (
    λ is. (let d = kept.deterministic.0 is in record { start = d.start; edges = d.edges }),
    λ d. kept.deterministic.1 (record { start = d.start; edges = d.edges }),
  );
  complete = (
    λ is. (let d = kept.complete.0 is in record { start = d.start; edges = λ q less x. (let g = d.edges q less x in record { edge = g.edge; is_edge = g.is_edge; from = g.from; meets = g.meets }) }),
    λ d. kept.complete.1 (record { start = d.start; edges = λ q less x. (let g = d.edges q less x in record { edge = g.edge; is_edge = g.is_edge; from = g.from; meets = g.meets }) }),
  );
}
