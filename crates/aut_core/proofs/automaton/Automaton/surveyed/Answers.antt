use Rattle.std.proofs.Common.{◌≢◌, ◌∙◌, ◌↔◌, ◌<◌, ℕ, IsTrue, List, All, AllPairs, ap, arith, leb, not, map, subst, sym}
use Rattle.std.proofs.lemmas.List.Elements.{All-map}
use Rattle.aut_base.specs.Automaton.{LabelledEdge}
use Rattle.aut_base.specs.Formula.{formula_tree}
use Rattle.aut_core.specs.SymbolicAutomata.{SymbolicAutomaton, automaton_of, edge_of}
use Rattle.aut_core.specs.Deterministic.{IsComplete, IsDeterministic}
use Rattle.aut_core.specs.Kept.{IsIndexed}
use Rattle.aut_core.specs.declared.automaton.Fields.{Fields}
use Rattle.aut_core.specs.declared.link.Link.{Link}
use Rattle.aut_core.proofs.Deterministic.{complete_if, deterministic_if, not_complete, not_deterministic}
use Rattle.aut_core.proofs.Made.{parts_are_well_formed}
use Rattle.aut_core.proofs.automaton.Automaton.surveyed.Goals as goal
use Rattle.aut_core.proofs.automaton.Automaton.surveyed.Goals.{then-is_single, else-is_single, then-has_start, else-has_start}

pub invariant_of-result : goal.invariant_of-result
invariant_of-result c =
    let core : SymbolicAutomaton = record {
      names = c.args.names;
      starts = c.args.starts;
      states = c.args.states;
      links = c.args.links;
      sets = c.args.sets;
      formula = formula_tree c.args.formula;
      store =
          c.args.guards;
    } in
    let within : All (λ (e : LabelledEdge). e.from < c.args.states) (map (edge_of c.args.guards) c.args.links) =
    All-map (λ (e : LabelledEdge). e.from < c.args.states) (edge_of c.args.guards) c.args.links (λ k d w. (c.requires.parts.links k d w).from) in
    let differ : AllPairs (λ (a b : List ℕ). a ≢ b) c.args.names = c.as_slice-names.ensures.distinct in
    let rise : All (λ (l : Link). AllPairs (λ m n. m < n) l.marks) c.args.links = subst (λ (ls : List Link). All (λ (l : Link). AllPairs (λ m n. m < n) l.marks) ls) c.as_slice.ensures
    c.marks_rise.ensures in
    let kept : IsIndexed core c.args.rows c.if-is_single.is_deterministic c.if-has_start.is_complete = record {
      core = parts_are_well_formed core c.requires.parts differ rise;
      index = c.requires.rows;
      deterministic = elim c.if-is_single.branch [
        | then-is_single w ↦ subst (λ b. IsTrue b ↔ IsDeterministic (automaton_of core)) (sym w.is_deterministic-is)
            (deterministic_if (automaton_of core) c.args.found.disjoint within (omega (arith, c.len-is_single.ensures, w.if-is_single.true)) c.requires.found.disjoint)
        | else-is_single w ↦ not_deterministic (automaton_of core) c.if-is_single.is_deterministic (omega (arith, c.len-is_single.ensures, w.if-is_single.false))
            (w.is_deterministic-is ∙ ap (λ n. leb n 1) c.len-is_single.ensures)
      ];
      complete = elim c.if-has_start.branch [
        | then-has_start w ↦ subst (λ b. IsTrue b ↔ IsComplete (automaton_of core)) (sym w.is_complete-is)
            (complete_if (automaton_of core) c.args.found.exhaustive (sym c.is_empty-has_start.ensures ∙ w.if-has_start.true) c.requires.found.exhaustive)
        | else-has_start w ↦ not_complete (automaton_of core) c.if-has_start.is_complete (sym c.is_empty-has_start.ensures ∙ w.if-has_start.false)
            (w.is_complete-is ∙ ap not c.is_empty-has_start.ensures)
      ];
    } in
    subst (λ (f : Fields). IsIndexed (record { names = f.names; starts = f.starts; states = f.states; links = f.links; sets = f.sets; formula = formula_tree f.formula; store = f.guards })
    f.rows f.is_deterministic f.is_complete) (sym c.in_ok-new.ensures.ok) kept
