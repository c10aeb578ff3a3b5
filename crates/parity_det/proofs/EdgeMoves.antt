-- The moves of the edges from a set of states have states of the automaton as their ends.
use Rattle.std.proofs.Common.{◌==◌, ℕ, All, Bool, List, filter}
use Rattle.std.proofs.Common.{subst}
use Rattle.std.proofs.lemmas.List.Elements.{All-contains}
use Rattle.aut_base.proofs.lists.Members.{each_there, from_filter, from_flat_map, from_map}
use Rattle.aut_base.specs.Automaton.{IsEdgeOf, LabelledEdge}
use Rattle.aut_core.specs.SymbolicAutomata.{SymbolicAutomaton, IsWellFormedSymbolic, automaton_of}
use Rattle.aut_core.specs.Surveys.{edges_from}
use Rattle.letter_classes.specs.SetClasses.{set_edges}
use Rattle.parity_det.specs.inner.Systems.{moves_of}
use Rattle.parity_laws.specs.Buchi.{move_of}
use Rattle.safra_trees.specs.Events.{IsMoveInRange}

pub moves_within : (c : SymbolicAutomaton) → IsWellFormedSymbolic c → (set : List ℕ) (reads : LabelledEdge → Bool) → All (IsMoveInRange c.states) (moves_of reads (set_edges (automaton_of c) set))
moves_within c core set reads = each_there (IsMoveInRange c.states) (moves_of reads (set_edges (automaton_of c) set)) (λ m there.
    let a = automaton_of c in
    let found = from_map move_of (filter reads (set_edges a set)) m there in
    let kept = from_filter reads (set_edges a set) found.0 found.1 in
    let place = from_flat_map (λ q. edges_from q a.edges) set found.0 kept.0 in
    let edge = from_filter (λ (e : LabelledEdge). e.from == place.0) a.edges found.0 place.2 in
    let bounds = All-contains (IsEdgeOf a) a.edges found.0 core.well_formed.edges edge.0 in
    subst (IsMoveInRange c.states) found.2 (record { from = bounds.from; to = bounds.to }))
