-- The loops that add edges level by level, and the parts of the automaton that is made of them.
use Rattle.std.proofs.Common.{◌≡◌, ◌∙◌, ◌+◌, ◌*◌, ◌<◌, ◌≤◌, ℕ, false, List, ◌∷◌, ◌++◌, All, ap, arith, flat_map, length, map, subst, sym}
use Rattle.std.specs.List.{range_with_len}
use Rattle.aut_base.proofs.lists.Lists.{flat_map-range_more}
use Rattle.aut_base.specs.Automaton.{IsWellFormed}
use Rattle.aut_core.proofs.Made.{parts_from}
use Rattle.aut_core.specs.SymbolicAutomata.{AreSymbolicParts, SymbolicAutomaton, IsWellFormedSymbolic, automaton_of, edge_of}
use Rattle.aut_core.specs.Surveys.{edges_from}
use Rattle.aut_core.specs.declared.link.Link.{Link}
use Rattle.label_guards.specs.Store.{Has, Store}
use Rattle.degeneralise.specs.Buchi.{Watch, level_edges, with_counters, levels}
use Rattle.degeneralise.specs.inner.Parts.{state_at}
use Rattle.degeneralise.proofs.LevelledWhole.{levelled_well_formed}
use Rattle.aut_base.specs.Formula.{FormulaTree}

pub flat_range_on : {Y : Type 0} (f : ℕ → List Y) (n : ℕ) → flat_map f (range_with_len 0 n) ++ f n ≡ flat_map f (range_with_len 0 (n + 1))
flat_range_on f n = sym (flat_map-range_more f n)

pub record AreLevelledParts (k : ℕ) (watch : ℕ → Watch) (old new : SymbolicAutomaton) : Type 0 where
  pub names : new.names ≡ old.names
  pub starts : new.starts ≡ map (λ start. state_at k start 0) old.starts
  pub states : new.states ≡ old.states * k
  pub store : new.store ≡ old.store
  pub has : All (λ (l : Link). Has old.store l.guard) new.links
  pub edges : map (edge_of old.store) new.links ≡ flat_map (λ state. level_edges k (edges_from state (map (edge_of old.store) old.links)) (watch state)) (range_with_len 0 old.states)
  pub sets : new.sets ≡ 1
  pub formula : new.formula ≡ FormulaTree.Inf 0 false

pub are_levelled : (k : ℕ) (watch : ℕ → Watch) (old new : SymbolicAutomaton) → AreLevelledParts k watch old new → automaton_of new ≡ with_counters k watch (automaton_of old)
are_levelled k watch old new are =
    let edges : map (edge_of new.store) new.links ≡ flat_map (λ state. level_edges k (edges_from state (map (edge_of old.store) old.links)) (watch state)) (range_with_len 0 old.states) =
    ap (λ (s : Store). map (edge_of s) new.links) are.store ∙ are.edges in
    λ i. record { names = are.names i; starts = are.starts i; states = are.states i; edges = edges i; sets = are.sets i; formula = are.formula i }

pub levelled_parts : (k : ℕ) (watch : ℕ → Watch) (old new : SymbolicAutomaton) → IsWellFormedSymbolic old → ((state : ℕ) → levels (watch state) ≤ k) → AreLevelledParts k watch old new
    → AreSymbolicParts new
levelled_parts k watch old new core room are =
    parts_from new (subst IsWellFormed (sym (are_levelled k watch old new are)) (levelled_well_formed k watch (automaton_of old) core.well_formed room))
    (omega (arith, core.parts.few, ap length are.names))
    (ap (λ (s : Store). s.names) are.store ∙ (core.parts.store_names ∙ sym (ap length are.names))) (subst (λ (s : Store). All (λ l. Has s l.guard) new.links) (sym are.store) are.has)
