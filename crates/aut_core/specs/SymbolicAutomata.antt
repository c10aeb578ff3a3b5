-- Symbolic automata, whose labels are guards (decision diagrams) of a store of their own, and the automata that they are.
use Rattle.std.specs.Prelude.{◌≡◌, ◌≢◌, ℕ, ◌<◌, ◌≤◌, List, length, map, All, AllPairs}
use Rattle.std.specs.List.Sorted.{IsNonDecreasing}
use Rattle.aut_base.specs.Automaton.{Automaton, IsWellFormed, LabelledEdge}
use Rattle.aut_base.specs.CanonicalLabel.{canonical}
use Rattle.aut_base.specs.Formula.{FormulaTree, SetsBelow}
use Rattle.aut_base.specs.declared.limit.TheConstants.{MOST_NAMES}
use Rattle.aut_core.specs.declared.link.Link.{Link}
use Rattle.label_guards.specs.Store.{Has, Store, label_in}

pub record SymbolicAutomaton : Type 0 where
  pub names : List (List ℕ)
  pub starts : List ℕ
  pub states : ℕ
  -- the edges, with guards of the store
  pub links : List Link
  pub sets : ℕ
  pub formula : FormulaTree
  pub store : Store

-- the edge of a link: the same states and marks, and the label that its guard has in the store
abbrev pub edge_of : Store → Link → LabelledEdge
edge_of s l = record { from = l.from; label = label_in s l.guard; to = l.to; marks = l.marks }

-- the automaton with labels as trees, whose k-th edge is that of the k-th link
abbrev pub automaton_of : SymbolicAutomaton → Automaton
automaton_of c = record { names = c.names; starts = c.starts; states = c.states; edges = map (edge_of c.store) c.links; sets = c.sets; formula = c.formula }

-- the link has a guard of the store, and its states and marks are among the automaton's
pub record IsLinkOf (c : SymbolicAutomaton) (l : Link) : Type 0 where
  pub from : l.from < c.states
  pub guard : Has c.store l.guard
  pub to : l.to < c.states
  pub marks : All (λ mark. mark < c.sets) l.marks

-- The parts fit together to an automaton. That names differ and marks increase is ensured by their types.
pub record AreSymbolicParts (c : SymbolicAutomaton) : Type 0 where
  pub few : length c.names ≤ MOST_NAMES
  pub store_names : c.store.names ≡ length c.names
  pub starts_differ : AllPairs (λ p q. p ≢ q) c.starts
  pub starts : All (λ p. p < c.states) c.starts
  pub in_order : IsNonDecreasing (map (λ l. l.from) c.links)
  pub links : All (IsLinkOf c) c.links
  pub formula : SetsBelow c.sets c.formula

-- The invariant of each automaton: its parts fit together, it is well formed, and its labels are canonical.
pub record IsWellFormedSymbolic (c : SymbolicAutomaton) : Type 0 where
  pub parts : AreSymbolicParts c
  pub well_formed : IsWellFormed (automaton_of c)
  pub settled : canonical (automaton_of c) ≡ automaton_of c
