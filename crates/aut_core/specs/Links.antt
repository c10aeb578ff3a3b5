-- Links that are given edges under guards of a store.
use Rattle.std.specs.Prelude.{◌≡◌, List, All, map}
use Rattle.aut_base.specs.Automaton.{LabelledEdge}
use Rattle.aut_core.specs.SymbolicAutomata.{edge_of}
use Rattle.aut_core.specs.declared.link.Link.{Link}
use Rattle.label_guards.specs.Store.{Has, Store}

-- the links have guards of the store, and are these edges by the labels of their guards
pub record StandFor (s : Store) (links : List Link) (es : List LabelledEdge) : Type 0 where
  pub has : All (λ l. Has s l.guard) links
  pub edges : map (edge_of s) links ≡ es
