-- What states need so that their edges become links, and which links stand for which edges.
use Rattle.std.specs.Prelude.{◌≡◌, ◌++◌, ℕ, List, All, true, map}
use Rattle.std.specs.List.{list_all}
use Rattle.aut_base.specs.Automaton.{LabelledEdge}
use Rattle.aut_core.specs.Links.{StandFor}
use Rattle.aut_core.specs.SymbolicAutomata.{edge_of}
use Rattle.aut_core.specs.declared.link.Link.{Link}
use Rattle.hoa_parser.specs.Raw.{WrittenState}
use Rattle.hoa_reader.specs.Validity.{marks_below}
use Rattle.hoa_reader.specs.declared.elaborate.edges.Shared.{Shared}
use Rattle.hoa_reader.specs.inner.TreeEdges.{HasKnown, HasLabelsBelow, settled}
use Rattle.label_guards.specs.Store.{Store}

-- what all edges share is that of a store over so many propositions, and the states speak of nothing else
pub record CanBeLinked (x : Shared) (n : ℕ) (states : List WrittenState) : Type 0 where
  pub known : HasKnown x
  pub names : n ≡ x.names
  pub marks : list_all (marks_below x.sets) states ≡ true
  pub below : All (HasLabelsBelow x n) states

-- links under the guards of a store stand for these edges, whose labels were over so many propositions
abbrev pub AreLinked : ℕ → List LabelledEdge → Store → List Link → Type 0
AreLinked n edges s links = StandFor s links (map (settled n) edges)

-- to links of one store, those of these edges were added, and now all are of another
abbrev pub AreAdded : List LabelledEdge → Store → List Link → Store → List Link → Type 0
AreAdded edges old links new more = StandFor new more (map (edge_of old) links ++ map (settled old.names) edges)
