-- The edges that a description has, by what they share.
use Rattle.std.specs.Prelude.{◌≡◌, ◌==◌, ◌++◌, ℕ, List, [], ◌∷◌, Option, Some, None, filter, flat_map, map, slice_get}
use Rattle.std.specs.List.{AllByRecursion, enumerate_from}
use Rattle.std.specs.Option.{option_map_or}
use Rattle.aut_base.specs.Automaton.{LabelledEdge}
use Rattle.aut_base.specs.CanonicalLabel.{canonical_label}
use Rattle.aut_base.specs.Label.{AllBelow, LabelTree, LabelTrees, trees}
use Rattle.hoa_reader.specs.Described.{below, expanded, letter_label}
use Rattle.hoa_reader.specs.inner.Numbers.{marks_in_order, only_state}
use Rattle.hoa_reader.specs.inner.Growing.{AreAliasesKnown, meanings_by}
use Rattle.hoa_parser.specs.Raw.{RawTree, WrittenEdge, WrittenState, raw_list}
use Rattle.hoa_parser.specs.declared.raw.RawLabels.{RawLabels}
use Rattle.hoa_reader.specs.declared.elaborate.edges.Shared.{Shared}

abbrev pub HasKnown : Shared → Type 0
HasKnown x = AreAliasesKnown (meanings_by x.defs.items) x.defs.items x.known

-- the label with its aliases replaced, and those of the parts of a conjunction or disjunction
abbrev pub replaced : Shared → RawTree → LabelTree
replaced x t = expanded (meanings_by x.defs.items) t

abbrev pub parts_replaced : Shared → RawLabels → LabelTrees
parts_replaced x parts = trees (map (replaced x) (raw_list parts))

-- the label that is written for an edge
abbrev pub label_due : Option RawTree → Option RawTree → Option RawTree
label_due (Some t) own = Some t
label_due None own = own

abbrev pub label_written : WrittenState → WrittenEdge → Option RawTree
label_written s e = label_due s.label e.label

abbrev pub label_for : Shared → WrittenState → ℕ → WrittenEdge → LabelTree
label_for x s i e = option_map_or (expanded (meanings_by x.defs.items)) s.label
    (option_map_or (expanded (meanings_by x.defs.items)) e.label (letter_label x.names i))

abbrev pub tree_edge_for : Shared → WrittenState → ℕ → WrittenEdge → LabelledEdge
tree_edge_for x s i e = record { from = s.number; label = label_for x s i e; to = only_state e.to; marks = marks_in_order x.sets (s.marks ++ e.marks) }

-- of edges of the state, from this place in it on
abbrev pub tree_edges_at : Shared → WrittenState → ℕ → List WrittenEdge → List LabelledEdge
tree_edges_at x s i es = map (λ p. tree_edge_for x s p.0 p.1) (enumerate_from i es)

abbrev pub tree_edges_for : Shared → WrittenState → List LabelledEdge
tree_edges_for x s = tree_edges_at x s 0 s.edges

abbrev pub states_at : List WrittenState → ℕ → List WrittenState
states_at states q = filter (λ s. s.number == q) states

abbrev pub edges_for : Shared → List WrittenState → ℕ → List LabelledEdge
edges_for x states count = flat_map (λ q. flat_map (tree_edges_for x) (states_at states q)) (below count)

-- the edge with its label in canonical form, over so many propositions
abbrev pub settled : ℕ → LabelledEdge → LabelledEdge
settled n e = record e { label = canonical_label n e.label }

-- the labels of a state's edges speak of no more propositions than these
abbrev pub HasLabelsBelow : Shared → ℕ → WrittenState → Type 0
HasLabelsBelow x n s = AllByRecursion (λ (e : LabelledEdge). AllBelow n e.label) (tree_edges_for x s)

-- the state of this number is defined at this place alone
pub record IsDefinedAt (states : List WrittenState) (q place : ℕ) : Type 0 where
  pub state : WrittenState
  pub there : slice_get states place ≡ Some state
  pub alone : states_at states q ≡ state ∷ []

abbrev pub IsPlace : List WrittenState → ℕ → Option ℕ → Type 0
IsPlace states q None = states_at states q ≡ []
IsPlace states q (Some place) = IsDefinedAt states q place
