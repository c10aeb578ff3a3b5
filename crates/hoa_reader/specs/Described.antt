-- The automaton that is described by what is written. It is what it should be where no rule is broken. Then each start and each edge
-- names one state.
use Rattle.std.specs.Prelude.{◌/◌, ◌%◌, ◌^◌, ◌+◌, max, ℕ, zero, suc, ◌==◌, if◌then◌else◌, List, [], ◌∷◌, ◌++◌, length, map, filter, filter_map, find, flat_map, get_or}
use Rattle.std.specs.List.{enumerate_from}
use Rattle.std.specs.Option.{option_map_or}
use Rattle.aut_base.specs.Automaton.{LabelledEdge, Automaton}
use Rattle.aut_base.specs.CanonicalLabel.{all_of}
use Rattle.aut_base.specs.Label.{LabelTree, LabelTrees}
use Rattle.aut_base.specs.Lists.{distinct}
use Rattle.aut_base.specs.Marks.{is_in}
use Rattle.hoa_parser.specs.Raw as raw
use Rattle.hoa_parser.specs.Raw.{RawTree, RawTrees, Written, WrittenEdge, WrittenState}
use Rattle.aut_base.specs.Text.{same_text}
use Rattle.hoa_reader.specs.Validity.{AliasLine, acceptance_of, alias_lines, written_names, starts_written, states_item, used_states}

-- the numbers below n, in order
abbrev pub below : ℕ → List ℕ
below zero = []
below (suc n) = below n ++ n ∷ []

-- the greatest number, 0 where there is none
abbrev pub greatest : List ℕ → ℕ
greatest [] = 0
greatest (x ∷ xs) = max x (greatest xs)

-- the number of states is written, or is the least one that is above each number that is used
abbrev pub state_count : Written → ℕ
state_count w = get_or (filter_map states_item w.items) 0 (greatest (map (λ q. q + 1) (used_states w)))

-- the state that a start or an edge names
abbrev pub only_state : List ℕ → ℕ
only_state states = get_or states 0 0

-- an alias and what it stands for, with no alias left in it
pub record Meaning : Type 0 where
  pub name : List ℕ
  pub label : LabelTree

-- the label with each alias replaced by what it stands for
abbrev mutual
  pub expanded : List Meaning → RawTree → LabelTree
  expanded meanings raw.True = LabelTree.True
  expanded meanings raw.False = LabelTree.False
  expanded meanings (raw.Prop i) = LabelTree.Prop i
  expanded meanings (raw.Alias name) = option_map_or (λ m. m.label) (find (λ m. same_text m.name name) meanings) LabelTree.False
  expanded meanings (raw.Not t) = LabelTree.Not (expanded meanings t)
  expanded meanings (raw.And a b cs) = LabelTree.And (expanded meanings a) (expanded meanings b) (each_expanded meanings cs)
  expanded meanings (raw.Or a b cs) = LabelTree.Or (expanded meanings a) (expanded meanings b) (each_expanded meanings cs)

  pub each_expanded : List Meaning → RawTrees → LabelTrees
  each_expanded meanings raw.none = LabelTrees.none
  each_expanded meanings (raw.more t ts) = LabelTrees.more (expanded meanings t) (each_expanded meanings ts)

-- the aliases of the lines, behind those of earlier lines, of which they may speak
abbrev pub meanings_after : List Meaning → List AliasLine → List Meaning
meanings_after earlier [] = earlier
meanings_after earlier (line ∷ lines) = meanings_after (earlier ++ record { name = line.name; label = expanded earlier line.label } ∷ []) lines

abbrev pub meanings_of : Written → List Meaning
meanings_of w = meanings_after [] (alias_lines w)

-- Proposition k holds at the i-th letter where bit k of i is 1.
abbrev pub literal : ℕ → ℕ → LabelTree
literal i k = if (i / (2 ^ k)) % 2 == 1 then LabelTree.Prop k else LabelTree.Not (LabelTree.Prop k)

-- the label of the i-th letter over n names
abbrev pub letter_label : ℕ → ℕ → LabelTree
letter_label n i = all_of (map (literal i) (below n))

-- the sets that are among these marks, in order
abbrev pub marks_in_order : ℕ → List ℕ → List ℕ
marks_in_order sets marks = filter (λ set. is_in set marks) (below sets)

-- The i-th edge of a state. Its label is the state's if it has one, else the edge's own, else the letter's. Its marks are the state's and its
-- own, in order.
abbrev pub tree_edge_of : Written → WrittenState → ℕ → WrittenEdge → LabelledEdge
tree_edge_of w s i e = record {
  from = s.number;
  label =
      option_map_or (expanded (meanings_of w)) s.label
      (option_map_or (expanded (meanings_of w)) e.label (letter_label (length (written_names w)) i));
  to = only_state e.to;
  marks = marks_in_order (acceptance_of w).sets (s.marks ++ e.marks);
}

abbrev pub tree_edges_of : Written → WrittenState → List LabelledEdge
tree_edges_of w s = map (λ p. tree_edge_of w s p.0 p.1) (enumerate_from 0 s.edges)

-- Its edges are those of each state, in order. A state has none where the body doesn't define it.
abbrev pub described : Written → Automaton
described w = record {
  names = written_names w;
  starts = distinct ◌==◌ (map only_state (starts_written w));
  states = state_count w;
  edges = flat_map (λ q. flat_map (tree_edges_of w) (filter (λ s. s.number == q) w.states)) (below (state_count w));
  sets = (acceptance_of w).sets;
  formula = (acceptance_of w).formula;
}
