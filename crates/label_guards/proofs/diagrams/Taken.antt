-- Nodes that are taken back: those before them stay as they are.
use Rattle.std.proofs.Common.{◌≡◌, ℕ, ◌+◌, ◌<◌, ◌≤◌, ◌∙◌, List, ◌++◌, ap, arith, drop, length, slice_get, Some, subst, sym, take}
use Rattle.std.proofs.lemmas.List.{take-append-drop, take-append-le, take_all}
use Rattle.std.proofs.lemmas.Option.{slice_get_within}
use Rattle.aut_base.proofs.lists.Lists.{slice_get-append_left}
use Rattle.label_guards.specs.declared.nodes.Node.{Node}
use Rattle.label_guards.specs.Nodes.{Grows, IsNode, IsReducedDiagram}
use Rattle.label_guards.specs.Store.{Store}
use Rattle.label_guards.proofs.diagrams.Reduced.{level_grows}

-- what is so of a store whose nodes behind the first ones are taken back
abbrev pub front_of : ℕ → Store → Store
front_of count s = record { names = s.names; nodes = take count s.nodes }

node_before : (names : ℕ) (ns more : List Node) (i : ℕ) (n : Node) → i < length ns → IsNode names (ns ++ more) (2 + i) n → IsNode names ns (2 + i) n
node_before names ns more i n h is = record {
  within = is.within;
  differ = is.differ;
  low = is.low;
  high = is.high;
  low_later = subst (λ m. n.prop < m) (level_grows names ns more n.low (let a = is.low in omega arith)) is.low_later;
  high_later = subst (λ m. n.prop < m) (level_grows names ns more n.high (let a = is.high in omega arith)) is.high_later;
}

front_reduced : (names : ℕ) (ns more : List Node) → IsReducedDiagram names (ns ++ more) → IsReducedDiagram names ns
front_reduced names ns more is = record {
  few = is.few;
  node = λ i n h. node_before names ns more i n (slice_get_within ns i n h) (is.node i n (there i n h));
  once = λ i j n h k. is.once i j n (there i n h) (there j n k);
}
  where
    there : (i : ℕ) (n : Node) → slice_get ns i ≡ Some n → slice_get (ns ++ more) i ≡ Some n
    there i n h = slice_get-append_left ns more i (slice_get_within ns i n h) ∙ h

pub taken_reduced : (names : ℕ) (ns : List Node) (count : ℕ) → IsReducedDiagram names ns → IsReducedDiagram names (take count ns)
taken_reduced names ns count is = front_reduced names (take count ns) (drop count ns) (subst (IsReducedDiagram names) (sym (take-append-drop count ns)) is)

-- Nodes that are added behind them change nothing of the first ones.
pub front_kept : {old new : Store} (count : ℕ) → count ≤ length old.nodes → Grows old new → front_of count new ≡ front_of count old
front_kept {old} {new} count within grows i = record {
  names = grows.names i;
  nodes = (ap (take count) grows.nodes ∙ take-append-le count old.nodes grows.more within) i;
}

-- where none are behind them
pub front_all : (count : ℕ) (s : Store) → length s.nodes ≤ count → front_of count s ≡ s
front_all count s all i = record { names = s.names; nodes = take_all count s.nodes all i }
