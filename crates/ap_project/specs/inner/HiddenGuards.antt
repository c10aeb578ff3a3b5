-- Guards with a proposition hidden, and the table of those that were computed.
use Rattle.std.specs.Prelude.{◌≡◌, ◌<◌, ℕ, Bool, true, false, All, Contains, List, [], Some, cond, length, nat_eq, slice_get}
use Rattle.std.specs.List.{slice_index_or}
use Rattle.std.specs.Map.{lookup}
use Rattle.ap_project.specs.Hiding.{hidden_label, hidden_value}
use Rattle.ap_project.specs.declared.hide.Hide.{Hide}
use Rattle.aut_base.specs.Automaton.{LabelledEdge}
use Rattle.aut_core.specs.SymbolicAutomata.{SymbolicAutomaton, edge_of}
use Rattle.aut_core.specs.declared.link.Link.{Link}
use Rattle.label_guards.specs.Guards.{truth_in, with_prop}
use Rattle.label_guards.specs.Store.{Has, Store, label_in}
use Rattle.label_guards.specs.declared.guard.Guard.{Guard}

-- the truth of a guard with a proposition hidden
abbrev pub hidden_in : Store → Hide → ℕ → Guard → (ℕ → Bool) → Bool
hidden_in s how prop g on = hidden_value how (truth_in s g (with_prop on prop false)) (truth_in s g (with_prop on prop true))

-- h of store t is g of store s with the proposition hidden; proposition k of s is proposition `to[k]` of t
pub record IsHiddenGuard (s t : Store) (how : Hide) (prop : ℕ) (to : List ℕ) (g h : Guard) : Type 0 where
  pub from : Has s g
  pub has : Has t h
  pub truth : (on : ℕ → Bool) → truth_in t h on ≡ hidden_in s how prop g (λ k. on (slice_index_or to k 0))

-- indices of a list of `count` items, if it has any
abbrev pub ArePlacesWithin : ℕ → List ℕ → Type 0
ArePlacesWithin count places = 0 < count → All (λ place. place < count) places

-- the index in the second list of each name of the first, for the names that the second has
pub record ArePlacesOfNames (names others : List (List ℕ)) (to : List ℕ) : Type 0 where
  pub count : length to ≡ length names
  pub within : ArePlacesWithin (length others) to
  pub places : (k : ℕ) (name : List ℕ) → slice_get names k ≡ Some name → Contains others name → slice_get others (slice_index_or to k 0) ≡ Some name

-- the name of this index
abbrev pub name_at : List (List ℕ) → ℕ → List ℕ
name_at names k = slice_index_or names k []

-- the edge of a link, with the proposition hidden in its label
abbrev pub hidden_link : Hide → ℕ → SymbolicAutomaton → Link → LabelledEdge
hidden_link how prop a l = record (edge_of a.store l) { label = hidden_label how (name_at a.names prop) a.names (label_in a.store l.guard) }

-- whether two guards of a store are the same
abbrev pub same_guard : Guard → Guard → Bool
same_guard g h = nat_eq g.place h.place

-- the new table is the old one with `found` inserted for `g`
abbrev pub IsGuardInserted : (old new : List (Guard × Guard)) (g found : Guard) → Type 0
IsGuardInserted old new g found = (q : Guard) → lookup (same_guard q) new ≡ cond (same_guard g q) (Some found) (lookup (same_guard q) old)

-- each guard of the table is its key with the proposition hidden
abbrev pub AreHidden : Store → Store → Hide → ℕ → List ℕ → List (Guard × Guard) → Type 0
AreHidden s t how prop to entries = (g h : Guard) → lookup (same_guard g) entries ≡ Some h → IsHiddenGuard s t how prop to g h
