-- Lists of links that functions extend.
use Rattle.std.specs.Prelude.{◌≡◌, ℕ, ◌+◌, ◌*◌, ◌^◌, ◌<◌, List, ◌++◌, map, All}
use Rattle.aut_base.specs.Automaton.{LabelledEdge}
use Rattle.aut_core.specs.SymbolicAutomata.{edge_of}
use Rattle.aut_core.specs.declared.link.Link.{Link}
use Rattle.label_guards.specs.Store.{Has, Store}
use Rattle.fin_removal.specs.Meeting.{literal_places}
use Rattle.fin_removal.specs.declared.term_copy.TermCopy.{TermCopy}

-- the links that were added have these edges, and guards of the store
pub record AddsLinks (s : Store) (old new : List Link) (es : List LabelledEdge) : Type 0 where
  pub has : All (λ l. Has s l.guard) old → All (λ l. Has s l.guard) new
  pub edges : map (edge_of s) new ≡ map (edge_of s) old ++ es

-- the numbers of the copy's states, where each copy has n, and those of its sets fit in 32 bits
pub record IsCopyInRange (n : ℕ) (copy : TermCopy) : Type 0 where
  pub states : copy.number * n + n < 2 ^ 32
  pub sets : copy.first + literal_places copy.infs < 2 ^ 32
