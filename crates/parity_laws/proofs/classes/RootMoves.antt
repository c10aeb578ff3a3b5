-- At letters where the labels of the edges from the root's states have the same truths, the moves from those states are the
-- same.
use Rattle.std.proofs.Common.{◌≡◌, ◌∙◌, ◌&&◌, ℕ, Bool, true, List, All, Contains, ap, filter, subst, sym}
use Rattle.std.proofs.lemmas.List.Elements.{All-contains}
use Rattle.std.proofs.lemmas.Bool.{and_from, and_parts}
use Rattle.aut_base.proofs.lists.Members.{from_filter, from_map, there_filter, there_map}
use Rattle.aut_base.specs.Automaton.{Automaton, LabelledEdge}
use Rattle.aut_base.specs.Label.{LabelTree, holds_at, truth}
use Rattle.aut_base.specs.Word.{NameSet}
use Rattle.safra_trees.specs.Trees.{Node, holds}
use Rattle.safra_trees.specs.declared.moves.Move.{Move}
use Rattle.safra_laws.specs.Trees.{SameRootMoves}
use Rattle.parity_laws.proofs.letters.Moves.{edge_of, move_there}
use Rattle.parity_laws.specs.Buchi.{move_of, moves_at}
use Rattle.parity_laws.specs.Explored.{root_labels, root_moves}

pub same_root_moves : (b : Automaton) (t : List Node) (on : ℕ → Bool) (x : NameSet)
    → All (λ l. truth (holds_at b.names x) l ≡ truth on l) (root_labels b t) → SameRootMoves (moves_at b x) (root_moves b t on) t
same_root_moves b t on x same m h =
    let at_root = λ (e : LabelledEdge). holds t 0 e.from in
    let passes = λ (e : LabelledEdge). holds t 0 e.from && truth on e.label in
    let label_there : (e : LabelledEdge) → Contains b.edges e → holds t 0 e.from ≡ true → Contains (root_labels b t) e.label = λ e there from.
    there_map (λ (g : LabelledEdge). g.label) (filter at_root b.edges) e (there_filter at_root b.edges e there from) in
    let each : (e : LabelledEdge) → Contains b.edges e → holds t 0 e.from ≡ true → truth (holds_at b.names x) e.label ≡ truth on e.label = λ e there from.
    All-contains (λ (l : LabelTree). truth (holds_at b.names x) l ≡ truth on l) (root_labels b t) e.label same (label_there e there from) in (
      (λ there. (
          let e = edge_of b x m there in
          let from : holds t 0 e.edge.from ≡ true = ap (λ (w : Move). holds t 0 w.from) e.is ∙ h in
          let on_label : truth on e.edge.label ≡ true = sym (each e.edge e.there from) ∙ e.meets in
          let kept = there_filter passes b.edges e.edge e.there (and_from (holds t 0 e.edge.from) (truth on e.edge.label) from on_label) in
          subst (Contains (root_moves b t on)) e.is (there_map move_of (filter passes b.edges) e.edge kept))),
      (λ there. (
          let found = from_map move_of (filter passes b.edges) m there in
          let parts = from_filter passes b.edges found.0 found.1 in
          let both = and_parts (holds t 0 found.0.from) (truth on found.0.label) parts.1 in
          subst (Contains (moves_at b x)) found.2 (move_there b x found.0 parts.0 (each found.0 parts.0 both.0 ∙ both.1)))),
    )
