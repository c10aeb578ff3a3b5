-- That a description is well formed, tested for one index after another.
use Rattle.std.proofs.Common.{◌≡◌, ◌≢◌, ℕ, ◌<◌, ◌≤◌, ◌-◌, ◌∙◌, sym, ap, subst, arith, List, [], ◌∷◌, map, length, get_or, All, AllPairs}
use Rattle.std.proofs.lemmas.List.{get_or-map, length-map}
use Rattle.std.proofs.lemmas.List.Sorted.{IsNonDecreasingBy-from_all_adjacent}
use Rattle.std.specs.List.{AllAdjacentBelow}
use Rattle.std.specs.List.Sorted.{IsNonDecreasing}
use Rattle.aut_base.specs.Automaton.{LabelledEdge, labelled_edge, automaton, IsWellFormed, IsEdgeOf}
use Rattle.aut_base.specs.Formula.{SetsBelow}
use Rattle.aut_base.specs.declared.description.Description.{Description}
use Rattle.aut_base.specs.declared.description.Edge.{Edge}

pub well_formed : (d : Description) → AllPairs (λ name other. name ≢ other) (automaton d).names → All (λ p. p < d.states) (automaton d).starts → AllPairs (λ p q. p ≢ q) (automaton d).starts
    → IsNonDecreasing (map (λ e. e.from) (automaton d).edges) → All (IsEdgeOf (automaton d)) (automaton d).edges → SetsBelow (automaton d).sets (automaton d).formula → IsWellFormed (automaton d)
well_formed d names states starts order edges formula = record {
  names_differ = names;
  starts_differ = starts;
  starts = states;
  in_order = order;
  edges = edges;
  formula = formula;
}

-- the edge at an index
tree_edge_at : (edges : List Edge) (i : ℕ) (e : Edge) → i < length edges → e ≡ get_or edges i e → get_or (map labelled_edge edges) i (labelled_edge e) ≡ labelled_edge e
tree_edge_at edges i e within is = get_or-map labelled_edge edges i e (labelled_edge e) within ∙ ap labelled_edge (sym is)

-- the state that it leaves
from_at : (edges : List Edge) (i : ℕ) (e : Edge) (d : ℕ) → i < length edges → e ≡ get_or edges i e → get_or (map (λ a. a.from) (map labelled_edge edges)) i d ≡ e.from
from_at edges i e d within is =
    let size = length-map edges labelled_edge in
    get_or-map (λ (a : LabelledEdge). a.from) (map labelled_edge edges) i (labelled_edge e) d (omega arith) ∙ ap (λ (a : LabelledEdge). a.from) (tree_edge_at edges i e within is)

pub in_order : (edges : List Edge) (n : ℕ) → length edges ≤ n → AllAdjacentBelow (λ x y. x.from ≤ y.from) edges n → IsNonDecreasing (map (λ a. a.from) (map labelled_edge edges))
in_order [] n all h i j d order near = absurd (omega arith)
in_order (e ∷ es) n all h i j d order near =
    let edges : List Edge = e ∷ es in
    let size = length-map edges labelled_edge in
    let froms = length-map (map labelled_edge edges) (λ (a : LabelledEdge). a.from) in
    let fits : j < length edges = omega arith in
    let here : AllAdjacentBelow (λ (x y : Edge). x.from ≤ y.from) edges (length edges) = λ k x low. h k x (omega arith) in
    let rises = IsNonDecreasingBy-from_all_adjacent (λ (x : Edge). x.from) edges here i j e order fits in
    let first = ap (λ a. a.from) (get_or-map labelled_edge edges i e (labelled_edge e) (omega arith)) in
    let second = ap (λ a. a.from) (get_or-map labelled_edge edges j e (labelled_edge e) fits) in
    let from_first = get_or-map (λ (a : LabelledEdge). a.from) (map labelled_edge edges) i (labelled_edge e) d (omega arith) in
    let from_second = get_or-map (λ (a : LabelledEdge). a.from) (map labelled_edge edges) j (labelled_edge e) d (omega arith) in
    omega arith

pub out_of_order : (edges : List Edge) (i : ℕ) (x y : Edge) → 0 < i → i < length edges → x ≡ get_or edges i x → y ≡ get_or edges (i - 1) y
    → (get_or edges i x).from < (get_or edges (i - 1) y).from → IsNonDecreasing (map (λ a. a.from) (map labelled_edge edges)) → ⊥
out_of_order edges i x y some within at_x at_y less order =
    let size = length-map edges labelled_edge in
    let froms = length-map (map labelled_edge edges) (λ (a : LabelledEdge). a.from) in
    let rises = order (i - 1) i 0 (omega arith) (omega arith) in
    let first = from_at edges (i - 1) y 0 (omega arith) at_y in
    let second = from_at edges i x 0 within at_x in
    let left = ap (λ (e : Edge). e.from) at_x in
    let right = ap (λ (e : Edge). e.from) at_y in
    absurd (omega arith)

-- what holds of all edges holds of the one at an index
pub one_of_all : (P : LabelledEdge → Type 0) (edges : List Edge) (i : ℕ) (e : Edge) → i < length edges → e ≡ get_or edges i e → All P (map labelled_edge edges) → P (labelled_edge e)
one_of_all P edges i e within is all =
    let size = length-map edges labelled_edge in
    subst P (tree_edge_at edges i e within is) (all i (labelled_edge e) (omega arith))
