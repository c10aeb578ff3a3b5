-- The edges of an automaton with its copies, and where each comes from.
use Rattle.std.proofs.Common.{◌≡◌, ◌⊎◌, true, List, ◌++◌, Contains, filter, flat_map, map, inl, inr, ⊎_elim}
use Rattle.std.proofs.lemmas.List.Elements.{All-contains, Contains-append_cases, Contains-append_left, Contains-append_right}
use Rattle.aut_base.proofs.lists.Members.{first_there, from_filter, from_flat_map, from_map, later_there, there_cases, there_filter, there_flat_map, there_map}
use Rattle.aut_base.specs.Automaton.{Automaton, IsEdgeOf, IsWellFormed, LabelledEdge}
use Rattle.fin_removal.specs.Copies.{copy_edges, main_edges}
use Rattle.fin_removal.proofs.Parts.{allows, edge_in, enter, stay}
use Rattle.fin_removal.specs.declared.term_copy.TermCopy.{TermCopy}

abbrev pub all_edges : Automaton → List TermCopy → List LabelledEdge
all_edges a copies = flat_map (main_edges a.states copies) a.edges ++ flat_map (copy_edges a.states a.edges) copies

-- an edge of the main copy, one into another copy, one within another copy
pub record Stays (a : Automaton) (f : LabelledEdge) : Type 0 where
  pub edge : LabelledEdge
  pub there : Contains a.edges edge
  pub is : stay edge ≡ f

pub record Enters (a : Automaton) (copies : List TermCopy) (f : LabelledEdge) : Type 0 where
  pub edge : LabelledEdge
  pub there : Contains a.edges edge
  pub copy : TermCopy
  pub listed : Contains copies copy
  pub is : enter a.states edge copy ≡ f

pub record Within (a : Automaton) (copies : List TermCopy) (f : LabelledEdge) : Type 0 where
  pub edge : LabelledEdge
  pub there : Contains a.edges edge
  pub copy : TermCopy
  pub listed : Contains copies copy
  pub allowed : allows copy edge.marks ≡ true
  pub is : edge_in a.states copy edge ≡ f

-- an edge stays in the main copy, enters another one, or is within another one
pub comes_from : (a : Automaton) (copies : List TermCopy) (f : LabelledEdge) → Contains (all_edges a copies) f → Stays a f ⊎ (Enters a copies f ⊎ Within a copies f)
comes_from a copies f there = ⊎_elim
    (λ (main : Contains (flat_map (main_edges a.states copies) a.edges) f).
    let at = from_flat_map (main_edges a.states copies) a.edges f main in
    ⊎_elim
    (λ (same : stay at.0 ≡ f). inl (record { edge = at.0; there = at.1; is = same }))
    (λ (entering : Contains (map (enter a.states at.0) copies) f).
    let into = from_map (enter a.states at.0) copies f entering in
    inr (inl (record { edge = at.0; there = at.1; copy = into.0; listed = into.1; is = into.2 })))
    (there_cases (stay at.0) (map (enter a.states at.0) copies) f at.2))
    (λ (other : Contains (flat_map (copy_edges a.states a.edges) copies) f).
    let at = from_flat_map (copy_edges a.states a.edges) copies f other in
    let from = from_map (edge_in a.states at.0) (filter (λ (e : LabelledEdge). allows at.0 e.marks) a.edges) f at.2 in
    let kept = from_filter (λ (e : LabelledEdge). allows at.0 e.marks) a.edges from.0 from.1 in
    inr (inr (record { edge = from.0; there = kept.0; copy = at.0; listed = at.1; allowed = kept.1; is = from.2 })))
    (Contains-append_cases (flat_map (main_edges a.states copies) a.edges) (flat_map (copy_edges a.states a.edges) copies) f there)

pub has_stay : (a : Automaton) (copies : List TermCopy) (e : LabelledEdge) → Contains a.edges e → Contains (all_edges a copies) (stay e)
has_stay a copies e there =
    Contains-append_left (flat_map (main_edges a.states copies) a.edges) (flat_map (copy_edges a.states a.edges) copies) (stay e)
    (there_flat_map (main_edges a.states copies) a.edges e (stay e) there (first_there (stay e) (map (enter a.states e) copies)))

pub has_enter : (a : Automaton) (copies : List TermCopy) (e : LabelledEdge) (copy : TermCopy) → Contains a.edges e → Contains copies copy → Contains (all_edges a copies) (enter a.states e copy)
has_enter a copies e copy there listed =
    Contains-append_left (flat_map (main_edges a.states copies) a.edges) (flat_map (copy_edges a.states a.edges) copies) (enter a.states e copy)
    (there_flat_map (main_edges a.states copies) a.edges e (enter a.states e copy) there
    (later_there (stay e) (map (enter a.states e) copies) (enter a.states e copy) (there_map (enter a.states e) copies copy listed)))

pub has_within : (a : Automaton) (copies : List TermCopy) (e : LabelledEdge) (copy : TermCopy) → Contains a.edges e → Contains copies copy → allows copy e.marks ≡ true
    → Contains (all_edges a copies) (edge_in a.states copy e)
has_within a copies e copy there listed allowed =
    Contains-append_right (flat_map (main_edges a.states copies) a.edges) (flat_map (copy_edges a.states a.edges) copies) (edge_in a.states copy e)
    (there_flat_map (copy_edges a.states a.edges) copies copy (edge_in a.states copy e) listed
    (there_map (edge_in a.states copy) (filter (λ (d : LabelledEdge). allows copy d.marks) a.edges) e (there_filter (λ (d : LabelledEdge). allows copy d.marks) a.edges e there allowed)))

-- the ends of the automaton's own edges
pub edge_bounds : (a : Automaton) → IsWellFormed a → (e : LabelledEdge) → Contains a.edges e → IsEdgeOf a e
edge_bounds a formed e there = All-contains (IsEdgeOf a) a.edges e formed.edges there
