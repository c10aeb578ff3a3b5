use Rattle.std.proofs.Common.{◌≡◌, ◌++◌, ◌+◌, ◌<◌, ◌∙◌, ℕ, List, [], None, Option, ap, arith, length, map, refl, subst, sym}
use Rattle.std.proofs.lemmas.List.{append-nil, get_or_default, length-map, map-append}
use Rattle.std.proofs.lemmas.Option.{slice_get_within}
use Rattle.aut_base.proofs.lists.Members.{all_passes_at}
use Rattle.aut_core.specs.SymbolicAutomata.{edge_of}
use Rattle.aut_core.specs.Links.{StandFor}
use Rattle.aut_core.specs.declared.link.Link.{Link}
use Rattle.hoa_parser.specs.Raw.{WrittenState, written_state}
use Rattle.std.specs.Prelude.{flat_map}
use Rattle.hoa_reader.proofs.labels.LinkedEdges.{edges_of_one, holds_there}
use Rattle.hoa_reader.proofs.labels.StatePlaces.{edges_more, found}
use Rattle.hoa_reader.specs.Validity.{marks_below}
use Rattle.hoa_reader.specs.inner.TreeEdges.{HasLabelsBelow, IsDefinedAt, IsPlace, edges_for, settled, states_at, tree_edges_for}
use Rattle.hoa_reader.proofs.elaborate.links.links_by_places.Goals as goal

pub numbers-init : goal.numbers-init
numbers-init c =
    let none : c.from_vec-links.result ≡ [] = c.from_vec-links.ensures ∙ c.in_ok-with_capacity.ensures.items in
    record {
      names = refl;
      stand = subst (λ (ls : List Link). StandFor c.args.guards.now ls []) (sym none) (record { has = λ k d l. absurd (omega (arith, l)); edges = refl });
    }

pub numbers-preserved-in_default : goal.numbers-preserved-in_default
numbers-preserved-in_default c =
    let x = c.args.shared.now in
    let ws = map written_state c.args.states.now in
    let n = c.numbers.number in
    let items = c.in_ok-places.places.items in
    let within : n < length items = grind (arith, c.numbers-test.true, c.len-number-end.ensures) in
    let P : Option ℕ → Type 0 = λ o. IsPlace ws n o in
    let empty : states_at ws n ≡ [] = subst P (get_or_default items n None c.index.result.now within ∙ sym c.index.ensures ∙ c.in_default.is)
    (c.in_ok-places.ensures.place n (omega (arith, within, c.in_ok-places.ensures.len))) in
    let same : edges_for x ws (n + 1) ≡ edges_for x ws n = edges_more x ws n
    ∙ (ap (λ (ss : List WrittenState). edges_for x ws n ++ flat_map (tree_edges_for x) ss) empty ∙ append-nil (edges_for x ws n)) in
    record {
      names = c.numbers.invariant.names;
      stand = subst (StandFor c.numbers.guards c.numbers.links) (ap (map (settled c.args.guards.now.names)) (sym same)) c.numbers.invariant.stand;
    }

pub bounds-states-place : goal.bounds-states-place
bounds-states-place c =
    let ws = map written_state c.args.states.now in
    let n = c.numbers.number in
    let items = c.in_ok-places.places.items in
    let within : n < length items = grind (arith, c.numbers-test.true, c.len-number-end.ensures) in
    let P : Option ℕ → Type 0 = λ o. IsPlace ws n o in
    let one : IsDefinedAt ws n c.in-Some.place = subst P (get_or_default items n None c.index.result.now within ∙ sym c.index.ensures ∙ c.in-Some.is)
    (c.in_ok-places.ensures.place n (omega (arith, within, c.in_ok-places.ensures.len))) in
    let there = slice_get_within ws c.in-Some.place one.state one.there in
    let size = length-map c.args.states.now written_state in
    omega (arith, there, size)

pub add_links-requires-clause-names : goal.add_links-requires-clause-names
add_links-requires-clause-names c = c.numbers.invariant.names ∙ c.requires.linked.names

pub add_links-requires-clause-marks : goal.add_links-requires-clause-marks
add_links-requires-clause-marks c =
    let ws = map written_state c.args.states.now in
    let items = c.in_ok-places.places.items in
    let within : c.numbers.number < length items = grind (arith, c.numbers-test.true, c.len-number-end.ensures) in
    let at = found c.args.states.now items c.args.count c.numbers.number c.in-Some.place c.index.result.now c.index-states-place.result
    c.in_ok-places.ensures.len c.in_ok-places.ensures.place
    within c.index.ensures c.in-Some.is c.index-states-place.is in
    ap (marks_below c.args.shared.now.sets) at.is
    ∙ all_passes_at (marks_below c.args.shared.now.sets) ws c.in-Some.place at.one.state at.one.there c.requires.linked.marks

pub add_links-requires-clause-below : goal.add_links-requires-clause-below
add_links-requires-clause-below c =
    let x = c.args.shared.now in
    let ws = map written_state c.args.states.now in
    let items = c.in_ok-places.places.items in
    let within : c.numbers.number < length items = grind (arith, c.numbers-test.true, c.len-number-end.ensures) in
    let at = found c.args.states.now items c.args.count c.numbers.number c.in-Some.place c.index.result.now c.index-states-place.result
    c.in_ok-places.ensures.len c.in_ok-places.ensures.place
    within c.index.ensures c.in-Some.is c.index-states-place.is in
    subst (λ m. HasLabelsBelow x m (written_state c.index-states-place.result)) (sym c.numbers.invariant.names)
    (subst (HasLabelsBelow x c.args.guards.now.names) (sym at.is)
    (holds_there ws c.numbers.number c.in-Some.place (HasLabelsBelow x c.args.guards.now.names) at.one c.requires.linked.below))

pub numbers-preserved : goal.numbers-preserved
numbers-preserved c =
    let x = c.args.shared.now in
    let m = c.args.guards.now.names in
    let ws = map written_state c.args.states.now in
    let n = c.numbers.number in
    let items = c.in_ok-places.places.items in
    let within : n < length items = grind (arith, c.numbers-test.true, c.len-number-end.ensures) in
    let at = found c.args.states.now items c.args.count n c.in-Some.place c.index.result.now c.index-states-place.result c.in_ok-places.ensures.len
    c.in_ok-places.ensures.place
    within c.index.ensures c.in-Some.is c.index-states-place.is in
    let old = c.numbers.guards.names in
    let more : map (settled m) (edges_for x ws (n + 1)) ≡ map (settled m) (edges_for x ws n) ++ map (settled m)
    (tree_edges_for x (written_state c.index-states-place.result)) =
    ap (map (settled m)) (edges_of_one x ws n c.in-Some.place at.one) ∙ (map-append (settled m) (edges_for x ws n) (tree_edges_for x at.one.state)
    ∙ ap (λ s. map (settled m) (edges_for x ws n) ++ map (settled m) (tree_edges_for x s)) (sym at.is)) in
    let all : map (edge_of c.numbers.guards) c.numbers.links ++ map (settled old) (tree_edges_for x (written_state c.index-states-place.result)) ≡ map
    (settled m) (edges_for x ws (n + 1)) =
    ap (λ es. es ++ map (settled old) (tree_edges_for x (written_state c.index-states-place.result))) c.numbers.invariant.stand.edges
    ∙ (ap (λ k. map (settled m) (edges_for x ws n) ++ map (settled k) (tree_edges_for x (written_state c.index-states-place.result)))
    c.numbers.invariant.names ∙ sym more) in
    record {
      names = c.add_links.ensures.names
          ∙ c.numbers.invariant.names;
      stand = subst (StandFor c.add_links.new.guards c.add_links.new.links) all c.in_ok-add_links.ensures.stand;
    }
