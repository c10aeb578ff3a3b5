use Rattle.std.proofs.Common.{◌≡◌, ◌++◌, ◌∷◌, [], ◌+◌, ◌∙◌, List, Some, ap, map, refl, slice_get, subst, sym, take}
use Rattle.std.proofs.lemmas.Grind.{flat_map-append}
use Rattle.std.proofs.lemmas.List.{append-nil, append_assoc, map-append}
use Rattle.std.proofs.lemmas.List.Folds.{list_all-map}
use Rattle.std.proofs.lemmas.Option.{get_or_from_slice_get, slice_get-map, slice_get_within}
use Rattle.std.specs.Option.{option_map}
use Rattle.std.specs.Prelude.{flat_map}
use Rattle.aut_base.proofs.lists.Lists.{slice_get-at, take-push}
use Rattle.aut_base.proofs.lists.Members.{all_passes_at}
use Rattle.aut_base.specs.Automaton.{LabelledEdge}
use Rattle.aut_core.proofs.Following.{stand_itself}
use Rattle.aut_core.specs.SymbolicAutomata.{edge_of}
use Rattle.aut_core.specs.Links.{StandFor}
use Rattle.hoa_parser.specs.Raw.{written_state}
use Rattle.hoa_parser.specs.declared.raw.RawState.{RawState}
use Rattle.hoa_reader.specs.Validity.{marks_below}
use Rattle.hoa_reader.specs.inner.TreeEdges.{HasLabelsBelow, settled, tree_edges_for}
use Rattle.hoa_reader.proofs.elaborate.links.add_all.Goals as goal

pub states-init : goal.states-init
states-init c =
    let links = c.args.links.now in
    let same = map (edge_of c.args.guards.now) links in
    record {
      names = refl;
      stand = subst (StandFor c.args.guards.now links) (sym (append-nil same)) (stand_itself c.args.guards.now links c.requires.has);
    }

pub add_links-requires-clause-names : goal.add_links-requires-clause-names
add_links-requires-clause-names c = c.states.invariant.names ∙ c.requires.linked.names

pub add_links-requires-clause-marks : goal.add_links-requires-clause-marks
add_links-requires-clause-marks c =
    let sets = c.args.shared.now.sets in
    let states = c.args.states.now in
    all_passes_at (λ (s : RawState). marks_below sets (written_state s)) states c.states.state-index c.state-item.result
    (slice_get-at states c.states.state-index c.state-item.result c.states-test.true c.state-item.is)
    (sym (list_all-map (marks_below sets) written_state states) ∙ c.requires.linked.marks)

pub add_links-requires-clause-below : goal.add_links-requires-clause-below
add_links-requires-clause-below c =
    let x = c.args.shared.now in
    let states = c.args.states.now in
    let ws = map written_state states in
    let i = c.states.state-index in
    let s = written_state c.state-item.result in
    let there : slice_get ws i ≡ Some s = slice_get-map written_state states i
    ∙ ap (option_map written_state) (slice_get-at states i c.state-item.result c.states-test.true c.state-item.is) in
    subst (λ m. HasLabelsBelow x m s) (sym c.states.invariant.names)
    (subst (HasLabelsBelow x c.args.guards.now.names) (get_or_from_slice_get ws i s s there) (c.requires.linked.below i s (slice_get_within ws i s there)))

pub states-preserved : goal.states-preserved
states-preserved c =
    let x = c.args.shared.now in
    let m = c.args.guards.now.names in
    let states = c.args.states.now in
    let i = c.states.state-index in
    let state = c.state-item.result in
    let E : List RawState → List LabelledEdge = λ ss. flat_map (tree_edges_for x) (map written_state ss) in
    let old = c.states.guards.names in
    let here = tree_edges_for x (written_state state) in
    let pushed : E (take (i + 1) states) ≡ E (take i states) ++ here =
    ap E (take-push states i state c.states-test.true c.state-item.is)
    ∙ (ap (flat_map (tree_edges_for x)) (map-append written_state (take i states) (state ∷ []))
    ∙ (flat_map-append (tree_edges_for x) (map written_state (take i states)) (written_state state ∷ [])
    ∙ ap (λ es. E (take i states) ++ es) (append-nil here))) in
    let more : map (settled m) (E (take (i + 1) states)) ≡ map (settled m) (E (take i states)) ++ map (settled m) here =
    ap (map (settled m)) pushed ∙ map-append (settled m) (E (take i states)) here in
    let before = map (edge_of c.args.guards.now) c.args.links.now in
    let all : map (edge_of c.states.guards) c.states.links ++ map (settled old) here ≡ before ++ map (settled m) (E (take (i + 1) states)) =
    ap (λ es. es ++ map (settled old) here) c.states.invariant.stand.edges
    ∙ (ap (λ k. (before ++ map (settled m) (E (take i states))) ++ map (settled k) here) c.states.invariant.names
    ∙ (append_assoc before (map (settled m) (E (take i states))) (map (settled m) here) ∙ ap (λ es. before ++ es) (sym more))) in
    record {
      names = c.add_links.ensures.names ∙ c.states.invariant.names;
      stand = subst (StandFor c.add_links.new.guards c.add_links.new.links) all c.in_ok-add_links.ensures.stand;
    }
