-- Links that are made edge by edge, where it is known which edges are still to come.
use Rattle.std.proofs.Common.{◌≡◌, ◌++◌, ◌∷◌, ◌∙◌, ◌+◌, ◌<◌, ◌≤◌, [], ℕ, true, Bool, List, All, ap, arith, drop, get_or, length, map, subst, sym}
use Rattle.std.proofs.lemmas.Bool.{and_parts}
use Rattle.std.proofs.lemmas.Grind.{flat_map-append}
use Rattle.std.proofs.lemmas.List.{append-nil, append_assoc, drop_all, length-map, map-append}
use Rattle.std.proofs.lemmas.List.Folds.{list_all-append}
use Rattle.std.proofs.lemmas.Option.{get_or_from_slice_get, slice_get_within}
use Rattle.std.specs.List.{list_all}
use Rattle.std.specs.Prelude.{flat_map}
use Rattle.aut_base.proofs.lists.Lists.{drop-at}
use Rattle.aut_base.proofs.lists.Members.{all_of_first, all_of_second}
use Rattle.aut_base.specs.Automaton.{LabelledEdge}
use Rattle.aut_core.proofs.Following.{stand_itself, stand_kept, stand_push}
use Rattle.aut_core.specs.SymbolicAutomata.{edge_of}
use Rattle.aut_core.specs.Links.{StandFor}
use Rattle.aut_core.specs.declared.link.Link.{Link}
use Rattle.hoa_parser.specs.Raw.{WrittenEdge, WrittenState, written_edge, written_state}
use Rattle.hoa_parser.specs.declared.raw.RawEdge.{RawEdge}
use Rattle.hoa_parser.specs.declared.raw.RawState.{RawState}
use Rattle.hoa_reader.proofs.labels.StatePlaces.{edges_more}
use Rattle.hoa_reader.specs.declared.elaborate.edges.Shared.{Shared}
use Rattle.hoa_reader.specs.inner.TreeEdges.{IsDefinedAt, edges_for, settled, tree_edge_for, tree_edges_at, tree_edges_for}
use Rattle.label_guards.specs.Store.{Has, Keeps, Store}

-- of some edges of a state those from this one on
abbrev pub edges_from : Shared → RawState → List RawEdge → ℕ → ℕ → List LabelledEdge
edges_from x state edges first i = tree_edges_at x (written_state state) (first + i) (map written_edge (drop i edges))

pub next_edge : (x : Shared) (state : RawState) (edges : List RawEdge) (first i : ℕ) (edge : RawEdge) → i < length edges → edge ≡ get_or edges i edge
    → edges_from x state edges first i ≡ tree_edge_for x (written_state state) (first + i) (written_edge edge) ∷ edges_from x state edges first (i + 1)
next_edge x state edges first i edge within is =
    ap (λ (es : List RawEdge). tree_edges_at x (written_state state) (first + i) (map written_edge es)) (drop-at edges i edge within is)
    ∙ ap (λ n. tree_edge_for x (written_state state) (first + i) (written_edge edge) ∷ tree_edges_at x (written_state state) n (map written_edge (drop (i + 1) edges)))
    (omega arith)

pub no_edge : (x : Shared) (state : RawState) (edges : List RawEdge) (first i : ℕ) → length edges ≤ i → edges_from x state edges first i ≡ []
no_edge x state edges first i past =
    ap (λ (es : List RawEdge). tree_edges_at x (written_state state) (first + i) (map written_edge es)) (drop_all i edges past)

-- edges behind edges
pub edges_beside : (x : Shared) (s : WrittenState) (i : ℕ) (es fs : List WrittenEdge)
    → tree_edges_at x s i (es ++ fs) ≡ tree_edges_at x s i es ++ tree_edges_at x s (i + length es) fs
edges_beside x s i [] fs = ap (λ n. tree_edges_at x s n fs) (omega arith)
edges_beside x s i (e ∷ es) fs = ap (λ (ls : List LabelledEdge). tree_edge_for x s i e ∷ ls)
    (edges_beside x s (i + 1) es fs ∙ ap (λ n. tree_edges_at x s (i + 1) es ++ tree_edges_at x s n fs) (omega arith))

-- the links so far have guards of the store, and with those of the rest they stand for all edges
pub record AreOnTheWay (s : Store) (links : List Link) (rest all : List LabelledEdge) : Type 0 where
  pub has : All (λ l. Has s l.guard) links
  pub edges : map (edge_of s) links ++ rest ≡ all

pub link_more : (s t : Store) (old new : List Link) (l : Link) (e : LabelledEdge) (rest all : List LabelledEdge) → AreOnTheWay s old (e ∷ rest) all → Keeps s t
    → Has t l.guard → edge_of t l ≡ e
    → new ≡ old ++ l ∷ [] → AreOnTheWay t new rest all
link_more s t old new l e rest all way keeps has is pushed =
    let stand : StandFor t new (map (edge_of s) old ++ e ∷ []) =
    stand_push t old new l (map (edge_of s) old) e (stand_kept s t old (map (edge_of s) old) keeps (stand_itself s old way.has)) has is pushed in
    record { has = stand.has; edges = ap (λ es. es ++ rest) stand.edges ∙ (append_assoc (map (edge_of s) old) (e ∷ []) rest ∙ way.edges) }

pub all_linked : (s : Store) (links : List Link) (all : List LabelledEdge) → AreOnTheWay s links [] all → StandFor s links all
all_linked s links all way = record { has = way.has; edges = sym (append-nil (map (edge_of s) links)) ∙ way.edges }

-- what holds of each state holds of the one that is defined at this place
pub holds_there : (ws : List WrittenState) (n place : ℕ) (P : WrittenState → Type 0) (one : IsDefinedAt ws n place) → All P ws → P one.state
holds_there ws n place P one all =
    subst P (get_or_from_slice_get ws place one.state one.state one.there) (all place one.state (slice_get_within ws place one.state one.there))

pub edges_of_one : (x : Shared) (ws : List WrittenState) (n place : ℕ) (one : IsDefinedAt ws n place)
    → edges_for x ws (n + 1) ≡ edges_for x ws n ++ tree_edges_for x one.state
edges_of_one x ws n place one =
    edges_more x ws n ∙ ap (λ es. edges_for x ws n ++ es) (ap (flat_map (tree_edges_for x)) one.alone ∙ append-nil (tree_edges_for x one.state))

-- the states of blocks
abbrev pub states_left : List (List RawState) → List WrittenState
states_left blocks = map written_state (flat_map (λ (block : List RawState). block) blocks)

-- what holds of all that are left holds of a block, and of those of the other blocks
pub parts_below : (P : WrittenState → Type 0) (block : List RawState) (blocks : List (List RawState)) → All P (states_left (block ∷ blocks))
    → All P (map written_state block) × All P (states_left blocks)
parts_below P block blocks all =
    let both = subst (All P) (map-append written_state block (flat_map (λ (b : List RawState). b) blocks)) all in
    (all_of_first P (map written_state block) (states_left blocks) both, all_of_second P (map written_state block) (states_left blocks) both)

pub parts_pass : (p : WrittenState → Bool) (block : List RawState) (blocks : List (List RawState)) → list_all p (states_left (block ∷ blocks)) ≡ true
    → (list_all p (map written_state block) ≡ true) × (list_all p (states_left blocks) ≡ true)
parts_pass p block blocks all = and_parts _ _ (sym (list_all-append p (map written_state block) (states_left blocks))
    ∙ (ap (list_all p) (sym (map-append written_state block (flat_map (λ (b : List RawState). b) blocks))) ∙ all))

-- with some more among the links, the rest is left
pub link_some : (s t : Store) (old new : List Link) (some rest all : List LabelledEdge) → AreOnTheWay s old (some ++ rest) all
    → StandFor t new (map (edge_of s) old ++ some) → AreOnTheWay t new rest all
link_some s t old new some rest all way stand = record {
  has = stand.has;
  edges = ap (λ es. es ++ rest) stand.edges ∙ (append_assoc (map (edge_of s) old) some rest ∙ way.edges);
}

-- with those of a block, those of the other blocks
pub link_block : (x : Shared) (n : ℕ) (s t : Store) (old new : List Link) (block : List RawState) (blocks : List (List RawState)) (all : List LabelledEdge)
    → AreOnTheWay s old (map (settled n) (flat_map (tree_edges_for x) (states_left (block ∷ blocks)))) all
    → StandFor t new (map (edge_of s) old ++ map (settled n) (flat_map (tree_edges_for x) (map written_state block)))
    → AreOnTheWay t new (map (settled n) (flat_map (tree_edges_for x) (states_left blocks))) all
link_block x n s t old new block blocks all way stand =
    let some = flat_map (tree_edges_for x) (map written_state block) in
    let rest = flat_map (tree_edges_for x) (states_left blocks) in
    let both : map (settled n) (flat_map (tree_edges_for x) (states_left (block ∷ blocks))) ≡ map (settled n) some ++ map (settled n) rest =
    ap (λ (ss : List WrittenState). map (settled n) (flat_map (tree_edges_for x) ss))
    (map-append written_state block (flat_map (λ (b : List RawState). b) blocks))
    ∙ (ap (map (settled n)) (flat_map-append (tree_edges_for x) (map written_state block) (states_left blocks)) ∙ map-append (settled n) some rest) in
    link_some s t old new (map (settled n) some) (map (settled n) rest) all (subst (λ (es : List LabelledEdge). AreOnTheWay s old es all) both way) stand

-- with those of a state, those of the other states
pub link_state : (x : Shared) (n : ℕ) (s t : Store) (old new : List Link) (state : WrittenState) (states : List WrittenState) (all : List LabelledEdge)
    → AreOnTheWay s old (map (settled n) (flat_map (tree_edges_for x) (state ∷ states))) all
    → StandFor t new (map (edge_of s) old ++ map (settled n) (tree_edges_for x state))
    → AreOnTheWay t new (map (settled n) (flat_map (tree_edges_for x) states)) all
link_state x n s t old new state states all way stand =
    link_some s t old new (map (settled n) (tree_edges_for x state)) (map (settled n) (flat_map (tree_edges_for x) states)) all
    (subst (λ (es : List LabelledEdge). AreOnTheWay s old es all) (map-append (settled n) (tree_edges_for x state) (flat_map (tree_edges_for x) states)) way) stand

-- edges of blocks
abbrev pub edges_left : List (List RawEdge) → List WrittenEdge
edges_left blocks = map written_edge (flat_map (λ (block : List RawEdge). block) blocks)

pub left_edges : (block : List RawEdge) (blocks : List (List RawEdge)) → edges_left (block ∷ blocks) ≡ map written_edge block ++ edges_left blocks
left_edges block blocks = map-append written_edge block (flat_map (λ (b : List RawEdge). b) blocks)

-- some of the edges of a state and those behind them
pub edges_parted : (x : Shared) (s : WrittenState) (i : ℕ) (block : List RawEdge) (blocks : List (List RawEdge))
    → tree_edges_at x s i (edges_left (block ∷ blocks)) ≡ tree_edges_at x s i (map written_edge block) ++ tree_edges_at x s (i + length block) (edges_left blocks)
edges_parted x s i block blocks =
    ap (tree_edges_at x s i) (left_edges block blocks) ∙ (edges_beside x s i (map written_edge block) (edges_left blocks)
    ∙ ap (λ n. tree_edges_at x s i (map written_edge block) ++ tree_edges_at x s (i + n) (edges_left blocks)) (length-map block written_edge))
