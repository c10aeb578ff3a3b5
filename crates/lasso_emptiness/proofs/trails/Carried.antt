-- An accepting component has an accepting closed path, and, where it is reached, the automaton accepts a word.
use Rattle.std.proofs.Common.{◌≡◌, ◌∙◌, ◌↔◌, ℕ, zero, suc, ◌+◌, ◌<◌, ◌≤◌, Bool, List, [], ◌∷◌, ◌++◌, length, map, take, Option, None, Some, is_some, ap, arith, refl, subst, sym}
use Rattle.std.specs.List.{All, Contains, list_all, list_any}
use Rattle.std.specs.Prelude.{IsTrue, MatchOption}
use Rattle.std.proofs.lemmas.Bool.{true≢false}
use Rattle.std.proofs.lemmas.List.Elements.{All-contains, All-contains_itself, Contains-get_or}
use Rattle.aut_base.proofs.lists.Members.{any_found, any_from, each_from, each_is, first_there, from_map, later_there, there_map}
use Rattle.aut_base.proofs.numbers.Truth.{same_truth}
use Rattle.aut_base.proofs.words.SameEdges.{Alike, met_alike}
use Rattle.aut_base.specs.Formula.{FormulaTree}
use Rattle.aut_base.specs.Word.{NameSet}
use Rattle.aut_core.specs.SymbolicAutomata.{SymbolicAutomaton, IsWellFormedSymbolic, automaton_of}
use Rattle.aut_core.specs.declared.link.Link.{Link}
use Rattle.graph_walk.specs.Walk.{IsWalk, Reaches}
use Rattle.lasso_emptiness.specs.Emptiness.{AcceptsNothing, AcceptsSome}
use Rattle.lasso_emptiness.specs.declared.live.EdgeRef.{EdgeRef}
use Rattle.lasso_emptiness.specs.inner.AcceptingComponents.{IsAcceptingComponent}
use Rattle.lasso_emptiness.specs.inner.Edges.{arc_of, marks_of}
use Rattle.lasso_emptiness.specs.inner.Groups.{IsStronglyConnected}
use Rattle.lasso_emptiness.specs.inner.Letters.{AreLettersOf, IsOwnWord}
use Rattle.lasso_emptiness.specs.inner.Live.{ArePassable, IsPassable, IsReachedEdge}
use Rattle.lasso_emptiness.specs.inner.Tours.{IsTour, listed_edge}
use Rattle.lasso_emptiness.specs.inner.Trails.{IsAccepting, IsTrail}
use Rattle.lasso_emptiness.proofs.trails.Accepted.{own_word}
use Rattle.lasso_emptiness.proofs.trails.Lettered.{letter_for, letters_long}
use Rattle.lasso_emptiness.proofs.trails.Touring.{ToursSoFar, tours_all, tours_more, tours_none, tours_reaches}
use Rattle.lasso_emptiness.proofs.trails.Trails.{trail_kind, trail_weaker}

-- for a walk there is a path between the same states
path_along : (edges : List EdgeRef) (p q : ℕ) (walk : List (ℕ × ℕ)) → IsWalk (map arc_of edges) p walk q → (path_edges : List EdgeRef) × IsTrail (Contains edges) p path_edges q
path_along edges p q [] leads = ([], leads)
path_along edges p q (arc ∷ walk) leads =
    let edge = from_map arc_of edges arc leads.0 in
    let rest = path_along edges edge.0.to q walk (subst (λ x. IsWalk (map arc_of edges) x walk q) (sym (ap (λ (a : ℕ × ℕ). a.1) edge.2)) leads.2) in
    (edge.0 ∷ rest.0, (edge.1, ap (λ (a : ℕ × ℕ). a.0) edge.2 ∙ leads.1, rest.1))

path_to : (edges : List EdgeRef) (p q : ℕ) → Reaches (map arc_of edges) p q → (path_edges : List EdgeRef) × IsTrail (Contains edges) p path_edges q
path_to edges p q reaches = path_along edges p q reaches.walk reaches.leads

-- a path that has the first i of the edges
record PassesFirst (edges : List EdgeRef) (i first : ℕ) : Type 0 where
  cycle : List EdgeRef
  at : ℕ
  so_far : ToursSoFar edges (take i edges) cycle first at

-- a closed path that has all of them
tour_of_all : (edges : List EdgeRef) → 0 < length edges → IsStronglyConnected edges → (cycle : List EdgeRef) × IsTour edges edges cycle
tour_of_all edges some joined =
    let whole = passes (length edges) (omega arith) in
    let back = path_to edges whole.at first (whole.so_far.goes_on (listed_edge edges 0) first_here) in (
      whole.cycle ++ back.0,
      tours_all edges edges whole.cycle (whole.cycle ++ back.0) (length edges) first whole.at some (omega arith) whole.so_far
          (record { path_edges = back.0; added = refl; leads = back.1 }),
    )
  where
    first : ℕ
    first = (listed_edge edges 0).from

    first_here : Contains edges (listed_edge edges 0)
    first_here = Contains-get_or edges 0 _ some

    inside : All (Contains edges) edges
    inside = All-contains_itself edges

    passes : (i : ℕ) → i ≤ length edges → PassesFirst edges i first
    passes zero most = record { cycle = []; at = first; so_far = tours_none edges (listed_edge edges 0) joined first_here }
    passes (suc i) most =
        let within : i < length edges = omega (arith, most) in
        let one_more : i + 1 ≡ suc i = omega arith in
        let before = passes i (omega (arith, most)) in
        let path_edges = path_to edges before.at (listed_edge edges i).from (tours_reaches edges edges joined inside i within before.cycle first before.at before.so_far) in
        record {
          cycle = (before.cycle ++ path_edges.0) ++ listed_edge edges i ∷ [];
          at = (listed_edge edges i).to;
          so_far = subst (λ k. ToursSoFar edges (take k edges) ((before.cycle ++ path_edges.0) ++ listed_edge edges i ∷ []) first (listed_edge edges i).to) one_more
              (tours_more edges edges joined inside i within before.cycle (before.cycle ++ path_edges.0) ((before.cycle ++ path_edges.0) ++ listed_edge edges i ∷ []) first before.at before.so_far
              (record { path_edges = path_edges.0; added = refl; leads = path_edges.1 }) refl);
        }

-- lists with the same members pass the same tests
alike_items : {A : Type 0} (xs ys : List A) → ((x : A) → Contains xs x → Contains ys x) → ((y : A) → Contains ys y → Contains xs y) → Alike xs ys
alike_items xs ys to from = record {
  some = λ p. same_truth (list_any p xs) (list_any p ys)
      (λ is. let found = any_found p xs is in any_from p ys found.0 (to found.0 found.1) found.2)
      (λ is. let found = any_found p ys is in any_from p xs found.0 (from found.0 found.1) found.2);
  each = λ p. same_truth (list_all p xs) (list_all p ys) (λ is. each_from p ys (λ y here. each_is p xs y is (from y here)))
      (λ is. each_from p xs (λ x here. each_is p ys x is (to x here)));
}

-- the closed path through all edges of an accepting component is accepting
carried_path : (links : List Link) (Kind : EdgeRef → Type 0) (f : FormulaTree) (group : List EdgeRef) → IsAcceptingComponent links Kind f group
    → (cycle : List EdgeRef) × IsAccepting links Kind f cycle
carried_path links Kind f group carrier =
    let tour = tour_of_all group carrier.some carrier.joined in
    let cycle = tour.0 in
    let on : (e : EdgeRef) → Contains cycle e → Contains group e = λ e here. trail_kind (Contains group) tour.1.state tour.1.state cycle e tour.1.closed here in (
      cycle,
      record {
        some = tour.1.some;
        state = tour.1.state;
        closed = trail_weaker (Contains group) Kind carrier.kind tour.1.state tour.1.state cycle tour.1.closed;
        meets = met_alike (map (marks_of links) cycle) (map (marks_of links) group) (alike_items (map (marks_of links) cycle) (map (marks_of links) group)
            (λ marks here. marked cycle group on marks here) (λ marks here. marked group cycle (λ e there. All-contains (Contains cycle) group e tour.1.passes there) marks here)) f
            ∙ carrier.meets;
      },
    )
  where
    marked : (es ds : List EdgeRef) → ((e : EdgeRef) → Contains es e → Contains ds e) → (marks : List ℕ) → Contains (map (marks_of links) es) marks
        → Contains (map (marks_of links) ds) marks
    marked es ds inside marks here =
        let edge = from_map (marks_of links) es marks here in
        subst (Contains (map (marks_of links) ds)) edge.2 (there_map (marks_of links) ds edge.0 (inside edge.0 edge.1))

-- letters for edges whose labels are satisfiable
letters_for : (c : SymbolicAutomaton) → IsWellFormedSymbolic c → (es : List EdgeRef) → ((e : EdgeRef) → Contains es e → IsPassable c e) → (letters : List NameSet) × AreLettersOf c es letters
letters_for c is [] passable = ([], _)
letters_for c is (e ∷ es) passable =
    let letter = letter_for c is e (passable e (first_there e es)) in
    let rest = letters_for c is es (λ d here. passable d (later_there e es d here)) in
    (letter.0 ∷ rest.0, (letter.1, rest.1))

-- where an accepting component is reached, some word is accepted
pub carrier_accepts : (c : SymbolicAutomaton) → IsWellFormedSymbolic c → (edges group : List EdgeRef) → ArePassable c edges → IsAcceptingComponent c.links (IsReachedEdge c edges) c.formula group
    → AcceptsSome (automaton_of c)
carrier_accepts c is edges group are carrier =
    let carried = carried_path c.links (IsReachedEdge c edges) c.formula group carrier in
    let cycle = carried.0 in
    let on : (e : EdgeRef) → Contains cycle e → IsReachedEdge c edges e =
    λ e here. trail_kind (IsReachedEdge c edges) carried.1.state carried.1.state cycle e carried.1.closed here in
    let first = listed_edge cycle 0 in
    let reached = (on first (Contains-get_or cycle 0 _ carried.1.some)).reached in
    let path_edges = path_to edges reached.start first.from reached.reached in
    let stem = letters_for c is path_edges.0 (λ e here. are.each e (trail_kind (Contains edges) reached.start first.from path_edges.0 e path_edges.1 here)) in
    let loop = letters_for c is cycle (λ e here. (on e here).passable) in
    let long = letters_long c cycle loop.0 loop.1 in
    let some = carried.1.some in
    let own : IsOwnWord (automaton_of c) (record { stem = stem.0; cycle = loop.0; goes_on = omega (arith, some, long) }) =
    own_word c edges path_edges.0 cycle first.from _ refl (record { start = reached.start; is_start = reached.listed; leads = path_edges.1 }) (record {
      some = carried.1.some;
      state = carried.1.state;
      closed = trail_weaker (IsReachedEdge c edges) (IsPassable c) (λ e kind. kind.passable) carried.1.state carried.1.state cycle carried.1.closed;
      meets = carried.1.meets;
    }) stem.1 loop.1 in
    record { stem = stem.0; cycle = loop.0; accepts = own.accepts }

-- some word is accepted exactly where the search finds an accepting component
pub some_accepted : (c : SymbolicAutomaton) → IsWellFormedSymbolic c → (edges : List EdgeRef) (found : Option (List EdgeRef)) (some : Bool) → ArePassable c edges → some ≡ is_some found
    → MatchOption found (AcceptsNothing (automaton_of c)) (IsAcceptingComponent c.links (IsReachedEdge c edges) c.formula) → IsTrue some ↔ AcceptsSome (automaton_of c)
some_accepted c is edges None some are tells none = ((λ holds. absurd (true≢false (sym holds ∙ tells))), (λ word. absurd (none word.stem word.cycle word.accepts)))
some_accepted c is edges (Some group) some are tells carrier = ((λ holds. carrier_accepts c is edges group are carrier), (λ word. tells))
