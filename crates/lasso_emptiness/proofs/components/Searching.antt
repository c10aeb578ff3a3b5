-- The search is exact: what it finds, or doesn't, in components and with a `Fin` decided, is right for all edges.
use Rattle.std.proofs.Common.{◌≡◌, ◌∙◌, ℕ, Bool, true, false, List, map, Option, None, Some, inl, inr, ap, refl, sym}
use Rattle.std.specs.List.{All, Contains, list_any}
use Rattle.std.proofs.lemmas.List.Elements.{All-contains}
use Rattle.aut_base.proofs.lists.Members.{any_found, each_there, from_map, none_at, there_map}
use Rattle.aut_base.specs.Formula.{FormulaTree}
use Rattle.aut_core.specs.declared.link.Link.{Link}
use Rattle.lasso_emptiness.specs.declared.live.EdgeRef.{EdgeRef}
use Rattle.lasso_emptiness.specs.inner.AcceptingComponents.{Finds, FindsInAny, IsAcceptingComponent}
use Rattle.lasso_emptiness.specs.inner.Edges.{marks_of, on_side}
use Rattle.lasso_emptiness.specs.inner.Groups.{AreGroups}
use Rattle.lasso_emptiness.specs.inner.Needed.{AreNeeded}
use Rattle.lasso_emptiness.specs.inner.Splits.{AreLeft, AreGroupsSplit}
use Rattle.lasso_emptiness.specs.inner.Taken.{substituted}
use Rattle.lasso_emptiness.specs.inner.Tours.{IsTour}
use Rattle.lasso_emptiness.specs.inner.Trails.{InSome, IsAccepting, NoneAccepting, NoneInAny}
use Rattle.lasso_emptiness.proofs.conditions.Conditions.{met-denied, met-taken}
use Rattle.lasso_emptiness.proofs.conditions.Marked.{none_on}
use Rattle.lasso_emptiness.proofs.trails.Trails.{trail_kind, trail_weaker, trail_with}

-- an accepting closed path, along edges of a wider kind
pub accepting_weaker : (links : List Link) (K L : EdgeRef → Type 0) (f : FormulaTree) (cycle : List EdgeRef) → ((e : EdgeRef) → K e → L e) → IsAccepting links K f cycle
    → IsAccepting links L f cycle
accepting_weaker links K L f cycle weaker accepting = record {
  some = accepting.some;
  state = accepting.state;
  closed = trail_weaker K L weaker accepting.state accepting.state cycle accepting.closed;
  meets = accepting.meets;
}

-- an accepting component, of edges of a wider kind
pub carrier_weaker : (links : List Link) (K L : EdgeRef → Type 0) (f : FormulaTree) (group : List EdgeRef) → ((e : EdgeRef) → K e → L e) → IsAcceptingComponent links K f group
    → IsAcceptingComponent links L f group
carrier_weaker links K L f group weaker carrier = record {
  some = carrier.some;
  kind = λ e here. weaker e (carrier.kind e here);
  joined = carrier.joined;
  meets = carrier.meets;
}

-- an answer for the groups is one for all edges
pub finds_of_groups : (links : List Link) (edges : List EdgeRef) (groups : List (List EdgeRef)) (f : FormulaTree) → AreGroups edges groups → (found : Option (List EdgeRef))
    → FindsInAny links groups f found → Finds links (Contains edges) f found
finds_of_groups links edges groups f are None none = λ cycle accepting.
    let there = are.whole accepting.state cycle accepting.some accepting.closed in
    none there.0 there.1 cycle (record { some = accepting.some; state = accepting.state; closed = there.2; meets = accepting.meets })
finds_of_groups links edges groups f are (Some group) carrier =
    carrier_weaker links (InSome groups) (Contains edges) f group (λ e some. (are.each some.group some.listed).inside e some.here) carrier

-- a closed path through the needed edges is accepting
pub accepting_tour : (links : List Link) (edges needed cycle : List EdgeRef) (f : FormulaTree) → AreNeeded links edges f needed → IsTour edges needed cycle
    → IsAccepting links (Contains edges) f cycle
accepting_tour links edges needed cycle f are tour = record {
  some = tour.some;
  state = tour.state;
  closed = tour.closed;
  meets = are.enough cycle (each_there (Contains edges) cycle (λ e here. trail_kind (Contains edges) tour.state tour.state cycle e tour.closed here)) tour.passes;
}

-- The groups that are left open, while no other has an accepting path, divided by a `Fin`.
module _ (links : List Link) (set : ℕ) (neg : Bool) (f : FormulaTree) (groups left crossed : List (List EdgeRef)) (off : List EdgeRef) (are : AreLeft links groups f left)
    (split : AreGroupsSplit links set neg left off crossed) where
  -- a component of edges that don't violate the `Fin`, accepting with the `Fin` taken as true, is accepting
  pub found_off : (group : List EdgeRef) → IsAcceptingComponent links (Contains off) (substituted set neg true f) group → IsAcceptingComponent links (InSome groups) f group
  found_off group carrier = record {
    some = carrier.some;
    kind = λ e here. let some = split.off_some e (carrier.kind e here) in record { group = some.group; listed = are.inside some.group some.listed; here = some.here };
    joined = carrier.joined;
    meets = sym (met-taken (map (marks_of links) group) set neg true f
        (none_on links group set neg (each_there (λ (e : EdgeRef). on_side set neg (marks_of links e) ≡ false) group (λ e here. split.off_side e (carrier.kind e here))))) ∙ carrier.meets;
  }

  -- a component that is accepting with the `Fin` taken as false is accepting
  pub found_crossed : (group : List EdgeRef) → IsAcceptingComponent links (InSome crossed) (substituted set neg false f) group → IsAcceptingComponent links (InSome groups) f group
  found_crossed group carrier = record {
    some = carrier.some;
    kind = λ e here. let some = carrier.kind e here in record { group = some.group; listed = are.inside some.group (split.inside some.group some.listed); here = some.here };
    joined = carrier.joined;
    meets = met-denied (map (marks_of links) group) set neg f carrier.meets;
  }

  -- nothing else is: each closed path meets the `Fin`, or has an edge that violates it
  pub none_found : NoneAccepting links (Contains off) (substituted set neg true f) → NoneInAny links crossed (substituted set neg false f) → NoneInAny links groups f
  none_found none_off none_crossed group listed cycle accepting = elim (are.others group listed) [
    | inl there ↦ go there (list_any (on_side set neg) (map (marks_of links) cycle)) refl
    | inr none ↦ none cycle accepting
  ]
    where
      go : Contains left group → (b : Bool) → list_any (on_side set neg) (map (marks_of links) cycle) ≡ b → ⊥
      go there false is = none_off cycle (record {
        some = accepting.some;
        state = accepting.state;
        closed = trail_with (Contains group) (Contains off) accepting.state accepting.state cycle accepting.closed (λ e here in_group.
            split.all_off e (record { group = group; listed = there; here = in_group })
            (none_at (on_side set neg) (map (marks_of links) cycle) (marks_of links e) is (there_map (marks_of links) cycle e here)));
        meets = met-taken (map (marks_of links) cycle) set neg true f is ∙ accepting.meets;
      })
      go there true is =
          let found = any_found (on_side set neg) (map (marks_of links) cycle) is in
          let edge = from_map (marks_of links) cycle found.0 found.1 in
          let here = trail_kind (Contains group) accepting.state accepting.state cycle edge.0 accepting.closed edge.1 in
          none_crossed group (split.all_crossed group edge.0 there here (ap (on_side set neg) edge.2 ∙ found.2)) cycle (record {
            some = accepting.some;
            state = accepting.state;
            closed = accepting.closed;
            meets = met-taken (map (marks_of links) cycle) set neg false f is ∙ accepting.meets;
          })

  -- the answer of the second search, in groups with an edge that violates the `Fin`, once the first found nothing
  pub finds_of_split : NoneAccepting links (Contains off) (substituted set neg true f) → (found : Option (List EdgeRef)) → FindsInAny links crossed (substituted set neg false f) found
      → FindsInAny links groups f found
  finds_of_split none_off None none = none_found none_off none
  finds_of_split none_off (Some group) carrier = found_crossed group carrier

pub within_all : (P : EdgeRef → Type 0) (groups : List (List EdgeRef)) → All (All P) groups → (group : List EdgeRef) → Contains groups group → (e : EdgeRef) → Contains group e → P e
within_all P groups all group listed e here = All-contains P group e (All-contains (All P) groups group all listed) here
