use Rattle.std.proofs.Common.{◌<◌, List, arith, false, length, subst, sym, true}
use Rattle.std.specs.List.{All, Contains}
use Rattle.std.proofs.lemmas.List.Elements.{All-contains}
use Rattle.std.proofs.lemmas.Result.{IfOk-weaker}
use Rattle.aut_base.proofs.lists.Members.{each_there}
use Rattle.aut_base.proofs.Outcomes.{none_said, some_said}
use Rattle.aut_base.specs.Formula.{FormulaTree, formula_tree}
use Rattle.lasso_emptiness.specs.declared.live.EdgeRef.{EdgeRef}
use Rattle.lasso_emptiness.specs.inner.AcceptingComponents.{Finds, FindsInAny, IsAcceptingComponent}
use Rattle.lasso_emptiness.specs.inner.Edges.{IsEdgeInRange}
use Rattle.lasso_emptiness.specs.inner.Groups.{IsStronglyConnected}
use Rattle.lasso_emptiness.specs.inner.Splits.{IsSurveyed}
use Rattle.lasso_emptiness.specs.inner.Trails.{NoneAccepting}
use Rattle.lasso_emptiness.proofs.conditions.Conditions.{taken_fewer}
use Rattle.lasso_emptiness.proofs.components.Searching.{finds_of_groups, finds_of_split, found_off, within_all}
use Rattle.lasso_emptiness.proofs.search.+search.Goals as goal

pub search-search_in-requires : goal.search-search_in-requires
search-search_in-requires t c =
    let Within = IsEdgeInRange (length c.args.links.now) c.args.states in (
      omega arith,
      (
        each_there (All Within) c.in_ok-groups.groups.items
            (λ group listed. each_there Within group (λ e here. All-contains Within c.args.edges.now e c.requires ((c.in_ok-groups.ensures.each group listed).inside e here))),
        each_there IsStronglyConnected c.in_ok-groups.groups.items (λ group listed. (c.in_ok-groups.ensures.each group listed).joined),
      ),
    )

pub search-returns : goal.search-returns
search-returns t c =
    let f = formula_tree c.args.condition.now in
    IfOk-weaker c.search_in.result (FindsInAny c.args.links.now c.in_ok-groups.groups.items f) (Finds c.args.links.now (Contains c.args.edges.now) f)
    (finds_of_groups c.args.links.now c.args.edges.now c.in_ok-groups.groups.items f c.in_ok-groups.ensures)
    c.search_in.ensures

pub search_in-divide-requires : goal.search_in-divide-requires
search_in-divide-requires t c =
    let said = subst (IsSurveyed c.args.links.now c.args.groups.items (formula_tree c.args.condition.now)) c.in-Open.is c.in_ok-group.ensures in
    let Linked = λ (e : EdgeRef). e.link < length c.args.links.now in
    each_there (All Linked) c.in-Open.left.items
    (λ group listed. each_there Linked group (λ e here.
    (within_all (IsEdgeInRange (length c.args.links.now) c.args.states) c.args.groups.items c.requires.within group (said.1.inside group listed) e here).link))

pub search_in-search-requires : goal.search_in-search-requires
search_in-search-requires t c =
    let said = subst (IsSurveyed c.args.links.now c.args.groups.items (formula_tree c.args.condition.now)) c.in-Open.is c.in_ok-group.ensures in
    let fewer = taken_fewer c.in-Open.side.set c.in-Open.side.neg true (formula_tree c.args.condition.now) _ c.in_ok-holds-in-Open.ensures said.0 in
    let Within = IsEdgeInRange (length c.args.links.now) c.args.states in (
      omega arith,
      subst (All Within) (sym c.as_slice.ensures) (each_there Within c.in_ok-parts-in-Open.parts.off (λ e here.
          let some = c.in_ok-parts-in-Open.ensures.off_some e here in
          within_all Within c.args.groups.items c.requires.within some.group (said.1.inside some.group some.listed) e some.here)),
    )

pub search_in-returns-in-Some : goal.search_in-returns-in-Some
search_in-returns-in-Some t c =
    let links = c.args.links.now in
    let f = formula_tree c.args.condition.now in
    let side = c.in-Open.side in
    let said = subst (IsSurveyed links c.args.groups.items f) c.in-Open.is c.in_ok-group.ensures in
    let found = some_said (NoneAccepting links (Contains c.as_slice.result.now) (formula_tree c.in_ok-holds-in-Open.holds))
    (IsAcceptingComponent links (Contains c.as_slice.result.now) (formula_tree c.in_ok-holds-in-Open.holds)) c.in_ok-group-in-Open.field-0 c.in-Some.group c.in-Some.is
    c.in_ok-group-in-Open.ensures in
    let off = subst (λ (es : List EdgeRef). IsAcceptingComponent links (Contains es) (formula_tree c.in_ok-holds-in-Open.holds) c.in-Some.group) c.as_slice.ensures found in
    found_off links side.set side.neg f c.args.groups.items c.in-Open.left.items c.in_ok-parts-in-Open.parts.crossed.items c.in_ok-parts-in-Open.parts.off said.1
    c.in_ok-parts-in-Open.ensures c.in-Some.group
    (subst (λ (g : FormulaTree). IsAcceptingComponent links (Contains c.in_ok-parts-in-Open.parts.off) g c.in-Some.group) c.in_ok-holds-in-Open.ensures off)

pub search_in-search_in-requires : goal.search_in-search_in-requires
search_in-search_in-requires t c =
    let said = subst (IsSurveyed c.args.links.now c.args.groups.items (formula_tree c.args.condition.now)) c.in-Open.is c.in_ok-group.ensures in
    let fewer = taken_fewer c.in-Open.side.set c.in-Open.side.neg false (formula_tree c.args.condition.now) _ c.in_ok-fails-in-Open.ensures said.0 in
    let Within = IsEdgeInRange (length c.args.links.now) c.args.states in
    let crossed = c.in_ok-parts-in-Open.parts.crossed.items in (
      omega arith,
      (
        each_there (All Within) crossed (λ group listed. All-contains (All Within) c.args.groups.items group c.requires.within
            (said.1.inside group (c.in_ok-parts-in-Open.ensures.inside group listed))),
        each_there IsStronglyConnected crossed (λ group listed. All-contains IsStronglyConnected c.args.groups.items group c.requires.joined
            (said.1.inside group (c.in_ok-parts-in-Open.ensures.inside group listed))),
      ),
    )

pub search_in-returns-in-Met : goal.search_in-returns-in-Met
search_in-returns-in-Met t c =
    let said = subst (IsSurveyed c.args.links.now c.args.groups.items (formula_tree c.args.condition.now)) c.in-Met.is c.in_ok-group.ensures in
    record {
      some = said.some;
      kind = λ e here. record { group = c.in-Met.group; listed = said.listed; here = here };
      joined = All-contains IsStronglyConnected c.args.groups.items c.in-Met.group c.requires.joined said.listed;
      meets = said.meets;
    }

pub search_in-returns-in_ok-fails-in-Open : goal.search_in-returns-in_ok-fails-in-Open
search_in-returns-in_ok-fails-in-Open t c =
    let links = c.args.links.now in
    let f = formula_tree c.args.condition.now in
    let side = c.in-Open.side in
    let off = c.in_ok-parts-in-Open.parts.off in
    let crossed = c.in_ok-parts-in-Open.parts.crossed.items in
    let said = subst (IsSurveyed links c.args.groups.items f) c.in-Open.is c.in_ok-group.ensures in
    let none = none_said (NoneAccepting links (Contains c.as_slice.result.now) (formula_tree c.in_ok-holds-in-Open.holds))
    (IsAcceptingComponent links (Contains c.as_slice.result.now) (formula_tree c.in_ok-holds-in-Open.holds)) c.in_ok-group-in-Open.field-0 c.in_default.is c.in_ok-group-in-Open.ensures in
    let none_off = subst (λ (g : FormulaTree). NoneAccepting links (Contains off) g) c.in_ok-holds-in-Open.ensures
    (subst (λ (es : List EdgeRef). NoneAccepting links (Contains es) (formula_tree c.in_ok-holds-in-Open.holds)) c.as_slice.ensures none) in
    IfOk-weaker c.search_in.result (FindsInAny links crossed (formula_tree c.in_ok-fails-in-Open.fails)) (FindsInAny links c.args.groups.items f)
    (λ found finds. finds_of_split links side.set side.neg f c.args.groups.items c.in-Open.left.items crossed off said.1 c.in_ok-parts-in-Open.ensures none_off found
    (subst (λ (g : FormulaTree). FindsInAny links crossed g found) c.in_ok-fails-in-Open.ensures finds))
    c.search_in.ensures
