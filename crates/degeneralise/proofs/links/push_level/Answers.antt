use Rattle.std.proofs.Common.{◌≡◌, ◌∙◌, ◌==◌, ◌<◌, List, All, ap, arith, filter, get_or, length, map, subst, sym, ℕ}
use Rattle.std.proofs.lemmas.List.{take_all}
use Rattle.std.proofs.lemmas.List.Elements.{All-filter}
use Rattle.std.proofs.lemmas.Nat.{row_fits}
use Rattle.aut_base.proofs.order.Ordered.{filter_map_of}
use Rattle.aut_base.proofs.lists.Steps.{map_map_on}
use Rattle.aut_base.specs.Automaton.{LabelledEdge}
use Rattle.aut_core.specs.SymbolicAutomata.{SymbolicAutomaton, IsLinkOf, edge_of}
use Rattle.aut_core.specs.declared.link.Link.{Link}
use Rattle.label_guards.specs.Store.{Has, label_in}
use Rattle.label_guards.specs.declared.guard.Guard.{Guard}
use Rattle.fin_removal.proofs.LinkSteps.{adds_one, adds_then}
use Rattle.fin_removal.specs.inner.Links.{AddsLinks}
use Rattle.degeneralise.specs.Buchi.{edge_at_level}
use Rattle.degeneralise.proofs.links.push_level.Goals as goal

-- a link of one state is the automaton's
at_link : (a : SymbolicAutomaton) (state i : ℕ) (items : List Link) (l : Link) → All (IsLinkOf a) a.links → items ≡ filter (λ (m : Link). m.from == state) a.links → i < length items
    → l ≡ get_or items i l → IsLinkOf a l
at_link a state i items l all are within is =
    subst (IsLinkOf a) (sym is) (subst (λ (ls : List Link). All (IsLinkOf a) ls) (sym are) (All-filter (λ (m : Link). m.from == state) (IsLinkOf a) a.links all) i l within)

pub link_at-requires-clause-from : goal.link_at-requires-clause-from
link_at-requires-clause-from c =
    let link = at_link c.args.a.now c.args.state c.links.link-index c.links_of-link-items.result.now c.link-item.result c.well_formedness.ensures.parts.links c.links_of-link-items.ensures
    c.links-test.true c.link-item.is in
    omega (arith, row_fits c.link-item.result.from c.args.k c.args.a.now.states c.args.k link.from (omega arith), c.requires.fit)

pub link_at-requires-clause-to : goal.link_at-requires-clause-to
link_at-requires-clause-to c =
    let link = at_link c.args.a.now c.args.state c.links.link-index c.links_of-link-items.result.now c.link-item.result c.well_formedness.ensures.parts.links c.links_of-link-items.ensures
    c.links-test.true c.link-item.is in
    omega (arith, row_fits c.link-item.result.to c.args.k c.args.a.now.states c.args.k link.to (omega arith), c.requires.fit)

pub links-preserved : goal.links-preserved
links-preserved c =
    let s = c.args.a.now.store in
    let l = c.link-item.result in
    let made = c.in_ok-at_level.at_level in
    let its = c.in_ok-at_level.ensures in
    let link = at_link c.args.a.now c.args.state c.links.link-index c.links_of-link-items.result.now l c.well_formedness.ensures.parts.links c.links_of-link-items.ensures c.links-test.true
    c.link-item.is in
    let e : LabelledEdge = edge_at_level c.args.k c.args.watch.now c.args.level (edge_of s l) in
    let is : edge_of s made ≡ e = λ i. record { from = its.from i; label = label_in s (its.guard i); to = its.to i; marks = its.marks i } in
    subst (λ (es : List LabelledEdge). AddsLinks s c.args.links.now c.push.new.self es)
    (map_map_on (edge_at_level c.args.k c.args.watch.now c.args.level) (edge_of s) c.links_of-link-items.result.now c.links.link-index l c.links-test.true c.link-item.is)
    (adds_then c.links.invariant (adds_one s c.links.links c.push.new.self made e c.in_ok-push.ensures.ok (subst (λ (g : Guard). Has s g) (sym its.guard) link.guard) is))

pub returns : goal.returns
returns c =
    let s = c.args.a.now.store in
    let f = edge_at_level c.args.k c.args.watch.now c.args.level in
    let all = ap (λ (ls : List Link). map f (map (edge_of s) ls)) (take_all c.links.link-index c.links_of-link-items.result.now c.links-test.false ∙ c.links_of-link-items.ensures) in
    let kept = ap (map f) (sym (filter_map_of (λ (e : LabelledEdge). e.from == c.args.state) (edge_of s) c.args.a.now.links)) in
    subst (λ (es : List LabelledEdge). AddsLinks s c.args.links.now c.links.links es) (all ∙ kept) c.links.invariant
