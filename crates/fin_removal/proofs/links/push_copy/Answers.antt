use Rattle.std.proofs.Common.{◌≡◌, ◌∙◌, ◌+◌, ◌*◌, [], ◌∷◌, ◌++◌, List, ap, arith, cond, get_or, length, map, subst, sym, take}
use Rattle.std.proofs.lemmas.List.{append-nil}
use Rattle.aut_base.specs.Automaton.{LabelledEdge}
use Rattle.aut_core.specs.SymbolicAutomata.{IsLinkOf, edge_of}
use Rattle.fin_removal.specs.Copies.{copy_edges}
use Rattle.fin_removal.proofs.Parts.{edge_in}
use Rattle.fin_removal.specs.inner.Links.{AddsLinks}
use Rattle.fin_removal.proofs.CopyMarks.{copy_edges_more}
use Rattle.fin_removal.proofs.LinkSteps.{adds_one, adds_then}
use Rattle.fin_removal.proofs.links.push_copy.Goals as goal

pub links-preserved-then-not-meets_all : goal.links-preserved-then-not-meets_all
links-preserved-then-not-meets_all c =
    let s = c.args.a.now.store in
    let n = c.args.a.now.states in
    let items = c.links-link-items.result.now in
    let e : LabelledEdge = edge_of s c.link-item.result in
    let before : List LabelledEdge = copy_edges n (map (edge_of s) (take c.links.link-index items)) c.args.copy.now in
    let more = copy_edges_more (edge_of s) n c.args.copy.now items c.links.link-index c.link-item.result c.links-test.true c.link-item.is in
    let none = ap (λ b. before ++ cond b (edge_in n c.args.copy.now e ∷ []) []) (sym c.if-not-meets_all.ensures) ∙ append-nil before in
    subst (λ (es : List LabelledEdge). AddsLinks s c.args.links.now c.links.links es) (sym (more ∙ none)) c.links.invariant

pub links-preserved : goal.links-preserved
links-preserved c =
    let s = c.args.a.now.store in
    let n = c.args.a.now.states in
    let items = c.links-link-items.result.now in
    let l = c.link-item.result in
    let copy = c.args.copy.now in
    let e : LabelledEdge = edge_of s l in
    let before : List LabelledEdge = copy_edges n (map (edge_of s) (take c.links.link-index items)) copy in
    let more = copy_edges_more (edge_of s) n copy items c.links.link-index l c.links-test.true c.link-item.is in
    let one = ap (λ b. before ++ cond b (edge_in n copy e ∷ []) []) (sym c.if-not-meets_all.ensures) in
    let given = c.links-link-items.ensures in
    let link : IsLinkOf c.args.a.now l = subst (IsLinkOf c.args.a.now) (sym (c.link-item.is ∙ ap (λ ls. get_or ls c.links.link-index l) given))
    (c.well_formedness.ensures.parts.links c.links.link-index l (omega (arith, ap length given, c.links-test.true))) in
    let states : c.states.result ≡ n = c.states.ensures in
    let marks = c.in_ok-marks_in.ensures in
    subst (λ (es : List LabelledEdge). AddsLinks s c.args.links.now c.push.new.self es) (sym (more ∙ one))
    (adds_then c.links.invariant (adds_one s c.links.links c.push.new.self _ (edge_in n copy e) c.in_ok-push.ensures.ok link.guard
    (λ j. record { from = copy.number * states j + l.from; label = e.label; to = copy.number * states j + l.to; marks = marks j })))
