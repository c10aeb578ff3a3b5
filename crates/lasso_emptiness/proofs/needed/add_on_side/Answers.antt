use Rattle.std.proofs.Common.{◌≡◌, ◌∙◌, ◌++◌, ◌∷◌, ◌<◌, [], List, true, false, inr, length, subst, sym}
use Rattle.std.specs.List.{All, Contains}
use Rattle.std.proofs.lemmas.Bool.{true≢false}
use Rattle.std.proofs.lemmas.List.Elements.{All-contains, All-weaker}
use Rattle.aut_base.proofs.Outcomes.{found_from, none_from, ok_weaker}
use Rattle.aut_base.specs.Formula.{Inf}
use Rattle.lasso_emptiness.specs.declared.live.EdgeRef.{EdgeRef}
use Rattle.lasso_emptiness.specs.inner.Edges.{marks_of, on_side}
use Rattle.lasso_emptiness.specs.inner.Needed.{AddsOnce, Serves}
use Rattle.lasso_emptiness.proofs.conditions.Marked.{inf_not_met}
use Rattle.lasso_emptiness.proofs.conditions.Sufficient.{inf_added, inf_there}
use Rattle.lasso_emptiness.proofs.needed.add_on_side.Goals as goal

pub one_of-requires : goal.one_of-requires
one_of-requires c =
    subst (All (λ (e : EdgeRef). e.link < length c.args.links.now)) (sym c.as_slice.ensures)
    (All-weaker (Contains c.args.edges.now) (λ (e : EdgeRef). e.link < length c.args.links.now)
    (λ e here. All-contains (λ (d : EdgeRef). d.link < length c.args.links.now) c.args.edges.now e c.requires.within here) c.args.needed.now c.requires.inside)

pub returns-then-is_some-clause-serves : goal.returns-then-is_some-clause-serves
returns-then-is_some-clause-serves c =
    let found = found_from _ (λ (e : EdgeRef). Contains c.as_slice.result.now e × (on_side c.args.side.set c.args.side.neg (marks_of c.args.links.now e) ≡ true)) c.one_of.result
    (sym c.is_some.ensures ∙ c.if-is_some.true) c.one_of.ensures in
    inf_there c.args.links.now c.args.edges.now c.args.side.set c.args.side.neg c.args.needed.now found.0 c.requires.inside
    (subst (λ (es : List EdgeRef). Contains es found.0) c.as_slice.ensures found.1.0) found.1.1

pub returns-in-Some-clause-serves : goal.returns-in-Some-clause-serves
returns-in-Some-clause-serves c =
    ok_weaker c.push.result (c.push.new.self ≡ c.args.needed.now ++ c.in-Some.edge ∷ [])
    (Serves c.args.links.now c.args.edges.now (Inf c.args.side.set c.args.side.neg) c.args.needed.now c.push.new.self)
    (λ made. inf_added c.args.links.now c.args.edges.now c.args.side.set c.args.side.neg c.args.needed.now c.push.new.self c.in-Some.edge made c.requires.inside c.in-Some.ensures.0
    c.in-Some.ensures.1)
    c.push.ensures.ok

pub returns-in-Some-clause-once : goal.returns-in-Some-clause-once
returns-in-Some-clause-once c =
    let none = none_from _ (λ (e : EdgeRef). Contains c.as_slice.result.now e × (on_side c.args.side.set c.args.side.neg (marks_of c.args.links.now e) ≡ true)) c.one_of.result
    (sym c.is_some.ensures ∙ c.if-is_some.false) c.one_of.ensures in
    ok_weaker c.push.result (c.push.new.self ≡ c.args.needed.now ++ c.in-Some.edge ∷ [])
    (AddsOnce c.args.links.now c.args.side.set c.args.side.neg c.args.needed.now c.push.new.self)
    (λ made. inr (subst (All (λ (e : EdgeRef). on_side c.args.side.set c.args.side.neg (marks_of c.args.links.now e) ≡ false)) c.as_slice.ensures none, (c.in-Some.edge, made)))
    c.push.ensures.ok

pub returns-in-None-clause-serves : goal.returns-in-None-clause-serves
returns-in-None-clause-serves c =
    absurd (true≢false (sym c.requires.met ∙ inf_not_met c.args.links.now c.args.edges.now c.args.side.set c.args.side.neg c.in-None.ensures))
