use Rattle.std.proofs.Common.{◌≡◌, ◌++◌, ◌∙◌, ◌∷◌, [], List, None, ap, sym, subst, inr, Contains, length, slice_get}
use Rattle.std.specs.HashMap.{get}
use Rattle.aut_base.proofs.lists.Lists.{slice_get-push_last}
use Rattle.label_guards.specs.declared.nodes.Node.{Node}
use Rattle.label_guards.specs.Nodes.{HasNumbers, equal_nodes}
use Rattle.label_guards.proofs.diagrams.Numbered.{not_there, numbered_push}
use Rattle.label_guards.proofs.node_list.NodeList.insert.Goals as goal

pub returns-in-Some-clause-stored : goal.returns-in-Some-clause-stored
returns-in-Some-clause-stored c = ap (λ l. slice_get l c.in-Some.number.now) (sym c.self.view_is) ∙ c.self.invariant.there c.args.node c.in-Some.number.now (sym c.in-Some.ensures.value)

pub invariant_of-self-in-Ok : goal.invariant_of-self-in-Ok
invariant_of-self-in-Ok c =
    let none : get equal_nodes c.self.inside.numbers c.args.node ≡ None = sym c.in_default.ensures.value in
    subst (λ ns. HasNumbers ns (get equal_nodes c.insert.new.self)) (sym c.in_ok-push.ensures.items)
    (numbered_push _ (get equal_nodes c.self.inside.numbers) _ c.args.node _ (ap length (sym c.as_slice-number.ensures.value)) c.self.invariant none c.in-Ok.ensures.updates.0)

pub returns-in-Ok-clause-adds : goal.returns-in-Ok-clause-adds
returns-in-Ok-clause-adds c =
    let none : get equal_nodes c.self.inside.numbers c.args.node ≡ None = sym c.in_default.ensures.value in
    inr (
      c.in_ok-push.ensures.items ∙ ap (λ (ns : List Node). ns ++ c.args.node ∷ []) c.self.view_is,
      subst (λ (ns : List Node). Contains ns c.args.node → ⊥) c.self.view_is (not_there _ _ _ c.self.invariant none),
    )

pub returns-in-Ok-clause-stored : goal.returns-in-Ok-clause-stored
returns-in-Ok-clause-stored c = ap (λ l. slice_get l (length c.as_slice-number.result.now)) c.in_ok-push.ensures.items ∙ slice_get-push_last _ _ _ (ap length (sym c.as_slice-number.ensures.value))
