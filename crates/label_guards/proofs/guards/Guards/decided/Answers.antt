use Rattle.std.proofs.Common.{◌&&◌, Bool, ◌∙◌, ap, arith, sym}
use Rattle.std.proofs.lemmas.Result.{IfOk-weaker}
use Rattle.std.specs.Bool.{beq}
use Rattle.label_guards.specs.Store.{outcome}
use Rattle.label_guards.proofs.diagrams.Reduced.{level_most}
use Rattle.label_guards.proofs.labelled.Numbered.{failed, held}
use Rattle.label_guards.proofs.guards.Guards.decided.Goals as goal

pub choice-requires-clause-low_later : goal.choice-requires-clause-low_later
choice-requires-clause-low_later c =
    let most = level_most c.args.self.now c.reduced.ensures c.args.place c.requires.has in
    let later = c.requires.later in
    omega (arith, most, later)

pub choice-requires-else-holds-clause-high_later : goal.choice-requires-else-holds-clause-high_later
choice-requires-else-holds-clause-high_later c =
    let most = level_most c.args.self.now c.reduced.ensures c.args.place c.requires.has in
    let later = c.requires.later in
    omega (arith, most, later)

pub returns-then-holds-clause-truth : goal.returns-then-holds-clause-truth
returns-then-holds-clause-truth c =
    IfOk-weaker c.choice.result _ _ (λ made is on. held c.choice.ensures.grows c.args.prop c.args.place made c.requires.has is on
    ∙ ap (λ (b : Bool). beq (on c.args.prop) b && outcome c.args.self.now.nodes on c.args.place) (sym c.if-holds.true)) c.choice.ensures.made

pub returns-else-holds-clause-truth : goal.returns-else-holds-clause-truth
returns-else-holds-clause-truth c =
    IfOk-weaker c.choice-else-holds.result _ _ (λ made is on. failed c.choice-else-holds.ensures.grows c.args.prop c.args.place made c.requires.has is on
    ∙ ap (λ (b : Bool). beq (on c.args.prop) b && outcome c.args.self.now.nodes on c.args.place) (sym c.if-holds.false)) c.choice-else-holds.ensures.made
