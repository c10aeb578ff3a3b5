use Rattle.std.proofs.lemmas.Result.{IfOk-weaker}
use Rattle.label_guards.proofs.labelled.Parts.{branch_true, branch_false}
use Rattle.label_guards.proofs.guards.Guards.branch.Goals as goal

pub returns-then-literal-clause-place : goal.returns-then-literal-clause-place
returns-then-literal-clause-place c = IfOk-weaker c.choice.result _ _
    (λ place made. branch_true c.choice.ensures.grows c.args.literal _ _ place c.requires.fails c.requires.holds c.if-literal.true made) c.choice.ensures.made

pub returns-clause-place : goal.returns-clause-place
returns-clause-place c = IfOk-weaker c.choice-2.result _ _
    (λ place made. branch_false c.choice-2.ensures.grows c.args.literal _ _ place c.requires.fails c.requires.holds c.if-literal.false made) c.choice-2.ensures.made
