use Rattle.std.proofs.lemmas.Result.{IfOk-weaker}
use Rattle.label_guards.specs.declared.guards.Operation.TheVariants.{And}
use Rattle.label_guards.proofs.labelled.Literals.{joined_beside, met_above}
use Rattle.label_guards.proofs.guards.Guards.meet_literal.Goals as goal

pub returns-then-literal-level-clause-met : goal.returns-then-literal-level-clause-met
returns-then-literal-level-clause-met c =
    IfOk-weaker c.branch-self.result _ _ (λ place is. met_above c.args.self.now _ c.args.literal c.args.place place is) c.branch-self.ensures.place

pub returns-clause-met : goal.returns-clause-met
returns-clause-met c =
    IfOk-weaker c.combine.result _ _
    (λ place is. joined_beside c.branch-self-2.ensures.grows c.combine.ensures.grows And c.args.literal _ c.args.place place c.requires.has c.in_ok-own.ensures.place is)
    c.combine.ensures.joined
