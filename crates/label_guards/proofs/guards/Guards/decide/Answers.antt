use Rattle.std.proofs.lemmas.Result.{IfOk-weaker}
use Rattle.label_guards.proofs.rebuilt.Brought.{chosen, decided}
use Rattle.label_guards.proofs.diagrams.Growth.{grows_on}
use Rattle.label_guards.proofs.guards.Guards.decide.Goals as goal

pub returns-then-prop-level-2-clause-decided : goal.returns-then-prop-level-2-clause-decided
returns-then-prop-level-2-clause-decided c = IfOk-weaker c.choice.result _ _ (λ place made. chosen c.choice.ensures.grows _ _ _ place c.requires.low c.requires.high made) c.choice.ensures.made

pub returns-clause-grows : goal.returns-clause-grows
returns-clause-grows c = grows_on c.choice-2.ensures.grows (grows_on c.choice-3.ensures.grows (grows_on c.combine.ensures.grows (grows_on c.combine-2.ensures.grows c.combine-3.ensures.grows)))

pub returns-clause-decided : goal.returns-clause-decided
returns-clause-decided c = IfOk-weaker c.combine-3.result _ _ (λ place joined.
    decided c.choice-2.ensures.grows c.choice-3.ensures.grows c.combine.ensures.grows c.combine-2.ensures.grows c.combine-3.ensures.grows _ _ _ _ _ _ _ place c.requires.low c.requires.high
    c.in_ok-holds.ensures.made c.in_ok-fails.ensures.made c.in_ok-in_high.ensures.joined c.in_ok-in_low.ensures.joined joined) c.combine-3.ensures.joined
