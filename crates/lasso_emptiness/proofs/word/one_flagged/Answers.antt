use Rattle.std.proofs.Common.{◌≡◌, ℕ, false, get_or, subst}
use Rattle.std.specs.List.{All}
use Rattle.std.proofs.lemmas.List.{take_all}
use Rattle.std.proofs.lemmas.List.Elements.{All-more}
use Rattle.lasso_emptiness.proofs.word.one_flagged.Goals as goal

pub states-preserved : goal.states-preserved
states-preserved c =
    All-more (λ (p : ℕ). get_or c.args.flags.now p false ≡ false) c.args.states.now c.states.state-index _ c.states-test.true c.states.invariant c.if-flags-state.false

pub returns : goal.returns
returns c =
    subst (All (λ (p : ℕ). get_or c.args.flags.now p false ≡ false)) (take_all c.states.state-index c.args.states.now c.states-test.false) c.states.invariant
