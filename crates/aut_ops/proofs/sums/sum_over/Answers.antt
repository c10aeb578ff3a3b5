use Rattle.std.proofs.Common.{◌∙◌, ap, subst, sym}
use Rattle.std.proofs.lemmas.Result.{IfOk-weaker}
use Rattle.aut_core.specs.SymbolicAutomata.{SymbolicAutomaton, automaton_of}
use Rattle.aut_core.specs.OtherNames.{AcceptTheSame}
use Rattle.aut_ops.proofs.following.Languages.{either_like}
use Rattle.aut_ops.specs.Sums.{side_by_side}
use Rattle.aut_ops.proofs.sums.sum_over.Goals as goal

pub returns-clause-shape : goal.returns-clause-shape
returns-clause-shape c =
    let second = ap automaton_of c.second.ensures ∙ c.in_ok-both.ensures.second in
    IfOk-weaker c.side_by_side.result _ _ (λ made e. e ∙ (λ i. side_by_side (c.in_ok-both.ensures.first i) (second i))) c.side_by_side.ensures.shape

pub returns-clause-accepts : goal.returns-clause-accepts
returns-clause-accepts c =
    let b = automaton_of c.args.b.now in
    let second = subst (λ (x : SymbolicAutomaton). AcceptTheSame (automaton_of x) b) (sym c.second.ensures) c.in_ok-both.ensures.second_accepts in
    IfOk-weaker c.side_by_side.result _ _ (λ made e. either_like (automaton_of made) (automaton_of c.in_ok-both.both.first) (automaton_of c.second.result.now) (automaton_of c.args.a.now) b
    c.in_ok-both.ensures.first_accepts second e) c.side_by_side.ensures.accepts
