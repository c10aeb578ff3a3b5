use Rattle.std.proofs.Common.{◌∙◌, ◌+◌, drop, subst, sym, take}
use Rattle.aut_core.specs.SymbolicAutomata.{SymbolicAutomaton, automaton_of}
use Rattle.plan_meaning.proofs.changes.ChangeLists.{can_be_made, left_out, made_on, none_made, stops_here}
use Rattle.plan_meaning.specs.inner.Stepping.{IsMadeAsPromised, IsOfSizeFor, changes_asked}
use Rattle.plan_meaning.proofs.changing.make_all.Goals.{in-Some+in_ok-made, in_default}
use Rattle.plan_meaning.proofs.changing.make_all.Goals as goal

pub make-requires-clause-size : goal.make-requires-clause-size
make-requires-clause-size c =
    (can_be_made c.args.changes.now c.changes.change-index _ (automaton_of c.changes.made) c.changes-test.true c.changes.invariant.1 c.in-Some.change (sym c.change-item.is ∙ c.in-Some.is)).1

pub make-requires-clause-possible : goal.make-requires-clause-possible
make-requires-clause-possible c =
    (can_be_made c.args.changes.now c.changes.change-index _ (automaton_of c.changes.made) c.changes-test.true c.changes.invariant.1 c.in-Some.change (sym c.change-item.is ∙ c.in-Some.is)).0

pub returns-in_err-made-clause-steps : goal.returns-in_err-made-clause-steps
returns-in_err-made-clause-steps c =
    stops_here c.args.changes.now c.changes.change-index _ _ (automaton_of c.args.a) (automaton_of c.changes.made) c.changes-test.true (sym c.change-item.is ∙ c.in-Some.is)
    c.changes.invariant.0 c.in_err-made.field-0.0 c.from_residual.result c.from_residual.ensures.1 c.in_err-made.ensures.steps

pub changes-preserved : goal.changes-preserved
changes-preserved c =
    let i = c.changes.change-index in
    let xs = c.args.changes.now in
    let a = automaton_of c.args.a in
    let b = automaton_of c.changes.made in
    elim c.match-change.branch [
      | in-Some+in_ok-made w ↦
          let is = sym c.change-item.is ∙ w.in-Some.is in
          subst (λ (x : SymbolicAutomaton). IsMadeAsPromised (changes_asked (take (i + 1) xs)) a (automaton_of x) × IsOfSizeFor (changes_asked (drop (i + 1) xs)) (automaton_of x)) (sym w.made-is) (
            made_on xs i _ _ a b c.changes-test.true is c.changes.invariant.0 _ w.in_ok-made.ensures.steps,
            (can_be_made xs i _ b c.changes-test.true c.changes.invariant.1 w.in-Some.change is).2 _ w.in_ok-made.ensures.size,
          )
      | in_default w ↦
          let is = sym c.change-item.is ∙ w.in_default.is in
          subst (λ (x : SymbolicAutomaton). IsMadeAsPromised (changes_asked (take (i + 1) xs)) a (automaton_of x) × IsOfSizeFor (changes_asked (drop (i + 1) xs)) (automaton_of x)) (sym w.made-is)
          (made_on xs i _ _ a b c.changes-test.true is c.changes.invariant.0 b (none_made b), left_out xs i _ b c.changes-test.true c.changes.invariant.1 is)
    ]
