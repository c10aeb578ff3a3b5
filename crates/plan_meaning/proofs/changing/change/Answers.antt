use Rattle.std.proofs.Common.{List, map, subst, sym}
use Rattle.std.proofs.lemmas.List.Elements.{All-contains}
use Rattle.aut_core.specs.SymbolicAutomata.{automaton_of}
use Rattle.plan_meaning.proofs.changes.PlanChanges.{sizes_of_plan}
use Rattle.plan_meaning.proofs.changes.Promised.{few_sets_kept, promises_kept}
use Rattle.plan_meaning.proofs.changes.Stepping.{makes_all}
use Rattle.plan_meaning.specs.Changes.{Change, MakesAll}
use Rattle.plan_meaning.specs.Operands.{IsOfReadSize}
use Rattle.plan_meaning.specs.inner.Stepping.{IsOfSizeFor, MakesAsPromised, changes_asked}
use Rattle.plan_meaning.proofs.changing.change.Goals as goal

pub make_all-requires : goal.make_all-requires
make_all-requires c =
    let a = automaton_of c.args.a in
    let ops = map automaton_of c.args.operands.now in
    subst (λ (cs : List Change). IsOfSizeFor cs a) (sym c.changes.ensures)
    (sizes_of_plan c.args.plan.now ops (λ b there. All-contains IsOfReadSize ops b c.requires.operands.sized there) a c.requires.size)

pub returns-clause-promises : goal.returns-clause-promises
returns-clause-promises c =
    let a = automaton_of c.args.a in
    let made = automaton_of c.in_ok-made.made in
    promises_kept c.args.plan.now (map automaton_of c.args.operands.now) a made (subst (λ (cs : List Change). MakesAsPromised cs a made) c.changes.ensures c.in_ok-made.ensures.steps.all)

pub returns-clause-few_sets : goal.returns-clause-few_sets
returns-clause-few_sets c =
    let a = automaton_of c.args.a in
    let made = automaton_of c.in_ok-made.made in
    few_sets_kept c.args.plan.now (map automaton_of c.args.operands.now) a made (subst (λ (cs : List Change). MakesAsPromised cs a made) c.changes.ensures c.in_ok-made.ensures.steps.all)

pub returns-clause-changed : goal.returns-clause-changed
returns-clause-changed c =
    let a = automaton_of c.args.a in
    let made = automaton_of c.in_ok-made.made in
    subst (λ (cs : List Change). MakesAll cs a made) c.changes.ensures (makes_all (changes_asked c.changes.result) a made c.in_ok-made.ensures.steps.all)
