use Rattle.std.proofs.Common.{◌≡◌, ◌<◌, Bool, true, false, List, Ok, Err, Result, map, refl, subst, sym}
use Rattle.aut_core.specs.SymbolicAutomata.{automaton_of}
use Rattle.plan_meaning.proofs.filters.FilterLists.{ends, goes_on, passed_on}
use Rattle.plan_meaning.proofs.filters.Kept.{from_at, kept_on, stay_kept_on}
use Rattle.plan_meaning.specs.Complements.{AreComplementsKept, StayKept}
use Rattle.plan_meaning.specs.Filters.{Filter}
use Rattle.plan_meaning.specs.declared.fault.PlanFault.{PlanFault}
use Rattle.plan_meaning.specs.inner.Judging.{ExaminesFilter, JudgesWithin, filter_of}
use Rattle.plan_meaning.proofs.judging.hold_all.Goals.{in-Some+in_ok-holds+else-not-branch, in_default}
use Rattle.plan_meaning.proofs.judging.hold_all.Goals as goal

pub returns-in_err-holds-clause-judges : goal.returns-in_err-holds-clause-judges
returns-in_err-holds-clause-judges c =
    let within = (subst (λ n. c.filters.filter-index < n) (sym c.filters.invariant.2) c.filters-test.true) in
    let a = automaton_of c.args.a.now in
    let xs = c.filters-asked.result in
    let fault = c.in_err-holds.field-0.0 in
    let stop : Result Bool PlanFault = Err fault in
    let ended = ends xs c.filters.filter-index _ _ a within c.in-Some.is c.filters.invariant.0 c.in-Some.filter stop refl (λ same. let s : stop ≡ Ok true = same in cc)
    c.in_err-holds.ensures.examines in
    passed_on c.from_residual.result fault _ a c.from_residual.ensures.1 (subst (λ (fs : List Filter). JudgesWithin stop fs a) c.filters-asked.ensures.list ended)

pub returns-in_err-holds-clause-kept : goal.returns-in_err-holds-clause-kept
returns-in_err-holds-clause-kept c =
    let within = (subst (λ n. c.filters.filter-index < n) (sym c.filters.invariant.2) c.filters-test.true) in
    let p = c.args.plan.now in
    let ops = map automaton_of c.args.operands.now in
    let from = from_at p ops c.filters-asked.result c.filters.filter-index _ c.in-Some.filter c.filters-asked.ensures.from within c.in-Some.is in
    kept_on p ops c.in-Some.filter c.filters.complements c.holds.new.complements from c.filters.invariant.1 c.in_err-holds.ensures.ready c.in_err-holds.ensures.others

pub returns-in_err-holds-clause-stay : goal.returns-in_err-holds-clause-stay
returns-in_err-holds-clause-stay c = stay_kept_on c.filters.invariant.3 c.in_err-holds.ensures.stay

pub returns-then-not-branch-clause-stay : goal.returns-then-not-branch-clause-stay
returns-then-not-branch-clause-stay c = stay_kept_on c.filters.invariant.3 c.in_ok-holds.ensures.stay

pub returns-then-not-branch-clause-judges : goal.returns-then-not-branch-clause-judges
returns-then-not-branch-clause-judges c =
    let within = (subst (λ n. c.filters.filter-index < n) (sym c.filters.invariant.2) c.filters-test.true) in
    let a = automaton_of c.args.a.now in
    let f = filter_of c.in-Some.filter in
    let drop : Result Bool PlanFault = Ok false in
    let ended = ends c.filters-asked.result c.filters.filter-index _ _ a within c.in-Some.is c.filters.invariant.0 c.in-Some.filter drop refl (λ same. let s : drop ≡ Ok true = same in cc)
    (subst (λ (b : Bool). ExaminesFilter (Ok b) f a) c.if-not-branch.true c.in_ok-holds.ensures.examines) in
    subst (λ (fs : List Filter). JudgesWithin drop fs a) c.filters-asked.ensures.list ended

pub filters-preserved : goal.filters-preserved
filters-preserved c =
    let within = (subst (λ n. c.filters.filter-index < n) (sym c.filters.invariant.2) c.filters-test.true) in
    let a = automaton_of c.args.a.now in
    let p = c.args.plan.now in
    let ops = map automaton_of c.args.operands.now in
    let xs = c.filters-asked.result in
    elim c.match-filter.branch [
      | in-Some+in_ok-holds+else-not-branch w ↦ (let there = w.in-Some.is in
          let from = from_at p ops xs c.filters.filter-index _ w.in-Some.filter c.filters-asked.ensures.from within there in (
            goes_on xs c.filters.filter-index _ _ a within there c.filters.invariant.0
                (subst (λ (b : Bool). ExaminesFilter (Ok b) (filter_of w.in-Some.filter) a) w.if-not-branch.false w.in_ok-holds.ensures.examines, tt),
            subst (AreComplementsKept p ops) (sym w.complements-is)
                (kept_on p ops w.in-Some.filter c.filters.complements w.holds.new.complements from c.filters.invariant.1 w.in_ok-holds.ensures.ready w.in_ok-holds.ensures.others),
            c.filters.invariant.2,
            subst (StayKept c.args.complements.now) (sym w.complements-is) (stay_kept_on c.filters.invariant.3 w.in_ok-holds.ensures.stay),
          ))
      | in_default w ↦ (
        goes_on xs c.filters.filter-index _ _ a within w.in_default.is c.filters.invariant.0 tt,
        subst (AreComplementsKept p ops) (sym w.complements-is) c.filters.invariant.1,
        c.filters.invariant.2,
        subst (StayKept c.args.complements.now) (sym w.complements-is) c.filters.invariant.3,
      )
    ]
