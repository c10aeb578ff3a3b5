use Rattle.std.proofs.Common.{arith, false, rules, true, ◌-◌, ◌≡◌}
use Rattle.word_syntax.proofs.lassos.LeastPeriods.{candidate_agrees, candidate_next, candidate_start, least_small}
use Rattle.word_syntax.proofs.lassos.LetterSame.{differ_between, same_between}
use Rattle.word_syntax.proofs.period.next_period.Goals as goal

pub candidates-init : goal.candidates-init
candidates-init c = candidate_start c.args.letters.now c.args.front _ c.requires.some (c.requires.least c.args.front (omega arith))

pub overflow_add-period : goal.overflow_add-period
overflow_add-period c = omega (arith, least_small c.args.letters.now (c.args.front - c.candidates.period) _ (c.requires.least (c.args.front - c.candidates.period) (omega arith)))

pub candidates-preserved : goal.candidates-preserved
candidates-preserved c =
    let unlike : c.is_same.result ≡ false = search rules in
    candidate_next c.args.letters.now c.args.front c.candidates.period _ c.candidates-test.true c.candidates.invariant (c.requires.least (c.args.front - c.candidates.period) (omega arith))
    (differ_between c.args.letters.now c.args.letters.now c.args.front (c.args.front - c.candidates.period) c.index-letters-front.result c.index-letters-front-in-candidates.result
    c.is_same.result c.requires.within (omega arith) c.index-letters-front.is c.index-letters-front-in-candidates.is c.is_same.ensures unlike)

pub returns-else-not-is_same : goal.returns-else-not-is_same
returns-else-not-is_same c =
    let alike : c.is_same.result ≡ true = search rules in
    candidate_agrees c.args.letters.now c.args.front c.candidates.period c.candidates-test.true c.candidates.invariant
    (same_between c.args.letters.now c.args.letters.now c.args.front (c.args.front - c.candidates.period) c.index-letters-front.result c.index-letters-front-in-candidates.result
    c.is_same.result c.requires.within (omega arith) c.index-letters-front.is c.index-letters-front-in-candidates.is c.is_same.ensures alike)
