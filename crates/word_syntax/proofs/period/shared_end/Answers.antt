use Rattle.std.proofs.Common.{arith, false, inl, inr, rules, true, ◌-◌, ◌≡◌}
use Rattle.word_syntax.proofs.lassos.LetterSame.{differ_between, same_between}
use Rattle.word_syntax.proofs.lassos.ReducedWords.{Before, before_inside, shared_end, shared_step}
use Rattle.word_syntax.proofs.period.shared_end.Goals as goal
use Rattle.word_syntax.proofs.period.shared_end.Goals.{then-from-eq0, else-from-eq0}

pub stem-preserved : goal.stem-preserved
stem-preserved c =
    let alike : c.is_same.result ≡ true = search rules in
    let before : Before c.args.root.now c.stem.from c.if-from-eq0.before =
    elim c.if-from-eq0.branch [ then-from-eq0 w ↦ inl (w.if-from-eq0.true, w.before-is) | else-from-eq0 w ↦ inr (omega arith, w.before-is) ] in
    shared_step c.args.stem.now c.args.root.now c.stem.kept c.stem.from c.if-from-eq0.before c.stem-test.true c.stem.invariant before
    (same_between c.args.stem.now c.args.root.now (c.stem.kept - 1) c.if-from-eq0.before c.index-stem-kept.result c.index-root-before.result c.is_same.result
    (omega (arith, c.stem.invariant.within)) (before_inside c.args.root.now c.stem.from c.if-from-eq0.before c.stem.invariant.inside before) c.index-stem-kept.is c.index-root-before.is
    c.is_same.ensures alike)

pub returns-then-not-is_same : goal.returns-then-not-is_same
returns-then-not-is_same c =
    let unlike : c.is_same.result ≡ false = search rules in
    let before : Before c.args.root.now c.stem.from c.if-from-eq0.before =
    elim c.if-from-eq0.branch [ then-from-eq0 w ↦ inl (w.if-from-eq0.true, w.before-is) | else-from-eq0 w ↦ inr (omega arith, w.before-is) ] in
    shared_end c.args.stem.now c.args.root.now c.stem.kept c.stem.from c.if-from-eq0.before c.stem.invariant before
    (differ_between c.args.stem.now c.args.root.now (c.stem.kept - 1) c.if-from-eq0.before c.index-stem-kept.result c.index-root-before.result c.is_same.result
    (omega (arith, c.stem.invariant.within)) (before_inside c.args.root.now c.stem.from c.if-from-eq0.before c.stem.invariant.inside before) c.index-stem-kept.is c.index-root-before.is
    c.is_same.ensures unlike)
