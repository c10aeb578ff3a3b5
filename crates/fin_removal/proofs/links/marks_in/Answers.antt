use Rattle.std.proofs.Common.{◌+◌, ◌<◌, All, List, subst, sym, ℕ}
use Rattle.fin_removal.proofs.CopyMarks.{marks_below, marks_push, marks_skip}
use Rattle.fin_removal.proofs.links.marks_in.Goals as goal

pub places-preserved-then-not-meets_at : goal.places-preserved-then-not-meets_at
places-preserved-then-not-meets_at c = marks_skip c.args.copy.now c.args.marks.now c.places.found c.places.place c.places.invariant (sym c.if-not-meets_at.ensures)

pub push-requires : goal.push-requires
push-requires c = subst (λ (xs : List ℕ). All (λ x. x < c.args.copy.now.first + c.places.place) xs) (sym c.places.invariant) (marks_below c.args.copy.now c.args.marks.now c.places.place)

pub places-preserved : goal.places-preserved
places-preserved c = marks_push c.args.copy.now c.args.marks.now c.places.found c.push.new.self c.places.place c.places.invariant (sym c.if-not-meets_at.ensures) c.in_ok-push.ensures.ok
