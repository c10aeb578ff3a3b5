use Rattle.std.proofs.Common.{◌≡◌, ◌∙◌, take, arith, refl, take-add, length-drop}
use Rattle.std.proofs.KnownBytes.{Appends-kept, Appends-nil, Appends-trans}
use Rattle.real_io.proofs.Slices.{slice_end}
use Rattle.real_io.proofs.sink.send.Goals as goal

pub writes-init : goal.writes-init
writes-init g c = (omega arith, Appends-nil _, refl)

pub returns-then-sent-bytes-clause-bound : goal.returns-then-sent-bytes-clause-bound
returns-then-sent-bytes-clause-bound g c = c.writes.invariant.0

pub returns-then-sent-bytes-clause-taken : goal.returns-then-sent-bytes-clause-taken
returns-then-sent-bytes-clause-taken g c = c.writes.invariant.1

pub returns-then-sent-bytes-clause-all : goal.returns-then-sent-bytes-clause-all
returns-then-sent-bytes-clause-all g c = omega (arith, c.writes.invariant.0, c.if-sent-bytes.true)

pub returns-in-Err-clause-taken : goal.returns-in-Err-clause-taken
returns-in-Err-clause-taken g c = Appends-kept _ _ _ _ c.writes.invariant.1 c.in-Err.ensures.keeps

pub writes-preserved : goal.writes-preserved
writes-preserved g c =
    let inv = c.writes.invariant in
    let all = c.args.bytes.now in
    let sent = c.writes.sent in
    let more = rw (slice_end all sent) at c.in-Ok.ensures.takes in
    let bound = rw (slice_end all sent) at c.in-Ok.ensures.bound in
    rw (take-add sent c.in-Ok.count all) (omega (arith, inv.0, bound, length-drop sent all), Appends-trans _ _ _ _ _ inv.1 more, c.in-Ok.ensures.calm ∙ inv.2)

pub returns-clause-bound : goal.returns-clause-bound
returns-clause-bound g c = c.writes.invariant.0

pub returns-clause-taken : goal.returns-clause-taken
returns-clause-taken g c = c.writes.invariant.1
