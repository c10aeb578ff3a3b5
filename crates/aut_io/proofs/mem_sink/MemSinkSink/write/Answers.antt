use Rattle.std.proofs.Common.{◌/◌, ◌++◌, Some, length, min, refl, ap, rules}
use Rattle.aut_io.specs.InMemory.{room}
use Rattle.aut_io.proofs.Prefixes.{take_half}
use Rattle.aut_io.proofs.mem_sink.MemSinkSink.write.Goals as goal

pub returns-then-count-clause-writes : goal.returns-then-count-clause-writes
returns-then-count-clause-writes c =
    let part = ap (λ p. Some (c.self.inside.written.items ++ p)) (take_half (room c.args.self.now) c.args.piece.now) in
    record {
      ok = tt;
      err = (min (room c.args.self.now) (length c.args.piece.now / 2), rw (c.fault.ensures.counted, c.keep-whole.ensures.kept, ← c.self.view_is) (rw (← c.self.view_is) at part));
      failed = search rules;
      calm = tt;
      later = search rules;
    }

pub returns-then-not-keep-clause-writes : goal.returns-then-not-keep-clause-writes
returns-then-not-keep-clause-writes c = record {
  ok = tt;
  err = (room c.args.self.now, rw (c.fault-then-not-keep.ensures.counted, c.keep.ensures.kept, ← c.self.view_is) refl);
  failed = search rules;
  calm = tt;
  later = search rules;
}
