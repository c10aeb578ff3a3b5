-- Writing pieces to a sink one after the other, and whether a write failed.
use Rattle.std.proofs.Common.{◌≡◌, ℕ, List, ◌++◌, Result, Ok, Err, ◌∙◌, subst, arith}
use Rattle.std.specs.Result.{IsErrAnd}
use Rattle.aut_base.specs.declared.fault.Failed.{Failed}
use Rattle.aut_io.specs.Outside.{Rose}
use Rattle.aut_io.specs.Seen.{SinkSeen, WritesPiece}
use Rattle.autfilt_run.proofs.printing.Gains.{both, first, second}

pub rose_from : (a b c : ℕ) → b ≡ a → Rose b c → Rose a c
rose_from a b c e r = subst (λ (n : ℕ). Rose n c) e r

-- one piece was written, and then another
pub writes_then : (a b c : SinkSeen) (p q : List ℕ) (d : Unit {0}) (r : Result (Unit {0}) Failed) → WritesPiece a p (Ok d) b → WritesPiece b q r c → WritesPiece a (p ++ q) r c
writes_then a b c p q d (Ok e) one two = record {
  ok = both a.written b.written c.written p q one.ok two.ok;
  err = tt;
  failed = tt;
  calm = two.calm ∙ one.calm;
  later = omega (arith, one.later, two.later);
}
writes_then a b c p q d (Err e) one two = record {
  ok = tt;
  err = second a.written b.written c.written p q one.ok two.err;
  failed = rose_from a.faults b.faults c.faults one.calm two.failed;
  calm = tt;
  later = omega (arith, one.later, two.later);
}

-- the first piece could not be written
pub writes_first : (a b : SinkSeen) (p q : List ℕ) (f : Failed) (r : Result (Unit {0}) Failed) → IsErrAnd r (λ y. y ≡ f) → WritesPiece a p (Err f) b → WritesPiece a (p ++ q) r b
writes_first a b p q f (Ok e) h one = absurd h
writes_first a b p q f (Err e) h one = record { ok = tt; err = first a.written b.written p q one.err; failed = one.failed; calm = tt; later = one.later }

pub writes_as : (a b : SinkSeen) (p q : List ℕ) (r : Result (Unit {0}) Failed) → p ≡ q → WritesPiece a p r b → WritesPiece a q r b
writes_as a b p q r e one = subst (λ (x : List ℕ). WritesPiece a x r b) e one
