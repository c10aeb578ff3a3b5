-- A run that reads all operands has one for each name, and each is valid and within the limits.
use Rattle.std.proofs.Common.{◌≡◌, ◌∙◌, ℕ, ◌+◌, List, [], ◌∷◌, length, Option, Some, None, ap, arith, sym}
use Rattle.std.specs.List.{AllByRecursion}
use Rattle.aut_io.specs.Outside.{Texts}
use Rattle.autfilt_run.specs.Run.{AreAllRead}
use Rattle.autfilt_laws.specs.Runs.{AreGoodOperands, IsGoodOperand}
use Rattle.autfilt_run.specs.Events.{Point, Stream, start_of}
use Rattle.autfilt_run.specs.OperandEvents.{AreRead, FileOpened, OperandEvent, PassedOver, Taken, operands_read}
use Rattle.filter_plan.specs.Words.{operands}
use Rattle.filter_plan.specs.declared.plan.Plan.{Plan}

-- the number of open files
abbrev open_in : Option Stream → ℕ
open_in None = 0
open_in (Some s) = 1

-- the number of operands that are still to be read
abbrev to_come : Point → ℕ
to_come p = length p.coming + open_in p.stream

to_come_at : (p : Point) (coming : List (List ℕ)) (stream : Option Stream) → p.coming ≡ coming → p.stream ≡ stream → to_come p ≡ length coming + open_in stream
to_come_at p coming stream c s = ap (λ x. length x + open_in p.stream) c ∙ ap (λ x. length coming + open_in x) s

number_of : (texts : Texts) (taken : List OperandEvent) (p q : Point) → AreRead texts taken p q → q.coming ≡ [] → q.stream ≡ None → length (operands_read taken) ≡ to_come p
number_of texts [] p q read none closed = sym (ap to_come read ∙ to_come_at q [] None none closed)
number_of texts (FileOpened name ∷ taken) p q read none closed =
    let rest = number_of texts taken read.0 q read.2 none closed in
    let here = to_come_at p (name ∷ read.1.others) None read.1.next read.1.closed in
    let there = ap to_come read.1.to in
    omega (arith, rest, here, there)
number_of texts (Taken w ∷ taken) p q read none closed =
    let rest = number_of texts taken read.0 q read.2 none closed in
    let here = to_come_at p p.coming (Some read.1.stream) (λ i. p.coming) read.1.is_open in
    let there = ap to_come read.1.to in
    omega (arith, rest, here, there)
number_of texts (PassedOver name ∷ taken) p q read none closed =
    let rest = number_of texts taken read.0 q read.2 none closed in
    let here = to_come_at p p.coming (Some read.1.reads.stream) (λ i. p.coming) read.1.reads.is_open in
    let there = ap to_come read.1.reads.to in
    omega (arith, rest, here, there)

are_good : (texts : Texts) (taken : List OperandEvent) (p q : Point) → AreRead texts taken p q → AllByRecursion IsGoodOperand taken
are_good texts [] p q read = tt
are_good texts (FileOpened name ∷ taken) p q read = (tt, are_good texts taken read.0 q read.2)
are_good texts (Taken w ∷ taken) p q read = ((read.1.good.valid, read.1.good.within), are_good texts taken read.0 q read.2)
are_good texts (PassedOver name ∷ taken) p q read = (tt, are_good texts taken read.0 q read.2)

pub good_operands : (plan : Plan) (texts : Texts) (left : Option (List ℕ)) (taken : List OperandEvent) (p : Point) → AreAllRead plan texts left taken p → AreGoodOperands plan taken
good_operands plan texts left taken p h = record {
  number = omega (arith, number_of texts taken (start_of (operands plan) left 0) p h.read h.none_coming h.none_open);
  good = are_good texts taken (start_of (operands plan) left 0) p h.read;
}
