use Rattle.std.proofs.Common.{◌≡◌, ◌+◌, ◌-◌, ◌<◌, false, true, None, length}
use Rattle.autfilt_run.proofs.turns.Preparing.{IsPreparing}
use Rattle.autfilt_run.specs.Points.{open_count}
use Rattle.filter_plan.specs.Words.{operands}
use Rattle.autfilt_run.proofs.session.Session.read_operands.Given as goal

abbrev pub invariant-operands : goal.invariant-operands
invariant-operands g l = IsPreparing l.fn.self l.self (g.I.Inputs.seen l.fn.inputs) (g.I.Inputs.seen l.inputs)
    × (l.self.lexer.spent ≡ false) × (l.self.lexer.held ≡ None) × (l.self.is_open ≡ true → length l.self.operands < length (operands l.self.plan))
    × (l.self.tried ≡ length l.self.operands + open_count l.self.is_open)

-- A turn opens a file, or takes an operand from it.
abbrev pub decreases-operands : goal.decreases-operands
decreases-operands g l =
    let left = length (operands l.self.plan) - length l.self.operands in
    left + left + (1 - open_count l.self.is_open)
