use Rattle.std.specs.Fmt.{decimal}
use Rattle.std.specs.Prelude.{codes}
use Rattle.autfilt_run.proofs.running.Noting.{line_is}
use Rattle.autfilt_run.proofs.printing.Writing.{writes_as, writes_first, writes_then}
use Rattle.autfilt_run.proofs.notes.write_offset.Goals as goal

pub returns-in_err-write_pieces : goal.returns-in_err-write_pieces
returns-in_err-write_pieces g c = writes_as _ _ _ _ _ (line_is c.args.name.now (codes "syntax error at byte ") (decimal c.args.offset))
    (writes_first _ _ _ _ _ _ c.from_residual.ensures.1 c.in_err-write_pieces.ensures)

pub returns-in_err-write_number : goal.returns-in_err-write_number
returns-in_err-write_number g c =
    writes_as _ _ _ _ _ (line_is c.args.name.now (codes "syntax error at byte ") (decimal c.args.offset))
    (writes_then _ _ _ _ _ _ _ c.in_ok-write_pieces.ensures (writes_first _ _ _ _ _ _ c.from_residual-in_err-write_number.ensures.1 c.in_err-write_number.ensures))

pub returns : goal.returns
returns g c =
    writes_as _ _ _ _ _ (line_is c.args.name.now (codes "syntax error at byte ") (decimal c.args.offset))
    (writes_then _ _ _ _ _ _ _ c.in_ok-write_pieces.ensures (writes_then _ _ _ _ _ _ _ c.in_ok-write_number.ensures c.write.ensures))
