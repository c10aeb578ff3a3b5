use Rattle.std.specs.Prelude.{codes}
use Rattle.autfilt_run.proofs.running.Noting.{line_is}
use Rattle.autfilt_run.specs.Notes.{limit_word}
use Rattle.autfilt_run.proofs.printing.Writing.{writes_as, writes_first, writes_then}
use Rattle.autfilt_run.proofs.notes.write_limit.Goals as goal

pub returns-in_err-write_pieces : goal.returns-in_err-write_pieces
returns-in_err-write_pieces g c =
    writes_as _ _ _ _ _ (line_is c.args.name.now (codes "limit exceeded: ") (limit_word c.args.which.now)) (writes_first _ _ _ _ _ _ c.from_residual.ensures.1 c.in_err-write_pieces.ensures)

pub returns-in_err-write : goal.returns-in_err-write
returns-in_err-write g c =
    writes_as _ _ _ _ _ (line_is c.args.name.now (codes "limit exceeded: ") (limit_word c.args.which.now))
    (writes_then _ _ _ _ _ _ _ c.in_ok-write_pieces.ensures (writes_first _ _ _ _ _ _ c.from_residual-in_err-write.ensures.1 (writes_as _ _ _ _ _ c.limit_word.ensures c.in_err-write.ensures)))

pub returns : goal.returns
returns g c =
    writes_as _ _ _ _ _ (line_is c.args.name.now (codes "limit exceeded: ") (limit_word c.args.which.now))
    (writes_then _ _ _ _ _ _ _ c.in_ok-write_pieces.ensures (writes_then _ _ _ _ _ _ _ (writes_as _ _ _ _ _ c.limit_word.ensures c.in_ok-write.ensures) c.write-2.ensures))
