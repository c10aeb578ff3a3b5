use Rattle.std.proofs.Common.{List, ℕ, ◌++◌, ◌∙◌, ap, arith, get_or, length}
use Rattle.aut_core.specs.SymbolicAutomata.{automaton_of}
use Rattle.filter_plan.specs.declared.format.Piece.{Piece}
use Rattle.filter_plan.specs.declared.format.Piece.TheVariants.{Byte}
use Rattle.autfilt_run.proofs.printing.FigureLines.{piece_more}
use Rattle.autfilt_run.proofs.figures.line_of.Goals as goal

pub pieces-preserved : goal.pieces-preserved
pieces-preserved c =
    let i = c.pieces.piece-index in
    let pieces = c.as_slice-piece-items.ensures in
    record {
      begun = piece_more c.args.format.now i (Byte 0) _ (automaton_of c.args.a.now) c.pieces.line c.in_ok-shown.shown _
          (omega (arith, ap length pieces)) (ap (λ (ps : List Piece). get_or ps i (Byte 0)) pieces)
          (c.in_ok-extend.ensures.ok ∙ ap (λ (xs : List ℕ). c.pieces.line ++ xs) c.as_bytes.ensures) c.in_ok-shown.ensures.shown
          c.pieces.invariant.begun;
      counted = c.piece_text.ensures.counted;
    }
