-- The pieces so far are written, and stored counts are right.
use Rattle.std.proofs.Common.{drop}
use Rattle.std.specs.Prelude.{IfSome}
use Rattle.aut_core.specs.SymbolicAutomata.{automaton_of}
use Rattle.aut_ops.specs.Trimming.{IsReachedSize}
use Rattle.autfilt_run.proofs.printing.FigureLines.{IsBegun}
use Rattle.autfilt_run.proofs.figures.line_of.Given as goal

abbrev pub invariant-pieces : goal.invariant-pieces
invariant-pieces l = record {
  begun : IsBegun l.format (drop l.piece-index l.format) (automaton_of l.a) l.line;
  counted : IfSome l.counted (IsReachedSize (automaton_of l.a));
}
