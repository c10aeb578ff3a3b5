-- The lexer has had no fault.
use Rattle.std.proofs.Common.{◌≡◌, false}
use Rattle.library_example.proofs.print_words.Given as goal

abbrev pub invariant-automata : goal.invariant-automata
invariant-automata g l = l.lexer.spent ≡ false
