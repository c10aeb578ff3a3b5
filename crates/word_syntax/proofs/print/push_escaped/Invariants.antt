use Rattle.std.proofs.Common.{◌≡◌, ◌++◌, take}
use Rattle.std.specs.Prelude.{flat_map}
use Rattle.word_syntax.specs.Printing as printing
use Rattle.word_syntax.proofs.print.push_escaped.Given as goal

abbrev pub invariant-bytes : goal.invariant-bytes
invariant-bytes l = l.text ≡ l.fn.text ++ flat_map printing.escaped_byte (take l.byte-index l.bytes)
