-- All bytes so far are letters, digits or `-`, and the rest is to be counted.
use Rattle.std.proofs.Common.{◌≡◌, ◌+◌, drop}
use Rattle.std.specs.List.{prefix_len}
use Rattle.hoa_lexer.specs.Bytes.{is_word}
use Rattle.hoa_lexer.proofs.lexer.bytes.word_run.Given as goal

abbrev pub invariant-loop-place : goal.invariant-loop-place
invariant-loop-place l = l.place + prefix_len is_word (drop l.place l.bytes) ≡ prefix_len is_word l.bytes
