-- The bytes so far are written.
use Rattle.std.proofs.Common.{◌≡◌, ◌++◌, take}
use Rattle.std.specs.List.{flat_map}
use Rattle.hoa_writer.specs.CanonicalText.{escaped_byte}
use Rattle.hoa_writer.proofs.parts.push_quoted.Given as goal

abbrev pub invariant-bytes : goal.invariant-bytes
invariant-bytes l = l.out ≡ l.initial.out ++ flat_map escaped_byte (take l.byte-index l.bytes)
