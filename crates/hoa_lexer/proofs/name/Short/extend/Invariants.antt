use Rattle.std.proofs.Common.{◌≡◌, ◌++◌, take}
use Rattle.hoa_lexer.proofs.name.Short.extend.Given as goal

abbrev pub invariant-bytes : goal.invariant-bytes
invariant-bytes l = l.self ≡ l.fn.self ++ take l.byte-index l.bytes
