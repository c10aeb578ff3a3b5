use Rattle.std.proofs.Common.{◌≡◌, map, take}
use Rattle.autfilt_run.proofs.system.call.texts_of.Given as goal

abbrev pub invariant-words : goal.invariant-words
invariant-words l = l.texts ≡ map (λ s. s.bytes.items) (take l.word-index l.words)
