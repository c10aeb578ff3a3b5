-- The name of standard input is UTF-8.
use Rattle.std.proofs.Common.{IsUtf8, [], ◌∷◌, refl, subst, sym}
use Rattle.real_io.specs.Opening.{standard_name}
use Rattle.real_io.proofs.inputs.RealInputsInputs.open.Goals as goal

standard_text : IsUtf8 standard_name
unfolding lib.Utf8.encode
standard_text = (45 ∷ [], (refl, refl))

pub returns-then-is-clause-bytes : goal.returns-then-is-clause-bytes
returns-then-is-clause-bytes g c bytes =
    absurd (bytes (subst IsUtf8 (sym (c.is.ensures.equal.0 c.if-is.true)) standard_text))
