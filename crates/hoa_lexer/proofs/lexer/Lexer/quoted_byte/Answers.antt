use Rattle.std.proofs.Common.{◌∷◌, ◌∙◌, ap, Some, [], refl, inl, inr}
use Rattle.hoa_lexer.specs.inner.Steps.{ReadsQuoted}
use Rattle.hoa_lexer.proofs.next_token.Between.{between_then, between_as}
use Rattle.hoa_lexer.proofs.next_token.Moving.{handed_on}
use Rattle.hoa_lexer.proofs.spelling.Comments.{byte_read}
use Rattle.hoa_lexer.proofs.spelling.Strings.{quoted_escape, quoted_plain, quoted_err}
use Rattle.hoa_lexer.proofs.lexer.Lexer.quoted_byte.Goals as goal

pub returns-in-Some-2-clause-answers : goal.returns-in-Some-2-clause-answers
returns-in-Some-2-clause-answers g c =
    between_then (g.I.Inputs.seen c.args.inputs.now).left (g.I.Inputs.seen c.fetch.new.inputs).left (g.I.Inputs.seen c.fetch-in-Some-eq92.new.inputs).left _ _ _
    (λ x y z p q. quoted_escape c.in-Some-2.byte x y z (byte_read _ 92 x y (c.in-Some-eq92.is ∙ ap Some c.in-Some-eq92.field-0-test) p)
    (byte_read _ _ y z c.in-Some-2.is q))
    c.in_ok-fetch.ensures.answers c.in_ok-byte-in-Some-eq92.ensures.answers

pub returns-in_err-byte-in-Some-eq92-clause-answers : goal.returns-in_err-byte-in-Some-eq92-clause-answers
returns-in_err-byte-in-Some-eq92-clause-answers g c =
    handed_on (λ r x z. ReadsQuoted r x z) (g.I.Inputs.seen c.args.inputs.now).left (g.I.Inputs.seen c.fetch-in-Some-eq92.new.inputs).left _ _ c.from_residual-in_err-byte-in-Some-eq92.ensures.1
    (between_then (g.I.Inputs.seen c.args.inputs.now).left (g.I.Inputs.seen c.fetch.new.inputs).left (g.I.Inputs.seen c.fetch-in-Some-eq92.new.inputs).left _ _ _
    (λ x y z p q. quoted_err c.in_err-byte-in-Some-eq92.field-0.0 (92 ∷ []) x y z c.in_err-byte-in-Some-eq92.ensures.kinds (inr refl)
    (byte_read _ 92 x y (c.in-Some-eq92.is ∙ ap Some c.in-Some-eq92.field-0-test) p)
    q)
    c.in_ok-fetch.ensures.answers c.in_err-byte-in-Some-eq92.ensures.answers)

pub returns-in_err-fetch-clause-answers : goal.returns-in_err-fetch-clause-answers
returns-in_err-fetch-clause-answers g c =
    handed_on (λ r x z. ReadsQuoted r x z) (g.I.Inputs.seen c.args.inputs.now).left (g.I.Inputs.seen c.fetch.new.inputs).left _ _ c.from_residual.ensures.1
    (between_as (g.I.Inputs.seen c.args.inputs.now).left (g.I.Inputs.seen c.fetch.new.inputs).left _ _
    (λ x z p. quoted_err c.in_err-fetch.field-0.0 [] x x z c.in_err-fetch.ensures.kinds (inl refl) refl p)
    c.in_err-fetch.ensures.answers)

pub returns-in-Some-clause-answers : goal.returns-in-Some-clause-answers
returns-in-Some-clause-answers g c =
    between_as (g.I.Inputs.seen c.args.inputs.now).left (g.I.Inputs.seen c.fetch.new.inputs).left _ _
    (λ x z p. quoted_plain c.in-Some.byte x z (byte_read _ _ x z c.in-Some.is p) c.in-Some.byte-test.0.1 c.in-Some.byte-test.1)
    c.in_ok-fetch.ensures.answers
