use Rattle.std.proofs.Common.{rules, arith, ◌+◌, ◌-◌, ◌*◌, ◌<◌, ◌∷◌, ◌∙◌, refl, sym}
use Rattle.hoa_lexer.specs.Reading.{unread}
use Rattle.hoa_lexer.specs.inner.Steps.{put, ReadsToken}
use Rattle.hoa_lexer.proofs.next_token.Between.{between_then, between_same}
use Rattle.hoa_lexer.proofs.next_token.Moving.{handed_on}
use Rattle.hoa_lexer.proofs.spelling.Comments.{byte_read, end_read, unheld}
use Rattle.hoa_lexer.proofs.spelling.Numbers.{digits_push, number_zero, number_token, holds_int, number_end, number_err, number_bad}
use Rattle.hoa_lexer.proofs.lexer.Lexer.number.Goals as goal

pub returns-then-value-eq0-clause-answers : goal.returns-then-value-eq0-clause-answers
returns-then-value-eq0-clause-answers g c =
    between_same (g.I.Inputs.seen c.args.inputs.now).left _ (λ x. number_zero c.args.first c.from-value.result x c.requires.digit c.from-value.ensures c.if-value-eq0.true)

pub returns-then-not-is_digit-clause-answers : goal.returns-then-not-is_digit-clause-answers
returns-then-not-is_digit-clause-answers g c =
    let first : 0 < c.args.first - 48 = omega (arith, c.from-value.ensures) in
    between_then (g.I.Inputs.seen c.args.inputs.now).left (g.I.Inputs.seen c.digits.inputs).left (g.I.Inputs.seen c.fetch.new.inputs).left _ _ _
    (λ x y z p q. number_token c.args.first c.digits.value c.in-Some.byte x _ z c.requires.digit first (omega arith)
    p (byte_read _ _ _ z c.in-Some.is q) (sym c.is_digit.ensures ∙ c.if-not-is_digit.true))
    c.digits.invariant.answers c.in_ok-byte.ensures.answers

pub returns-then-not-is_digit-clause-holds : goal.returns-then-not-is_digit-clause-holds
returns-then-not-is_digit-clause-holds g c =
    holds_int c.digits.value c.digits.invariant.some

pub returns-then-value-from-clause-answers : goal.returns-then-value-from-clause-answers
returns-then-value-from-clause-answers g c =
    let first : 0 < c.args.first - 48 = omega (arith, c.from-value.ensures) in
    between_then (g.I.Inputs.seen c.args.inputs.now).left (g.I.Inputs.seen c.digits.inputs).left (g.I.Inputs.seen c.fetch.new.inputs).left _ _ _
    (λ x y z p q. number_bad _ _ c.args.first c.digits.value (10 * c.digits.value + (c.in-Some.byte - 48)) c.in-Some.byte _ x _ z
    (omega (arith, c.digits.invariant.advances.offset, c.in_ok-byte.ensures.advances.offset)) c.in_ok-byte.ensures.held c.requires.digit first c.digits.invariant.fits p
    (byte_read _ _ _ z c.in-Some.is q) (sym c.is_digit.ensures ∙ c.if-not-is_digit.false) refl (omega (arith, c.from-in-Some.ensures)))
    c.digits.invariant.answers c.in_ok-byte.ensures.answers

pub digits-preserved : goal.digits-preserved
digits-preserved g c =
    record {
      answers = between_then (g.I.Inputs.seen c.args.inputs.now).left (g.I.Inputs.seen c.digits.inputs).left (g.I.Inputs.seen c.fetch.new.inputs).left _ _ _
          (λ x y z p q. digits_push c.args.first c.digits.value _ c.in-Some.byte x _ z p (byte_read _ _ _ z c.in-Some.is q) (sym c.is_digit.ensures ∙ c.if-not-is_digit.false)
          (omega (arith, c.from-in-Some.ensures)))
          c.digits.invariant.answers c.in_ok-byte.ensures.answers;
      advances = search rules;
      held = c.in_ok-byte.ensures.held;
      stays = c.digits.invariant.stays;
      some = omega arith;
      fits = omega arith;
      used = omega (arith, c.in_ok-byte.ensures.advances.moves.later, c.digits.invariant.used);
    }

pub returns-in-None-clause-answers : goal.returns-in-None-clause-answers
returns-in-None-clause-answers g c =
    let first : 0 < c.args.first - 48 = omega (arith, c.from-value.ensures) in
    between_then (g.I.Inputs.seen c.args.inputs.now).left (g.I.Inputs.seen c.digits.inputs).left (g.I.Inputs.seen c.fetch.new.inputs).left _ _ _
    (λ x y z p q. let ended = end_read _ _ z c.in-None.is q in
    (number_end c.args.first c.digits.value x _ c.requires.digit first (omega arith) p ended.0, unheld _ z c.in_ok-byte.ensures.held ∙ ended.1))
    c.digits.invariant.answers c.in_ok-byte.ensures.answers

pub returns-in_err-byte-clause-answers : goal.returns-in_err-byte-clause-answers
returns-in_err-byte-clause-answers g c =
    let first : 0 < c.args.first - 48 = omega (arith, c.from-value.ensures) in
    handed_on (λ r x z. ReadsToken (put r c.digits.token) c.args.self.now.offset (c.args.first ∷ x) (unread c.fetch.new.self.held z)) (g.I.Inputs.seen c.args.inputs.now).left
    (g.I.Inputs.seen c.fetch.new.inputs).left _ _ c.from_residual.ensures.1
    (between_then (g.I.Inputs.seen c.args.inputs.now).left (g.I.Inputs.seen c.digits.inputs).left (g.I.Inputs.seen c.fetch.new.inputs).left _ _ _
    (λ x y z p q. number_err c.in_err-byte.field-0.0 _ _ c.args.first c.digits.value x _ z c.requires.digit first (omega arith) c.in_err-byte.ensures.kinds c.in_err-byte.ensures.held p q)
    c.digits.invariant.answers c.in_err-byte.ensures.answers)
