use Rattle.std.proofs.Common.{rules, arith, ap, ◌∷◌, [], refl}
use Rattle.hoa_lexer.specs.Reading.{held_count, unread}
use Rattle.hoa_lexer.specs.inner.Steps.{put, ReadsToken}
use Rattle.hoa_lexer.proofs.next_token.Between.{between_then, between_same}
use Rattle.hoa_lexer.proofs.next_token.Moving.{handed_on}
use Rattle.hoa_lexer.proofs.spelling.Strings.{string_push, string_err, string_token, string_none, string_stops, quoted_read, quoted_end}
use Rattle.hoa_lexer.proofs.lexer.Lexer.string.Goals as goal

pub string-init : goal.string-init
string-init g c =
    record {
      answers = between_same (g.I.Inputs.seen c.args.inputs.now).left _ (λ x. ([], string_none _ c.new-text.ensures, refl));
      advances = search rules;
      held = refl;
      stays = refl;
      used = omega (arith, ap held_count c.requires);
    }

pub string-preserved : goal.string-preserved
string-preserved g c =
    record {
      answers = between_then (g.I.Inputs.seen c.args.inputs.now).left (g.I.Inputs.seen c.string.inputs).left (g.I.Inputs.seen c.quoted_byte.new.inputs).left _ _ _
          (λ x y z p q. string_push _ _ _ x y z p (quoted_read _ _ y z c.in-Some.is q) (search rules))
          c.string.invariant.answers c.in_ok-byte.ensures.answers;
      advances = search rules;
      held = c.in_ok-byte.ensures.held;
      stays = c.string.invariant.stays;
      used = search rules;
    }

pub returns-in-None-clause-answers : goal.returns-in-None-clause-answers
returns-in-None-clause-answers g c =
    between_then (g.I.Inputs.seen c.args.inputs.now).left (g.I.Inputs.seen c.string.inputs).left (g.I.Inputs.seen c.quoted_byte.new.inputs).left _ _ _
    (λ x y z p q. string_token _ _ x y z c.in_ok-byte.ensures.held p (quoted_end _ y z c.in-None.is q))
    c.string.invariant.answers c.in_ok-byte.ensures.answers

pub returns-in_err-byte-clause-answers : goal.returns-in_err-byte-clause-answers
returns-in_err-byte-clause-answers g c =
    handed_on (λ r x z. ReadsToken (put r c.string.token) c.args.self.now.offset (34 ∷ x) (unread c.quoted_byte.new.self.held z)) (g.I.Inputs.seen c.args.inputs.now).left
    (g.I.Inputs.seen c.quoted_byte.new.inputs).left _ _ c.from_residual.ensures.1
    (between_then (g.I.Inputs.seen c.args.inputs.now).left (g.I.Inputs.seen c.string.inputs).left (g.I.Inputs.seen c.quoted_byte.new.inputs).left _ _ _
    (λ x y z p q. string_err c.in_err-byte.field-0.0 _ _ _ x y z c.in_err-byte.ensures.held p q)
    c.string.invariant.answers c.in_err-byte.ensures.answers)

pub returns-in_err-push-in-Some-clause-answers : goal.returns-in_err-push-in-Some-clause-answers
returns-in_err-push-in-Some-clause-answers g c =
    handed_on (λ r x z. ReadsToken (put r c.string.token) c.args.self.now.offset (34 ∷ x) (unread c.quoted_byte.new.self.held z)) (g.I.Inputs.seen c.args.inputs.now).left
    (g.I.Inputs.seen c.quoted_byte.new.inputs).left _ _ c.from_residual-in_err-push-in-Some.ensures.1
    (between_then (g.I.Inputs.seen c.args.inputs.now).left (g.I.Inputs.seen c.string.inputs).left (g.I.Inputs.seen c.quoted_byte.new.inputs).left _ _ _
    (λ x y z p q. string_stops _ _ c.in-Some.byte x y z c.in_ok-byte.ensures.held p (quoted_read _ _ y z c.in-Some.is q))
    c.string.invariant.answers c.in_ok-byte.ensures.answers)
