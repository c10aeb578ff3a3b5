use Rattle.std.proofs.Common.{rules, arith, ◌≡◌, ◌+◌, ◌-◌, ◌∷◌, ◌∙◌, ℕ, List, Option, Ok, ap, Some, length, refl, sym}
use Rattle.hoa_lexer.proofs.next_token.Between.{between_then, between_both, between_same}
use Rattle.hoa_lexer.proofs.next_token.Moving.{handed_on, moves_nowhere}
use Rattle.hoa_lexer.proofs.spelling.Comments.{byte_read}
use Rattle.hoa_lexer.proofs.next_token.Fronts.{skips_none, skip_space, skips_then, fails_after, blanks_begun, blanks_err, blanks_to, comment_begun, length_unread}
use Rattle.hoa_lexer.specs.Reading.{held_count, unread, Between}
use Rattle.hoa_lexer.specs.inner.Steps.{BeginsNone, Peeks, PassesBlanks, SkipsBlanks}
use Rattle.hoa_lexer.proofs.lexer.Lexer.skip_blanks.Goals as goal

-- a `/` after blanks
slash_behind : {o : Option ℕ} (old at read : Option (List ℕ)) (held held' : Option ℕ) → o ≡ Some 47 → Between old at (λ x y. PassesBlanks (unread held x) (unread held' y))
    → Between at read (λ y z. Peeks (Ok o) (unread held' y) z) → Between old read (λ x z. PassesBlanks (unread held x) (47 ∷ z))
slash_behind old at read held held' is blanks peeks = between_then old at read _ _ _ (λ x y z p q. blanks_to 47 _ _ z p (byte_read _ 47 _ z is q)) blanks peeks

pub blanks-init : goal.blanks-init
blanks-init g c =
    record {
      answers = between_same (g.I.Inputs.seen c.args.inputs.now).left _ (λ x. skips_none _);
      advances = record { moves = moves_nowhere _ _; offset = refl };
    }

pub blanks-preserved-in-Continue-branch-4 : goal.blanks-preserved-in-Continue-branch-4
blanks-preserved-in-Continue-branch-4 g c =
    record {
      answers = between_then (g.I.Inputs.seen c.args.inputs.now).left (g.I.Inputs.seen c.peek.new.inputs).left (g.I.Inputs.seen c.skip_comment.new.inputs).left _ _ _
          (λ x y z p q. skips_then _ _ _ p q)
          (slash_behind (g.I.Inputs.seen c.args.inputs.now).left (g.I.Inputs.seen c.blanks.inputs).left (g.I.Inputs.seen c.peek.new.inputs).left c.args.self.now.held c.blanks.self.held
          (c.in-Some-eq47.is ∙ ap Some c.in-Some-eq47.field-0-test) c.blanks.invariant.answers c.in_ok-peek.ensures.answers)
          c.in_ok-skip_comment-in-Some-eq47.ensures.answers;
      advances = search rules;
    }

pub returns-in_err-skip_comment-in-Some-eq47-clause-answers : goal.returns-in_err-skip_comment-in-Some-eq47-clause-answers
returns-in_err-skip_comment-in-Some-eq47-clause-answers g c =
    let old = (g.I.Inputs.seen c.args.inputs.now).left in
    let at = (g.I.Inputs.seen c.blanks.inputs).left in
    let read = (g.I.Inputs.seen c.peek.new.inputs).left in
    let new = (g.I.Inputs.seen c.skip_comment.new.inputs).left in
    let slash = slash_behind old at read c.args.self.now.held c.blanks.self.held (c.in-Some-eq47.is ∙ ap Some c.in-Some-eq47.field-0-test) c.blanks.invariant.answers c.in_ok-peek.ensures.answers in
    let taken = between_then old at read _ _ (λ x z. c.peek.new.self.taken + length z ≡ c.args.self.now.taken + length x)
    (λ x y z p q. omega (arith, p, q)) c.blanks.invariant.advances.moves.taken c.in_ok-peek.ensures.advances.moves.taken in
    let one : held_count c.peek.new.self.held ≡ 1 = ap held_count (c.in_ok-peek.ensures.held ∙ c.in-Some-eq47.is) in
    handed_on (λ r x z. SkipsBlanks r (c.args.self.now.since - held_count c.args.self.now.held) (unread c.args.self.now.held x) (unread c.skip_comment.new.self.held z)) old new _ _
    c.from_residual-in_err-skip_comment-in-Some-eq47.ensures.1
    (between_then old read new (λ x y. PassesBlanks (unread c.args.self.now.held x) (47 ∷ y) × (c.peek.new.self.taken + length y ≡ c.args.self.now.taken + length x)) _ _
    (λ x y z p q. fails_after _ _ _ 0 0 _ _ _ p.0 (omega (arith, p.1, one, length_unread c.args.self.now.held x)) q)
    (between_both old read _ _ (λ x y. PassesBlanks (unread c.args.self.now.held x) (47 ∷ y) × (c.peek.new.self.taken + length y ≡ c.args.self.now.taken + length x)) (λ x y p q. (p, q)) slash taken)
    c.in_err-skip_comment-in-Some-eq47.ensures.answers)

pub returns-in_err-skip_comment-in-Some-eq47-clause-begun : goal.returns-in_err-skip_comment-in-Some-eq47-clause-begun
returns-in_err-skip_comment-in-Some-eq47-clause-begun g c =
    let old = (g.I.Inputs.seen c.args.inputs.now).left in
    let read = (g.I.Inputs.seen c.peek.new.inputs).left in
    let new = (g.I.Inputs.seen c.skip_comment.new.inputs).left in
    let slash = slash_behind old (g.I.Inputs.seen c.blanks.inputs).left read c.args.self.now.held c.blanks.self.held (c.in-Some-eq47.is ∙ ap Some c.in-Some-eq47.field-0-test)
    c.blanks.invariant.answers c.in_ok-peek.ensures.answers in
    handed_on (λ r x z. BeginsNone r (unread c.args.self.now.held x) (unread c.skip_comment.new.self.held z)) old new _ _ c.from_residual-in_err-skip_comment-in-Some-eq47.ensures.1
    (between_then old read new _ _ _ (λ x y z p q. comment_begun c.in_err-skip_comment-in-Some-eq47.field-0.0 _ _ _ _ p q) slash c.in_err-skip_comment-in-Some-eq47.ensures.answers)

pub blanks-preserved : goal.blanks-preserved
blanks-preserved g c =
    record {
      answers = between_then (g.I.Inputs.seen c.args.inputs.now).left (g.I.Inputs.seen c.blanks.inputs).left (g.I.Inputs.seen c.peek.new.inputs).left _ _ _
          (λ x y z p q. skip_space _ _ _ _ (sym c.is_space.ensures ∙ c.if-not-is_space.false) (byte_read _ _ _ z c.in-Some.is q) p)
          c.blanks.invariant.answers c.in_ok-peek.ensures.answers;
      advances = search rules;
    }

pub returns-in_err-peek-clause-answers : goal.returns-in_err-peek-clause-answers
returns-in_err-peek-clause-answers g c =
    handed_on (λ r x z. SkipsBlanks r (c.args.self.now.since - held_count c.args.self.now.held) (unread c.args.self.now.held x) (unread c.peek.new.self.held z))
    (g.I.Inputs.seen c.args.inputs.now).left (g.I.Inputs.seen c.peek.new.inputs).left _ _ c.from_residual.ensures.1
    (between_then (g.I.Inputs.seen c.args.inputs.now).left (g.I.Inputs.seen c.blanks.inputs).left (g.I.Inputs.seen c.peek.new.inputs).left _ _ _
    (λ x y z p q. blanks_err _ _ _ _ _ z c.in_err-peek.ensures.kinds c.in_err-peek.ensures.held p q)
    c.blanks.invariant.answers c.in_err-peek.ensures.answers)

pub returns-in_err-peek-clause-begun : goal.returns-in_err-peek-clause-begun
returns-in_err-peek-clause-begun g c =
    handed_on (λ r x z. BeginsNone r (unread c.args.self.now.held x) (unread c.peek.new.self.held z)) (g.I.Inputs.seen c.args.inputs.now).left (g.I.Inputs.seen c.peek.new.inputs).left _ _
    c.from_residual.ensures.1
    (between_then (g.I.Inputs.seen c.args.inputs.now).left (g.I.Inputs.seen c.blanks.inputs).left (g.I.Inputs.seen c.peek.new.inputs).left _ _ _
    (λ x y z p q. blanks_begun _ _ _ z c.in_err-peek.ensures.held p q)
    c.blanks.invariant.answers c.in_err-peek.ensures.answers)
