use Rattle.std.proofs.Common.{arith, ◌≡◌, ◌+◌, ◌-◌, ◌∷◌, ◌∙◌, ℕ, Option, Some, Ok, Err, ap, length, subst, sym}
use Rattle.aut_io.specs.Seen.{Seen}
use Rattle.hoa_lexer.proofs.next_token.Between.{between_as, between_then, between_both}
use Rattle.hoa_lexer.proofs.next_token.Moving.{handed_on}
use Rattle.hoa_lexer.specs.Reading.{held_count, renewed, unread, AnswersToken, PlacesOffset, Tells}
use Rattle.hoa_lexer.specs.Moves.{MovesLexer, Stop}
use Rattle.hoa_lexer.specs.declared.lexer.Lexer.{Lexer}
use Rattle.hoa_lexer.specs.inner.Steps.{PassesBlanks, SkipsBlanks}
use Rattle.hoa_lexer.proofs.next_token.Fronts.{token_ok, token_err, err_offset, places_blanks, places_token, skips_byte, solid_space, solid_slash, length_unread}
use Rattle.hoa_lexer.proofs.lexer.Lexer.scan.Goals as goal

-- blanks, and then the byte that a token begins with
begins_at : {o : Option ℕ} {first : ℕ} {stop : Stop} (old at : Lexer) (seen seen' : Seen) → o ≡ Some first → at.held ≡ o → MovesLexer stop old at seen seen'
    → Tells seen seen' (λ x y. SkipsBlanks (Ok o) (old.since - held_count old.held) (unread old.held x) (unread at.held y))
    → Tells seen seen' (λ x y. PassesBlanks (unread old.held x) (first ∷ y) × ((old.since - held_count old.held) + length (unread old.held x) ≡ (at.since - 1) + length (first ∷ y)))
begins_at {o} {first} old at seen seen' is held moves blanks =
    let one : held_count at.held ≡ 1 = ap held_count (held ∙ is) in
    between_both seen.left seen'.left _ _ _
    (λ x y p q. (skips_byte o at.held first _ _ y is (held ∙ is) p, omega (arith, q, one, moves.since, old.held_within, old.since_within, at.held_within, at.since_within, length_unread old.held x)))
    blanks moves.taken

pub token-requires-clause-space : goal.token-requires-clause-space
token-requires-clause-space g c = solid_space _ _ c.in-Some.is c.in_ok-first.ensures.solid

pub token-requires-clause-slash : goal.token-requires-clause-slash
token-requires-clause-slash g c = solid_slash _ _ c.in-Some.is c.in_ok-first.ensures.solid

pub returns-in_err-first-clause-places : goal.returns-in_err-first-clause-places
returns-in_err-first-clause-places g c =
    handed_on (λ r x z. PlacesOffset (renewed r c.args.token.now) (c.args.self.now.since - held_count c.args.self.now.held) c.args.self.now.offset c.skip_blanks.new.self.offset
    (unread c.args.self.now.held x)
    (unread c.skip_blanks.new.self.held z)) (g.I.Inputs.seen c.args.inputs.now).left (g.I.Inputs.seen c.skip_blanks.new.inputs).left _ _ c.from_residual.ensures.1
    (between_as (g.I.Inputs.seen c.args.inputs.now).left (g.I.Inputs.seen c.skip_blanks.new.inputs).left _ _
    (λ x z p. places_blanks c.in_err-first.field-0.0 _ _ _ _ _ c.in_err-first.ensures.advances.offset p)
    c.in_err-first.ensures.begun)

pub returns-in_ok-token-in-Some-clause-answers : goal.returns-in_ok-token-in-Some-clause-answers
returns-in_ok-token-in-Some-clause-answers g c =
    between_then (g.I.Inputs.seen c.args.inputs.now).left (g.I.Inputs.seen c.skip_blanks.new.inputs).left (g.I.Inputs.seen c.token.new.inputs).left _ _ _
    (λ x y z p q. token_ok _ _ _ _ _ _ p.0 (omega (arith, p.1)) q)
    (begins_at c.args.self.now c.skip_blanks.new.self _ _ c.in-Some.is c.in_ok-first.ensures.held c.in_ok-first.ensures.advances.moves c.in_ok-first.ensures.answers)
    c.in_ok-token-in-Some.ensures.answers

pub returns-in_err-token-in-Some-clause-answers : goal.returns-in_err-token-in-Some-clause-answers
returns-in_err-token-in-Some-clause-answers g c =
    handed_on (λ r x z. AnswersToken (renewed r c.token.new.token) (c.args.self.now.since - held_count c.args.self.now.held) c.token.new.self.offset (unread c.args.self.now.held x)
    (unread c.token.new.self.held z)) (g.I.Inputs.seen c.args.inputs.now).left (g.I.Inputs.seen c.token.new.inputs).left _ _ c.from_residual-in_err-token-in-Some.ensures.1
    (between_then (g.I.Inputs.seen c.args.inputs.now).left (g.I.Inputs.seen c.skip_blanks.new.inputs).left (g.I.Inputs.seen c.token.new.inputs).left _ _ _
    (λ x y z p q. err_offset c.in_err-token-in-Some.field-0.0 _ (c.skip_blanks.new.self.since - 1) _ _ _ (token_err _ _ _ _ _ _ p.0 p.1 q))
    (begins_at c.args.self.now c.skip_blanks.new.self _ _ c.in-Some.is c.in_ok-first.ensures.held c.in_ok-first.ensures.advances.moves c.in_ok-first.ensures.answers)
    c.in_err-token-in-Some.ensures.answers)

pub returns-in_err-token-in-Some-clause-places : goal.returns-in_err-token-in-Some-clause-places
returns-in_err-token-in-Some-clause-places g c =
    handed_on (λ r x z. PlacesOffset (renewed r c.token.new.token) (c.args.self.now.since - held_count c.args.self.now.held) c.args.self.now.offset c.token.new.self.offset
    (unread c.args.self.now.held x)
    (unread c.token.new.self.held z)) (g.I.Inputs.seen c.args.inputs.now).left (g.I.Inputs.seen c.token.new.inputs).left _ _ c.from_residual-in_err-token-in-Some.ensures.1
    (between_then (g.I.Inputs.seen c.args.inputs.now).left (g.I.Inputs.seen c.skip_blanks.new.inputs).left (g.I.Inputs.seen c.token.new.inputs).left _ _ _
    (λ x y z p q. subst (λ (o : ℕ). PlacesOffset (Err c.in_err-token-in-Some.field-0.0) (c.args.self.now.since - held_count c.args.self.now.held) c.args.self.now.offset o
    (unread c.args.self.now.held x) (unread c.token.new.self.held z)) (sym c.in_err-token-in-Some.ensures.advances.offset)
    (places_token c.in_err-token-in-Some.field-0.0 c.in-Some.first (c.args.self.now.since - held_count c.args.self.now.held) c.args.self.now.offset (c.skip_blanks.new.self.since - 1)
    (unread c.args.self.now.held x) y (unread c.token.new.self.held z) (solid_space _ _ c.in-Some.is c.in_ok-first.ensures.solid)
    (solid_slash _ _ c.in-Some.is c.in_ok-first.ensures.solid) p.0 p.1 q))
    (begins_at c.args.self.now c.skip_blanks.new.self _ _ c.in-Some.is c.in_ok-first.ensures.held c.in_ok-first.ensures.advances.moves c.in_ok-first.ensures.answers)
    c.in_err-token-in-Some.ensures.answers)
