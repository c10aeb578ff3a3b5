use Rattle.std.proofs.Common.{arith, ◌≡◌, ◌∙◌, ℕ, List, [], ◌∷◌, inl, refl, sym}
use Rattle.hoa_lexer.specs.Text.{IsNoToken}
use Rattle.hoa_lexer.proofs.next_token.Between.{between_same}
use Rattle.hoa_lexer.proofs.spelling.FirstBytes.{no_kind_token, mark_front}
use Rattle.hoa_lexer.proofs.lexer.Lexer.token.Goals as goal

pub returns-in-Some-clause-answers : goal.returns-in-Some-clause-answers
returns-in-Some-clause-answers g c =
    between_same (g.I.Inputs.seen c.args.inputs.now).left _ (λ x. mark_front c.in-Some.sign c.args.first x c.in-Some.ensures)

pub returns-in-None-clause-answers : goal.returns-in-None-clause-answers
returns-in-None-clause-answers g c =
    let none : (x : List ℕ) → IsNoToken (c.args.first ∷ x) = λ x.
    no_kind_token c.args.first x c.requires.space
    (sym c.is_letter.ensures ∙ c.if-is_letter.false) (sym c.is_digit.ensures ∙ c.if-is_digit.false)
    (λ (e : c.args.first ≡ 34). omega arith) (λ (e : c.args.first ≡ 64). omega arith) (λ (e : c.args.first ≡ 45). omega arith) c.requires.slash c.in-None.ensures in
    between_same (g.I.Inputs.seen c.args.inputs.now).left _ (λ x. (
      refl,
      none x,
      record { byte = c.args.first; past = inl refl },
      record { used = c.args.first ∷ []; split = refl; none = none [] },
    ))
