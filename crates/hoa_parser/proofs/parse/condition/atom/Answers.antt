use Rattle.std.proofs.Common.{[], Some, refl, sym, ap, ◌∙◌}
use Rattle.aut_base.proofs.trees.FormulaTrees.{formula_tree-False, formula_tree-Fin, formula_tree-Inf, formula_tree-True}
use Rattle.aut_base.specs.declared.formula.Formula.TheVariants as rust
use Rattle.hoa_lexer.specs.declared.token.Token.TheVariants as token
use Rattle.hoa_parser.proofs.reading.Atoms.{no_sign, sign_found, sign_word}
use Rattle.hoa_parser.proofs.reading.Sets.{sign_alone, sign_opens, sign_taken, sign_taken_here, sign_with_set}
use Rattle.hoa_parser.proofs.reading.Steps.{handed_on, next_fails, next_reads, reads_as, takes_last, token_refused}
use Rattle.hoa_parser.specs.inner.Expecting.{Atom}
use Rattle.hoa_parser.specs.Phrases.{false_condition, finitely, infinitely, true_condition}
use Rattle.hoa_parser.specs.declared.parse.condition.Sign.{Sign}
use Rattle.hoa_parser.specs.declared.parse.condition.Sign.TheVariants as sign
use Rattle.hoa_parser.proofs.parse.condition.atom.Goals as goal

pub returns-in_default : goal.returns-in_default
returns-in_default g c = record {
  reads =
      token_refused (Atom c.args.depth) [] _ _ c.requires.unspent c.refused.ensures (no_sign c.args.depth c.args.ahead.now c.requires.no_paren (sym c.sign_at.ensures ∙ c.in_default.is));
}

pub returns-in_err-advance : goal.returns-in_err-advance
returns-in_err-advance g c = record {
  reads =
      handed_on _ _ _ c.from_residual.ensures.1
      (takes_last (Atom c.args.depth) [] (token.Identifier (sign_word c.in-Some.sign)) (sign_found c.args.ahead.now c.in-Some.sign (sym c.sign_at.ensures ∙ c.in-Some.is))
      (sign_taken c.args.depth c.in-Some.sign) (sign_opens c.in-Some.sign) refl c.in_err-advance.ensures);
}

pub returns-in-True : goal.returns-in-True
returns-in-True g c = record {
  reads = reads_as (λ a b h. sign_alone c.args.depth sign.True true_condition rust.True a b tt refl formula_tree-True h)
      (sign_taken_here c.args.depth sign.True (sign_found c.args.ahead.now sign.True (sym c.sign_at.ensures ∙ c.in-Some.is ∙ ap (λ (x : Sign). Some x) c.in-True.is)) c.in_ok-advance.ensures);
}

pub returns-in-False : goal.returns-in-False
returns-in-False g c = record {
  reads = reads_as (λ a b h. sign_alone c.args.depth sign.False false_condition rust.False a b tt refl formula_tree-False h)
      (sign_taken_here c.args.depth sign.False (sign_found c.args.ahead.now sign.False (sym c.sign_at.ensures ∙ c.in-Some.is ∙ ap (λ (x : Sign). Some x) c.in-False.is)) c.in_ok-advance.ensures);
}

pub returns-in_ok-number-in-Inf : goal.returns-in_ok-number-in-Inf
returns-in_ok-number-in-Inf g c = record {
  reads = reads_as (λ a b h. sign_with_set c.args.depth sign.Inf _ (infinitely _ _) _ a h.0 b tt refl (formula_tree-Inf _ _) h.1 h.2)
      (next_reads (sign_taken_here c.args.depth sign.Inf (sign_found c.args.ahead.now sign.Inf (sym c.sign_at.ensures ∙ c.in-Some.is ∙ ap (λ (x : Sign). Some x) c.in-Inf.is))
      c.in_ok-advance.ensures) c.in_ok-number-in-Inf.ensures.reads);
}

pub returns-in_err-number-in-Inf : goal.returns-in_err-number-in-Inf
returns-in_err-number-in-Inf g c = record {
  reads = handed_on _ _ _ c.from_residual-in_err-number-in-Inf.ensures.1
      (next_fails _ (sign_taken_here c.args.depth sign.Inf (sign_found c.args.ahead.now sign.Inf (sym c.sign_at.ensures ∙ c.in-Some.is ∙ ap (λ (x : Sign). Some x) c.in-Inf.is))
      c.in_ok-advance.ensures) c.in_err-number-in-Inf.ensures.reads);
}

pub returns-in_ok-number-in-Fin : goal.returns-in_ok-number-in-Fin
returns-in_ok-number-in-Fin g c = record {
  reads = reads_as (λ a b h. sign_with_set c.args.depth sign.Fin _ (finitely _ _) _ a h.0 b tt refl (formula_tree-Fin _ _) h.1 h.2)
      (next_reads (sign_taken_here c.args.depth sign.Fin (sign_found c.args.ahead.now sign.Fin (sym c.sign_at.ensures ∙ c.in-Some.is ∙ ap (λ (x : Sign). Some x) c.in-Fin.is))
      c.in_ok-advance.ensures) c.in_ok-number-in-Fin.ensures.reads);
}

pub returns-in_err-number-in-Fin : goal.returns-in_err-number-in-Fin
returns-in_err-number-in-Fin g c = record {
  reads = handed_on _ _ _ c.from_residual-in_err-number-in-Fin.ensures.1
      (next_fails _ (sign_taken_here c.args.depth sign.Fin (sign_found c.args.ahead.now sign.Fin (sym c.sign_at.ensures ∙ c.in-Some.is ∙ ap (λ (x : Sign). Some x) c.in-Fin.is))
      c.in_ok-advance.ensures) c.in_err-number-in-Fin.ensures.reads);
}
