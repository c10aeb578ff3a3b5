use Rattle.std.proofs.Common.{[], ◌∷◌, refl, sym}
use Rattle.std.proofs.lemmas.List.{append-nil}
use Rattle.hoa_lexer.specs.declared.token.Token.TheVariants as token
use Rattle.hoa_parser.proofs.grammar.OtherTokens.{other}
use Rattle.hoa_parser.proofs.grammar.Values.{ints_more, marks_closed}
use Rattle.hoa_parser.proofs.reading.Steps.{fails_after, handed_on, no_memory, reads_as, reads_nothing, reads_then, takes, takes_last, token_refused}
use Rattle.hoa_parser.specs.inner.Expecting.{Marks}
use Rattle.hoa_parser.proofs.parse.lists.marks_behind.Goals as goal

pub marks-init : goal.marks-init
marks-init g c = reads_nothing (Marks ∷ []) _ _ c.requires.unspent (λ a. ([], refl, sym (append-nil c.args.marks)))

pub returns-in_default : goal.returns-in_default
returns-in_default g c = record {
  reads =
      fails_after c.marks.invariant (token_refused Marks [] _ _ c.marks.invariant.spent c.refused.ensures (other Marks _ (c.in_default.not-Int, c.in_default.not-RightBrace)));
}

pub returns-in_err-push-in-Int : goal.returns-in_err-push-in-Int
returns-in_err-push-in-Int g c = record { reads = handed_on _ _ _ c.from_residual.ensures.1 (no_memory (rw c.in-Int.is at c.marks.invariant)) }

pub returns-in_err-advance : goal.returns-in_err-advance
returns-in_err-advance g c = record {
  reads =
      handed_on _ _ _ c.from_residual-in_err-advance.ensures.1
      (fails_after (rw c.in-Int.is at c.marks.invariant) (takes_last Marks [] (token.Int c.in-Int.mark) refl refl refl refl c.in_err-advance.ensures));
}

pub marks-preserved : goal.marks-preserved
marks-preserved g c =
    reads_as (λ a d h. ints_more c.args.marks c.marks.marks c.push.new.self c.in-Int.mark a h.0 d c.in_ok-push-in-Int.ensures.ok h.1 h.2)
    (reads_then (rw c.in-Int.is at c.marks.invariant) (takes Marks [] (token.Int c.in-Int.mark) refl refl refl refl c.in_ok-advance.ensures))

pub returns-in_err-advance-2 : goal.returns-in_err-advance-2
returns-in_err-advance-2 g c = record {
  reads =
      handed_on _ _ _ c.from_residual-in_err-advance-2.ensures.1 (fails_after c.marks.invariant (takes_last Marks [] token.RightBrace c.in-RightBrace.is refl refl refl c.in_err-advance-2.ensures));
}

pub returns : goal.returns
returns g c = record {
  reads = reads_as (λ a d h. marks_closed c.args.marks c.marks.marks a h.0 d h.1 h.2)
      (reads_then c.marks.invariant (takes Marks [] token.RightBrace c.in-RightBrace.is refl refl refl c.in_ok-advance-2.ensures));
}
