use Rattle.std.proofs.Common.{[], ◌∷◌, refl, sym}
use Rattle.std.proofs.lemmas.List.{append-nil}
use Rattle.hoa_lexer.specs.declared.token.Token.TheVariants as token
use Rattle.hoa_parser.proofs.grammar.OtherTokens.{other}
use Rattle.hoa_parser.proofs.grammar.Values.{numbers_amp, numbers_more}
use Rattle.hoa_parser.proofs.reading.Steps.{fails_after, handed_on, next_fails, next_reads, no_memory, reads_as, reads_end, reads_nothing, reads_then, takes, takes_last}
use Rattle.hoa_parser.specs.inner.Expecting.{MoreNumbers}
use Rattle.hoa_parser.proofs.parse.lists.more_numbers.Goals as goal

pub numbers-init : goal.numbers-init
numbers-init g c = reads_nothing (MoreNumbers ∷ []) _ _ c.requires.unspent (λ a. ([], refl, sym (append-nil c.args.numbers)))

pub returns-in_default : goal.returns-in_default
returns-in_default g c = record { reads = reads_end MoreNumbers (other MoreNumbers _ c.in_default.not-Amp) c.numbers.invariant }

pub returns-in_err-advance : goal.returns-in_err-advance
returns-in_err-advance g c = record {
  reads =
      handed_on _ _ _ c.from_residual.ensures.1 (fails_after c.numbers.invariant (takes_last MoreNumbers [] token.Amp c.in-Amp.is refl refl refl c.in_err-advance.ensures));
}

pub returns-in_err-next : goal.returns-in_err-next
returns-in_err-next g c = record {
  reads =
      handed_on _ _ _ c.from_residual-in_err-next.ensures.1
      (next_fails (MoreNumbers ∷ []) (reads_then c.numbers.invariant (takes MoreNumbers [] token.Amp c.in-Amp.is refl refl refl c.in_ok-advance.ensures)) c.in_err-next.ensures.reads);
}

pub returns-in_err-push : goal.returns-in_err-push
returns-in_err-push g c = record {
  reads =
      handed_on _ _ _ c.from_residual-in_err-push.ensures.1
      (no_memory (next_reads (reads_then c.numbers.invariant (takes MoreNumbers [] token.Amp c.in-Amp.is refl refl refl c.in_ok-advance.ensures)) c.in_ok-next.ensures.reads));
}

pub numbers-preserved : goal.numbers-preserved
numbers-preserved g c =
    reads_as
    (λ a d h. numbers_more c.args.numbers c.numbers.numbers c.push.new.self c.in_ok-next.next a h.0 d c.in_ok-push.ensures.ok
    (numbers_amp c.args.numbers c.numbers.numbers a h.1.0 h.0 h.1.1 h.1.2) h.2)
    (next_reads (reads_then c.numbers.invariant (takes MoreNumbers [] token.Amp c.in-Amp.is refl refl refl c.in_ok-advance.ensures)) c.in_ok-next.ensures.reads)
