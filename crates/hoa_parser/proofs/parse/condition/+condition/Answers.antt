use Rattle.std.proofs.Common.{◌∷◌, [], suc, add-one, refl, arith}
use Rattle.std.proofs.lemmas.Bool.{le-leb, lt-leb}
use Rattle.aut_base.specs.declared.limit.TheConstants.{MOST_DEPTH}
use Rattle.hoa_lexer.specs.declared.token.Token.TheVariants as token
use Rattle.hoa_parser.proofs.reading.FrontParts.{passed_then}
use Rattle.hoa_parser.proofs.reading.RuleParts.{next_answer}
use Rattle.hoa_parser.proofs.reading.Steps.{fails_after, fails_before, handed_on, next_fails, next_reads, no_memory, reads_as, reads_before}
use Rattle.hoa_parser.proofs.reading.Steps.{reads_end, reads_then, takes, takes_last, token_passed, too_deep}
use Rattle.aut_base.proofs.trees.FormulaTrees.{formula_tree-And, formula_tree-Or}
use Rattle.hoa_parser.proofs.reading.Chains.{chain_first, chain_next}
use Rattle.hoa_parser.proofs.reading.ConditionChains.{condition_of, fand_of, fands_whole, fatoms_whole}
use Rattle.hoa_parser.proofs.reading.ConditionReads.{group_of}
use Rattle.hoa_parser.specs.Phrases.{no_fand, no_fatom}
use Rattle.hoa_parser.specs.inner.RuleReads.{IsAndFatom, IsAndFatoms, IsCondition, IsFand, IsFatom, IsOrFand, IsOrFands}
use Rattle.aut_base.specs.Formula.{formula_tree}
use Rattle.aut_base.specs.declared.formula.Formula.TheVariants as rust
use Rattle.hoa_parser.specs.inner.Expecting.{Atom, Atoms, Conjunctions}
use Rattle.hoa_parser.proofs.grammar.OtherTokens.{other}
use Rattle.hoa_parser.proofs.parse.condition.+condition.Goals as goal

pub and_fatom-fatom-requires : goal.and_fatom-fatom-requires
and_fatom-fatom-requires g t c κs within =
    (omega (arith, c.decreases), (within, (c.in_ok-advance.ensures.spent, c.requires.depth)))

pub and_fatom-returns-in_err-advance-clause-reads : goal.and_fatom-returns-in_err-advance-clause-reads
and_fatom-returns-in_err-advance-clause-reads g t c =
    handed_on _ _ _ c.from_residual.ensures.1 (takes_last (Atoms c.args.depth) [] token.Amp c.requires.amp refl (le-leb c.args.depth MOST_DEPTH c.requires.depth) refl c.in_err-advance.ensures)

pub and_fatom-returns-clause-reads : goal.and_fatom-returns-clause-reads
and_fatom-returns-clause-reads g t c =
    next_answer (Atom c.args.depth ∷ []) (Atoms c.args.depth ∷ []) (IsFatom c.args.depth) (IsAndFatom c.args.depth) c.fatom.result _
    (λ w a e h. record { phrase = h.2.phrase; within = h.2.within; passed = passed_then a h.0 e (token.Amp ∷ []) _ h.1 h.2.passed; means = h.2.means })
    (takes (Atoms c.args.depth) [] token.Amp c.requires.amp refl (le-leb c.args.depth MOST_DEPTH c.requires.depth) refl c.in_ok-advance.ensures) c.fatom.ensures.reads

pub or_fand-fand-requires : goal.or_fand-fand-requires
or_fand-fand-requires g t c κs within =
    (omega (arith, c.decreases), (within, (c.in_ok-advance.ensures.spent, c.requires.depth)))

pub or_fand-returns-in_err-advance-clause-reads : goal.or_fand-returns-in_err-advance-clause-reads
or_fand-returns-in_err-advance-clause-reads g t c =
    handed_on _ _ _ c.from_residual.ensures.1 (takes_last (Conjunctions c.args.depth) [] token.Bar c.requires.bar refl (le-leb c.args.depth MOST_DEPTH c.requires.depth) refl c.in_err-advance.ensures)

pub or_fand-returns-clause-reads : goal.or_fand-returns-clause-reads
or_fand-returns-clause-reads g t c =
    next_answer (Atom c.args.depth ∷ Atoms c.args.depth ∷ []) (Conjunctions c.args.depth ∷ []) (IsFand c.args.depth) (IsOrFand c.args.depth) c.fand.result _
    (λ w a e h. record { phrase = h.2.phrase; within = h.2.within; passed = passed_then a h.0 e (token.Bar ∷ []) _ h.1 h.2.passed; means = h.2.means })
    (takes (Conjunctions c.args.depth) [] token.Bar c.requires.bar refl (le-leb c.args.depth MOST_DEPTH c.requires.depth) refl c.in_ok-advance.ensures) c.fand.ensures.reads

pub and_fatoms-returns-in_default : goal.and_fatoms-returns-in_default
and_fatoms-returns-in_default g t c =
    record {
      reads = token_passed (Atoms c.args.depth) (IsAndFatoms c.args.depth (formula_tree c.args.first) c.args.first) _ c.requires.unspent
          (other (Atoms c.args.depth) _ c.in_default.not-Amp) (λ a. record { phrase = no_fatom; within = tt; passed = refl; means = refl });
    }

pub and_fatoms-and_fatom-requires : goal.and_fatoms-and_fatom-requires
and_fatoms-and_fatom-requires g t c κs within =
    (omega (arith, c.decreases), (within, (c.requires.unspent, (c.in-Amp.is, c.requires.depth))))

pub and_fatoms-returns-in_err-second : goal.and_fatoms-returns-in_err-second
and_fatoms-returns-in_err-second g t c =
    record { reads = handed_on _ _ _ c.from_residual.ensures.1 c.in_err-second.ensures.reads }

pub and_fatoms-returns-in_err-parts : goal.and_fatoms-returns-in_err-parts
and_fatoms-returns-in_err-parts g t c =
    record { reads = handed_on _ _ _ c.from_residual-in_err-parts.ensures.1 (no_memory c.in_ok-second.ensures.reads) }

pub and_fatoms-fatoms-init : goal.and_fatoms-fatoms-init
and_fatoms-fatoms-init g t c =
    chain_first (formula_tree c.args.first) _ _ c.in_ok-parts.ensures c.in_ok-second.ensures.reads

pub and_fatoms-returns-in_default-ahead : goal.and_fatoms-returns-in_default-ahead
and_fatoms-returns-in_default-ahead g t c =
    record {
      reads = reads_as (λ a e h. fatoms_whole c.args.depth (formula_tree c.args.first) c.fatoms.parts (rust.And c.fatoms.parts) a e (formula_tree-And c.fatoms.parts) h)
          (reads_end (Atoms c.args.depth) (other (Atoms c.args.depth) _ c.in_default-ahead.not-Amp) c.fatoms.invariant);
    }

pub and_fatoms-and_fatom-requires-in-fatoms : goal.and_fatoms-and_fatom-requires-in-fatoms
and_fatoms-and_fatom-requires-in-fatoms g t c κs within =
    (omega (arith, c.decreases), (within, (c.fatoms.invariant.spent, (c.in-Amp-ahead.is, c.requires.depth))))

pub and_fatoms-returns-in_err-next : goal.and_fatoms-returns-in_err-next
and_fatoms-returns-in_err-next g t c =
    record { reads = handed_on _ _ _ c.from_residual-in_err-next.ensures.1 (fails_after c.fatoms.invariant c.in_err-next.ensures.reads) }

pub and_fatoms-returns-in_err-push : goal.and_fatoms-returns-in_err-push
and_fatoms-returns-in_err-push g t c =
    record { reads = handed_on _ _ _ c.from_residual-in_err-push.ensures.1 (no_memory (reads_then c.fatoms.invariant c.in_ok-next.ensures.reads)) }

pub and_fatoms-fatoms-smaller : goal.and_fatoms-fatoms-smaller
and_fatoms-fatoms-smaller g t c =
    omega (
      arith,
      c.in_ok-next.ensures.uses,
      c.in_ok-next.ensures.reads.moves.most,
      c.and_fatom-in-fatoms.new.lexer.within,
      c.and_fatom-in-fatoms.new.lexer.since_within,
      c.and_fatom-in-fatoms.new.lexer.held_within,
      c.fatoms.lexer.since_within,
      c.fatoms.lexer.held_within,
    )

pub and_fatoms-fatoms-preserved : goal.and_fatoms-fatoms-preserved
and_fatoms-fatoms-preserved g t c =
    chain_next (formula_tree c.args.first) _ _ _ c.in_ok-push.ensures.ok c.fatoms.invariant c.in_ok-next.ensures.reads

pub or_fands-returns-in_default : goal.or_fands-returns-in_default
or_fands-returns-in_default g t c =
    record {
      reads = token_passed (Conjunctions c.args.depth) (IsOrFands c.args.depth (formula_tree c.args.first) c.args.first) _ c.requires.unspent
          (other (Conjunctions c.args.depth) _ c.in_default.not-Bar) (λ a. record { phrase = no_fand; within = tt; passed = refl; means = refl });
    }

pub or_fands-or_fand-requires : goal.or_fands-or_fand-requires
or_fands-or_fand-requires g t c κs within =
    (omega (arith, c.decreases), (within, (c.requires.unspent, (c.in-Bar.is, c.requires.depth))))

pub or_fands-returns-in_err-second : goal.or_fands-returns-in_err-second
or_fands-returns-in_err-second g t c =
    record { reads = handed_on _ _ _ c.from_residual.ensures.1 c.in_err-second.ensures.reads }

pub or_fands-returns-in_err-parts : goal.or_fands-returns-in_err-parts
or_fands-returns-in_err-parts g t c =
    record { reads = handed_on _ _ _ c.from_residual-in_err-parts.ensures.1 (no_memory c.in_ok-second.ensures.reads) }

pub or_fands-fands-init : goal.or_fands-fands-init
or_fands-fands-init g t c =
    chain_first (formula_tree c.args.first) _ _ c.in_ok-parts.ensures c.in_ok-second.ensures.reads

pub or_fands-returns-in_default-ahead : goal.or_fands-returns-in_default-ahead
or_fands-returns-in_default-ahead g t c =
    record {
      reads = reads_as (λ a e h. fands_whole c.args.depth (formula_tree c.args.first) c.fands.parts (rust.Or c.fands.parts) a e (formula_tree-Or c.fands.parts) h)
          (reads_end (Conjunctions c.args.depth) (other (Conjunctions c.args.depth) _ c.in_default-ahead.not-Bar) c.fands.invariant);
    }

pub or_fands-or_fand-requires-in-fands : goal.or_fands-or_fand-requires-in-fands
or_fands-or_fand-requires-in-fands g t c κs within =
    (omega (arith, c.decreases), (within, (c.fands.invariant.spent, (c.in-Bar-ahead.is, c.requires.depth))))

pub or_fands-returns-in_err-next : goal.or_fands-returns-in_err-next
or_fands-returns-in_err-next g t c =
    record { reads = handed_on _ _ _ c.from_residual-in_err-next.ensures.1 (fails_after c.fands.invariant c.in_err-next.ensures.reads) }

pub or_fands-returns-in_err-push : goal.or_fands-returns-in_err-push
or_fands-returns-in_err-push g t c =
    record { reads = handed_on _ _ _ c.from_residual-in_err-push.ensures.1 (no_memory (reads_then c.fands.invariant c.in_ok-next.ensures.reads)) }

pub or_fands-fands-smaller : goal.or_fands-fands-smaller
or_fands-fands-smaller g t c =
    omega (
      arith,
      c.in_ok-next.ensures.uses,
      c.in_ok-next.ensures.reads.moves.most,
      c.or_fand-in-fands.new.lexer.within,
      c.or_fand-in-fands.new.lexer.since_within,
      c.or_fand-in-fands.new.lexer.held_within,
      c.fands.lexer.since_within,
      c.fands.lexer.held_within,
    )

pub or_fands-fands-preserved : goal.or_fands-fands-preserved
or_fands-fands-preserved g t c =
    chain_next (formula_tree c.args.first) _ _ _ c.in_ok-push.ensures.ok c.fands.invariant c.in_ok-next.ensures.reads

pub condition-fand-requires : goal.condition-fand-requires
condition-fand-requires g t c κs within =
    (omega (arith, c.decreases), (within, (c.requires.unspent, c.requires.depth)))

pub condition-returns-in_err-first : goal.condition-returns-in_err-first
condition-returns-in_err-first g t c =
    record { reads = handed_on _ _ _ c.from_residual.ensures.1 (fails_before (Conjunctions c.args.depth ∷ []) c.in_err-first.ensures.reads) }

pub condition-or_fands-requires : goal.condition-or_fands-requires
condition-or_fands-requires g t c κs within =
    (omega (arith, c.decreases), (within, (c.in_ok-first.ensures.reads.spent, c.requires.depth)))

pub condition-returns : goal.condition-returns
condition-returns g t c =
    record {
      reads = next_answer (Conjunctions c.args.depth ∷ []) [] (IsOrFands c.args.depth (formula_tree c.in_ok-first.first)) (IsCondition c.args.depth) c.or_fands.result _
          (λ w a e h. condition_of c.args.depth c.in_ok-first.first w a h.0 e h.1 h.2) (reads_before (Conjunctions c.args.depth ∷ []) c.in_ok-first.ensures.reads) c.or_fands.ensures.reads;
    }

pub fand-fatom-requires : goal.fand-fatom-requires
fand-fatom-requires g t c κs within =
    (omega (arith, c.decreases), (within, (c.requires.unspent, c.requires.depth)))

pub fand-returns-in_err-first : goal.fand-returns-in_err-first
fand-returns-in_err-first g t c =
    record { reads = handed_on _ _ _ c.from_residual.ensures.1 (fails_before (Atoms c.args.depth ∷ []) c.in_err-first.ensures.reads) }

pub fand-and_fatoms-requires : goal.fand-and_fatoms-requires
fand-and_fatoms-requires g t c κs within =
    (omega (arith, c.decreases), (within, (c.in_ok-first.ensures.reads.spent, c.requires.depth)))

pub fand-returns : goal.fand-returns
fand-returns g t c =
    record {
      reads = next_answer (Atoms c.args.depth ∷ []) [] (IsAndFatoms c.args.depth (formula_tree c.in_ok-first.first)) (IsFand c.args.depth) c.and_fatoms.result _
          (λ w a e h. fand_of c.args.depth c.in_ok-first.first w a h.0 e h.1 h.2) (reads_before (Atoms c.args.depth ∷ []) c.in_ok-first.ensures.reads) c.and_fatoms.ensures.reads;
    }

pub group-returns-then-depth-ge-MOST_DEPTH : goal.group-returns-then-depth-ge-MOST_DEPTH
group-returns-then-depth-ge-MOST_DEPTH g t c =
    record {
      reads = too_deep (Atom c.args.depth) [] token.LeftParen _ c.requires.paren refl refl (lt-leb (suc c.args.depth) MOST_DEPTH (omega (arith, c.if-depth-ge-MOST_DEPTH.true)))
          (omega (arith, c.if-depth-ge-MOST_DEPTH.true)) (le-leb (suc c.args.depth) (suc c.args.depth) (omega arith));
    }

pub group-returns-in_err-advance : goal.group-returns-in_err-advance
group-returns-in_err-advance g t c =
    record {
      reads = handed_on _ _ _ c.from_residual.ensures.1
          (takes_last (Atom c.args.depth) [] token.LeftParen c.requires.paren refl (le-leb (suc c.args.depth) MOST_DEPTH (omega (arith, c.if-depth-ge-MOST_DEPTH.false))) refl
          c.in_err-advance.ensures);
    }

pub group-condition-requires : goal.group-condition-requires
group-condition-requires g t c κs within =
    (omega (arith, c.decreases, c.if-depth-ge-MOST_DEPTH.false), (within, (c.in_ok-advance.ensures.spent, (omega (arith, c.if-depth-ge-MOST_DEPTH.false)))))

pub group-returns-in_err-inner : goal.group-returns-in_err-inner
group-returns-in_err-inner g t c =
    record {
      reads = handed_on _ _ _ c.from_residual-in_err-inner.ensures.1
          (next_fails _ (takes (Atom c.args.depth) [] token.LeftParen c.requires.paren refl (le-leb (suc c.args.depth) MOST_DEPTH (omega (arith, c.if-depth-ge-MOST_DEPTH.false))) refl
          c.in_ok-advance.ensures) (rw add-one at c.in_err-inner.ensures.reads));
    }

pub group-returns-in_err-closing_paren : goal.group-returns-in_err-closing_paren
group-returns-in_err-closing_paren g t c =
    record {
      reads = handed_on _ _ _ c.from_residual-in_err-closing_paren.ensures.1
          (next_fails _ (next_reads (takes (Atom c.args.depth) [] token.LeftParen c.requires.paren refl (le-leb (suc c.args.depth) MOST_DEPTH (omega (arith, c.if-depth-ge-MOST_DEPTH.false)))
          refl c.in_ok-advance.ensures) (rw add-one at c.in_ok-inner.ensures.reads)) c.in_err-closing_paren.ensures.reads);
    }

pub group-returns : goal.group-returns
group-returns g t c =
    record {
      reads = reads_as (λ a e h. group_of c.args.depth c.in_ok-inner.inner a h.1.0 h.0 e (omega (arith, c.if-depth-ge-MOST_DEPTH.false)) h.1.1 h.1.2 h.2)
          (next_reads (next_reads (takes (Atom c.args.depth) [] token.LeftParen c.requires.paren refl (le-leb (suc c.args.depth) MOST_DEPTH (omega (arith, c.if-depth-ge-MOST_DEPTH.false)))
          refl c.in_ok-advance.ensures) (rw add-one at c.in_ok-inner.ensures.reads)) c.in_ok-closing_paren.ensures.reads);
    }

pub fatom-group-requires : goal.fatom-group-requires
fatom-group-requires g t c κs within =
    (omega (arith, c.decreases), (within, (c.requires.unspent, (c.in-LeftParen.is, c.requires.depth))))
