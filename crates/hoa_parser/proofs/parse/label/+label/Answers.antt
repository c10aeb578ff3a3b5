use Rattle.std.proofs.Common.{◌∷◌, [], suc, add-one, refl, ap, ◌∙◌, arith}
use Rattle.std.proofs.lemmas.Bool.{le-leb, lt-leb}
use Rattle.aut_base.specs.declared.limit.TheConstants.{MOST_DEPTH}
use Rattle.hoa_lexer.specs.declared.token.Token.TheVariants as token
use Rattle.hoa_parser.proofs.reading.FrontParts.{passed_then}
use Rattle.hoa_parser.proofs.reading.RuleParts.{next_answer}
use Rattle.hoa_parser.proofs.reading.Steps.{fails_after, fails_before, handed_on, next_fails, next_reads, no_memory, reads_as, reads_before}
use Rattle.hoa_parser.proofs.reading.Steps.{reads_end, reads_then, takes, takes_last, token_passed, too_deep}
use Rattle.hoa_parser.proofs.grammar.RawTrees.{raw_tree-And, raw_tree-Or}
use Rattle.hoa_parser.proofs.reading.Chains.{chain_first, chain_next}
use Rattle.hoa_parser.proofs.reading.LabelChains.{label_of, land_of, lands_whole, lnots_whole}
use Rattle.hoa_parser.proofs.reading.LabelReads.{group_of, negated_of}
use Rattle.hoa_parser.specs.Phrases.{no_land, no_lnot}
use Rattle.hoa_parser.specs.inner.RuleReads.{IsAndLnot, IsAndLnots, IsLabel, IsLand, IsLnot, IsOrLand, IsOrLands}
use Rattle.hoa_parser.specs.Raw.{RawTree, raw_parts, raw_tree, raw_trees}
use Rattle.hoa_parser.specs.declared.raw.RawLabels.{RawLabels}
use Rattle.hoa_parser.specs.inner.Expecting.{Factor, Factors, Products}
use Rattle.hoa_parser.proofs.grammar.OtherTokens.{other}
use Rattle.hoa_parser.proofs.parse.label.+label.Goals as goal

pub and_lnot-lnot-requires : goal.and_lnot-lnot-requires
and_lnot-lnot-requires g t c κs within =
    (omega (arith, c.decreases), (within, (c.in_ok-advance.ensures.spent, c.requires.depth)))

pub and_lnot-returns-in_err-advance-clause-reads : goal.and_lnot-returns-in_err-advance-clause-reads
and_lnot-returns-in_err-advance-clause-reads g t c =
    handed_on _ _ _ c.from_residual.ensures.1 (takes_last (Factors c.args.depth) [] token.Amp c.requires.amp refl (le-leb c.args.depth MOST_DEPTH c.requires.depth) refl c.in_err-advance.ensures)

pub and_lnot-returns-clause-reads : goal.and_lnot-returns-clause-reads
and_lnot-returns-clause-reads g t c =
    next_answer (Factor c.args.depth ∷ []) (Factors c.args.depth ∷ []) (IsLnot c.args.depth) (IsAndLnot c.args.depth) c.lnot.result _
    (λ w a e h. record { phrase = h.2.phrase; within = h.2.within; passed = passed_then a h.0 e (token.Amp ∷ []) _ h.1 h.2.passed; means = h.2.means })
    (takes (Factors c.args.depth) [] token.Amp c.requires.amp refl (le-leb c.args.depth MOST_DEPTH c.requires.depth) refl c.in_ok-advance.ensures) c.lnot.ensures.reads

pub or_land-land-requires : goal.or_land-land-requires
or_land-land-requires g t c κs within =
    (omega (arith, c.decreases), (within, (c.in_ok-advance.ensures.spent, c.requires.depth)))

pub or_land-returns-in_err-advance-clause-reads : goal.or_land-returns-in_err-advance-clause-reads
or_land-returns-in_err-advance-clause-reads g t c =
    handed_on _ _ _ c.from_residual.ensures.1 (takes_last (Products c.args.depth) [] token.Bar c.requires.bar refl (le-leb c.args.depth MOST_DEPTH c.requires.depth) refl c.in_err-advance.ensures)

pub or_land-returns-clause-reads : goal.or_land-returns-clause-reads
or_land-returns-clause-reads g t c =
    next_answer (Factor c.args.depth ∷ Factors c.args.depth ∷ []) (Products c.args.depth ∷ []) (IsLand c.args.depth) (IsOrLand c.args.depth) c.land.result _
    (λ w a e h. record { phrase = h.2.phrase; within = h.2.within; passed = passed_then a h.0 e (token.Bar ∷ []) _ h.1 h.2.passed; means = h.2.means })
    (takes (Products c.args.depth) [] token.Bar c.requires.bar refl (le-leb c.args.depth MOST_DEPTH c.requires.depth) refl c.in_ok-advance.ensures) c.land.ensures.reads

pub and_lnots-returns-in_default : goal.and_lnots-returns-in_default
and_lnots-returns-in_default g t c =
    record {
      reads = token_passed (Factors c.args.depth) (IsAndLnots c.args.depth (raw_tree c.args.first) c.args.first) _ c.requires.unspent
          (other (Factors c.args.depth) _ c.in_default.not-Amp) (λ a. record { phrase = no_lnot; within = tt; passed = refl; means = refl });
    }

pub more_lnots-and_lnot-requires : goal.more_lnots-and_lnot-requires
more_lnots-and_lnot-requires g t c κs within =
    (omega (arith, c.decreases), (within, (c.requires.unspent, (c.requires.amp, c.requires.depth))))

pub more_lnots-returns-in_err-second : goal.more_lnots-returns-in_err-second
more_lnots-returns-in_err-second g t c =
    record { reads = handed_on _ _ _ c.from_residual.ensures.1 c.in_err-second.ensures.reads }

pub more_lnots-lnots-init : goal.more_lnots-lnots-init
more_lnots-lnots-init g t c =
    chain_first (raw_tree c.args.first) _ _ c.pair-parts.ensures c.in_ok-second.ensures.reads

pub more_lnots-returns-in_err-new-in_default : goal.more_lnots-returns-in_err-new-in_default
more_lnots-returns-in_err-new-in_default g t c =
    record {
      reads = handed_on _ _ _ c.from_residual-in_err-new-in_default.ensures.1
          (no_memory (reads_end (Factors c.args.depth) (other (Factors c.args.depth) _ c.in_default.not-Amp) c.lnots.invariant));
    }

pub more_lnots-returns-in_default : goal.more_lnots-returns-in_default
more_lnots-returns-in_default g t c =
    record {
      reads = reads_as (λ a e h. lnots_whole c.args.depth (raw_tree c.args.first) c.lnots.parts _ a e
          (raw_tree-And c.in_ok-new-in_default.field-0
          ∙ ap (λ (p : RawLabels). RawTree.And (raw_parts p).first (raw_parts p).second (raw_trees (raw_parts p).others)) c.in_ok-new-in_default.ensures.ok) h)
          (reads_end (Factors c.args.depth) (other (Factors c.args.depth) _ c.in_default.not-Amp) c.lnots.invariant);
    }

pub more_lnots-and_lnot-requires-in-lnots : goal.more_lnots-and_lnot-requires-in-lnots
more_lnots-and_lnot-requires-in-lnots g t c κs within =
    (omega (arith, c.decreases), (within, (c.lnots.invariant.spent, (c.in-Amp.is, c.requires.depth))))

pub more_lnots-returns-in_err-next : goal.more_lnots-returns-in_err-next
more_lnots-returns-in_err-next g t c =
    record { reads = handed_on _ _ _ c.from_residual-in_err-next.ensures.1 (fails_after c.lnots.invariant c.in_err-next.ensures.reads) }

pub more_lnots-returns-in_err-push : goal.more_lnots-returns-in_err-push
more_lnots-returns-in_err-push g t c =
    record { reads = handed_on _ _ _ c.from_residual-in_err-push.ensures.1 (no_memory (reads_then c.lnots.invariant c.in_ok-next.ensures.reads)) }

pub more_lnots-lnots-smaller : goal.more_lnots-lnots-smaller
more_lnots-lnots-smaller g t c =
    omega (
      arith,
      c.in_ok-next.ensures.uses,
      c.in_ok-next.ensures.reads.moves.most,
      c.and_lnot-in-lnots.new.lexer.within,
      c.and_lnot-in-lnots.new.lexer.since_within,
      c.and_lnot-in-lnots.new.lexer.held_within,
      c.lnots.lexer.since_within,
      c.lnots.lexer.held_within,
    )

pub more_lnots-lnots-preserved : goal.more_lnots-lnots-preserved
more_lnots-lnots-preserved g t c =
    chain_next (raw_tree c.args.first) _ _ _ c.in_ok-push.ensures.ok c.lnots.invariant c.in_ok-next.ensures.reads

pub or_lands-returns-in_default : goal.or_lands-returns-in_default
or_lands-returns-in_default g t c =
    record {
      reads = token_passed (Products c.args.depth) (IsOrLands c.args.depth (raw_tree c.args.first) c.args.first) _ c.requires.unspent
          (other (Products c.args.depth) _ c.in_default.not-Bar) (λ a. record { phrase = no_land; within = tt; passed = refl; means = refl });
    }

pub more_lands-or_land-requires : goal.more_lands-or_land-requires
more_lands-or_land-requires g t c κs within =
    (omega (arith, c.decreases), (within, (c.requires.unspent, (c.requires.bar, c.requires.depth))))

pub more_lands-returns-in_err-second : goal.more_lands-returns-in_err-second
more_lands-returns-in_err-second g t c =
    record { reads = handed_on _ _ _ c.from_residual.ensures.1 c.in_err-second.ensures.reads }

pub more_lands-lands-init : goal.more_lands-lands-init
more_lands-lands-init g t c =
    chain_first (raw_tree c.args.first) _ _ c.pair-parts.ensures c.in_ok-second.ensures.reads

pub more_lands-returns-in_err-new-in_default : goal.more_lands-returns-in_err-new-in_default
more_lands-returns-in_err-new-in_default g t c =
    record {
      reads = handed_on _ _ _ c.from_residual-in_err-new-in_default.ensures.1
          (no_memory (reads_end (Products c.args.depth) (other (Products c.args.depth) _ c.in_default.not-Bar) c.lands.invariant));
    }

pub more_lands-returns-in_default : goal.more_lands-returns-in_default
more_lands-returns-in_default g t c =
    record {
      reads = reads_as (λ a e h. lands_whole c.args.depth (raw_tree c.args.first) c.lands.parts _ a e
          (raw_tree-Or c.in_ok-new-in_default.field-0
          ∙ ap (λ (p : RawLabels). RawTree.Or (raw_parts p).first (raw_parts p).second (raw_trees (raw_parts p).others)) c.in_ok-new-in_default.ensures.ok) h)
          (reads_end (Products c.args.depth) (other (Products c.args.depth) _ c.in_default.not-Bar) c.lands.invariant);
    }

pub more_lands-or_land-requires-in-lands : goal.more_lands-or_land-requires-in-lands
more_lands-or_land-requires-in-lands g t c κs within =
    (omega (arith, c.decreases), (within, (c.lands.invariant.spent, (c.in-Bar.is, c.requires.depth))))

pub more_lands-returns-in_err-next : goal.more_lands-returns-in_err-next
more_lands-returns-in_err-next g t c =
    record { reads = handed_on _ _ _ c.from_residual-in_err-next.ensures.1 (fails_after c.lands.invariant c.in_err-next.ensures.reads) }

pub more_lands-returns-in_err-push : goal.more_lands-returns-in_err-push
more_lands-returns-in_err-push g t c =
    record { reads = handed_on _ _ _ c.from_residual-in_err-push.ensures.1 (no_memory (reads_then c.lands.invariant c.in_ok-next.ensures.reads)) }

pub more_lands-lands-smaller : goal.more_lands-lands-smaller
more_lands-lands-smaller g t c =
    omega (
      arith,
      c.in_ok-next.ensures.uses,
      c.in_ok-next.ensures.reads.moves.most,
      c.or_land-in-lands.new.lexer.within,
      c.or_land-in-lands.new.lexer.since_within,
      c.or_land-in-lands.new.lexer.held_within,
      c.lands.lexer.since_within,
      c.lands.lexer.held_within,
    )

pub more_lands-lands-preserved : goal.more_lands-lands-preserved
more_lands-lands-preserved g t c =
    chain_next (raw_tree c.args.first) _ _ _ c.in_ok-push.ensures.ok c.lands.invariant c.in_ok-next.ensures.reads

pub label-land-requires : goal.label-land-requires
label-land-requires g t c κs within =
    (omega (arith, c.decreases), (within, (c.requires.unspent, c.requires.depth)))

pub label-returns-in_err-first : goal.label-returns-in_err-first
label-returns-in_err-first g t c =
    record { reads = handed_on _ _ _ c.from_residual.ensures.1 (fails_before (Products c.args.depth ∷ []) c.in_err-first.ensures.reads) }

pub label-or_lands-requires : goal.label-or_lands-requires
label-or_lands-requires g t c κs within =
    (omega (arith, c.decreases), (within, (c.in_ok-first.ensures.reads.spent, c.requires.depth)))

pub label-returns : goal.label-returns
label-returns g t c =
    record {
      reads = next_answer (Products c.args.depth ∷ []) [] (IsOrLands c.args.depth (raw_tree c.in_ok-first.first)) (IsLabel c.args.depth) c.or_lands.result _
          (λ w a e h. label_of c.args.depth c.in_ok-first.first w a h.0 e h.1 h.2) (reads_before (Products c.args.depth ∷ []) c.in_ok-first.ensures.reads) c.or_lands.ensures.reads;
    }

pub land-lnot-requires : goal.land-lnot-requires
land-lnot-requires g t c κs within =
    (omega (arith, c.decreases), (within, (c.requires.unspent, c.requires.depth)))

pub land-returns-in_err-first : goal.land-returns-in_err-first
land-returns-in_err-first g t c =
    record { reads = handed_on _ _ _ c.from_residual.ensures.1 (fails_before (Factors c.args.depth ∷ []) c.in_err-first.ensures.reads) }

pub land-and_lnots-requires : goal.land-and_lnots-requires
land-and_lnots-requires g t c κs within =
    (omega (arith, c.decreases), (within, (c.in_ok-first.ensures.reads.spent, c.requires.depth)))

pub land-returns : goal.land-returns
land-returns g t c =
    record {
      reads = next_answer (Factors c.args.depth ∷ []) [] (IsAndLnots c.args.depth (raw_tree c.in_ok-first.first)) (IsLand c.args.depth) c.and_lnots.result _
          (λ w a e h. land_of c.args.depth c.in_ok-first.first w a h.0 e h.1 h.2) (reads_before (Factors c.args.depth ∷ []) c.in_ok-first.ensures.reads) c.and_lnots.ensures.reads;
    }

pub group-returns-then-depth-ge-MOST_DEPTH : goal.group-returns-then-depth-ge-MOST_DEPTH
group-returns-then-depth-ge-MOST_DEPTH g t c =
    record {
      reads = too_deep (Factor c.args.depth) [] token.LeftParen _ c.requires.paren refl refl (lt-leb (suc c.args.depth) MOST_DEPTH (omega (arith, c.if-depth-ge-MOST_DEPTH.true)))
          (omega (arith, c.if-depth-ge-MOST_DEPTH.true)) (le-leb (suc c.args.depth) (suc c.args.depth) (omega arith));
    }

pub group-returns-in_err-advance : goal.group-returns-in_err-advance
group-returns-in_err-advance g t c =
    record {
      reads = handed_on _ _ _ c.from_residual.ensures.1
          (takes_last (Factor c.args.depth) [] token.LeftParen c.requires.paren refl (le-leb (suc c.args.depth) MOST_DEPTH (omega (arith, c.if-depth-ge-MOST_DEPTH.false))) refl
          c.in_err-advance.ensures);
    }

pub group-label-requires : goal.group-label-requires
group-label-requires g t c κs within =
    (omega (arith, c.decreases, c.if-depth-ge-MOST_DEPTH.false), (within, (c.in_ok-advance.ensures.spent, (omega (arith, c.if-depth-ge-MOST_DEPTH.false)))))

pub group-returns-in_err-inner : goal.group-returns-in_err-inner
group-returns-in_err-inner g t c =
    record {
      reads = handed_on _ _ _ c.from_residual-in_err-inner.ensures.1
          (next_fails _ (takes (Factor c.args.depth) [] token.LeftParen c.requires.paren refl (le-leb (suc c.args.depth) MOST_DEPTH (omega (arith, c.if-depth-ge-MOST_DEPTH.false))) refl
          c.in_ok-advance.ensures) (rw add-one at c.in_err-inner.ensures.reads));
    }

pub group-returns-in_err-closing_paren : goal.group-returns-in_err-closing_paren
group-returns-in_err-closing_paren g t c =
    record {
      reads = handed_on _ _ _ c.from_residual-in_err-closing_paren.ensures.1
          (next_fails _ (next_reads (takes (Factor c.args.depth) [] token.LeftParen c.requires.paren refl (le-leb (suc c.args.depth) MOST_DEPTH (omega (arith, c.if-depth-ge-MOST_DEPTH.false)))
          refl c.in_ok-advance.ensures) (rw add-one at c.in_ok-inner.ensures.reads)) c.in_err-closing_paren.ensures.reads);
    }

pub group-returns : goal.group-returns
group-returns g t c =
    record {
      reads = reads_as (λ a e h. group_of c.args.depth c.in_ok-inner.inner a h.1.0 h.0 e (omega (arith, c.if-depth-ge-MOST_DEPTH.false)) h.1.1 h.1.2 h.2)
          (next_reads (next_reads (takes (Factor c.args.depth) [] token.LeftParen c.requires.paren refl (le-leb (suc c.args.depth) MOST_DEPTH (omega (arith, c.if-depth-ge-MOST_DEPTH.false)))
          refl c.in_ok-advance.ensures) (rw add-one at c.in_ok-inner.ensures.reads)) c.in_ok-closing_paren.ensures.reads);
    }

pub negation-returns-then-depth-ge-MOST_DEPTH : goal.negation-returns-then-depth-ge-MOST_DEPTH
negation-returns-then-depth-ge-MOST_DEPTH g t c =
    record {
      reads = too_deep (Factor c.args.depth) [] token.Bang _ c.requires.bang refl refl (lt-leb (suc c.args.depth) MOST_DEPTH (omega (arith, c.if-depth-ge-MOST_DEPTH.true)))
          (omega (arith, c.if-depth-ge-MOST_DEPTH.true)) (le-leb (suc c.args.depth) (suc c.args.depth) (omega arith));
    }

pub negation-returns-in_err-advance : goal.negation-returns-in_err-advance
negation-returns-in_err-advance g t c =
    record {
      reads = handed_on _ _ _ c.from_residual.ensures.1
          (takes_last (Factor c.args.depth) [] token.Bang c.requires.bang refl (le-leb (suc c.args.depth) MOST_DEPTH (omega (arith, c.if-depth-ge-MOST_DEPTH.false))) refl c.in_err-advance.ensures);
    }

pub negation-lnot-requires : goal.negation-lnot-requires
negation-lnot-requires g t c κs within =
    (omega (arith, c.decreases, c.if-depth-ge-MOST_DEPTH.false), (within, (c.in_ok-advance.ensures.spent, (omega (arith, c.if-depth-ge-MOST_DEPTH.false)))))

pub negation-returns-in_err-inner : goal.negation-returns-in_err-inner
negation-returns-in_err-inner g t c =
    record {
      reads = handed_on _ _ _ c.from_residual-in_err-inner.ensures.1
          (next_fails _ (takes (Factor c.args.depth) [] token.Bang c.requires.bang refl (le-leb (suc c.args.depth) MOST_DEPTH (omega (arith, c.if-depth-ge-MOST_DEPTH.false))) refl
          c.in_ok-advance.ensures) (rw add-one at c.in_err-inner.ensures.reads));
    }

pub negation-returns-in_err-negated : goal.negation-returns-in_err-negated
negation-returns-in_err-negated g t c =
    record {
      reads = handed_on _ _ _ c.from_residual-in_err-negated.ensures.1
          (no_memory (next_reads (takes (Factor c.args.depth) [] token.Bang c.requires.bang refl (le-leb (suc c.args.depth) MOST_DEPTH (omega (arith, c.if-depth-ge-MOST_DEPTH.false))) refl
          c.in_ok-advance.ensures) (rw add-one at c.in_ok-inner.ensures.reads)));
    }

pub negation-returns : goal.negation-returns
negation-returns g t c =
    record {
      reads = reads_as (λ a e h. negated_of c.args.depth c.in_ok-inner.inner _ a h.0 e (omega (arith, c.if-depth-ge-MOST_DEPTH.false))
          c.in_ok-negated.ensures h.1 h.2)
          (next_reads (takes (Factor c.args.depth) [] token.Bang c.requires.bang refl (le-leb (suc c.args.depth) MOST_DEPTH (omega (arith, c.if-depth-ge-MOST_DEPTH.false))) refl
          c.in_ok-advance.ensures) (rw add-one at c.in_ok-inner.ensures.reads));
    }

pub lnot-negation-requires : goal.lnot-negation-requires
lnot-negation-requires g t c κs within =
    (omega (arith, c.decreases), (within, (c.requires.unspent, (c.in-Bang.is, c.requires.depth))))

pub lnot-group-requires : goal.lnot-group-requires
lnot-group-requires g t c κs within =
    (omega (arith, c.decreases), (within, (c.requires.unspent, (c.in-LeftParen.is, c.requires.depth))))
