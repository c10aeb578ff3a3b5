-- The canonical text of a well-formed automaton reads back.
use Rattle.std.proofs.Common.{◌↔◌, sym, subst}
use Rattle.aut_base.proofs.canonical.CanonicalAutomata.{canonical_accepts_the_same, labels_below}
use Rattle.aut_base.specs.Acceptance.{Accepts}
use Rattle.aut_base.specs.Automaton.{Automaton}
use Rattle.hoa_writer.proofs.round_trip.CanonicalLines.{canonical_named}
use Rattle.hoa_writer.proofs.round_trip.ReadBackMeaning.{canonical_describes}
use Rattle.hoa_writer.proofs.round_trip.ReadBackRules.{canonical_is_valid}
use Rattle.hoa_writer.proofs.round_trip.ReadBackTokens.{canonical_reads}
use Rattle.hoa_writer.specs.CanonicalWritten.{CanonicalTextReadsBack}

pub text_reads_back : CanonicalTextReadsBack
text_reads_back a name formed states sets names =
    let reads = canonical_reads a name states sets names formed in
    let describes = canonical_describes a name formed in
    record {
      tokens = reads.tokens;
      lexes = reads.lexes;
      most = reads.most;
      spells = reads.spells;
      alone = reads.alone;
      valid = canonical_is_valid a name formed formed.names_differ;
      describes = describes;
      accepts = λ u v. let Same : Automaton → Type 0 = λ b. Accepts b u v ↔ Accepts a u v in subst Same (sym describes) (canonical_accepts_the_same a (labels_below a formed) u v);
      named = canonical_named a name;
    }
