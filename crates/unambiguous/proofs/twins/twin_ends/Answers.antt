use Rattle.std.proofs.Common.{◌≡◌, ◌∙◌, ◌<◌, List, Some, ap, arith, length, slice_get, sym}
use Rattle.std.proofs.lemmas.Bool.{false≢true}
use Rattle.aut_core.proofs.Growth.{keeps_on}
use Rattle.aut_core.specs.declared.link.Link.{Link}
use Rattle.unambiguous.proofs.parting.Flagged.{kept_flagged, set_ends, set_flagged}
use Rattle.unambiguous.proofs.twins.twin_ends.Goals as goal

pub has_twin-requires-clause-keeps : goal.has_twin-requires-clause-keeps
has_twin-requires-clause-keeps c = keeps_on c.requires c.links.invariant.keeps

pub links-preserved-then-not-branch : goal.links-preserved-then-not-branch
links-preserved-then-not-branch c = record {
  keeps = keeps_on c.links.invariant.keeps c.has_twin.ensures.keeps;
  ends = c.links.invariant.ends;
  flagged = kept_flagged c.args.a.now c.args.pairs.now.keys c.links.flags.items c.links.place c.links.invariant.flagged
      (λ twin. false≢true (sym c.if-not-branch.true ∙ c.in_ok-has_twin.ensures.twin.1 twin));
}

pub links-preserved : goal.links-preserved
links-preserved c =
    let a = c.args.a.now in
    let pairs = c.args.pairs.now.keys in
    let link = c.link_at-link.result.now in
    let at : slice_get a.links c.links.place ≡ Some link = ap (λ (ls : List Link). slice_get ls c.links.place) (sym c.links-links.ensures) ∙ sym c.link_at-link.ensures in
    record {
      keeps = keeps_on c.links.invariant.keeps c.has_twin.ensures.keeps;
      ends = set_ends a c.well_formedness.ensures pairs c.links.place link at c.links.flags.items c.links.invariant.ends (c.in_ok-has_twin.ensures.twin.0 c.if-not-branch.false);
      flagged = set_flagged a c.well_formedness.ensures pairs c.links.place link at c.links.flags.items c.links.invariant.ends c.links.invariant.flagged;
    }

pub returns-clause-flagged : goal.returns-clause-flagged
returns-clause-flagged c = λ m n q less twins.
    let size = ap (λ (ls : List Link). length ls) c.links-links.ensures in
    let within : m < c.links.place = omega (arith, less, size) in
    c.links.invariant.flagged m n q within twins
