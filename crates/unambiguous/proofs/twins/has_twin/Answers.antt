use Rattle.std.proofs.Common.{◌≡◌, ◌∙◌, ◌<◌, ℕ, List, Some, ap, arith, false, length, refl, slice_get, sym, true}
use Rattle.std.proofs.lemmas.Bool.{false≢true}
use Rattle.std.proofs.lemmas.Option.{slice_get_within}
use Rattle.aut_core.proofs.Growth.{keeps_on}
use Rattle.aut_core.specs.declared.link.Link.{Link}
use Rattle.unambiguous.proofs.parting.Flagged.{found, none_behind_others, one_less, same_meet}
use Rattle.unambiguous.specs.Parted.{is_doubled}
use Rattle.unambiguous.proofs.twins.has_twin.Goals as goal

read_at : (links ls : List Link) (k : ℕ) (l : Link) → ls ≡ links → Some l ≡ slice_get ls k → slice_get links k ≡ Some l
read_at links ls k l same is = ap (λ (xs : List Link). slice_get xs k) (sym same) ∙ sym is

pub returns-then-other-link-clause-twin : goal.returns-then-other-link-clause-twin
returns-then-other-link-clause-twin c =
    let a = c.args.a.now in
    let link = c.link_at-link.result.now in
    let other = c.link_at-other.result.now in
    let at = read_at a.links c.links-links.result.now c.args.place link c.links-links.ensures c.link_at-link.ensures in
    let there = read_at a.links c.links-links.result.now c.others.other_place other c.links-links.ensures c.link_at-other.ensures in
    let before : c.args.place < c.others.other_place = omega arith in (
      λ e. absurd (false≢true e),
      λ twin. absurd (none_behind_others a c.well_formedness.ensures c.args.pairs.now.keys c.args.place link at c.others.other_place other there before
          c.others.invariant.none c.if-other-link.true twin.0 twin.1 twin.2),
    )

pub returns-then-branch-clause-keeps : goal.returns-then-branch-clause-keeps
returns-then-branch-clause-keeps c = keeps_on c.others.invariant.keeps c.meet.ensures.keeps

pub returns-then-branch-clause-twin : goal.returns-then-branch-clause-twin
returns-then-branch-clause-twin c =
    let a = c.args.a.now in
    let pairs = c.args.pairs.now.keys in
    let link = c.link_at-link.result.now in
    let other = c.link_at-other.result.now in
    let at = read_at a.links c.links-links.result.now c.args.place link c.links-links.ensures c.link_at-link.ensures in
    let there = read_at a.links c.links-links.result.now c.others.other_place other c.links-links.ensures c.link_at-other.ensures in
    let before : c.args.place < c.others.other_place = omega arith in
    let from : other.from ≡ link.from = omega arith in
    let doubled : is_doubled pairs link.from ≡ true = sym c.is_paired.ensures ∙ c.if-not-is_paired.false in
    let meet = same_meet a c.well_formedness.ensures c.others.guards c.args.place c.others.other_place link other true at there (keeps_on c.requires.keeps c.others.invariant.keeps)
    (sym c.if-branch.true ∙ c.in_ok-meet.ensures.meet) in
    (λ _. found a c.well_formedness.ensures pairs c.args.place link at c.others.other_place other there before c.others.invariant.none doubled from meet, λ _. refl)

pub others-preserved : goal.others-preserved
others-preserved c =
    let a = c.args.a.now in
    let link = c.link_at-link.result.now in
    let other = c.link_at-other.result.now in
    let at = read_at a.links c.links-links.result.now c.args.place link c.links-links.ensures c.link_at-link.ensures in
    let there = read_at a.links c.links-links.result.now c.others.other_place other c.links-links.ensures c.link_at-other.ensures in
    let before : c.args.place < c.others.other_place = omega arith in
    let apart = same_meet a c.well_formedness.ensures c.others.guards c.args.place c.others.other_place link other false at there (keeps_on c.requires.keeps c.others.invariant.keeps)
    (sym c.if-branch.false ∙ c.in_ok-meet.ensures.meet) in
    record {
      keeps = keeps_on c.others.invariant.keeps c.meet.ensures.keeps;
      none = one_less a c.well_formedness.ensures c.args.pairs.now.keys c.args.place link at c.others.other_place other there before c.others.invariant.none apart;
    }

pub returns-clause-twin : goal.returns-clause-twin
returns-clause-twin c = (
  λ e. absurd (false≢true e),
  λ twin.
      let here = slice_get_within c.args.a.now.links twin.0 twin.2.second twin.2.other_at in
      let size = ap (λ (ls : List Link). length ls) c.links-links.ensures in
      let within : twin.0 < c.others.other_place = omega (arith, here, size) in
      absurd (c.others.invariant.none twin.0 twin.1 within twin.2),
)
