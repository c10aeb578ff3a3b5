use Rattle.std.proofs.Common.{◌≡◌, ◌∙◌, ◌<◌, ℕ, List, [], ap, arith, get_or, length, map, refl, subst, sym, take}
use Rattle.std.proofs.lemmas.List.{get_or_default, take_all}
use Rattle.aut_ops.proofs.pairs.Listings.{beyond_front, listed_none, listed_then, rows_next, rows_whole}
use Rattle.aut_ops.specs.inner.Parts.{all_pairs}
use Rattle.aut_base.proofs.Outcomes.{passed_on}
use Rattle.aut_base.specs.declared.limit.TheConstants.{MOST_PAIRS}
use Rattle.aut_ops.specs.inner.Pairings.{AreBeyond, ArePairsListed, ArePlacesOfPairs, with_pairs}
use Rattle.aut_ops.proofs.breadth_first.list_starts.Goals.{After-as_slice}
use Rattle.aut_ops.proofs.breadth_first.list_starts.Goals as goal

pub firsts-init : goal.firsts-init
firsts-init c = record {
  store = refl;
  links = refl;
  listed = subst (λ ps. ArePairsListed [] ps [] c.new-starts.result []) (sym c.requires) (subst (λ ks. ArePairsListed [] [] [] ks []) (sym c.new-starts.ensures) (listed_none [] []));
  few = omega (arith, ap (λ (xs : List (ℕ × ℕ)). length xs) c.requires);
}

-- the pairs of one start of the first with each of the second
abbrev row : List ℕ → ℕ → List (ℕ × ℕ)
row seconds first = map (λ second. (first, second)) seconds

within : (c : After-as_slice) → c.firsts.first-index < length c.args.firsts.now
within c = omega (arith, c.firsts-test.true, ap (λ (xs : List ℕ). length xs) c.as_slice-first-items.ensures)

same : (c : After-as_slice) → row c.as_slice.result.now (get_or c.as_slice-first-items.result.now c.firsts.first-index 0) ≡ row c.args.seconds.now (get_or c.args.firsts.now c.firsts.first-index 0)
same c = λ j. row (c.as_slice.ensures j) (get_or (c.as_slice-first-items.ensures j) c.firsts.first-index 0)

pub returns-in_err-list_row-clause-many : goal.returns-in_err-list_row-clause-many
returns-in_err-list_row-clause-many c is =
    let here = (goal.at.returns-in_err-list_row-clause-many c).After-as_slice in
    let ps = c.args.firsts.now in
    let i = c.firsts.first-index in
    let p : ℕ = get_or ps i 0 in
    let many = c.in_err-list_row.ensures.many (passed_on c.from_residual.result _ _ c.from_residual.ensures.1 is) in
    beyond_front MOST_PAIRS [] c.firsts.pairing.pairs (all_pairs (take i ps) c.args.seconds.now) (row c.args.seconds.now p) _ (all_pairs ps c.args.seconds.now) c.firsts.invariant.listed.pairs
    (rows_whole (row c.args.seconds.now) ps i p (within here) (get_or_default ps i 0 p (within here))) (subst (AreBeyond MOST_PAIRS c.firsts.pairing.pairs) (same here) many)

pub firsts-preserved : goal.firsts-preserved
firsts-preserved c =
    let here = (goal.at.firsts-preserved c).After-as_slice in
    let ps = c.args.firsts.now in
    let i = c.firsts.first-index in
    let p : ℕ = get_or ps i 0 in
    let one = subst (ArePairsListed c.firsts.pairing.pairs c.list_row.new.pairing.pairs c.firsts.starts c.list_row.new.starts) (same here) c.in_ok-list_row.ensures.listed in
    let all = listed_then [] c.firsts.pairing.pairs c.list_row.new.pairing.pairs [] c.firsts.starts c.list_row.new.starts (all_pairs (take i ps) c.args.seconds.now) (row c.args.seconds.now p)
    c.firsts.invariant.listed one in
    record {
      store = c.list_row.ensures.store ∙ c.firsts.invariant.store;
      links = c.list_row.ensures.links ∙ c.firsts.invariant.links;
      listed = subst (ArePairsListed [] c.list_row.new.pairing.pairs [] c.list_row.new.starts)
          (sym (rows_next (row c.args.seconds.now) ps i p (within here) (get_or_default ps i 0 p (within here)))) all;
      few = c.in_ok-list_row.ensures.few;
    }

pub returns-clause-pairs : goal.returns-clause-pairs
returns-clause-pairs c =
    let end = take_all c.firsts.first-index c.args.firsts.now (omega (arith, c.firsts-test.false, ap (λ (xs : List ℕ). length xs) c.as_slice-first-items.ensures)) in
    (c.firsts.invariant.listed.pairs ∙ ap (λ ps. with_pairs [] (all_pairs ps c.args.seconds.now)) end)

pub returns-clause-places : goal.returns-clause-places
returns-clause-places c =
    let end = take_all c.firsts.first-index c.args.firsts.now (omega (arith, c.firsts-test.false, ap (λ (xs : List ℕ). length xs) c.as_slice-first-items.ensures)) in
    subst (λ ps. ArePlacesOfPairs c.firsts.pairing.pairs c.firsts.starts (all_pairs ps c.args.seconds.now)) end (c.firsts.invariant.listed.places [] tt)
