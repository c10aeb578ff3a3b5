use Rattle.std.proofs.Common.{◌∙◌, ◌∷◌, ℕ, [], get_or, map, subst, sym, take}
use Rattle.std.proofs.lemmas.List.{get_or_default}
use Rattle.aut_ops.proofs.pairs.Listings.{beyond_front, listed_one, listed_then, row_next, row_whole}
use Rattle.aut_ops.proofs.pairs.Pairings.{beyond_one}
use Rattle.aut_base.proofs.Outcomes.{passed_on}
use Rattle.aut_base.specs.declared.limit.TheConstants.{MOST_PAIRS}
use Rattle.aut_ops.specs.inner.Pairings.{ArePairsListed}
use Rattle.aut_ops.proofs.breadth_first.list_row.Goals as goal

pub returns-in_err-place-clause-many : goal.returns-in_err-place-clause-many
returns-in_err-place-clause-many c is =
    let qs = c.args.seconds.now in
    let i = c.seconds.second-index in
    let q : ℕ = get_or qs i 0 in
    let at = get_or_default qs i 0 q c.seconds-test.true in
    let f : ℕ → ℕ × ℕ = λ second. (c.args.first, second) in
    beyond_front MOST_PAIRS c.args.pairing.now.pairs c.seconds.pairing.pairs (map f (take i qs)) (f q ∷ []) _ (map f qs) c.seconds.invariant.listed.pairs (row_whole f qs i q c.seconds-test.true at)
    (beyond_one MOST_PAIRS c.seconds.pairing.pairs (f q) (c.in_err-place.ensures.many (passed_on c.from_residual.result _ _ c.from_residual.ensures.1 is)))

pub seconds-preserved : goal.seconds-preserved
seconds-preserved c =
    let qs = c.args.seconds.now in
    let i = c.seconds.second-index in
    let q : ℕ = get_or qs i 0 in
    let at = get_or_default qs i 0 q c.seconds-test.true in
    let f : ℕ → ℕ × ℕ = λ second. (c.args.first, second) in
    let one = listed_one c.seconds.pairing.pairs c.number.new.self.pairs c.seconds.starts c.push.new.self c.in_ok-place.place (f q) c.in_ok-place.ensures.pairs c.in_ok-place.ensures.place
    c.in_ok-push.ensures.ok in
    let all = listed_then c.args.pairing.now.pairs c.seconds.pairing.pairs c.number.new.self.pairs c.args.starts.now c.seconds.starts c.push.new.self (map f (take i qs)) (f q ∷ [])
    c.seconds.invariant.listed one in
    record {
      store = c.number.ensures.store ∙ c.seconds.invariant.store;
      links = c.number.ensures.links ∙ c.seconds.invariant.links;
      listed = subst (ArePairsListed c.args.pairing.now.pairs c.number.new.self.pairs c.args.starts.now c.push.new.self) (sym (row_next f qs i q c.seconds-test.true at)) all;
      few = c.in_ok-place.ensures.few;
    }
