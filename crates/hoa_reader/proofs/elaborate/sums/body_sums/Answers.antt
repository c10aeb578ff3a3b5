use Rattle.std.proofs.Common.{◌≡◌, ◌∙◌, ◌+◌, ℕ, List, ap, drop, map, subst, sym}
use Rattle.std.proofs.lemmas.List.{drop_all}
use Rattle.aut_base.proofs.lists.Lists.{drop-at}
use Rattle.hoa_parser.specs.Raw.{written_state}
use Rattle.hoa_parser.specs.declared.raw.RawState.{RawState}
use Rattle.hoa_reader.proofs.counting.BodySums.{Fits, beside_fits, beside_in_turn, body_begins, nothing_fits, with_nothing}
use Rattle.hoa_reader.specs.declared.elaborate.sums.Sums.{Sums}
use Rattle.hoa_reader.specs.inner.Sums.{beside, body_sums, nothing, state_sums}
use Rattle.hoa_reader.proofs.elaborate.sums.body_sums.Goals as goal

abbrev all_of : ℕ → List RawState → Sums
all_of names states = body_sums names (map written_state states)

pub states-init : goal.states-init
states-init c = record {
  fits = subst Fits (sym c.nothing-all.ensures) nothing_fits;
  sums = ap (λ a. beside a (all_of c.args.names c.args.states.now)) c.nothing-all.ensures ∙ body_begins c.args.names (map written_state c.args.states.now);
}

pub states-preserved : goal.states-preserved
states-preserved c =
    let names = c.args.names in
    let states = c.args.states.now in
    let i = c.states.state-index in
    let state = c.state-item.result in
    let split : all_of names (drop i states) ≡ beside (state_sums names (written_state state)) (all_of names (drop (i + 1) states)) =
    ap (all_of names) (drop-at states i state c.states-test.true c.state-item.is) in
    let now : c.beside-all.result ≡ beside c.states.all (state_sums names (written_state state)) = c.beside-all.ensures ∙ ap (beside c.states.all) c.state_sums.ensures in
    record {
      fits = subst Fits (sym now) (beside_fits c.states.all (state_sums names (written_state state)));
      sums = ap (λ a. beside a (all_of names (drop (i + 1) states))) now ∙ beside_in_turn c.states.all (state_sums names (written_state state)) (all_of names (drop (i + 1) states))
          ∙ ap (beside c.states.all) (sym split) ∙ c.states.invariant.sums;
    }

pub returns : goal.returns
returns c =
    let gone : all_of c.args.names (drop c.states.state-index c.args.states.now) ≡ nothing =
    ap (all_of c.args.names) (drop_all c.states.state-index c.args.states.now c.states-test.false) in
    sym (with_nothing c.states.all c.states.invariant.fits) ∙ ap (beside c.states.all) (sym gone) ∙ c.states.invariant.sums
