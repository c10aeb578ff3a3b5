use Rattle.std.proofs.Common.{◌∙◌, ◌∷◌, ◌++◌, ◌^◌, [], ap, filter, get_or, sym}
use Rattle.std.proofs.lemmas.List.Elements.{filter_more}
use Rattle.safra_trees.specs.Flat.{is_high, is_low}
use Rattle.safra_trees.proofs.packed.split.Goals as goal

pub states-preserved : goal.states-preserved
states-preserved c =
    let states = c.args.states.now in
    let i = c.states.state-index in
    let state = get_or states i 0 in
    record {
      low = c.in_ok-list_state.ensures.low ∙ (ap (λ ys. ys ++ filter (is_low (2 ^ 16)) (state ∷ [])) c.states.invariant.low ∙ sym (filter_more (is_low (2 ^ 16)) states i 0 c.states-test.true));
      rest = c.in_ok-list_state.ensures.rest ∙ (ap (λ ys. ys ++ filter (is_high (2 ^ 16)) (state ∷ [])) c.states.invariant.rest ∙ sym (filter_more (is_high (2 ^ 16)) states i 0 c.states-test.true));
    }
