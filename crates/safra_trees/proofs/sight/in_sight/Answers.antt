use Rattle.std.proofs.Common.{◌≡◌, ◌∙◌, ◌++◌, Contains, List, ap, arith, flat_map, subst, sym, ℕ}
use Rattle.std.proofs.lemmas.List.{take_all}
use Rattle.safra_trees.specs.declared.moves.Move.{Move}
use Rattle.safra_trees.specs.inner.Sight.{ends}
use Rattle.safra_trees.proofs.sight.in_sight.Goals as goal

pub returns : goal.returns
returns c =
    let states = c.args.states.now in
    let is : c.from_vec.result ≡ states ++ flat_map ends c.args.moves.now =
    c.from_vec.ensures ∙ (c.moves.invariant
    ∙ ap (λ (ms : List Move). states ++ flat_map ends ms) (take_all c.moves.one-index c.args.moves.now (omega (arith, c.moves-test.false)))) in
    record {
      rises = c.in_order.ensures.rises;
      keeps = λ q there. c.in_order.ensures.keeps q (subst (λ (xs : List ℕ). Contains xs q) (sym is) there);
      adds_none = λ q there. subst (λ (xs : List ℕ). Contains xs q) is (c.in_order.ensures.adds_none q there);
    }
