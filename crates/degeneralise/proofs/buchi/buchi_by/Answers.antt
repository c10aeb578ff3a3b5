use Rattle.std.proofs.Common.{◌≡◌, ◌∙◌, ◌*◌, ◌<◌, ◌≤◌, All, List, ap, arith, false, length, subst, sym, ℕ}
use Rattle.aut_base.specs.declared.limit.TheConstants.{MOST_BUCHI_STATES}
use Rattle.aut_core.specs.SymbolicAutomata.{automaton_of}
use Rattle.degeneralise.specs.Buchi.{Watch, is_generalised_buchi, levels}
use Rattle.degeneralise.proofs.BuchiLaw.{copies_as_watches, few_copies, few_levels}
use Rattle.degeneralise.proofs.WatchLists.{room_in, some_room}
use Rattle.degeneralise.proofs.buchi.buchi_by.Goals as goal

pub copies-requires : goal.copies-requires
copies-requires c listed =
    let a = automaton_of c.args.a.now in
    let needed : is_generalised_buchi a.formula ≡ false = sym (c.if-is_generalised_buchi.ensures ∙ ap is_generalised_buchi c.formula.ensures) in
    let some : 0 < c.args.k = subst (λ (k : ℕ). 0 < k) (sym c.requires.levels) (some_room c.args.listed.now) in
    let few = subst (λ (ws : List Watch). a.states * length ws * c.args.k ≤ MOST_BUCHI_STATES) c.requires.watches c.requires.few in
    omega (arith, few_copies a c.args.k needed some few)

pub put_on_levels-requires-2-clause-copies : goal.put_on_levels-requires-2-clause-copies
put_on_levels-requires-2-clause-copies c =
    let a = automaton_of c.args.a.now in
    let needed : is_generalised_buchi a.formula ≡ false = sym (c.if-is_generalised_buchi.ensures ∙ ap is_generalised_buchi c.formula.ensures) in
    let same : c.in_ok-copied.copied.states ≡ c.states-2.result * length c.args.listed.now = c.in_ok-copied.ensures.states
    ∙ (copies_as_watches a needed ∙ λ i. sym c.states-2.ensures i * length (sym c.requires.watches i)) in
    omega (arith, same)

pub put_on_levels-requires-2-clause-room : goal.put_on_levels-requires-2-clause-room
put_on_levels-requires-2-clause-room c = subst (λ (k : ℕ). All (λ watch. levels watch ≤ k) c.args.listed.now) (sym c.requires.levels) (room_in c.args.listed.now)

pub put_on_levels-requires-2-clause-some : goal.put_on_levels-requires-2-clause-some
put_on_levels-requires-2-clause-some c = subst (λ (k : ℕ). 0 < k) (sym c.requires.levels) (some_room c.args.listed.now)

pub put_on_levels-requires-2-clause-fit : goal.put_on_levels-requires-2-clause-fit
put_on_levels-requires-2-clause-fit c =
    let a = automaton_of c.args.a.now in
    let needed : is_generalised_buchi a.formula ≡ false = sym (c.if-is_generalised_buchi.ensures ∙ ap is_generalised_buchi c.formula.ensures) in
    let few = subst (λ (ws : List Watch). a.states * length ws * c.args.k ≤ MOST_BUCHI_STATES) c.requires.watches c.requires.few in
    let same : c.in_ok-copied.copied.states * c.args.k ≤ MOST_BUCHI_STATES = subst (λ n. n * c.args.k ≤ MOST_BUCHI_STATES) (sym c.in_ok-copied.ensures.states) (few_levels a c.args.k needed few) in
    omega (arith, same)
