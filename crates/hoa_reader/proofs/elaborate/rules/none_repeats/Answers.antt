use Rattle.std.proofs.Common.{◌≡◌, arith, ◌==◌, cond, true, false, ◌∷◌, [], ◌∙◌, ap, sym, take, drop, map, List, ◌+◌, ◌++◌, ℕ}
use Rattle.std.proofs.lemmas.List.{map-append}
use Rattle.std.proofs.lemmas.List.Folds.{list_any-append}
use Rattle.std.specs.BTreeSet as tree
use Rattle.std.specs.List.{list_any}
use Rattle.std.specs.Ordering.{nat_cmp}
use Rattle.hoa_reader.proofs.validity.AllDiffer.{among_or, differ_more, repeats}
use Rattle.hoa_parser.specs.Raw.{WrittenState, written_state}
use Rattle.hoa_reader.specs.Validity.{all_differ}
use Rattle.hoa_parser.specs.declared.raw.RawState.{RawState}
use Rattle.hoa_reader.proofs.elaborate.rules.none_repeats.Goals as goal
use Rattle.aut_base.proofs.numbers.Numbers.{is_eq-nat_cmp}
use Rattle.aut_base.proofs.lists.Lists.{take-push, split-at}

abbrev numbers : List RawState → List ℕ
numbers states = map (λ (s : WrittenState). s.number) (map written_state states)

numbers-append : (xs ys : List RawState) → numbers (xs ++ ys) ≡ numbers xs ++ numbers ys
numbers-append xs ys = ap (map (λ (s : WrittenState). s.number)) (map-append written_state xs ys) ∙ map-append (λ (s : WrittenState). s.number) (map written_state xs) (map written_state ys)

pub returns-then-not-branch : goal.returns-then-not-branch
returns-then-not-branch c =
    let states = c.args.states.now in
    let i = c.states.state-index in
    let state = c.state-item.result in
    let there : tree.contains nat_cmp c.states.seen state.number ≡ true = grind arith in
    repeats ◌==◌ (numbers (take i states)) state.number (numbers (drop (i + 1) states)) (sym (c.states.invariant.seen state.number) ∙ there)
    ∙ ap (all_differ ◌==◌) (sym (ap numbers (split-at states i state c.states-test.true c.state-item.is) ∙ numbers-append (take i states) (state ∷ drop (i + 1) states)))

pub states-preserved : goal.states-preserved
states-preserved c =
    let states = c.args.states.now in
    let i = c.states.state-index in
    let state = c.state-item.result in
    let more = ap numbers (take-push states i state c.states-test.true c.state-item.is) ∙ numbers-append (take i states) (state ∷ []) in
    let away : tree.contains nat_cmp c.states.seen state.number ≡ false = grind arith in
    record {
      differ = ap (all_differ ◌==◌) more ∙ differ_more ◌==◌ (numbers (take i states)) state.number c.states.invariant.differ (sym (c.states.invariant.seen state.number) ∙ away);
      seen = λ q.
          c.in_ok-insert.ensures.updates.0 q
          ∙ ap (λ b. cond b true (tree.contains nat_cmp c.states.seen q)) (is_eq-nat_cmp state.number q)
          ∙ among_or (state.number == q) (list_any (λ x. x == q) (numbers (take i states))) (tree.contains nat_cmp c.states.seen q) (c.states.invariant.seen q)
          ∙ sym (ap (list_any (λ x. x == q)) more ∙ list_any-append (λ x. x == q) (numbers (take i states)) (state.number ∷ []));
    }
