-- The Büchi form of an automaton: the words that it accepts, and the number of its states.
use Rattle.std.proofs.Common.{◌≡◌, ◌∙◌, ◌+◌, ◌*◌, ◌≤◌, ◌<◌, ℕ, true, false, cond, None, Some, List, [], ◌∷◌, ap, arith, flat_map, length, map, subst, sym, inl, inr}
use Rattle.std.proofs.Math.Nat.{le-mul_of_pos_right}
use Rattle.std.proofs.lemmas.Bool.{cases_Bool}
use Rattle.std.proofs.lemmas.List.{length-map}
use Rattle.aut_base.specs.Automaton.{Automaton, IsWellFormed}
use Rattle.aut_base.specs.Formula.{FormulaTree}
use Rattle.aut_base.specs.declared.limit.TheConstants.{MOST_BUCHI_STATES}
use Rattle.aut_core.specs.OtherNames.{AcceptTheSame}
use Rattle.acc_forms.specs.Joined.{conjuncts}
use Rattle.acc_forms.specs.Terms.{terms}
use Rattle.acc_forms.specs.declared.literal.Literal.{Literal}
use Rattle.fin_removal.proofs.TermCopies.{copies_count}
use Rattle.fin_removal.specs.Copies.{copied, owned, owned_sets, term_copies}
use Rattle.degeneralise.specs.Buchi.{Watch, buchi, buchi_states, inf_literals, is_generalised_buchi, with_counters, levels, most_levels, watch_of, watches}
use Rattle.degeneralise.proofs.CopiesLaw.{copies_accept_the_same}
use Rattle.degeneralise.proofs.GeneralisedLaw.{generalised_accepts_the_same}
use Rattle.degeneralise.proofs.WatchLists.{room_in, room_of, some_room}

abbrev copy_watches : FormulaTree → List Watch
copy_watches f = None ∷ map (λ sets. Some sets) (owned_sets (terms f))

abbrev one_watch : FormulaTree → List Watch
one_watch f = Some (flat_map inf_literals (conjuncts f)) ∷ []

pub watches_one : (f : FormulaTree) → is_generalised_buchi f ≡ true → watches f ≡ Some (flat_map inf_literals (conjuncts f)) ∷ []
watches_one f e = ap (λ b. cond b (one_watch f) (copy_watches f)) e

pub watches_copies : (f : FormulaTree) → is_generalised_buchi f ≡ false → watches f ≡ None ∷ map (λ sets. Some sets) (owned_sets (terms f))
watches_copies f e = ap (λ b. cond b (one_watch f) (copy_watches f)) e

pub buchi_one : (a : Automaton) → is_generalised_buchi a.formula ≡ true → buchi a ≡ with_counters (most_levels (watches a.formula)) (watch_of a.states (watches a.formula)) a
buchi_one a e = ap (λ b. with_counters (most_levels (watches a.formula)) (watch_of a.states (watches a.formula)) (cond b a (copied a))) e

pub buchi_copies : (a : Automaton) → is_generalised_buchi a.formula ≡ false → buchi a ≡ with_counters (most_levels (watches a.formula)) (watch_of a.states (watches a.formula)) (copied a)
buchi_copies a e = ap (λ b. with_counters (most_levels (watches a.formula)) (watch_of a.states (watches a.formula)) (cond b a (copied a))) e

has_room : (n : ℕ) (ws : List Watch) (state : ℕ) → levels (watch_of n ws state) ≤ most_levels ws
has_room n ws state = room_of (most_levels ws) n ws (some_room ws) (room_in ws) state

pub buchi_accepts_the_same : (a : Automaton) → IsWellFormed a → AcceptTheSame (buchi a) a
buchi_accepts_the_same a formed = elim (cases_Bool (is_generalised_buchi a.formula)) [
  | inl e ↦ subst (λ (b : Automaton). AcceptTheSame b a) (sym (buchi_one a e ∙ ap (λ (ws : List Watch). with_counters (most_levels ws) (watch_of a.states ws) a) (watches_one a.formula e)))
      (generalised_accepts_the_same (most_levels (one_watch a.formula)) a formed e (has_room a.states (one_watch a.formula)))
  | inr e ↦ subst (λ (b : Automaton). AcceptTheSame b a)
      (sym (buchi_copies a e ∙ ap (λ (ws : List Watch). with_counters (most_levels ws) (watch_of a.states ws) (copied a)) (watches_copies a.formula e)))
      (copies_accept_the_same a formed (most_levels (copy_watches a.formula)) (has_room a.states (copy_watches a.formula)))
]

-- there are as many copies as entries in the list of what they wait for
pub copies_as_watches : (a : Automaton) → is_generalised_buchi a.formula ≡ false → (copied a).states ≡ a.states * length (watches a.formula)
copies_as_watches a e =
    let ts = terms a.formula in
    let size : length (watches a.formula) ≡ 1 + length ts = ap length (watches_copies a.formula e)
    ∙ (let n : length (map (λ (sets : List Literal). Some sets) (owned_sets ts)) ≡ length ts = length-map (owned_sets ts) (λ (sets : List Literal). Some sets)
    ∙ (length-map (term_copies ts) owned ∙ copies_count 1 0 ts) in omega (arith, n)) in
    let turned : (1 + length ts) * a.states ≡ a.states * (1 + length ts) = omega arith in
    turned ∙ ap (λ n. a.states * n) (sym size)

pub one_as_watches : (a : Automaton) → is_generalised_buchi a.formula ≡ true → a.states ≡ a.states * length (watches a.formula)
one_as_watches a e = let one : a.states ≡ a.states * 1 = omega arith in one ∙ ap (λ (ws : List Watch). a.states * length ws) (sym (watches_one a.formula e))

pub states_are : (a : Automaton) → (buchi a).states ≡ buchi_states a
states_are a = elim (cases_Bool (is_generalised_buchi a.formula)) [
  | inl e ↦ ap (λ (b : Automaton). b.states) (buchi_one a e) ∙ ap (λ n. n * most_levels (watches a.formula)) (one_as_watches a e)
  | inr e ↦ ap (λ (b : Automaton). b.states) (buchi_copies a e) ∙ ap (λ n. n * most_levels (watches a.formula)) (copies_as_watches a e)
]

-- the copies are few where the levels are
pub few_copies : (a : Automaton) (k : ℕ) → is_generalised_buchi a.formula ≡ false → 0 < k → a.states * length (watches a.formula) * k ≤ MOST_BUCHI_STATES → (copied a).states ≤ MOST_BUCHI_STATES
few_copies a k e some few = omega (arith, copies_as_watches a e, few, le-mul_of_pos_right (a.states * length (watches a.formula)) some)

pub few_levels : (a : Automaton) (k : ℕ) → is_generalised_buchi a.formula ≡ false → a.states * length (watches a.formula) * k ≤ MOST_BUCHI_STATES → (copied a).states * k ≤ MOST_BUCHI_STATES
few_levels a k e few = subst (λ n. n * k ≤ MOST_BUCHI_STATES) (sym (copies_as_watches a e)) few
