-- From the search in a product to the answer on two automata, and on an automaton and a pattern.
use Rattle.std.proofs.Common.{◌≡◌, ◌↔◌, ◌≤◌, Bool, true, false, not, Result, Ok, Err, arith, inl, inr, length, refl, subst, sym}
use Rattle.std.specs.Prelude.{IsTrue}
use Rattle.std.proofs.lemmas.Bool.{true≢false}
use Rattle.aut_base.specs.Automaton.{Automaton}
use Rattle.aut_base.specs.CanonicalLabel.{canonical}
use Rattle.aut_base.specs.declared.limit.Limit.{Limit}
use Rattle.aut_base.specs.declared.limit.Limit.TheVariants as limit
use Rattle.aut_base.specs.declared.limit.TheConstants.{MOST_NAMES, MOST_PAIRS}
use Rattle.aut_ops.specs.Products.{HasMorePairs, over_both}
use Rattle.lasso_emptiness.specs.Emptiness.{AcceptsSome}
use Rattle.plan_meaning.specs.Filters.{AcceptsWord, Intersects, IsEmpty}
use Rattle.plan_meaning.specs.Limits.{HaveFewNames, PassesOfBoth, PassesOfWord}
use Rattle.plan_meaning.specs.declared.fault.PlanFault.{PlanFault}
use Rattle.plan_meaning.specs.declared.fault.PlanFault.TheVariants as fault
use Rattle.plan_meaning.specs.inner.Judging.{ExaminesFilter}
use Rattle.word_syntax.specs.Grammar.{WordPattern}
use Rattle.word_syntax.specs.Matching.{AcceptTogether, AcceptsPattern, word_automaton}

-- ---- limits

-- two automata within the limits of a product pass none
none_passed : (a b : Automaton) → HaveFewNames a b → (HasMorePairs MOST_PAIRS (over_both a b a) (over_both a b b) → ⊥) → (which : Limit) → PassesOfBoth which a b → ⊥
none_passed a b names few limit.Names many = absurd (omega arith)
none_passed a b names few limit.Pairs more = few more.1
none_passed a b names few _ other = other

-- ---- words

-- whether some word is accepted by both
pub examines_both : (a b : Automaton) (some : Bool) → canonical a ≡ a → HaveFewNames a b → (HasMorePairs MOST_PAIRS (over_both a b a) (over_both a b b) → ⊥)
    → IsTrue some ↔ AcceptTogether a b → ExaminesFilter (Ok some) (Intersects b) a
examines_both a b true settled names few said = record {
  within = λ which passed. none_passed a b names few which (subst (λ (x : Automaton). PassesOfBoth which x b) settled passed);
  holds = said.0 refl;
}
examines_both a b false settled names few said = record {
  within = λ which passed. none_passed a b names few which (subst (λ (x : Automaton). PassesOfBoth which x b) settled passed);
  fails = λ word. true≢false (sym (said.1 word));
}

-- whether none is accepted
pub examines_empty : (a : Automaton) (some : Bool) → IsTrue some ↔ AcceptsSome a → ExaminesFilter (Ok (not some)) IsEmpty a
examines_empty a true said =
    let word = said.0 refl in
    record { within = λ which passed. passed; fails = λ empty. empty word.stem word.cycle word.accepts }
examines_empty a false said = record {
  within = λ which passed. passed;
  holds = λ u v accepts. true≢false (sym (said.1 (record { stem = u; cycle = v; accepts = accepts })));
}

-- ---- patterns

swapped : (a b : Automaton) → AcceptTogether a b → AcceptTogether b a
swapped a b h = record { stem = h.stem; cycle = h.cycle; first = h.second; second = h.first }

module _ (p : WordPattern) (word a : Automaton) (accepts : (b : Automaton) → AcceptTogether word b ↔ AcceptsPattern p b) (is : word ≡ canonical (word_automaton p))
    (few : length p.names ≤ MOST_NAMES) where
  passed_by_word : (which : Limit) → PassesOfBoth which (canonical a) word → PassesOfWord which (canonical a) p
  passed_by_word which passed = inr (few, subst (λ (x : Automaton). PassesOfBoth which (canonical a) x) is passed)

  within_word : ((which : Limit) → PassesOfBoth which (canonical a) word → ⊥) → (which : Limit) → PassesOfWord which (canonical a) p → ⊥
  within_word within which (inl many) = absurd (omega (arith, many.1))
  within_word within which (inr passed) = within which (subst (λ (x : Automaton). PassesOfBoth which (canonical a) x) (sym is) passed.1)

  -- the answer on the automaton of a pattern is the one on the pattern
  pub examines_word : (r : Result Bool PlanFault) → ExaminesFilter r (Intersects word) a → ExaminesFilter r (AcceptsWord p) a
  examines_word (Ok true) h = record { within = within_word h.within; holds = (accepts a).0 (swapped a word h.holds) }
  examines_word (Ok false) h = record { within = within_word h.within; fails = λ found. h.fails (swapped word a ((accepts a).1 found)) }
  examines_word (Err (fault.Limit which)) h = passed_by_word which h
  examines_word (Err fault.Memory) h = tt
