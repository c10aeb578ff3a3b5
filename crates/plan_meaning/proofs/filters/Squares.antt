-- From the search in the square to the answer whether an automaton is unambiguous.
use Rattle.std.proofs.Common.{◌≡◌, ◌↔◌, Bool, true, false, Ok, refl, subst}
use Rattle.std.specs.Prelude.{IsTrue}
use Rattle.std.proofs.lemmas.Bool.{false≢true}
use Rattle.aut_base.specs.Automaton.{Automaton}
use Rattle.aut_base.specs.CanonicalLabel.{canonical}
use Rattle.aut_base.specs.declared.limit.TheConstants.{MOST_PAIRS}
use Rattle.aut_ops.specs.Products.{HasMorePairs}
use Rattle.plan_meaning.specs.Filters as filter
use Rattle.plan_meaning.specs.inner.Judging.{ExaminesFilter}
use Rattle.unambiguous.specs.Runs.{IsUnambiguous}

-- the automaton has canonical labels
pub examined : (b : Bool) (a : Automaton) → canonical a ≡ a → (HasMorePairs MOST_PAIRS a a → ⊥) → (IsTrue b ↔ IsUnambiguous a) → ExaminesFilter (Ok b) filter.IsUnambiguous a
examined true a settled few is = record { within = λ which h. few (subst (λ x. HasMorePairs MOST_PAIRS x x) settled h.1); holds = is.0 refl }
examined false a settled few is = record { within = λ which h. few (subst (λ x. HasMorePairs MOST_PAIRS x x) settled h.1); fails = λ h. false≢true (is.1 h) }
