-- What is made of an automaton alone.
use Rattle.std.proofs.Common.{◌≡◌, ◌∙◌, ◌+◌, ◌*◌, ◌<◌, ◌≤◌, ℕ, Bool, true, false, cond, [], ◌∷◌, ap, arith, length, refl, subst, sym}
use Rattle.std.proofs.lemmas.Bool.{false≢true}
use Rattle.std.proofs.lemmas.Nat.{mul-le}
use Rattle.aut_base.specs.declared.limit.TheConstants.{MOST_BUCHI_STATES, MOST_TERMS}
use Rattle.acc_forms.specs.Atoms.{has_fin}
use Rattle.acc_forms.specs.Terms.{count, of_terms, terms}
use Rattle.aut_base.specs.Automaton.{Automaton, IsWellFormed}
use Rattle.aut_base.specs.declared.limit.Limit.{Limit}
use Rattle.aut_base.specs.declared.limit.Limit.TheVariants as limit
use Rattle.aut_core.specs.Deterministic.{IsComplete, IsDeterministic}
use Rattle.aut_core.specs.OtherNames.{AcceptTheSame}
use Rattle.aut_ops.proofs.flagged.Ranks.{rank_within}
use Rattle.aut_ops.proofs.sinks.SinkStates.{completed_same}
use Rattle.aut_ops.specs.Completion.{completed}
use Rattle.aut_ops.specs.Trimming.{IsTrimmed}
use Rattle.degeneralise.specs.Buchi.{NeedsTooManyTerms, buchi, buchi_states}
use Rattle.fin_removal.proofs.TermCopies.{sets_within, terms_within}
use Rattle.fin_removal.specs.Copies.{HasTooManyTerms, copied}
use Rattle.filter_plan.specs.declared.plan.Form.TheVariants as form
use Rattle.plan_meaning.proofs.changes.Stepping.{changed_once}
use Rattle.plan_meaning.specs.Changes.{Bring, Complete, PassesForm, Trim}
use Rattle.plan_meaning.specs.inner.Stepping.{HasRoom, IsMadeAsPromised, IsOfComplementSize, IsOfSumSize}

-- ---- trimming

pub trim_made : (a made : Automaton) → IsTrimmed a made → AcceptTheSame made a → IsMadeAsPromised (Trim ∷ []) a made
trim_made a made is accepts = changed_once Trim a made (λ which h. h) is tt accepts

pub trim_within : (a made : Automaton) → IsTrimmed a made → IsOfSumSize a → IsOfSumSize made
trim_within a made is within =
    let states : made.states ≤ a.states = subst (λ (x : Automaton). x.states ≤ a.states) (sym is.is) (rank_within is.flags a.states) in
    let sets : made.sets ≡ a.sets = ap (λ (x : Automaton). x.sets) is.is in
    record { states = omega (arith, states, within.states); sets = omega (arith, sets, within.sets) }

-- ---- without Fin

pub fin_itself : (a : Automaton) → has_fin a.formula ≡ false → IsMadeAsPromised (Bring form.RemoveFin ∷ []) a a
fin_itself a none = changed_once (Bring form.RemoveFin) a a
    (λ which h. false≢true (sym none ∙ h.1))
    (sym (ap (λ (b : Bool). cond b (copied a) a) none))
    tt
    (λ u v. ((λ x. x), (λ x. x)))

-- each copy has the states of the automaton, and there are few copies
pub fin_room : (a made : Automaton) → (HasTooManyTerms a → ⊥) → made ≡ copied a → IsOfComplementSize a → HasRoom made
fin_room a made few is within =
    let counted : count (terms a.formula) ≤ MOST_TERMS = not_many (count (terms a.formula)) few in
    let copies : 1 + length (terms a.formula) ≤ 1025 = omega (arith, terms_within (terms a.formula) counted) in
    let states : made.states ≡ (1 + length (terms a.formula)) * a.states = ap (λ (x : Automaton). x.states) is in
    let most = mul-le (1 + length (terms a.formula)) a.states 1025 1132768 copies within.states in
    let sets = ap (λ (x : Automaton). x.sets) is in
    record { states = omega (arith, states, most); sets = omega (arith, sets, sets_within (terms a.formula) counted) }
  where
    not_many : (n : ℕ) → (MOST_TERMS < n → ⊥) → n ≤ MOST_TERMS
    not_many n few = omega (arith, few)

pub copies_made : (a made : Automaton) → has_fin a.formula ≡ true → (HasTooManyTerms a → ⊥) → made ≡ copied a → AcceptTheSame made a → IsMadeAsPromised (Bring form.RemoveFin ∷ []) a made
copies_made a made has few is accepts = changed_once (Bring form.RemoveFin) a made (λ which h. few h.2) (is ∙ sym (ap (λ (b : Bool). cond b (copied a) a) has)) tt accepts

-- ---- the Büchi form

buchi_within : (a : Automaton) → (NeedsTooManyTerms a.formula → ⊥) → buchi_states a ≤ MOST_BUCHI_STATES → (which : Limit) → PassesForm which form.Buchi a → ⊥
buchi_within a terms few limit.Terms h = terms h
buchi_within a terms few limit.BuchiStates h = omega (arith, h.1, few)
buchi_within a terms few _ h = h

pub buchi_made : (a made : Automaton) → (NeedsTooManyTerms a.formula → ⊥) → buchi_states a ≤ MOST_BUCHI_STATES → made ≡ buchi a → AcceptTheSame made a → IsMadeAsPromised (Bring form.Buchi ∷ []) a made
buchi_made a made terms few is accepts = changed_once (Bring form.Buchi) a made (buchi_within a terms few) is tt accepts

-- ---- the disjunctive form

pub dnf_made : (a made : Automaton) → (HasTooManyTerms a → ⊥) → made ≡ record a { formula = of_terms (terms a.formula) } → AcceptTheSame made a → IsMadeAsPromised (Bring form.Dnf ∷ []) a made
dnf_made a made few is accepts = changed_once (Bring form.Dnf) a made (λ which h. few h.1) is tt accepts

-- ---- completion

pub complete_made : (a made : Automaton) → IsWellFormed a → made ≡ completed a → IsComplete made → (IsDeterministic a → IsDeterministic made) → AcceptTheSame made a
    → IsMadeAsPromised (Complete ∷ []) a made
complete_made a made formed is complete deterministic accepts =
    changed_once Complete a made (λ which h. h) is (complete, deterministic, λ whole. is ∙ completed_same a formed whole) accepts

pub complete_itself : (a : Automaton) → IsWellFormed a → IsComplete a → IsMadeAsPromised (Complete ∷ []) a a
complete_itself a formed is = changed_once Complete a a (λ which h. h) (sym (completed_same a formed is)) (is, (λ x. x), λ x. refl) (λ u v. ((λ x. x), (λ x. x)))
