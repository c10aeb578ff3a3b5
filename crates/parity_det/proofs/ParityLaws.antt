-- Deterministic parity automata and complements: their languages, that there is at most one, and which limits are met.
use Rattle.std.proofs.Common.{◌≡◌, ◌⊎◌, ◌∙◌, ◌<◌, ◌≤◌, List, Result, Ok, Err, IfOk, OnOk, ap, arith, false, inl, inr, refl, subst, sym}
use Rattle.aut_base.specs.Automaton.{Automaton, IsWellFormed}
use Rattle.aut_base.specs.Formula.{Inf}
use Rattle.aut_base.specs.declared.limit.TheConstants.{MOST_BUCHI_STATES}
use Rattle.aut_core.specs.Deterministic.{IsDeterministic}
use Rattle.aut_core.specs.OtherNames.{AcceptTheSame}
use Rattle.aut_ops.proofs.flagged.FlagLaws.{pruned_is_determined}
use Rattle.aut_ops.specs.Completion.{completed}
use Rattle.aut_ops.specs.Pruning.{IsPruned}
use Rattle.degeneralise.specs.Buchi.{NeedsTooManyTerms, buchi, buchi_states}
use Rattle.exploration.proofs.Finished.{ends_or_meets, has_one_ending, has_one_outcome}
use Rattle.exploration.specs.Turns.{Finished, Running, LimitMet, Turn, begin}
use Rattle.exploration.specs.declared.fault.Fault.{Fault}
use Rattle.exploration.specs.declared.fault.Fault.TheVariants as limit
use Rattle.parity_det.proofs.FewNodes.{pruned_widths}
use Rattle.parity_det.proofs.Formed.{explored_trees, is_determinised, is_parity}
use Rattle.parity_det.proofs.Widths.{wide}
use Rattle.parity_det.specs.Complements.{ComplementIsDetermined, IsWithinParity, ParityExcludesLimits, PassesParity}
use Rattle.parity_det.specs.Determinisation.{DeterminisationIsDetermined, IsDeterminisation, IsTreeForm, MeetsParityLimit, MeetsTreeLimit, ParityIsDetermined, parity_on}
use Rattle.parity_det.proofs.TreeMoves.{start_tree}
use Rattle.parity_det.specs.Determinisation.{tree_rules, width}
use Rattle.parity_det.specs.Promises.{HasFewSets, IsParityMinOdd, ParityHasFewSets}
use Rattle.parity_det.specs.inner.Systems.{MeetsFirst}
use Rattle.parity_det.specs.declared.fault.CompFault.{CompFault}
use Rattle.parity_det.specs.declared.fault.CompFault.TheVariants as fault
use Rattle.parity_laws.proofs.directions.Both.{accepts_the_same}
use Rattle.parity_laws.proofs.letters.Moves.{well_formed_is_buchi}
use Rattle.parity_laws.specs.Complement.{dualised}
use Rattle.safra_trees.specs.Trees.{Node}

-- ---- what is accepted, and the shape

pub form_accepts : (b made : Automaton) → IsWellFormed b → b.formula ≡ Inf 0 false → IsTreeForm b made → AcceptTheSame made b
form_accepts b made formed formula form = subst (λ d. AcceptTheSame d b) (sym form.is)
    (accepts_the_same b (parity_on form.trees form.transitions b) form.trees (width form.trees) (well_formed_is_buchi b formed formula)
    (is_determinised b form.trees form.transitions (explored_trees b form.trees form.transitions form.explored)))

pub form_parity : (b made : Automaton) → IsTreeForm b made → IsParityMinOdd made
form_parity b made form = subst IsParityMinOdd (sym form.is) (is_parity b form.trees form.transitions (explored_trees b form.trees form.transitions form.explored))

pub same_through : (a b c : Automaton) → AcceptTheSame a b → AcceptTheSame b c → AcceptTheSame a c
same_through a b c first second u v = (λ x. (second u v).0 ((first u v).0 x), λ x. (first u v).1 ((second u v).1 x))

pub pruned_formula : (a b : Automaton) → IsPruned a b → a.formula ≡ Inf 0 false → b.formula ≡ Inf 0 false
pruned_formula a b is formula = ap (λ (x : Automaton). x.formula) is.is ∙ formula

pub form_few : (a b made : Automaton) → IsPruned a b → IsTreeForm b made → HasFewSets a made
form_few a b made is form = record {
  useful = is.flags;
  are = is.useful;
  half = width form.trees;
  some = omega (arith, wide form.trees);
  sets = ap (λ (x : Automaton). x.sets) form.is;
  few = pruned_widths a b is form.trees form.transitions (explored_trees b form.trees form.transitions form.explored);
}

pub parity_has_few_sets : ParityHasFewSets
parity_has_few_sets a made m = (form_parity m.0 made m.2, form_few (buchi a) m.0 made m.1 m.2)

-- ---- there is one

forms_same : (b made other : Automaton) → IsTreeForm b made → IsTreeForm b other → made ≡ other
forms_same b made other f g =
    let one = has_one_ending (List Node) (tree_rules b) (start_tree b) f.trees g.trees f.transitions g.transitions f.explored g.explored in
    f.is ∙ ((λ i. parity_on (one.0 i) (one.1 i) b) ∙ sym g.is)

determinisations_same : (a made other : Automaton) → IsDeterminisation a made → IsDeterminisation a other → made ≡ other
determinisations_same a made other m o =
    let same : m.0 ≡ o.0 = pruned_is_determined a m.0 o.0 m.1 o.1 in
    forms_same m.0 made other m.2 (subst (λ b. IsTreeForm b other) (sym same) o.2)

pub parity_is_determined : ParityIsDetermined
parity_is_determined a made other m o = determinisations_same (buchi a) made other m o

-- the completion where a is deterministic, and else the parity automaton
abbrev pub IsDeterministicForm : Automaton → Automaton → Type 0
IsDeterministicForm a made = (IsDeterministic a × (made ≡ completed a)) ⊎ ((IsDeterministic a → ⊥) × IsDeterminisation (buchi a) made)

deterministic_forms_same : (a made other : Automaton) → IsDeterministicForm a made → IsDeterministicForm a other → made ≡ other
deterministic_forms_same a made other (inl d) (inl e) = d.1 ∙ sym e.1
deterministic_forms_same a made other (inl d) (inr e) = absurd (e.0 d.0)
deterministic_forms_same a made other (inr d) (inl e) = absurd (d.0 e.0)
deterministic_forms_same a made other (inr d) (inr e) = parity_is_determined a made other d.1 e.1

pub complement_is_determined : ComplementIsDetermined
complement_is_determined a made other m o = m.is ∙ (ap dualised (deterministic_forms_same a m.form o.form m.is_form o.is_form) ∙ sym o.is)

-- ---- limits

form_excludes : (b made : Automaton) (f : Fault) → IsTreeForm b made → MeetsFirst b f → ⊥
form_excludes b made f form meets = ends_or_meets (List Node) (tree_rules b) (start_tree b) form.trees form.transitions f form.explored meets

pub determinisation_excludes : (a made : Automaton) (f : Fault) → IsDeterminisation a made → MeetsTreeLimit a f → ⊥
determinisation_excludes a made f m meets =
    let same : meets.0 ≡ m.0 = pruned_is_determined a meets.0 m.0 meets.1 m.1 in
    form_excludes m.0 made f m.2 (subst (λ b. MeetsFirst b f) same meets.2)

abbrev limit_of : Fault → Turn (List Node) → Fault
limit_of d (Running s) = d
limit_of d (Finished s) = d
limit_of d (LimitMet f) = f

limits_same : (a : Automaton) (f g : Fault) → MeetsTreeLimit a f → MeetsTreeLimit a g → f ≡ g
limits_same a f g x y =
    let same : y.0 ≡ x.0 = pruned_is_determined a y.0 x.0 y.1 x.1 in
    let e = has_one_outcome (List Node) (tree_rules x.0) (begin (start_tree x.0)) (LimitMet f) (LimitMet g) tt tt x.2 (subst (λ b. MeetsFirst b g) same y.2) in
    ap (limit_of f) e

pub determinisation_is_determined : DeterminisationIsDetermined
determinisation_is_determined b = record {
  one = determinisations_same b;
  limit = limits_same b;
  either = determinisation_excludes b;
}

within_parity : (a : Automaton) → buchi_states a ≤ MOST_BUCHI_STATES → (NeedsTooManyTerms a.formula → ⊥) → ((f : Fault) → MeetsParityLimit a f → ⊥) → IsWithinParity a
within_parity a few terms none fault.Terms p = terms p
within_parity a few terms none fault.BuchiStates p = (let many = p.1 in omega (arith, few, many))
within_parity a few terms none fault.Trees p = none limit.States p
within_parity a few terms none fault.Nodes p = none limit.StepFailed p
within_parity a few terms none fault.Classes p = none limit.Classes p
within_parity a few terms none fault.Memory p = p

pub made_within : (a made : Automaton) → IsDeterminisation (buchi a) made → buchi_states a ≤ MOST_BUCHI_STATES → (NeedsTooManyTerms a.formula → ⊥) → IsWithinParity a
made_within a made m few terms = within_parity a few terms (λ f meets. determinisation_excludes (buchi a) made f m meets.2)

one_meets : (a : Automaton) (f g : Fault) → MeetsParityLimit a f → MeetsParityLimit a g → f ≡ g
one_meets a f g x y = limits_same (buchi a) f g x.2 y.2

few_many : (a : Automaton) (f : Fault) {P : Type 0} → MeetsParityLimit a f → MOST_BUCHI_STATES < buchi_states a → P
few_many a f meets many = (let few = meets.1 in absurd (omega (arith, few, many)))

one_passes : (a : Automaton) (f g : CompFault) → PassesParity f a → PassesParity g a → f ≡ g
one_passes a fault.Terms fault.Terms p q = refl
one_passes a fault.Terms fault.BuchiStates p q = absurd (q.0 p)
one_passes a fault.Terms fault.Trees p q = absurd (q.0 p)
one_passes a fault.Terms fault.Nodes p q = absurd (q.0 p)
one_passes a fault.Terms fault.Classes p q = absurd (q.0 p)
one_passes a fault.BuchiStates fault.Terms p q = absurd (p.0 q)
one_passes a fault.BuchiStates fault.BuchiStates p q = refl
one_passes a fault.BuchiStates fault.Trees p q = few_many a limit.States q p.1
one_passes a fault.BuchiStates fault.Nodes p q = few_many a limit.StepFailed q p.1
one_passes a fault.BuchiStates fault.Classes p q = few_many a limit.Classes q p.1
one_passes a fault.Trees fault.Terms p q = absurd (p.0 q)
one_passes a fault.Trees fault.BuchiStates p q = few_many a limit.States p q.1
one_passes a fault.Trees fault.Trees p q = refl
one_passes a fault.Trees fault.Nodes p q = (let e = one_meets a limit.States limit.StepFailed p q in absurd cc)
one_passes a fault.Trees fault.Classes p q = (let e = one_meets a limit.States limit.Classes p q in absurd cc)
one_passes a fault.Nodes fault.Terms p q = absurd (p.0 q)
one_passes a fault.Nodes fault.BuchiStates p q = few_many a limit.StepFailed p q.1
one_passes a fault.Nodes fault.Trees p q = (let e = one_meets a limit.StepFailed limit.States p q in absurd cc)
one_passes a fault.Nodes fault.Nodes p q = refl
one_passes a fault.Nodes fault.Classes p q = (let e = one_meets a limit.StepFailed limit.Classes p q in absurd cc)
one_passes a fault.Classes fault.Terms p q = absurd (p.0 q)
one_passes a fault.Classes fault.BuchiStates p q = few_many a limit.Classes p q.1
one_passes a fault.Classes fault.Trees p q = (let e = one_meets a limit.Classes limit.States p q in absurd cc)
one_passes a fault.Classes fault.Nodes p q = (let e = one_meets a limit.Classes limit.StepFailed p q in absurd cc)
one_passes a fault.Classes fault.Classes p q = refl
one_passes a fault.Memory g p q = absurd p
one_passes a f fault.Memory p q = absurd q

pub parity_excludes_limits : ParityExcludesLimits
parity_excludes_limits a = record { made = λ made m few terms. made_within a made m few terms; one = one_passes a }

-- ---- answers

pub on_ok_from : {T E : Type 0} (r : Result T E) (Q : T → Type 0) (P : Type 0) → ((made : T) → Q made → P) → IfOk r Q → OnOk r P
on_ok_from (Ok made) Q P f q = f made q
on_ok_from (Err e) Q P f q = tt
