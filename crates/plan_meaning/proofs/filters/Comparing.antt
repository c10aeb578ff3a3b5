-- Whether one automaton is included in another, and whether both accept the same, by whether there is a word that the one accepts
-- and the other doesn't.
use Rattle.std.proofs.Common.{◌≡◌, Bool, true, false, Result, Ok, Err, inl, inr, subst, sym}
use Rattle.aut_base.specs.Automaton.{Automaton}
use Rattle.aut_base.specs.CanonicalLabel.{canonical}
use Rattle.aut_base.specs.declared.limit.Limit.{Limit}
use Rattle.plan_meaning.specs.Filters.{EquivalentTo, IncludedIn}
use Rattle.plan_meaning.specs.Limits.{PassesOfEquivalence, PassesOfInclusion}
use Rattle.plan_meaning.specs.declared.fault.PlanFault.{PlanFault}
use Rattle.plan_meaning.specs.declared.fault.PlanFault.TheVariants as fault
use Rattle.plan_meaning.specs.inner.Judging.{ComparesInclusion, ExaminesFilter}

-- ---- the filters

pub examines_inclusion : (a b : Automaton) (r : Result Bool PlanFault) → canonical a ≡ a → ComparesInclusion r a b → ExaminesFilter r (IncludedIn b) a
examines_inclusion a b (Ok true) settled h = record { within = λ which p. h.0 which (subst (λ (x : Automaton). PassesOfInclusion which x b) settled p); holds = h.1 }
examines_inclusion a b (Ok false) settled h = record { within = λ which p. h.0 which (subst (λ (x : Automaton). PassesOfInclusion which x b) settled p); fails = h.1 }
examines_inclusion a b (Err (fault.Limit which)) settled h = subst (λ (x : Automaton). PassesOfInclusion which x b) (sym settled) h
examines_inclusion a b (Err fault.Memory) settled h = tt

module _ (a b : Automaton) (settled : canonical a ≡ a) where
  on_canonical : (which : Limit) → PassesOfEquivalence which (canonical a) b → PassesOfEquivalence which a b
  on_canonical which p = subst (λ (x : Automaton). PassesOfEquivalence which x b) settled p

  -- where the automaton isn't included in the other
  pub not_equivalent : ComparesInclusion (Ok false) a b → ExaminesFilter (Ok false) (EquivalentTo b) a
  not_equivalent h = record { within = λ which p. by_cases which (on_canonical which p); fails = λ same. h.1 (λ u v x. (same u v).0 x) }
    where
      by_cases : (which : Limit) → PassesOfEquivalence which a b → ⊥
      by_cases which (inl p) = h.0 which p
      by_cases which (inr p) = h.1 p.1

  -- where it is included, by whether the other is
  pub equivalent_if : (r : Result Bool PlanFault) → ComparesInclusion (Ok true) a b → ComparesInclusion r b a → ExaminesFilter r (EquivalentTo b) a
  equivalent_if (Ok true) h k = record { within = λ which p. by_cases which (on_canonical which p); holds = λ u v. (h.1 u v, k.1 u v) }
    where
      by_cases : (which : Limit) → PassesOfEquivalence which a b → ⊥
      by_cases which (inl p) = h.0 which p
      by_cases which (inr p) = k.0 which p.2
  equivalent_if (Ok false) h k = record { within = λ which p. by_cases which (on_canonical which p); fails = λ same. k.1 (λ u v x. (same u v).1 x) }
    where
      by_cases : (which : Limit) → PassesOfEquivalence which a b → ⊥
      by_cases which (inl p) = h.0 which p
      by_cases which (inr p) = k.0 which p.2
  equivalent_if (Err (fault.Limit which)) h k = subst (λ (x : Automaton). PassesOfEquivalence which x b) (sym settled) (inr (h.0, h.1, k))
  equivalent_if (Err fault.Memory) h k = tt
