-- The language of a determinised automaton, and of the one with the dual condition.
use Rattle.std.proofs.Common.{[], Contains, inl, inr, length, subst, sym}
use Rattle.aut_base.proofs.lists.Members.{first_there}
use Rattle.parity_laws.proofs.complements.Dual.{complements, never_both, one_of_the_two}
use Rattle.parity_laws.proofs.directions.FromTrees.{from_trees}
use Rattle.parity_laws.proofs.directions.ToTrees.{to_trees}
use Rattle.parity_laws.proofs.directions.Trees.{closed}
use Rattle.parity_laws.specs.Complement.{DeterminisedDualIsComplement, dualised}
use Rattle.parity_laws.specs.Determinised.{DeterminisedAcceptsTheSame}

pub accepts_the_same : DeterminisedAcceptsTheSame
accepts_the_same b d trees most buchi det u v = (from_trees b d trees most buchi det u v, to_trees b d trees most buchi det u v)

pub determinised_dual : DeterminisedDualIsComplement
determinised_dual b d trees most buchi det =
    let start : Contains d.starts 0 = subst (λ xs. Contains xs 0) (sym det.starts) (first_there 0 []) in
    let either = one_of_the_two d (length trees) 0 (closed b d trees most det) start det.some in
    complements b (dualised d)
    (λ u v endless. elim (either u v endless) [ inl own ↦ inl (from_trees b d trees most buchi det u v own) | inr other ↦ inr other ])
    (λ u v own other. never_both d det.deterministic u v (to_trees b d trees most buchi det u v own) other)
