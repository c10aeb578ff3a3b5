-- No limits are passed but those that are listed.
use Rattle.std.proofs.Common.{Contains, inl, inr, refl, sym, arith}
use Rattle.std.proofs.lemmas.List.Elements.{Contains-append_left, Contains-append_right}
use Rattle.aut_base.specs.Automaton.{Automaton}
use Rattle.aut_base.specs.CanonicalLabel.{canonical}
use Rattle.aut_base.specs.declared.limit.Limit.{Limit}
use Rattle.aut_base.specs.declared.limit.Limit.TheVariants as limit
use Rattle.filter_plan.specs.declared.plan.Form.{Form}
use Rattle.filter_plan.specs.declared.plan.Form.TheVariants as form
use Rattle.plan_meaning.specs.Changes as change
use Rattle.plan_meaning.specs.Changes.{Change, PassesForm, PassesIn, PassesMonitor, limits_of_change, limits_of_form}
use Rattle.plan_meaning.specs.Filters as filter
use Rattle.plan_meaning.specs.Filters.{Filter, PassesLimitOf, limits_of_filter}
use Rattle.plan_meaning.specs.Laws.{PassTheirOwn}
use Rattle.plan_meaning.specs.Limits.{PassesBuchi, PassesOfBoth, PassesOfEither, PassesOfEquivalence, PassesOfInclusion, PassesOfWord, PassesParityLimit}
use Rattle.plan_meaning.specs.Limits.{limits_of_inclusion, limits_of_parity, limits_of_product}
use Rattle.word_syntax.specs.Grammar.{WordPattern}

-- ---- of two automata

of_both : (which : Limit) (a b : Automaton) → PassesOfBoth which a b → Contains limits_of_product which
of_both limit.Names a b h = (0, omega arith, refl)
of_both limit.Pairs a b h = (1, omega arith, refl)
of_both _ a b h = absurd h

of_either : (which : Limit) (a b : Automaton) → PassesOfEither which a b → Contains limits_of_product which
of_either limit.Names a b h = (0, omega arith, refl)
of_either limit.Pairs a b h = (1, omega arith, refl)
of_either _ a b h = absurd h

of_word : (which : Limit) (a : Automaton) (p : WordPattern) → PassesOfWord which a p → Contains limits_of_product which
of_word which a p (inl h) = (0, omega arith, sym h.0)
of_word which a p (inr h) = of_both which a _ h.1

of_parity : (which : Limit) (a : Automaton) → PassesParityLimit which a → Contains limits_of_parity which
of_parity limit.Terms a h = (0, omega arith, refl)
of_parity limit.BuchiStates a h = (1, omega arith, refl)
of_parity limit.Trees a h = (2, omega arith, refl)
of_parity limit.Nodes a h = (3, omega arith, refl)
of_parity limit.Classes a h = (4, omega arith, refl)
of_parity _ a h = absurd h

of_inclusion : (which : Limit) (a b : Automaton) → PassesOfInclusion which a b → Contains limits_of_inclusion which
of_inclusion which a b (inl h) = Contains-append_left limits_of_parity limits_of_product which (of_parity which b h.1)
of_inclusion which a b (inr h) = Contains-append_right limits_of_parity limits_of_product which (of_both which a h.1.co h.1.passes)

of_equivalence : (which : Limit) (a b : Automaton) → PassesOfEquivalence which a b → Contains limits_of_inclusion which
of_equivalence which a b (inl h) = of_inclusion which a b h
of_equivalence which a b (inr h) = of_inclusion which b a h.2

-- ---- of a filter

of_filter : (f : Filter) (which : Limit) (a : Automaton) → PassesLimitOf which f a → Contains (limits_of_filter f) which
of_filter (filter.AcceptsWord p) which a h = of_word which (canonical a) p h
of_filter (filter.RejectsWord p) which a h = of_word which (canonical a) p h
of_filter (filter.IncludedIn b) which a h = of_inclusion which (canonical a) b h
of_filter (filter.EquivalentTo b) which a h = of_equivalence which (canonical a) b h
of_filter (filter.Intersects b) which a h = of_both which (canonical a) b h
of_filter filter.IsUnambiguous which a h = (0, omega arith, sym h.0)
of_filter _ which a h = absurd h

-- ---- of a change

of_buchi : (which : Limit) (a : Automaton) → PassesBuchi which a → Contains (limits_of_form form.Buchi) which
of_buchi limit.Terms a h = (0, omega arith, refl)
of_buchi limit.BuchiStates a h = (1, omega arith, refl)
of_buchi _ a h = absurd h

of_monitor : (which : Limit) (a : Automaton) → PassesMonitor which a → Contains (limits_of_form form.Monitor) which
of_monitor limit.Terms a h = (0, omega arith, refl)
of_monitor limit.BuchiStates a h = (1, omega arith, refl)
of_monitor limit.Classes a h = (2, omega arith, refl)
of_monitor limit.Subsets a h = (3, omega arith, refl)
of_monitor _ a h = absurd h

of_form : (f : Form) (which : Limit) (a : Automaton) → PassesForm which f a → Contains (limits_of_form f) which
of_form form.Deterministic which a h = of_parity which a h.1
of_form form.Parity which a h = of_parity which a h
of_form form.Buchi which a h = of_buchi which a h
of_form form.RemoveFin which a h = (0, omega arith, sym h.0)
of_form form.Dnf which a h = (0, omega arith, sym h.0)
of_form form.Monitor which a h = of_monitor which a h
of_form _ which a h = absurd h

of_change : (c : Change) (which : Limit) (a : Automaton) → PassesIn which c a → Contains (limits_of_change c) which
of_change (change.Product b) which a h = of_both which a b h
of_change (change.ProductOr b) which a h = of_either which a b h
of_change (change.Sum b) which a h = (0, omega arith, sym h.0)
of_change change.Complement which a h = of_parity which a h.1
of_change (change.Bring f) which a h = of_form f which a h
of_change _ which a h = absurd h

pub only_own_limits : PassTheirOwn
only_own_limits = record { filter = of_filter; change = of_change; inclusion = of_inclusion }
