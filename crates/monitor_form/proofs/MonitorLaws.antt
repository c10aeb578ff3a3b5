-- What the monitor accepts, that it is determined, and that where there is one no limit is met.
use Rattle.std.proofs.Common.{◌≡◌, ◌∙◌, ◌<◌, ℕ, List, [], ◌∷◌, Result, Ok, Err, IfOk, OnOk, ap, arith, false, length, subst, sym}
use Rattle.aut_base.specs.Automaton.{Automaton, IsWellFormed}
use Rattle.aut_base.specs.Formula.{Inf}
use Rattle.aut_core.specs.SymbolicAutomata.{SymbolicAutomaton, automaton_of}
use Rattle.aut_core.specs.Deterministic.{IsDeterministic}
use Rattle.aut_core.specs.OtherNames.{AcceptTheSame}
use Rattle.aut_ops.proofs.flagged.FlagLaws.{pruned_is_determined}
use Rattle.aut_ops.specs.Pruning.{IsPruned}
use Rattle.degeneralise.specs.Buchi.{buchi}
use Rattle.exploration.proofs.Finished.{ends_or_meets, has_one_ending, has_one_outcome}
use Rattle.exploration.specs.Turns.{Finished, Running, LimitMet, Turn, begin}
use Rattle.exploration.specs.declared.fault.Fault.{Fault}
use Rattle.monitor_form.proofs.Formed.{formed_of}
use Rattle.monitor_form.proofs.LivePaths.{pruned_are_live}
use Rattle.monitor_form.proofs.Prefixed.{monitor_accepts}
use Rattle.monitor_form.specs.Prefixes.{AcceptsPrefixes, HasPrefix}
use Rattle.monitor_form.specs.Subsets.{IsMonitorAutomaton, IsSubsetForm, MeetsLimit, MeetsSubsetLimit, MonitorExcludesLimits, MonitorIsDetermined, SubsetFormIsDetermined}
use Rattle.monitor_form.proofs.Explored.{IsExploredFrom, explored_by}
use Rattle.monitor_form.specs.Subsets.{monitor_on, start_set, subset_rules}

forms_same : (b made other : Automaton) → IsSubsetForm b made → IsSubsetForm b other → made ≡ other
forms_same b made other f g = by_cases b.starts (explored_by b made f) (explored_by b other g)
  where
    by_cases : (ss : List ℕ) → IsExploredFrom b ss f.sets f.transitions → IsExploredFrom b ss g.sets g.transitions → made ≡ other
    by_cases [] x y = f.is ∙ ((λ i. monitor_on ((x.0 ∙ sym y.0) i) ((x.1 ∙ sym y.1) i) b) ∙ sym g.is)
    by_cases (s ∷ ss) x y =
        let one = has_one_ending (List ℕ) (subset_rules b) (start_set b) f.sets g.sets f.transitions g.transitions x y in
        f.is ∙ ((λ i. monitor_on (one.0 i) (one.1 i) b) ∙ sym g.is)

pub monitor_is_determined : MonitorIsDetermined
monitor_is_determined a made other m o =
    let same : m.pruned ≡ o.pruned = pruned_is_determined (buchi a) m.pruned o.pruned m.is_pruned o.is_pruned in
    forms_same m.pruned made other m.is (subst (λ (b : Automaton). IsSubsetForm b other) (sym same) o.is)

form_excludes : (b made : Automaton) (f : Fault) → IsSubsetForm b made → MeetsSubsetLimit b f → ⊥
form_excludes b made f form meets = by_cases b.starts (explored_by b made form) meets.some
  where
    by_cases : (ss : List ℕ) → IsExploredFrom b ss form.sets form.transitions → 0 < length ss → ⊥
    by_cases [] x some = absurd (omega (arith, some))
    by_cases (s ∷ ss) x some = ends_or_meets (List ℕ) (subset_rules b) (start_set b) form.sets form.transitions f x meets.meets

abbrev fault_in : Fault → Turn (List ℕ) → Fault
fault_in d (Running s) = d
fault_in d (Finished s) = d
fault_in d (LimitMet f) = f

one_limit : (b : Automaton) (f g : Fault) → MeetsSubsetLimit b f → MeetsSubsetLimit b g → f ≡ g
one_limit b f g x y = ap (fault_in f) (has_one_outcome (List ℕ) (subset_rules b) (begin (start_set b)) (LimitMet f) (LimitMet g) tt tt x.meets y.meets)

pub subset_form_is_determined : SubsetFormIsDetermined
subset_form_is_determined b = record { one = forms_same b; limit = one_limit b; either = form_excludes b }

pub monitor_excludes_limits : MonitorExcludesLimits
monitor_excludes_limits a = record {
  monitors = λ made f m l. (
      let same = pruned_is_determined (buchi a) m.pruned l.pruned m.is_pruned l.is_pruned in
      form_excludes m.pruned made f m.is (subst (λ (b : Automaton). MeetsSubsetLimit b f) (sym same) l.meets)
      );
  others = λ f g l k. (
      let same = pruned_is_determined (buchi a) l.pruned k.pruned l.is_pruned k.is_pruned in
      one_limit l.pruned f g l.meets (subst (λ (b : Automaton). MeetsSubsetLimit b g) (sym same) k.meets)
      );
}

-- automata that accept the same words have the same prefixes
prefix_same : (a b : Automaton) → AcceptTheSame b a → (u v : List _) (n : ℕ) → HasPrefix b u v n → HasPrefix a u v n
prefix_same a b same u v n p = record { stem = p.stem; cycle = p.cycle; accepted = (same p.stem p.cycle).0 p.accepted; same = p.same }

prefix_back : (a b : Automaton) → AcceptTheSame b a → (u v : List _) (n : ℕ) → HasPrefix a u v n → HasPrefix b u v n
prefix_back a b same u v n p = record { stem = p.stem; cycle = p.cycle; accepted = (same p.stem p.cycle).1 p.accepted; same = p.same }

pub accepts_prefixes : (a form pruned made : Automaton) → AcceptTheSame form a → AcceptTheSame pruned form → IsWellFormed form → form.formula ≡ Inf 0 false → IsPruned form pruned
    → IsWellFormed pruned → IsSubsetForm pruned made → AcceptsPrefixes made a
accepts_prefixes a form pruned made first second formed condition is_pruned well is u v some =
    let f = formed_of pruned made well is in
    let m = monitor_accepts pruned made f.sets (pruned_are_live form pruned formed condition is_pruned) f.monitor u v some in (
      λ accepted n. prefix_same a form first u v n (prefix_same form pruned second u v n (m.0 accepted n)),
      λ prefixes. m.1 (λ n. prefix_back form pruned second u v n (prefix_back a form first u v n (prefixes n))),
    )

pub form_deterministic : (b made : Automaton) → IsWellFormed b → IsSubsetForm b made → IsDeterministic made
form_deterministic b made well is = (formed_of b made well is).deterministic

-- the monitor, from the promises of the calls that make it
pub monitor_of : (a form pruned made : Automaton) → form ≡ buchi a → IsPruned form pruned → IsSubsetForm pruned made → IsMonitorAutomaton a made
monitor_of a form pruned made same is_pruned is = record { pruned = pruned; is_pruned = subst (λ (b : Automaton). IsPruned b pruned) same is_pruned; is = is }

pub no_limits : (a form pruned made : Automaton) → form ≡ buchi a → IsPruned form pruned → IsSubsetForm pruned made → (f : Fault) → MeetsLimit a f → ⊥
no_limits a form pruned made same is_pruned is f meets = (monitor_excludes_limits a).monitors made f (monitor_of a form pruned made same is_pruned is) meets

pub no_limits_on : {E : Type 0} (a form pruned : Automaton) → form ≡ buchi a → IsPruned form pruned → (r : Result SymbolicAutomaton E) → IfOk r (λ made. IsSubsetForm pruned (automaton_of made))
    → OnOk r ((f : Fault) → MeetsLimit a f → ⊥)
no_limits_on a form pruned same is_pruned (Ok made) is = no_limits a form pruned (automaton_of made) same is_pruned is
no_limits_on a form pruned same is_pruned (Err e) is = tt
