-- What determinisation makes is well formed and within limits: parity automata, complements and monitors.
use Rattle.std.proofs.Common.{◌≡◌, ◌∙◌, ◌+◌, ◌*◌, ◌≤◌, ℕ, List, [], ◌∷◌, ap, arith, inl, inr, length, refl, subst, sym}
use Rattle.std.proofs.lemmas.Bool.{cases_Bool}
use Rattle.aut_base.specs.Automaton.{Automaton, IsWellFormed}
use Rattle.aut_base.specs.declared.limit.Limit.TheVariants as limit
use Rattle.aut_base.specs.declared.limit.TheConstants.{MOST_NAMES, MOST_NODES, MOST_SUBSETS, MOST_TREES}
use Rattle.aut_core.specs.Deterministic.{IsComplete, IsDeterministic}
use Rattle.aut_core.specs.OtherNames.{AcceptTheSame}
use Rattle.aut_ops.proofs.flagged.Useful.{useful_accepts}
use Rattle.aut_ops.proofs.sinks.CompletedSizes.{completed_sets, completed_states}
use Rattle.aut_ops.proofs.sinks.SinkStates.{completed_accepts, completed_complete, completed_deterministic, completed_names}
use Rattle.aut_ops.specs.Completion.{completed}
use Rattle.aut_ops.specs.Pruning.{IsPruned}
use Rattle.autfilt_laws.proofs.due.FewStates.{few_explored}
use Rattle.autfilt_laws.proofs.due.Formed.{buchi_formed, completed_formed, pruned_formed, subset_form_formed, tree_form_formed}
use Rattle.autfilt_laws.proofs.due.Sizes.{IsFine, Step, few_states, within_parity}
use Rattle.degeneralise.proofs.BuchiLaw.{buchi_accepts_the_same, buchi_copies, buchi_one}
use Rattle.degeneralise.specs.Buchi.{buchi, is_generalised_buchi}
use Rattle.exploration.specs.Turns.{Transition}
use Rattle.filter_plan.specs.declared.plan.Form.TheVariants as form
use Rattle.monitor_form.proofs.MonitorLaws.{accepts_prefixes, form_deterministic, monitor_excludes_limits}
use Rattle.monitor_form.specs.Subsets.{IsSubsetForm, start_set, subset_rules}
use Rattle.monitor_form.proofs.Explored.{IsExploredFrom, explored_by}
use Rattle.parity_det.proofs.DualSets.{dual_below}
use Rattle.parity_det.proofs.Formed.{explored_trees}
use Rattle.parity_det.proofs.ParityLaws.{IsDeterministicForm, form_accepts, form_parity, pruned_formula, same_through}
use Rattle.parity_det.proofs.Widths.{few_nodes}
use Rattle.parity_det.proofs.TreeMoves.{start_tree}
use Rattle.parity_det.specs.Determinisation.{IsDeterminisation, tree_rules}
use Rattle.parity_det.specs.Promises.{IsParityMinOdd}
use Rattle.parity_laws.proofs.complements.Dual.{complements_of_the_same, dual_is_complement}
use Rattle.parity_laws.specs.Complement.{AreComplementLanguages, dualised}
use Rattle.plan_meaning.proofs.changes.Determinised.{complement_made, deterministic_itself, deterministic_made, parity_made}
use Rattle.plan_meaning.proofs.changes.Monitored.{monitor_made}
use Rattle.plan_meaning.specs.Changes.{Bring, Complement, MakesWithin}
use Rattle.plan_meaning.specs.inner.Stepping.{HasRoom, IsOfComplementSize, IsOfSumSize}

-- ---- Büchi forms

pub buchi_names : (a : Automaton) → (buchi a).names ≡ a.names
buchi_names a = elim (cases_Bool (is_generalised_buchi a.formula)) [
  | inl one ↦ ap (λ (b : Automaton). b.names) (buchi_one a one)
  | inr more ↦ ap (λ (b : Automaton). b.names) (buchi_copies a more)
]

-- what pruning leaves of a Büchi form
record IsLeft (a pruned : Automaton) : Type 0 where
  formed : IsWellFormed pruned
  form_formed : IsWellFormed (buchi a)
  names : pruned.names ≡ a.names
  kept : AcceptTheSame pruned (buchi a)
  same : AcceptTheSame (buchi a) a

left_of : (a pruned : Automaton) → IsWellFormed a → IsPruned (buchi a) pruned → IsLeft a pruned
left_of a pruned formed is =
    let form = buchi_formed a formed in
    record {
      formed = pruned_formed (buchi a) pruned form is;
      form_formed = form;
      names = ap (λ (b : Automaton). b.names) is.is ∙ buchi_names a;
      kept = subst (λ (b : Automaton). AcceptTheSame b (buchi a)) (sym is.is) (useful_accepts (buchi a) form is.flags is.useful refl);
      same = buchi_accepts_the_same a formed;
    }

-- ---- deterministic forms

-- a deterministic automaton of the same language
record IsForm (a made : Automaton) : Type 0 where
  formed : IsWellFormed made
  names : made.names ≡ a.names
  accepts : AcceptTheSame made a
  deterministic : IsDeterministic made
  complete : IsComplete made

record IsParityForm (a made : Automaton) : Type 0 where
  form : IsForm a made
  shape : IsParityMinOdd made
  states : made.states ≤ MOST_TREES
  sets : made.sets ≤ 2 * MOST_NODES + 1

parity_form : (a made : Automaton) → IsWellFormed a → IsDeterminisation (buchi a) made → IsParityForm a made
parity_form a made formed m =
    let l = left_of a m.0 formed m.1 in
    let form = m.2 in
    let shape = form_parity m.0 made form in
    let own = form_accepts m.0 made l.formed (pruned_formula (buchi a) m.0 m.1 refl) form in
    let some : 1 ≤ MOST_TREES = omega arith in
    let trees = few_explored (tree_rules m.0) (start_tree m.0) form.trees form.transitions some form.explored in
    let nodes = few_nodes m.0 form.trees form.transitions (explored_trees m.0 form.trees form.transitions form.explored) in
    let sets = ap (λ (b : Automaton). b.sets) form.is in
    record {
      form = record {
        formed = tree_form_formed m.0 made l.formed form;
        names = ap (λ (b : Automaton). b.names) form.is ∙ l.names;
        accepts = same_through made m.0 a own (same_through m.0 (buchi a) a l.kept l.same);
        deterministic = shape.deterministic;
        complete = shape.complete;
      };
      shape = shape;
      states = subst (λ (b : Automaton). b.states ≤ MOST_TREES) (sym form.is) trees;
      sets = omega (arith, sets, nodes);
    }

completed_form : (a : Automaton) → IsWellFormed a → IsDeterministic a → IsForm a (completed a)
completed_form a formed is = record {
  formed = completed_formed a formed;
  names = completed_names a formed;
  accepts = completed_accepts a formed;
  deterministic = completed_deterministic a formed is;
  complete = completed_complete a formed;
}

few_names_in : (a made : Automaton) → made.names ≡ a.names → length a.names ≤ MOST_NAMES → length made.names ≤ MOST_NAMES
few_names_in a made same few = subst (λ ns. length ns ≤ MOST_NAMES) (sym same) few

-- ---- complements

-- the deterministic form, and its size by that of the automaton
record IsSized (a made : Automaton) : Type 0 where
  form : IsForm a made
  states : made.states ≤ a.states + MOST_TREES
  sets : made.sets ≤ a.sets + (2 * MOST_NODES + 1)

sized_form : (a made : Automaton) → IsWellFormed a → IsDeterministicForm a made → IsSized a made
sized_form a made formed (inl is) = subst (IsSized a) (sym is.1) (record {
  form = completed_form a formed is.0;
  states = omega (arith, completed_states a);
  sets = omega (arith, completed_sets a);
})
sized_form a made formed (inr is) =
    let p = parity_form a made formed is.1 in
    record { form = p.form; states = omega (arith, p.states); sets = omega (arith, p.sets) }

dual_formed : (a : Automaton) → IsWellFormed a → IsWellFormed (dualised a)
dual_formed a formed = record {
  names_differ = formed.names_differ;
  starts_differ = formed.starts_differ;
  starts = formed.starts;
  in_order = formed.in_order;
  edges = λ k d within. (let e = formed.edges k d within in record { from = e.from; to = e.to; label = e.label; marks = e.marks; marks_rise = e.marks_rise });
  formula = dual_below a.sets a.formula formed.formula;
}

pub complement_step : (a made : Automaton) → IsFine IsOfSumSize a → MakesWithin Complement a made → Step Complement a made
complement_step a made f m =
    let s = sized_form a m.makes.form f.formed m.makes.is_form in
    let g = s.form in
    let dual = dual_is_complement m.makes.form g.formed g.deterministic g.complete in
    let is = m.makes.is in
    let complements : AreComplementLanguages a made = subst (AreComplementLanguages a) (sym is) (complements_of_the_same a m.makes.form (dualised m.makes.form) g.accepts dual) in
    let states : made.states ≡ m.makes.form.states = ap (λ (z : Automaton). z.states) is in
    let sets : made.sets ≡ m.makes.form.sets = ap (λ (z : Automaton). z.sets) is in
    record {
      is = complement_made a made (λ other. within_parity a (λ which passes. m.within which (other, passes))) m.makes complements;
      fine = record {
        formed = subst IsWellFormed (sym is) (dual_formed m.makes.form g.formed);
        names = few_names_in a made (ap (λ (z : Automaton). z.names) is ∙ g.names) f.names;
        size = record { states = omega (arith, states, s.states, f.size.states); sets = omega (arith, sets, s.sets, f.size.sets) };
      };
    }

-- ---- forms

parity_fine : (a made : Automaton) → IsFine IsOfComplementSize a → IsParityForm a made → IsFine HasRoom made
parity_fine a made f p = record {
  formed = p.form.formed;
  names = few_names_in a made p.form.names f.names;
  size = record { states = omega (arith, p.states); sets = omega (arith, p.sets) };
}

pub parity_step : (a made : Automaton) → IsFine IsOfComplementSize a → MakesWithin (Bring form.Parity) a made → Step (Bring form.Parity) a made
parity_step a made f m =
    let p = parity_form a made f.formed m.makes in
    record { is = parity_made a made (within_parity a m.within) m.makes p.shape p.form.accepts; fine = parity_fine a made f p }

pub itself_fine : (a : Automaton) → IsFine IsOfComplementSize a → IsFine HasRoom a
itself_fine a f = record { formed = f.formed; names = f.names; size = record { states = omega (arith, f.size.states); sets = omega (arith, f.size.sets) } }

pub deterministic_step : (a made : Automaton) → IsFine IsOfComplementSize a → MakesWithin (Bring form.Deterministic) a made → Step (Bring form.Deterministic) a made
deterministic_step a made f m = elim m.makes [
  | inl itself ↦ subst (Step (Bring form.Deterministic) a) (sym itself.1) (record { is = deterministic_itself a itself.0; fine = itself_fine a f })
  | inr other ↦ (
      let p = parity_form a made f.formed other.1 in
      record {
        is = deterministic_made a made other.0 (within_parity a (λ which passes. m.within which (other.0, passes))) other.1 p.shape p.form.accepts;
        fine = parity_fine a made f p;
      }
      )
]

-- the number of sets is within its limit
few_sets : (b : Automaton) (ss : List ℕ) (sets : List (List ℕ)) (transitions : List Transition) → IsExploredFrom b ss sets transitions → length sets ≤ MOST_SUBSETS
few_sets b [] sets transitions are = subst (λ (xs : List (List ℕ)). length xs ≤ MOST_SUBSETS) (sym are.0) (omega arith)
few_sets b (s ∷ ss) sets transitions ends = let some : 1 ≤ MOST_SUBSETS = omega arith in few_explored (subset_rules b) (start_set b) sets transitions some ends

pub monitor_step : (a made : Automaton) → IsFine IsOfComplementSize a → MakesWithin (Bring form.Monitor) a made → Step (Bring form.Monitor) a made
monitor_step a made f m =
    let l = left_of a m.makes.pruned f.formed m.makes.is_pruned in
    let is : IsSubsetForm m.makes.pruned made = m.makes.is in
    let terms = m.within limit.Terms in
    let states = few_states a terms (m.within limit.BuchiStates) in
    let accepts = accepts_prefixes a (buchi a) m.makes.pruned made l.same l.kept l.form_formed refl m.makes.is_pruned l.formed is in
    let few = few_sets m.makes.pruned m.makes.pruned.starts is.sets is.transitions (explored_by m.makes.pruned made is) in
    let sets : made.sets ≡ 0 = ap (λ (z : Automaton). z.sets) is.is in
    record {
      is = monitor_made a made terms states (λ g meets. (monitor_excludes_limits a).monitors made g m.makes meets) m.makes
          (form_deterministic m.makes.pruned made l.formed is) accepts;
      fine = record {
        formed = subset_form_formed m.makes.pruned made l.formed is;
        names = few_names_in a made (ap (λ (z : Automaton). z.names) is.is ∙ l.names) f.names;
        size = record {
          states = (let counted : made.states ≤ MOST_SUBSETS = subst (λ (z : Automaton). z.states ≤ MOST_SUBSETS) (sym is.is) few in omega (arith, counted));
          sets = omega (arith, sets);
        };
      };
    }
