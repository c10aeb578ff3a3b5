-- What a change makes of an automaton alone is well formed and within limits, apart from determinisation.
use Rattle.std.proofs.Common.{◌≡◌, ◌∙◌, ◌≤◌, ℕ, Bool, true, false, cond, List, ap, arith, inl, inr, length, map, refl, subst, sym}
use Rattle.std.proofs.lemmas.Bool.{cases_Bool}
use Rattle.std.specs.Prelude.{if◌then◌else◌}
use Rattle.acc_forms.specs.Atoms.{has_fin}
use Rattle.acc_forms.specs.Terms.{of_terms, terms}
use Rattle.ap_project.proofs.HiddenAutomata.{hidden_accepts, sets_hidden, states_hidden}
use Rattle.ap_project.proofs.OtherNames.{fewer}
use Rattle.ap_project.specs.Hiding.{AcceptsHidden, hidden, hidden_label, names_without}
use Rattle.ap_project.specs.declared.hide.Hide.{Hide}
use Rattle.aut_base.specs.Automaton.{Automaton, IsWellFormed, LabelledEdge}
use Rattle.aut_base.specs.declared.limit.Limit.TheVariants as limit
use Rattle.aut_base.specs.declared.limit.TheConstants.{MOST_NAMES}
use Rattle.aut_core.specs.Deterministic.{IsComplete, IsDeterministic}
use Rattle.aut_core.specs.OtherNames.{AcceptTheSame, is_among}
use Rattle.aut_ops.proofs.flagged.Trimmed.{alone_formed, trimmed_accepts}
use Rattle.aut_ops.proofs.sinks.CompletedSizes.{completed_sets, completed_states}
use Rattle.aut_ops.proofs.sinks.SinkStates.{completed_accepts, completed_complete, completed_deterministic, completed_names}
use Rattle.aut_ops.specs.Completion.{completed}
use Rattle.autfilt_laws.proofs.due.Determined.{buchi_names, itself_fine}
use Rattle.autfilt_laws.proofs.due.Formed.{buchi_formed, completed_formed, disjunctive_formed, hidden_formed, without_fin_formed}
use Rattle.autfilt_laws.proofs.due.Sizes.{IsFine, Step, few_states}
use Rattle.degeneralise.proofs.BuchiLaw.{buchi_accepts_the_same, states_are}
use Rattle.degeneralise.specs.Buchi.{buchi}
use Rattle.filter_plan.specs.declared.plan.Form.TheVariants as form
use Rattle.filter_plan.specs.declared.plan.Hidden.{Hidden}
use Rattle.fin_removal.proofs.CopiedLaw.{copied_accepts_the_same}
use Rattle.fin_removal.specs.Copies.{HasTooManyTerms, copied}
use Rattle.plan_meaning.proofs.changes.DisjunctiveForm.{disjunctive_accepts}
use Rattle.plan_meaning.proofs.changes.Shapings.{buchi_made, complete_made, copies_made, dnf_made, fin_itself, fin_room, trim_made, trim_within}
use Rattle.plan_meaning.proofs.changes.Stepping.{hidden_made}
use Rattle.plan_meaning.specs.Changes.{Bring, Complete, MakesWithin, RemoveAp, Trim}
use Rattle.plan_meaning.specs.inner.Stepping.{HasRoom, IsOfComplementSize, IsOfSumSize}

-- ---- before the form

hidden_names : (how : Hide) (name : List ℕ) (a : Automaton) → length (hidden how name a).names ≤ length a.names
hidden_names how name a = by_cases (is_among a.names name)
  where
    by_cases : (b : Bool) → length (if b then record a { names = names_without name a.names; edges = map (λ (e : LabelledEdge). record e { label = hidden_label how name a.names e.label }) a.edges }
        else a).names
        ≤ length a.names
    by_cases true = fewer name a.names
    by_cases false = omega arith

pub hidden_step : (h : Hidden) (a made : Automaton) → IsFine IsOfSumSize a → MakesWithin (RemoveAp h) a made → Step (RemoveAp h) a made
hidden_step h a made f m =
    let is : made ≡ hidden h.how h.name a = m.makes in
    let names : length made.names ≡ length (hidden h.how h.name a).names = ap (λ (z : Automaton). length z.names) is in
    let states : made.states ≡ a.states = ap (λ (z : Automaton). z.states) is ∙ states_hidden h.how h.name a in
    let sets : made.sets ≡ a.sets = ap (λ (z : Automaton). z.sets) is ∙ sets_hidden h.how h.name a in
    record {
      is = hidden_made h a made is (subst (AcceptsHidden h.how h.name a) (sym is) (hidden_accepts h.how h.name a f.formed));
      fine = record {
        formed = subst IsWellFormed (sym is) (hidden_formed h.how h.name a f.formed);
        names = omega (arith, names, hidden_names h.how h.name a, f.names);
        size = record { states = omega (arith, states, f.size.states); sets = omega (arith, sets, f.size.sets) };
      };
    }

pub trim_step : (a made : Automaton) → IsFine IsOfSumSize a → MakesWithin Trim a made → Step Trim a made
trim_step a made f m =
    let is = m.makes in
    record {
      is = trim_made a made is (subst (λ (z : Automaton). AcceptTheSame z a) (sym is.is) (trimmed_accepts a f.formed is.flags is.reached));
      fine = record {
        formed = subst IsWellFormed (sym is.is) (alone_formed a f.formed is.flags);
        names = subst (λ (z : Automaton). length z.names ≤ MOST_NAMES) (sym is.is) f.names;
        size = trim_within a made is f.size;
      };
    }

-- ---- forms

pub buchi_step : (a made : Automaton) → IsFine IsOfComplementSize a → MakesWithin (Bring form.Buchi) a made → Step (Bring form.Buchi) a made
buchi_step a made f m =
    let is : made ≡ buchi a = m.makes in
    let few = few_states a (m.within limit.Terms) (m.within limit.BuchiStates) in
    let states : made.states ≡ (buchi a).states = ap (λ (z : Automaton). z.states) is in
    let sets : made.sets ≡ 1 = ap (λ (z : Automaton). z.sets) is in
    record {
      is = buchi_made a made (m.within limit.Terms) few is (subst (λ (z : Automaton). AcceptTheSame z a) (sym is) (buchi_accepts_the_same a f.formed));
      fine = record {
        formed = subst IsWellFormed (sym is) (buchi_formed a f.formed);
        names = subst (λ ns. length ns ≤ MOST_NAMES) (sym (ap (λ (z : Automaton). z.names) is ∙ buchi_names a)) f.names;
        size = record { states = omega (arith, states, states_are a, few); sets = omega (arith, sets) };
      };
    }

pub fin_step : (a made : Automaton) → IsFine IsOfComplementSize a → MakesWithin (Bring form.RemoveFin) a made → Step (Bring form.RemoveFin) a made
fin_step a made f m = elim (cases_Bool (has_fin a.formula)) [
  | inl has ↦ (
      let is : made ≡ copied a = m.makes ∙ ap (λ (b : Bool). cond b (copied a) a) has in
      let few : HasTooManyTerms a → ⊥ = λ many. m.within limit.Terms (refl, has, many) in
      record {
        is = copies_made a made has few is (subst (λ (z : Automaton). AcceptTheSame z a) (sym is) (copied_accepts_the_same a f.formed));
        fine = record {
          formed = subst IsWellFormed (sym m.makes) (without_fin_formed a f.formed);
          names = subst (λ (z : Automaton). length z.names ≤ MOST_NAMES) (sym is) f.names;
          size = fin_room a made few is f.size;
        };
      }
      )
  | inr none ↦ (
      let is : made ≡ a = m.makes ∙ ap (λ (b : Bool). cond b (copied a) a) none in
      subst (Step (Bring form.RemoveFin) a) (sym is) (record { is = fin_itself a none; fine = itself_fine a f })
      )
]

pub dnf_step : (a made : Automaton) → IsFine IsOfComplementSize a → MakesWithin (Bring form.Dnf) a made → Step (Bring form.Dnf) a made
dnf_step a made f m =
    let is : made ≡ record a { formula = of_terms (terms a.formula) } = m.makes in
    let whole = itself_fine a f in
    record {
      is = dnf_made a made (λ many. m.within limit.Terms (refl, many)) is (subst (λ (z : Automaton). AcceptTheSame z a) (sym is) (disjunctive_accepts a));
      fine = subst (IsFine HasRoom) (sym is) (record {
        formed = disjunctive_formed a f.formed;
        names = f.names;
        size = record { states = whole.size.states; sets = whole.size.sets };
      });
    }

-- ---- completion

pub complete_step : (a made : Automaton) → IsFine HasRoom a → MakesWithin Complete a made → Step Complete a made
complete_step a made f m =
    let is : made ≡ completed a = m.makes in
    let states : made.states ≡ (completed a).states = ap (λ (z : Automaton). z.states) is in
    let sets : made.sets ≡ (completed a).sets = ap (λ (z : Automaton). z.sets) is in
    record {
      is = complete_made a made f.formed is (subst IsComplete (sym is) (completed_complete a f.formed)) (λ det. subst IsDeterministic (sym is) (completed_deterministic a f.formed det))
          (subst (λ (z : Automaton). AcceptTheSame z a) (sym is) (completed_accepts a f.formed));
      fine = record {
        formed = subst IsWellFormed (sym is) (completed_formed a f.formed);
        names = subst (λ ns. length ns ≤ MOST_NAMES) (sym (ap (λ (z : Automaton). z.names) is ∙ completed_names a f.formed)) f.names;
        size = record { states = omega (arith, states, completed_states a, f.size.states); sets = omega (arith, sets, completed_sets a, f.size.sets) };
      };
    }
