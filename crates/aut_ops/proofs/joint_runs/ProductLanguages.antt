-- Products accept the intersection, or the union, of the languages.
use Rattle.std.proofs.Common.{◌≡◌, ◌∙◌, ◌⊎◌, ℕ, List, inl, inr, sym}
use Rattle.std.proofs.lemmas.Bool.{and_from, and_parts, or_cases, or_left, or_right}
use Rattle.acc_forms.proofs.JoinLaws.{met-conj, met-disj}
use Rattle.acc_forms.specs.Joined.{conj, disj}
use Rattle.acc_forms.specs.Shift.{shift}
use Rattle.aut_base.specs.Acceptance.{Accepts}
use Rattle.aut_base.specs.Automaton.{Automaton, IsWellFormed}
use Rattle.aut_base.specs.Formula.{met}
use Rattle.aut_base.specs.Word.{NameSet}
use Rattle.aut_base.proofs.runs.LassoRuns.{accepts_of, marks_of, run_of}
use Rattle.aut_base.specs.Runs.{HasRuns}
use Rattle.aut_ops.proofs.joint_runs.ProductRuns.{join_runs, part_runs}
use Rattle.aut_ops.specs.Languages.{AcceptsBoth, AcceptsEither}
use Rattle.aut_ops.specs.Products.{ArePairs, product_on}

module _ (a b : Automaton) (names : b.names ≡ a.names) (formed : IsWellFormed a) (also : IsWellFormed b) (pairs : List (ℕ × ℕ)) (listed : ArePairs a b pairs) where
  abbrev all : Automaton
  all = product_on conj pairs a b

  from_all : (u v : List NameSet) → Accepts all u v → Accepts a u v × Accepts b u v
  from_all u v r =
      let parts = part_runs conj a b names formed also pairs listed u v r.stem_rounds r.cycle_rounds (run_of all u v r) in
      let both = and_parts (met (marks_of r.cycle) a.formula) (met (marks_of r.cycle) (shift a.sets b.formula)) (sym (met-conj (marks_of r.cycle) a.formula (shift a.sets b.formula)) ∙ r.meets) in (
        accepts_of a u v r.stem_rounds r.cycle_rounds parts.first_run r.endless r.positive (sym (parts.first a.formula formed.formula) ∙ both.0),
        accepts_of b u v r.stem_rounds r.cycle_rounds parts.second_run r.endless r.positive (sym (parts.second b.formula also.formula) ∙ both.1),
      )

  to_all : (u v : List NameSet) → Accepts a u v → Accepts b u v → Accepts all u v
  to_all u v r s =
      let at = join_runs conj a b names formed also pairs listed u v r.stem_rounds r.cycle_rounds s.stem_rounds s.cycle_rounds (run_of a u v r) (run_of b u v s) r.positive s.positive in
      let cycle = marks_of at.joint.run.cycle in
      accepts_of all u v at.stem_rounds at.cycle_rounds at.joint.run r.endless at.positive
      (met-conj cycle a.formula (shift a.sets b.formula)
      ∙ and_from (met cycle a.formula) (met cycle (shift a.sets b.formula)) (at.joint.first a.formula formed.formula ∙ r.meets) (at.joint.second b.formula also.formula ∙ s.meets))

  pub product_accepts : AcceptsBoth all a b
  product_accepts u v = (from_all u v, λ both. to_all u v both.0 both.1)

  -- the union, where one of the two conditions has to be met

  abbrev any : Automaton
  any = product_on disj pairs a b

  from_any : (u v : List NameSet) → Accepts any u v → Accepts a u v ⊎ Accepts b u v
  from_any u v r =
      let parts = part_runs disj a b names formed also pairs listed u v r.stem_rounds r.cycle_rounds (run_of any u v r) in
      elim (or_cases (met (marks_of r.cycle) a.formula) (met (marks_of r.cycle) (shift a.sets b.formula)) (sym (met-disj (marks_of r.cycle) a.formula (shift a.sets b.formula)) ∙ r.meets)) [
        | inl one ↦ inl (accepts_of a u v r.stem_rounds r.cycle_rounds parts.first_run r.endless r.positive (sym (parts.first a.formula formed.formula) ∙ one))
        | inr two ↦ inr (accepts_of b u v r.stem_rounds r.cycle_rounds parts.second_run r.endless r.positive (sym (parts.second b.formula also.formula) ∙ two))
      ]

  module _ (runs : HasRuns a) (others : HasRuns b) where
    by_first : (u v : List NameSet) → Accepts a u v → Accepts any u v
    by_first u v r =
        let other = others u v r.endless in
        let at = join_runs disj a b names formed also pairs listed u v r.stem_rounds r.cycle_rounds other.stem_rounds other.cycle_rounds (run_of a u v r) other.run r.positive other.positive in
        let cycle = marks_of at.joint.run.cycle in
        accepts_of any u v at.stem_rounds at.cycle_rounds at.joint.run r.endless at.positive
        (met-disj cycle a.formula (shift a.sets b.formula) ∙ or_left (met cycle a.formula) (met cycle (shift a.sets b.formula)) (at.joint.first a.formula formed.formula ∙ r.meets))

    by_second : (u v : List NameSet) → Accepts b u v → Accepts any u v
    by_second u v r =
        let other = runs u v r.endless in
        let at = join_runs disj a b names formed also pairs listed u v other.stem_rounds other.cycle_rounds r.stem_rounds r.cycle_rounds other.run (run_of b u v r) other.positive r.positive in
        let cycle = marks_of at.joint.run.cycle in
        accepts_of any u v at.stem_rounds at.cycle_rounds at.joint.run r.endless at.positive
        (met-disj cycle a.formula (shift a.sets b.formula) ∙ or_right (met cycle a.formula) (met cycle (shift a.sets b.formula)) (at.joint.second b.formula also.formula ∙ r.meets))

    pub product_or_accepts : AcceptsEither any a b
    product_or_accepts u v = (from_any u v, λ either. elim either [ inl r ↦ by_first u v r | inr r ↦ by_second u v r ])
