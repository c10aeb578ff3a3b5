-- A deterministic complete automaton, and the one with the dual condition: each lasso word is accepted by exactly one of
-- the two.
use Rattle.std.proofs.Common.{◌≡◌, ◌∙◌, ◌+◌, ◌*◌, ◌<◌, ◌⊎◌, ℕ, true, not, List, [], ◌∷◌, ◌++◌, Contains, ap, arith, inl, inr, length, refl, slice_index_or, subst, sym}
use Rattle.std.proofs.lemmas.Bool.{cases_Bool, not-true, true≢false}
use Rattle.std.proofs.lemmas.List.Elements.{All-contains, Contains-get_or}
use Rattle.std.proofs.Math.Nat.{mul_comm}
use Rattle.aut_base.proofs.runs.LassoRuns.{accepts_of, later, marks_of, run_of}
use Rattle.aut_base.proofs.runs.OtherEdges.{run_wider}
use Rattle.aut_base.proofs.runs.Paths.{path_join}
use Rattle.aut_base.specs.Acceptance.{Accepts, IsPath}
use Rattle.aut_base.specs.Automaton.{Automaton, IsEdgeOf, LabelledEdge}
use Rattle.aut_base.specs.Formula.{FormulaTree, met}
use Rattle.aut_base.specs.Runs.{LassoRun}
use Rattle.aut_base.specs.Word.{NameSet, copies}
use Rattle.acc_forms.proofs.DualLaw.{met-dual}
use Rattle.acc_forms.specs.Dual.{dual}
use Rattle.aut_core.specs.Deterministic.{IsDeterministic}
use Rattle.parity_laws.proofs.runs.OnePath.{one_start, same_path}
use Rattle.parity_laws.proofs.runs.Runs.{IsClosed, closes, run}
use Rattle.parity_laws.specs.Complement.{AreComplementLanguages, ComplementsOfTheSame, DualIsComplement, dualised}

opposite : (cycle : List (List ℕ)) (f : FormulaTree) → met cycle f ≡ true → met cycle (dual f) ≡ true → ⊥
opposite cycle f one two = true≢false (sym one ∙ not-true (met cycle f) (sym (met-dual cycle f) ∙ two))

-- two runs over one lasso word, taken to the same turns and rounds, have the same cycle
one_cycle : (d : Automaton) → IsDeterministic d → (u v : List NameSet) (stem_rounds cycle_rounds : ℕ) (first second : LassoRun d u v stem_rounds cycle_rounds) → first.cycle ≡ second.cycle
one_cycle d det u v stem_rounds cycle_rounds first second =
    let w = u ++ copies stem_rounds v in
    let c = copies cycle_rounds v in
    let start : second.start ≡ first.start = one_start d det second.start first.start second.is_start first.is_start in
    let leads : IsPath d first.start w second.path_edges second.state = subst (λ s. IsPath d s w second.path_edges second.state) start second.leads in
    let ends = (same_path d det first.start first.state second.state w first.path_edges second.path_edges first.leads leads).ends in
    let returns : IsPath d first.state c second.cycle second.state = subst (λ s. IsPath d s c second.cycle second.state) (sym ends) second.returns in
    (same_path d det first.state first.state second.state c first.cycle second.cycle first.returns returns).edges

-- a run of the automaton with the dual condition is one of the automaton
abbrev own_run : (d : Automaton) (u v : List NameSet) (a : Accepts (dualised d) u v) → LassoRun d u v a.stem_rounds a.cycle_rounds
own_run d u v a = run_wider (dualised d) d u v refl (λ e there. there) a.stem_rounds a.cycle_rounds (run_of (dualised d) u v a) a.is_start

pub never_both : (d : Automaton) → IsDeterministic d → (u v : List NameSet) → Accepts d u v → Accepts (dualised d) u v → ⊥
never_both d det u v one two =
    let mine = later d u v one.stem_rounds one.cycle_rounds two.stem_rounds two.cycle_rounds (run_of d u v one) one.positive two.positive in
    let other = later d u v two.stem_rounds two.cycle_rounds one.stem_rounds one.cycle_rounds (own_run d u v two) two.positive one.positive in
    let stem_rounds : two.stem_rounds + one.stem_rounds ≡ one.stem_rounds + two.stem_rounds = omega arith in
    let cycle_rounds : one.cycle_rounds * two.cycle_rounds ≡ two.cycle_rounds * one.cycle_rounds = mul_comm one.cycle_rounds two.cycle_rounds in
    let k = one.stem_rounds + two.stem_rounds in
    let m = two.cycle_rounds * one.cycle_rounds in
    let second : LassoRun d u v k m = record {
      start = other.run.start;
      state = other.run.state;
      path_edges = other.run.path_edges;
      cycle = other.run.cycle;
      is_start = other.run.is_start;
      leads = subst (λ i. IsPath d other.run.start (u ++ copies i v) other.run.path_edges other.run.state) stem_rounds other.run.leads;
      returns = subst (λ i. IsPath d other.run.state (copies i v) other.run.cycle other.run.state) cycle_rounds other.run.returns;
    } in
    let cycles : mine.run.cycle ≡ other.run.cycle = one_cycle d det u v k m mine.run second in
    let meets : met (marks_of mine.run.cycle) d.formula ≡ true = mine.alike d.formula ∙ one.meets in
    opposite (marks_of mine.run.cycle) d.formula meets (ap (λ es. met (marks_of es) (dual d.formula)) cycles ∙ (other.alike (dual d.formula) ∙ two.meets))

pub one_of_the_two : (d : Automaton) (size start : ℕ) → IsClosed d size → Contains d.starts start → start < size → (u v : List NameSet) → 0 < length v → Accepts d u v ⊎ Accepts (dualised d) u v
one_of_the_two d size start closed is_start below u v endless =
    let begun = run d size closed start below u in
    let c = closes d size closed begun.stop begun.below v in
    let path_edges = begun.path_edges ++ c.path_edges in
    let to : LassoRun d u v c.before c.more = record {
      start = start;
      state = c.state;
      path_edges = path_edges;
      cycle = c.cycle;
      is_start = is_start;
      leads = path_join d start begun.stop c.state u (copies c.before v) begun.path_edges c.path_edges begun.leads c.leads;
      returns = c.returns;
    } in
    elim (cases_Bool (met (marks_of c.cycle) d.formula)) [
      | inl meets ↦ inl (accepts_of d u v c.before c.more to endless c.positive meets)
      | inr fails ↦ inr (accepts_of (dualised d) u v c.before c.more (run_wider d (dualised d) u v refl (λ e there. there) c.before c.more to is_start) endless c.positive
          (met-dual (marks_of c.cycle) d.formula ∙ ap not fails))
    ]

pub complements : (a made : Automaton) → ((u v : List NameSet) → 0 < length v → Accepts a u v ⊎ Accepts made u v)
    → ((u v : List NameSet) → Accepts a u v → Accepts made u v → ⊥) → AreComplementLanguages a made
complements a made one never = record {
  one = one;
  never_both = never;
  exactly = λ u v endless. ((λ other own. never u v own other), (λ none. elim (one u v endless) [ inl own ↦ absurd (none own) | inr other ↦ other ]));
}

pub complements_of_the_same : ComplementsOfTheSame
complements_of_the_same a b made same of_b = complements a made
    (λ u v endless. elim (of_b.one u v endless) [ inl own ↦ inl ((same u v).0 own) | inr other ↦ inr other ])
    (λ u v own other. of_b.never_both u v ((same u v).1 own) other)

pub dual_is_complement : DualIsComplement
dual_is_complement a formed det complete =
    let start : Contains a.starts (slice_index_or a.starts 0 0) = Contains-get_or a.starts 0 0 complete.start in
    let closed : IsClosed a a.states = record {
      total = λ i x less. complete.edges i less x;
      within = λ e x there meets. (All-contains (IsEdgeOf a) a.edges e formed.edges there).to;
    } in
    let below = All-contains (λ q. q < a.states) a.starts (slice_index_or a.starts 0 0) formed.starts start in
    complements a (dualised a) (one_of_the_two a a.states (slice_index_or a.starts 0 0) closed start below) (never_both a det)
