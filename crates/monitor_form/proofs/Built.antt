-- The automaton that is made of the sets and edges that were found.
use Rattle.std.proofs.Common.{◌≡◌, ◌<◌, ℕ, All, List, [], ◌∷◌, arith, length, map, refl, subst, sym}
use Rattle.std.specs.Cmp.Lexicographic.{pointwise}
use Rattle.std.specs.List.{range_with_len}
use Rattle.std.specs.Prelude.{⊤, nat_eq}
use Rattle.aut_base.proofs.lists.Members.{each_there, from_filter, from_range}
use Rattle.aut_base.specs.Formula.{FormulaTree, SetsBelow}
use Rattle.aut_base.specs.Marks.{is_in}
use Rattle.aut_base.specs.declared.limit.TheConstants.{MOST_SUBSETS}
use Rattle.aut_core.proofs.Growth.{keeps_none}
use Rattle.aut_core.specs.SymbolicAutomata.{AreSymbolicParts, SymbolicAutomaton, IsWellFormedSymbolic, automaton_of}
use Rattle.exploration.specs.Explorations.{IsSound, transition_of}
use Rattle.exploration.specs.Reached.{IsExplored}
use Rattle.exploration.specs.declared.exploration.Edge.{Edge}
use Rattle.label_guards.specs.Store.{Keeps, Store}
use Rattle.label_guards.specs.declared.guard.Guard.{Guard}
use Rattle.letter_classes.proofs.ClassForms.{edges_are, parts_are}
use Rattle.letter_classes.specs.ClassForms.{form_of, link_of}
use Rattle.letter_classes.specs.SetClasses.{FitsStore, IsClassGuard}
use Rattle.monitor_form.specs.Monitors.{first_places}
use Rattle.monitor_form.specs.Subsets.{monitor_on, start_set, subset_moves}

first_place : (ss : List ℕ) → 0 < length ss → 0 ∷ [] ≡ first_places ss
first_place [] some = absurd (omega (arith, some))
first_place (s ∷ ss) some = refl

module _ (b : SymbolicAutomaton) (core : IsWellFormedSymbolic b) (s : Store) (keeps : Keeps b.store s) (sets : List (List ℕ)) (edges : List (Edge Guard ⊤))
    (is : IsExplored (pointwise nat_eq) (subset_moves (automaton_of b)) (start_set (automaton_of b)) sets (map transition_of edges))
    (sound : IsSound (FitsStore b s) (IsClassGuard b s) (λ _ _ _. ⊤) MOST_SUBSETS sets edges) where
  abbrev no_marks : ⊤ → List ℕ
  no_marks output = []

  -- the condition is `t`, however it is made
  module _ (formula : FormulaTree) (always : formula ≡ FormulaTree.True) where
    abbrev made : SymbolicAutomaton
    made = form_of b s (length sets) (map (link_of no_marks) edges) 0 formula

    pub made_parts : AreSymbolicParts made
    made_parts = parts_are (λ (set : List ℕ). set) (λ _ _ _. ⊤) b core s keeps (pointwise nat_eq) (subset_moves (automaton_of b)) (start_set (automaton_of b)) MOST_SUBSETS sets edges is sound
        no_marks 0 formula (λ e there k d within. absurd (omega (arith, within))) (subst (SetsBelow 0) (sym always) tt)

    pub made_monitor : 0 < length b.starts → automaton_of made ≡ monitor_on sets (map transition_of edges) (automaton_of b)
    made_monitor some = λ j. record {
      names = b.names;
      starts = first_place b.starts some j;
      states = length sets;
      edges = edges_are (λ (set : List ℕ). set) (λ _ _ _. ⊤) b core s keeps (pointwise nat_eq) (subset_moves (automaton_of b)) (start_set (automaton_of b)) MOST_SUBSETS sets edges is sound
          no_marks [] (λ set v. []) (λ e c. refl) j;
      sets = 0;
      formula = always j;
    }

-- the store has what classes of the set of the starts are made from
pub start_fits : (b : SymbolicAutomaton) (s : Store) (set : List ℕ) → s ≡ b.store → set ≡ start_set (automaton_of b) → FitsStore b s set
start_fits b s set e f = record {
  states = subst (All (λ q. q < b.states)) (sym f) (each_there (λ q. q < b.states) (start_set (automaton_of b)) (λ q there.
      let kept = from_filter (λ p. is_in p b.starts) (range_with_len 0 b.states) q there in
      let bounds = from_range 0 b.states q kept.0 in omega (arith, bounds.1)));
  keeps = subst (Keeps b.store) (sym e) (keeps_none b.store);
}
