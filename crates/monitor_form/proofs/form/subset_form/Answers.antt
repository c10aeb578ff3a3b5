use Rattle.std.proofs.Common.{◌∙◌, ◌<◌, ℕ, List, ap, arith, length, map, subst, sym}
use Rattle.std.proofs.lemmas.List.{map-id}
use Rattle.std.specs.Cmp.Lexicographic.{pointwise}
use Rattle.std.specs.Prelude.{⊤, nat_eq}
use Rattle.aut_base.proofs.Outcomes.{some_in}
use Rattle.aut_base.specs.declared.limit.TheConstants.{MOST_SUBSETS}
use Rattle.aut_core.specs.SymbolicAutomata.{SymbolicAutomaton, automaton_of}
use Rattle.exploration.specs.Explorations.{IsSound, transition_of}
use Rattle.exploration.specs.Reached.{IsExplored}
use Rattle.exploration.specs.Turns.{EndsWith}
use Rattle.monitor_form.proofs.Built.{start_fits}
use Rattle.label_guards.specs.Store.{Keeps, Store}
use Rattle.monitor_form.specs.Subsets.{subset_moves, subset_rules}
use Rattle.letter_classes.specs.SetClasses.{FitsStore, IsClassGuard}
use Rattle.monitor_form.proofs.form.subset_form.Goals as goal

pub explore-requires-clause-fits : goal.explore-requires-clause-fits
explore-requires-clause-fits c =
    start_fits c.args.b.now c.new-store.result c.in_ok-start.start (c.new-store.ensures ∙ (c.in_ok-copy.ensures ∙ c.guards.ensures)) c.in_ok-start.ensures

pub built-requires-clause-keeps : goal.built-requires-clause-keeps
built-requires-clause-keeps c =
    let fits = start_fits c.args.b.now c.new-store.result c.in_ok-start.start (c.new-store.ensures ∙ (c.in_ok-copy.ensures ∙ c.guards.ensures)) c.in_ok-start.ensures in
    let kept : FitsStore c.explore.new.system.automaton.now c.explore.new.system.guards c.in_ok-start.start = c.in-Ok.ensures.keeps.fits c.in_ok-start.start fits in
    subst (Keeps c.args.b.now.store) (sym c.into_guards.ensures) (subst (λ (core : SymbolicAutomaton). Keeps core.store c.explore.new.system.guards) c.in-Ok.ensures.frame kept.keeps)

pub built-requires-clause-explored : goal.built-requires-clause-explored
built-requires-clause-explored c =
    let b = automaton_of c.args.b.now in
    let sets = c.in-Ok.found.states.items in
    let transitions = map transition_of c.in-Ok.found.edges.items in
    subst (λ (start : List ℕ). IsExplored (pointwise nat_eq) (subset_moves b) start sets transitions) c.in_ok-start.ensures
    (subst (λ (found : List (List ℕ)). IsExplored (pointwise nat_eq) (subset_moves b) c.in_ok-start.start found transitions) (map-id sets) c.in-Ok.ensures.explored)

pub built-requires-clause-sound : goal.built-requires-clause-sound
built-requires-clause-sound c =
    let guards = c.explore.new.system.guards in
    let edges = c.in-Ok.found.edges.items in
    let sets = c.in-Ok.found.states.items in
    subst (λ (s : Store). IsSound (FitsStore c.args.b.now s) (IsClassGuard c.args.b.now s) (λ _ _ _. ⊤) MOST_SUBSETS sets edges) (sym c.into_guards.ensures)
    (subst (λ (core : SymbolicAutomaton). IsSound (FitsStore core guards) (IsClassGuard core guards) (λ _ _ _. ⊤) MOST_SUBSETS sets edges) c.in-Ok.ensures.frame
    (subst (λ (found : List (List ℕ)). IsSound (FitsStore c.explore.new.system.automaton.now guards) (IsClassGuard c.explore.new.system.automaton.now guards) (λ _ _ _. ⊤) MOST_SUBSETS found edges)
    (map-id sets) c.in-Ok.ensures.sound))

pub returns-in_ok-built-in-Ok-clause-shape : goal.returns-in_ok-built-in-Ok-clause-shape
returns-in_ok-built-in-Ok-clause-shape c =
    let b = automaton_of c.args.b.now in
    let sets = c.in-Ok.found.states.items in
    let transitions = map transition_of c.in-Ok.found.edges.items in
    let some : 0 < length c.args.b.now.starts = subst (λ xs. 0 < length xs) c.starts.ensures (some_in c.starts.result.now c.if-is_empty.ensures) in
    record {
      sets = sets;
      transitions = transitions;
      none = λ no. absurd (omega (arith, some, ap (λ (xs : List ℕ). length xs) no));
      explored = λ _. subst (λ (start : List ℕ). EndsWith (subset_rules b) start sets transitions) c.in_ok-start.ensures
          (subst (λ (found : List (List ℕ)). EndsWith (subset_rules b) c.in_ok-start.start found transitions) (map-id sets) c.in-Ok.ensures.ends);
      is = c.in_ok-built-in-Ok.ensures;
    }
