use Rattle.std.proofs.Common.{◌≡◌, ◌∙◌, ◌<◌, ◌≤◌, List, ℕ, ap, arith, length, subst, sym}
use Rattle.std.proofs.lemmas.Result.{IfOk-weaker, on_ok_weaker}
use Rattle.acc_forms.specs.Joined.{disj}
use Rattle.aut_base.specs.Automaton.{Automaton}
use Rattle.aut_base.specs.declared.limit.TheConstants.{MOST_NAMES}
use Rattle.aut_core.specs.SymbolicAutomata.{SymbolicAutomaton, automaton_of}
use Rattle.aut_core.specs.Deterministic.{IsComplete}
use Rattle.aut_core.specs.OtherNames.{AcceptTheSame, joined_names, over_names}
use Rattle.aut_ops.proofs.sinks.CompleteRuns.{complete_runs}
use Rattle.aut_ops.proofs.following.Languages.{either_like}
use Rattle.aut_ops.proofs.sinks.SinkStates.{completed_names}
use Rattle.aut_ops.specs.Completion.{completed}
use Rattle.aut_ops.specs.Products.{HasMorePairs, IsProduct, over_both}
use Rattle.aut_base.specs.declared.limit.TheConstants.{MOST_PAIRS}
use Rattle.aut_ops.proofs.products.product_or.Goals as goal

pub product_by-requires : goal.product_by-requires
product_by-requires c =
    let first = ap (λ (x : SymbolicAutomaton). x.sets) c.made_or-first.ensures ∙ ap (λ (x : Automaton). x.sets) c.in_ok-made_first.ensures.shape in
    let second = ap (λ (x : SymbolicAutomaton). x.sets) c.made_or-second.ensures ∙ ap (λ (x : Automaton). x.sets) c.in_ok-made_second.ensures.shape in
    record { sets = λ within. omega (arith, c.requires.sets, first, second) }

pub returns : goal.returns
returns c =
    let a = automaton_of c.args.a.now in
    let b = automaton_of c.args.b.now in
    let one = automaton_of c.made_or-first.result.now in
    let two = automaton_of c.made_or-second.result.now in
    let shape : one ≡ completed a = ap automaton_of c.made_or-first.ensures ∙ c.in_ok-made_first.ensures.shape in
    let shape_too : two ≡ completed b = ap automaton_of c.made_or-second.ensures ∙ c.in_ok-made_second.ensures.shape in
    let accepts = subst (λ (x : SymbolicAutomaton). AcceptTheSame (automaton_of x) a) (sym c.made_or-first.ensures) c.in_ok-made_first.ensures.accepts in
    let accepts_too = subst (λ (x : SymbolicAutomaton). AcceptTheSame (automaton_of x) b) (sym c.made_or-second.ensures) c.in_ok-made_second.ensures.accepts in
    let complete = subst (λ (x : SymbolicAutomaton). IsComplete (automaton_of x)) (sym c.made_or-first.ensures) c.in_ok-made_first.ensures.complete in
    let complete_too = subst (λ (x : SymbolicAutomaton). IsComplete (automaton_of x)) (sym c.made_or-second.ensures) c.in_ok-made_second.ensures.complete in
    let names : joined_names one.names two.names ≡ joined_names a.names b.names =
    λ i. joined_names ((ap (λ (x : Automaton). x.names) shape ∙ completed_names a c.well_formedness.ensures.well_formed) i)
    ((ap (λ (x : Automaton). x.names) shape_too ∙ completed_names b c.well_formedness-2.ensures.well_formed) i) in
    let first : over_both one two one ≡ over_both a b (completed a) = λ i. over_names (names i) (shape i) in
    let second : over_both one two two ≡ over_both a b (completed b) = λ i. over_names (names i) (shape_too i) in
    record {
      shape = IfOk-weaker c.product_by.result _ _ (λ made is. subst (λ (x : Automaton). IsProduct disj x (over_both a b (completed b)) (automaton_of made)) first
          (subst (λ (y : Automaton). IsProduct disj (over_both one two one) y (automaton_of made)) second is)) c.product_by.ensures.shape;
      accepts = IfOk-weaker c.product_by.result _ _ (λ made is. either_like (automaton_of made) one two a b accepts accepts_too
          (is (complete_runs one c.well_formedness-3.ensures.well_formed complete) (complete_runs two c.well_formedness-4.ensures.well_formed complete_too)))
          c.product_by.ensures.accepts;
      within = on_ok_weaker c.product_by.result (λ h. subst (λ (ns : List (List ℕ)). length ns ≤ MOST_NAMES) names h) c.product_by.ensures.within;
      few = c.product_by.ensures.few;
      names = λ is. subst (λ (ns : List (List ℕ)). MOST_NAMES < length ns) names (c.product_by.ensures.names is);
      names_first = λ is. subst (λ (ns : List (List ℕ)). length ns ≤ MOST_NAMES) names (c.product_by.ensures.names_first is);
      pairs = λ is. subst (λ (x : Automaton). HasMorePairs MOST_PAIRS x (over_both a b (completed b))) first
          (subst (λ (y : Automaton). HasMorePairs MOST_PAIRS (over_both one two one) y) second (c.product_by.ensures.pairs is));
    }
