-- The links of a sum are the edges of the definition.
use Rattle.std.proofs.Common.{◌≡◌, ◌∙◌, ◌+◌, ◌++◌, ℕ, false, List, [], ap, map, subst, sym}
use Rattle.std.proofs.lemmas.List.Elements.{All-map}
use Rattle.std.proofs.lemmas.Simd.{map-map}
use Rattle.acc_forms.specs.Joined.{conj, disj}
use Rattle.acc_forms.specs.Shift.{shift}
use Rattle.aut_base.specs.Automaton.{LabelledEdge}
use Rattle.aut_base.specs.Formula.{Fin, FormulaTree, Inf}
use Rattle.aut_core.proofs.Following.{stand_append, stand_itself, stand_kept}
use Rattle.aut_core.specs.Links.{StandFor}
use Rattle.aut_core.specs.SymbolicAutomata.{AreSymbolicParts, SymbolicAutomaton, IsWellFormedSymbolic, automaton_of, edge_of}
use Rattle.aut_core.specs.declared.link.Link.{Link}
use Rattle.label_guards.specs.Store.{Has, Keeps, Store}
use Rattle.aut_ops.proofs.sinks.FilledStates.{links_have}
use Rattle.aut_ops.proofs.links.Linked.{parts_for}
use Rattle.aut_ops.proofs.following.SumRuns.{sum_formed}
use Rattle.aut_ops.specs.Sums.{moved_edge, side_by_side}
use Rattle.aut_ops.specs.inner.Linked.{moved_link}

pub stand_moved : (s : Store) (states sets fresh : ℕ) (links : List Link) (es : List LabelledEdge) → StandFor s links es
    → StandFor s (map (moved_link states sets fresh) links) (map (moved_edge states sets fresh) es)
stand_moved s states sets fresh links es so_far = record {
  has = All-map (λ (l : Link). Has s l.guard) (moved_link states sets fresh) links so_far.has;
  edges = map-map (edge_of s) (moved_link states sets fresh) links ∙ (sym (map-map (moved_edge states sets fresh) (edge_of s) links) ∙ ap (map (moved_edge states sets fresh)) so_far.edges);
}

-- the parts of the sum of two automata
pub record IsSide (a b c : SymbolicAutomaton) : Type 0 where
  pub is : automaton_of c ≡ side_by_side (automaton_of a) (automaton_of b)
  pub parts : AreSymbolicParts c

pub side : (a b : SymbolicAutomaton) (t : Store) (names : List (List ℕ)) (starts : List ℕ) (states others sets seconds : ℕ) (none first firsts new seconds_links : List Link)
    (formula f g : FormulaTree)
    → IsWellFormedSymbolic a → IsWellFormedSymbolic b → b.names ≡ a.names → Keeps b.store a.store
    → t ≡ a.store → names ≡ a.names → starts ≡ a.starts ++ map (λ p. p + states) b.starts → states ≡ a.states → others ≡ b.states → sets ≡ a.sets → seconds ≡ b.sets
    → none ≡ [] → firsts ≡ a.links → first ≡ none ++ firsts → seconds_links ≡ b.links → new ≡ first ++ map (moved_link states sets (sets + seconds)) seconds_links
    → f ≡ a.formula → g ≡ b.formula → formula ≡ disj (conj f (Fin (sets + seconds) false)) (conj (shift sets g) (Inf (sets + seconds) false))
    → IsSide a b (record { names = names; starts = starts; states = states + others; links = new; sets = sets + seconds + 1; formula = formula; store = t })
side a b t names starts states others sets seconds none first firsts new seconds_links formula f g core_a core_b joined keeps same_store same_names same_starts at at_b sets_are seconds_are
    empty firsts_are begun seconds_links_are moved f_is g_is made =
    let whole : new ≡ a.links ++ map (moved_link a.states a.sets (a.sets + b.sets)) b.links =
    moved ∙ ((λ i. first ++ map (moved_link (at i) (sets_are i) (sets_are i + seconds_are i)) (seconds_links_are i))
    ∙ ap (λ (ls : List Link). ls ++ map (moved_link a.states a.sets (a.sets + b.sets)) b.links) (begun ∙ (ap (λ (ls : List Link). ls ++ firsts) empty ∙ firsts_are))) in
    let stand = stand_append a.store a.links (map (moved_link a.states a.sets (a.sets + b.sets)) b.links) new (automaton_of a).edges
    (map (moved_edge a.states a.sets (a.sets + b.sets)) (automaton_of b).edges)
    (stand_itself a.store a.links (links_have a core_a))
    (stand_moved a.store a.states a.sets (a.sets + b.sets) b.links (automaton_of b).edges
    (stand_kept b.store a.store b.links (automaton_of b).edges keeps (stand_itself b.store b.links (links_have b core_b)))) whole in
    let there = subst (λ (s : Store). StandFor s new (side_by_side (automaton_of a) (automaton_of b)).edges) (sym same_store) stand in
    let core : SymbolicAutomaton = record { names = names; starts = starts; states = states + others; links = new; sets = sets + seconds + 1; formula = formula; store = t } in
    let is : automaton_of core ≡ side_by_side (automaton_of a) (automaton_of b) = λ i. record {
      names = same_names i;
      starts = (same_starts ∙ (λ j. a.starts ++ map (λ p. p + at j) b.starts)) i;
      states = at i + at_b i;
      edges = there.edges i;
      sets = sets_are i + seconds_are i + 1;
      formula = (made ∙ (λ j. disj (conj (f_is j) (Fin (sets_are j + seconds_are j) false)) (conj (shift (sets_are j) (g_is j)) (Inf (sets_are j + seconds_are j) false)))) i;
    } in
    record {
      is = is;
      parts = parts_for core (side_by_side (automaton_of a) (automaton_of b)) is (sum_formed (automaton_of a) (automaton_of b) joined core_a.well_formed core_b.well_formed) core_a.parts.few
          (ap (λ (s : Store). s.names) same_store ∙ core_a.parts.store_names) there.has;
    }
