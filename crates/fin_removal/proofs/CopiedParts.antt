-- The parts of the automaton that is made with its copies.
use Rattle.std.proofs.Common.{◌≡◌, ◌∙◌, ◌+◌, ◌*◌, ◌++◌, List, All, ap, arith, flat_map, length, map, subst, sym}
use Rattle.std.specs.List.{sum_by}
use Rattle.acc_forms.specs.Terms.{of_terms, terms}
use Rattle.acc_forms.specs.declared.literal.Literal.{Literal}
use Rattle.aut_base.specs.Automaton.{IsWellFormed, LabelledEdge}
use Rattle.aut_core.proofs.Made.{parts_from}
use Rattle.aut_core.specs.SymbolicAutomata.{AreSymbolicParts, SymbolicAutomaton, IsWellFormedSymbolic, automaton_of, edge_of}
use Rattle.aut_core.specs.OtherNames.{AcceptTheSame}
use Rattle.aut_core.specs.declared.link.Link.{Link}
use Rattle.label_guards.specs.Store.{Has, Store}
use Rattle.fin_removal.specs.Copies.{copied, copy_edges, main_edges, owned, owned_sets, sets_of, term_copies}
use Rattle.fin_removal.specs.Meeting.{literal_places}
use Rattle.fin_removal.specs.declared.term_copy.TermCopy.{TermCopy}
use Rattle.fin_removal.proofs.CopiedLaw.{copied_accepts_the_same}
use Rattle.fin_removal.proofs.CopiedWhole.{copied_well_formed}
use Rattle.fin_removal.proofs.TermCopies.{copies_sets}

-- what each part is
pub record AreCopiedParts (old new : SymbolicAutomaton) (ts : List (List Literal)) (copies : List TermCopy) (sets : List (List Literal)) : Type 0 where
  pub listed : ts ≡ terms old.formula
  pub made : copies ≡ term_copies ts
  pub names : new.names ≡ old.names
  pub starts : new.starts ≡ old.starts
  pub states : new.states ≡ (1 + length ts) * old.states
  pub store : new.store ≡ old.store
  pub has : All (λ (l : Link). Has old.store l.guard) new.links
  pub edges : map (edge_of old.store) new.links ≡ flat_map (main_edges old.states copies) (map (edge_of old.store) old.links) ++ flat_map
      (copy_edges old.states (map (edge_of old.store) old.links)) copies
  pub count : new.sets ≡ sum_by (λ copy. literal_places copy.infs) copies
  pub owned : sets ≡ map owned copies
  pub formula : new.formula ≡ of_terms sets

pub are_copied : (old new : SymbolicAutomaton) (ts : List (List Literal)) (copies : List TermCopy) (sets : List (List Literal)) → AreCopiedParts old new ts copies sets
    → automaton_of new ≡ copied (automaton_of old)
are_copied old new ts copies sets are =
    let its = are.made ∙ ap term_copies are.listed in
    let es : List LabelledEdge = map (edge_of old.store) old.links in
    let states : new.states ≡ (1 + length (terms old.formula)) * old.states = are.states ∙ ap (λ (us : List (List Literal)). (1 + length us) * old.states) are.listed in
    let edges : map (edge_of new.store) new.links ≡ flat_map (main_edges old.states (term_copies (terms old.formula))) es ++ flat_map (copy_edges old.states es) (term_copies (terms old.formula)) =
    ap (λ (s : Store). map (edge_of s) new.links) are.store ∙ (are.edges ∙ ap (λ (cs : List TermCopy). flat_map (main_edges old.states cs) es ++ flat_map (copy_edges old.states es) cs) its) in
    let all : new.sets ≡ sum_by sets_of (terms old.formula) = are.count ∙ (ap (λ (cs : List TermCopy). sum_by (λ copy. literal_places copy.infs) cs) its ∙ copies_sets 1 0 (terms old.formula)) in
    let formula : new.formula ≡ of_terms (owned_sets (terms old.formula)) = are.formula ∙ ap of_terms (are.owned ∙ ap (map owned) its) in
    λ i. record { names = are.names i; starts = are.starts i; states = states i; edges = edges i; sets = all i; formula = formula i }

pub copied_parts : (old new : SymbolicAutomaton) (ts : List (List Literal)) (copies : List TermCopy) (sets : List (List Literal)) → IsWellFormedSymbolic old
    → AreCopiedParts old new ts copies sets → AreSymbolicParts new
copied_parts old new ts copies sets core are =
    parts_from new (subst IsWellFormed (sym (are_copied old new ts copies sets are)) (copied_well_formed (automaton_of old) core.well_formed)) (omega (arith, core.parts.few, ap length are.names))
    (ap (λ (s : Store). s.names) are.store ∙ (core.parts.store_names ∙ sym (ap length are.names))) (subst (λ (s : Store). All (λ l. Has s l.guard) new.links) (sym are.store) are.has)

pub copied_accepts : (old new : SymbolicAutomaton) → IsWellFormedSymbolic old → automaton_of new ≡ copied (automaton_of old) → AcceptTheSame (automaton_of new) (automaton_of old)
copied_accepts old new core same = subst (λ a. AcceptTheSame a (automaton_of old)) (sym same) (copied_accepts_the_same (automaton_of old) core.well_formed)
