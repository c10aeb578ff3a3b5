use Rattle.std.proofs.Common.{◌≡◌, ◌∙◌, List, [], ap, get_or, length, subst, sym, ℕ}
use Rattle.std.proofs.lemmas.Option.{get_or_from_slice_get, slice_get_within}
use Rattle.std.proofs.lemmas.Result.{IfOk-weaker}
use Rattle.aut_base.proofs.lists.Members.{placed_there}
use Rattle.aut_base.specs.Formula.{formula_tree}
use Rattle.aut_core.proofs.JoinedNames.{among}
use Rattle.aut_core.specs.SymbolicAutomata.{SymbolicAutomaton, automaton_of}
use Rattle.ap_project.proofs.HiddenAutomata.{hidden_edges, hidden_there, others_parts, over_others}
use Rattle.ap_project.specs.Hiding.{names_without}
use Rattle.ap_project.specs.inner.HiddenGuards.{ArePlacesOfNames}
use Rattle.ap_project.proofs.removal.without_prop.Goals.{After-sets, In_ok-names}
use Rattle.ap_project.proofs.removal.without_prop.Goals as goal

-- the names that are left
others_are : (c : In_ok-names) → c.in_ok-names.names ≡ names_without c.args.name.now c.args.a.now.names
others_are c = c.in_ok-names.ensures.others ∙ ap (names_without c.args.name.now) c.names.ensures

listed_are : (c : In_ok-names) → c.in_ok-names.names ≡ names_without (get_or c.args.a.now.names c.args.prop []) c.args.a.now.names
listed_are c = others_are c ∙ ap (λ n. names_without n c.args.a.now.names) (sym (get_or_from_slice_get c.args.a.now.names c.args.prop c.args.name.now [] c.requires))

pub hidden_links-requires-clause-prop : goal.hidden_links-requires-clause-prop
hidden_links-requires-clause-prop c = slice_get_within c.args.a.now.names c.args.prop c.args.name.now c.requires

pub hidden_links-requires-clause-names : goal.hidden_links-requires-clause-names
hidden_links-requires-clause-names c =
    c.in_ok-guards.ensures.names ∙ (c.len.ensures ∙ ap length (listed_are (goal.at.hidden_links-requires-clause-names c).In_ok-names))

pub hidden_links-requires-clause-places : goal.hidden_links-requires-clause-places
hidden_links-requires-clause-places c =
    let a = c.args.a.now in
    subst (λ (ns : List (List ℕ)). ArePlacesOfNames a.names ns c.in_ok-to.to) (listed_are (goal.at.hidden_links-requires-clause-places c).In_ok-names)
    (subst (λ (ns : List (List ℕ)). ArePlacesOfNames ns c.in_ok-names.names c.in_ok-to.to) c.names-2.ensures c.in_ok-to.ensures)

-- the parts that the automaton is made from
abbrev core : After-sets → SymbolicAutomaton
core c = record {
  names = c.in_ok-names.names;
  starts = c.in_ok-starts.starts;
  states = c.states.result;
  links = c.in_ok-links.links;
  sets = c.sets.result;
  formula = formula_tree c.in_ok-formula.formula;
  store = c.hidden_links.new.guards;
}

same : (c : After-sets) → automaton_of (core c) ≡ over_others c.args.how c.args.name.now (automaton_of c.args.a.now)
same c = λ i. record {
  names = (c.in_ok-names.ensures.others ∙ ap (names_without c.args.name.now) c.names.ensures) i;
  starts = (c.in_ok-starts.ensures ∙ c.starts.ensures) i;
  states = c.states.ensures i;
  edges = (c.in_ok-links.ensures.edges ∙ hidden_edges c.args.how c.args.name.now c.args.prop c.args.a.now c.requires) i;
  sets = c.sets.ensures i;
  formula = (c.in_ok-formula.ensures ∙ c.formula.ensures) i;
}

pub from_parts-requires : goal.from_parts-requires
from_parts-requires c =
    let at = (goal.at.from_parts-requires c).After-sets in
    let names = c.in_ok-names.ensures.others ∙ ap (names_without c.args.name.now) c.names.ensures in
    others_parts c.args.how c.args.name.now c.args.a.now (core at) c.well_formedness.ensures (same at)
    (c.in_ok-links.ensures.names ∙ (c.in_ok-guards.ensures.names ∙ (c.len.ensures ∙ ap length names)))
    c.in_ok-links.ensures.has

pub returns : goal.returns
returns c =
    let a = c.args.a.now in
    let name = c.args.name.now in
    let there = hidden_there c.args.how name (automaton_of a) (among a.names name (placed_there a.names c.args.prop name c.requires)) in
    IfOk-weaker c.from_parts.result _ _ (λ made e. ap automaton_of e ∙ (same (goal.at.returns c).After-sets ∙ sym there)) c.from_parts.ensures
