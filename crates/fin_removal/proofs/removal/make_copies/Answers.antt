use Rattle.std.proofs.Common.{◌≡◌, ◌∙◌, ◌+◌, ◌*◌, ◌^◌, ◌<◌, ◌≤◌, All, List, ap, arith, length, subst, sym}
use Rattle.std.specs.List.{sum_by}
use Rattle.std.proofs.lemmas.List.Elements.{All-weaker}
use Rattle.std.proofs.lemmas.Result.{IfOk-weaker}
use Rattle.acc_forms.specs.Terms.{count}
use Rattle.acc_forms.specs.declared.literal.Literal.{Literal}
use Rattle.aut_base.specs.Formula.{formula_tree}
use Rattle.aut_core.specs.SymbolicAutomata.{SymbolicAutomaton, automaton_of}
use Rattle.fin_removal.specs.Copies.{sets_of}
use Rattle.fin_removal.specs.Meeting.{literal_places}
use Rattle.fin_removal.specs.declared.term_copy.TermCopy.{TermCopy}
use Rattle.fin_removal.specs.inner.Links.{IsCopyInRange}
use Rattle.fin_removal.proofs.CopiedParts.{AreCopiedParts, are_copied, copied_parts}
use Rattle.fin_removal.proofs.TermCopies.{are_numbered, copies_sets, sets_within}
use Rattle.fin_removal.proofs.removal.make_copies.Goals.{After-all_sets}
use Rattle.fin_removal.proofs.removal.make_copies.Goals as goal

pub term_copies-requires-clause-sets : goal.term_copies-requires-clause-sets
term_copies-requires-clause-sets c = omega (arith, sets_within c.args.listed.now c.requires.few)

pub copied_links-requires : goal.copied_links-requires
copied_links-requires c =
    let n = c.args.a.now.states in
    let few : count c.args.listed.now ≤ 1024 = c.requires.few in
    let fits = subst (λ (ts : List (List Literal)). count ts ≤ 1024 → (1 + length ts) * n < 2 ^ 32) (sym c.requires.terms) c.requires.fit few in
    subst (λ (cs : List TermCopy). All (IsCopyInRange n) cs) (sym c.in_ok-copies.ensures) (are_numbered n c.args.listed.now fits (omega (arith, sets_within c.args.listed.now few)))

pub sets_owned-requires : goal.sets_owned-requires
sets_owned-requires c =
    let numbered = are_numbered 0 c.args.listed.now (omega arith) (omega (arith, sets_within c.args.listed.now c.requires.few)) in
    subst (λ (cs : List TermCopy). All (λ copy. copy.first + literal_places copy.infs < 2 ^ 32) cs) (sym c.in_ok-copies.ensures)
    (All-weaker (IsCopyInRange 0) (λ copy. copy.first + literal_places copy.infs < 2 ^ 32) (λ copy h. h.sets) _ numbered)

pub all_sets-requires : goal.all_sets-requires
all_sets-requires c =
    let sets : sum_by (λ copy. literal_places copy.infs) c.in_ok-copies.copies ≡ sum_by (λ term. sets_of term) c.args.listed.now =
    ap (λ (cs : List TermCopy). sum_by (λ copy. literal_places copy.infs) cs) c.in_ok-copies.ensures ∙ copies_sets 1 0 c.args.listed.now in
    omega (arith, sets, sets_within c.args.listed.now c.requires.few)

-- the parts that the automaton with its copies is made from
abbrev new : After-all_sets → SymbolicAutomaton
new c = record {
  names = c.in_ok-copy_names.field-0;
  starts = c.in_ok-copy_numbers.field-0;
  states = (1 + c.len.result) * c.states.result;
  links = c.in_ok-links.links;
  sets = c.all_sets.result;
  formula = formula_tree c.in_ok-formula.formula;
  store = c.in_ok-copy.field-0;
}

are : (c : After-all_sets) → AreCopiedParts c.args.a.now (new c) c.args.listed.now c.in_ok-copies.copies c.in_ok-owned.owned
are c = record {
  listed = c.requires.terms;
  made = c.in_ok-copies.ensures;
  names = c.in_ok-copy_names.ensures ∙ c.names.ensures;
  starts = c.in_ok-copy_numbers.ensures ∙ c.starts.ensures;
  states = λ i. (1 + c.len.ensures i) * c.states.ensures i;
  store = c.in_ok-copy.ensures ∙ c.guards.ensures;
  has = c.in_ok-links.ensures.has;
  edges = c.in_ok-links.ensures.edges;
  count = c.all_sets.ensures;
  owned = c.in_ok-owned.ensures;
  formula = c.in_ok-formula.ensures.tree;
}

pub from_parts-requires : goal.from_parts-requires
from_parts-requires c =
    let at = (goal.at.from_parts-requires c).After-all_sets in
    copied_parts c.args.a.now (new at) c.args.listed.now c.in_ok-copies.copies c.in_ok-owned.owned c.well_formedness.ensures (are at)

pub returns : goal.returns
returns c =
    let at = (goal.at.returns c).After-all_sets in
    let same = are_copied c.args.a.now (new at) c.args.listed.now c.in_ok-copies.copies c.in_ok-owned.owned (are at) in
    IfOk-weaker c.from_parts.result _ _ (λ made e. ap automaton_of e ∙ same) c.from_parts.ensures
