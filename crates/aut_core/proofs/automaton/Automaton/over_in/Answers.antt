use Rattle.std.proofs.Common.{◌∙◌, ◌≤◌, List, ℕ, All, Contains, ap, length, subst, sym}
use Rattle.std.proofs.lemmas.Result.{IfOk-weaker}
use Rattle.aut_base.specs.declared.limit.TheConstants.{MOST_NAMES}
use Rattle.aut_core.specs.SymbolicAutomata.{SymbolicAutomaton, automaton_of}
use Rattle.aut_core.specs.Links.{StandFor}
use Rattle.aut_core.specs.OtherNames.{over_names}
use Rattle.aut_core.proofs.OtherNames.{over_accepts_the_same}
use Rattle.label_guards.specs.Store.{Keeps}
use Rattle.aut_core.proofs.Relabelled.{relabelled_is}
use Rattle.aut_core.proofs.automaton.Automaton.over_in.Goals as goal

pub places_in-requires-clause-has : goal.places_in-requires-clause-has
places_in-requires-clause-has c = subst (λ (ns : List (List ℕ)). All (Contains c.args.names.now) ns) (sym c.names.ensures) c.requires.has

pub links_over-requires-clause-names : goal.links_over-requires-clause-names
links_over-requires-clause-names c = (sym c.requires.store, c.as_slice-distinct.ensures.distinct)

pub relabelled-requires-clause-has : goal.relabelled-requires-clause-has
relabelled-requires-clause-has c = subst (λ (ns : List (List ℕ)). All (Contains ns) c.args.self.now.names) (sym c.in_ok-copy_names.ensures) c.requires.has

pub relabelled-requires-clause-few : goal.relabelled-requires-clause-few
relabelled-requires-clause-few c = subst (λ (ns : List (List ℕ)). length ns ≤ MOST_NAMES) (sym c.in_ok-copy_names.ensures) c.requires.few

pub relabelled-requires-clause-count : goal.relabelled-requires-clause-count
relabelled-requires-clause-count c = c.links_over.ensures.keeps.names ∙ (c.requires.store ∙ ap length (sym c.in_ok-copy_names.ensures))

pub relabelled-requires-clause-edges : goal.relabelled-requires-clause-edges
relabelled-requires-clause-edges c = subst (λ (ns : List (List ℕ)). StandFor c.links_over.new.guards c.in_ok-links.links (over_names ns (automaton_of c.args.self.now)).edges)
    (sym c.in_ok-copy_names.ensures) c.in_ok-links.ensures.edges

pub returns-clause-over : goal.returns-clause-over
returns-clause-over c =
    let same = relabelled_is c.args.self.now c.args.names.now c.in_ok-copy_names.field-0 c.links_over.new.guards c.in_ok-links.links c.in_ok-copy_names.ensures c.in_ok-links.ensures.edges in
    IfOk-weaker c.relabelled.result _ _ (λ made e. ap automaton_of e ∙ same) c.relabelled.ensures

pub returns-clause-accepts : goal.returns-clause-accepts
returns-clause-accepts c =
    let same = relabelled_is c.args.self.now c.args.names.now c.in_ok-copy_names.field-0 c.links_over.new.guards c.in_ok-links.links c.in_ok-copy_names.ensures c.in_ok-links.ensures.edges in
    IfOk-weaker c.relabelled.result _ _ (λ made e. over_accepts_the_same c.args.self.now made c.args.names.now c.well_formedness.ensures
    (record { differ = c.as_slice-distinct.ensures.distinct; has = c.requires.has }) (ap automaton_of e ∙ same)) c.relabelled.ensures

pub returns-clause-keeps : goal.returns-clause-keeps
returns-clause-keeps c = IfOk-weaker c.relabelled.result _ _ (λ made e. subst (λ (x : SymbolicAutomaton). Keeps c.args.guards x.store) (sym e) c.links_over.ensures.keeps) c.relabelled.ensures
