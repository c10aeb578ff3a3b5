use Rattle.std.proofs.Common.{◌∙◌, subst, sym}
use Rattle.std.proofs.lemmas.Result.{IfOk-weaker}
use Rattle.aut_base.specs.Automaton.{automaton}
use Rattle.aut_core.specs.SymbolicAutomata.{SymbolicAutomaton, automaton_of}
use Rattle.aut_core.specs.OtherNames.{AcceptTheSame}
use Rattle.aut_core.proofs.OfDescription.{are_of, described, described_accepts, described_parts, labels_below}
use Rattle.aut_core.proofs.automaton.Automaton.from_description.Goals as goal

pub guarded-requires : goal.guarded-requires
guarded-requires c = labels_below c.args.d.now c.in_ok-guards.guards.names c.as_slice.result.now c.requires.well_formed (c.in_ok-guards.ensures.names ∙ c.len.ensures) c.as_slice.ensures

pub from_parts-requires : goal.from_parts-requires
from_parts-requires c =
    let of = are_of c.args.d.now _ _ _ _ _ c.in_ok-guards.guards c.guarded.new.guards c.in_ok-names.ensures c.in_ok-starts.ensures c.in_ok-formula.ensures
    (c.in_ok-guards.ensures.names ∙ c.len.ensures) c.as_slice.ensures c.guarded.ensures.names c.in_ok-links.ensures.has c.in_ok-links.ensures.edges in
    described_parts c.args.d.now _ c.requires.few c.requires.well_formed of

pub returns-clause-canonical : goal.returns-clause-canonical
returns-clause-canonical c =
    let of = are_of c.args.d.now _ _ _ _ _ c.in_ok-guards.guards c.guarded.new.guards c.in_ok-names.ensures c.in_ok-starts.ensures c.in_ok-formula.ensures
    (c.in_ok-guards.ensures.names ∙ c.len.ensures) c.as_slice.ensures c.guarded.ensures.names c.in_ok-links.ensures.has c.in_ok-links.ensures.edges in
    IfOk-weaker c.from_parts.result _ _ (λ made e. (λ i. automaton_of (e i)) ∙ described c.args.d.now _ of) c.from_parts.ensures

pub returns-clause-accepts : goal.returns-clause-accepts
returns-clause-accepts c =
    let of = are_of c.args.d.now _ _ _ _ _ c.in_ok-guards.guards c.guarded.new.guards c.in_ok-names.ensures c.in_ok-starts.ensures c.in_ok-formula.ensures
    (c.in_ok-guards.ensures.names ∙ c.len.ensures) c.as_slice.ensures c.guarded.ensures.names c.in_ok-links.ensures.has c.in_ok-links.ensures.edges in
    IfOk-weaker c.from_parts.result _ _ (λ made e. subst (λ (core : SymbolicAutomaton). AcceptTheSame (automaton_of core) (automaton c.args.d.now)) (sym e)
    (described_accepts c.args.d.now _ c.requires.well_formed of)) c.from_parts.ensures
