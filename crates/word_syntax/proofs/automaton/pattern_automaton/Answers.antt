use Rattle.std.proofs.Common.{arith, subst, sym}
use Rattle.std.proofs.lemmas.List.{length-map}
use Rattle.aut_base.specs.Automaton.{Automaton, IsWellFormed, automaton}
use Rattle.aut_base.specs.Label.{label_tree}
use Rattle.aut_core.specs.SymbolicAutomata.{automaton_of}
use Rattle.word_syntax.proofs.matching.PatternEdges.{pattern_well_formed, together}
use Rattle.word_syntax.specs.Writing.{word_pattern}
use Rattle.word_syntax.proofs.automaton.pattern_automaton.Goals as goal

pub from_description-requires-clause-well_formed :
    goal.from_description-requires-clause-well_formed
from_description-requires-clause-well_formed c =
    let P : Automaton → Type 0 = λ x. IsWellFormed x in
    subst P (sym c.in_ok-description.ensures)
    (pattern_well_formed (word_pattern c.args.pattern.now) (omega (arith, c.args.pattern.now.goes_on, length-map c.args.pattern.now.cycle label_tree)) c.as_slice-names.ensures.distinct
    c.args.pattern.now.stem_below c.args.pattern.now.cycle_below)

pub returns-clause-accepts : goal.returns-clause-accepts
returns-clause-accepts c b = together (word_pattern c.args.pattern.now) (automaton_of c.in_ok-from_description.field-0) (automaton c.in_ok-description.description) b
    (omega (arith, c.args.pattern.now.goes_on, length-map c.args.pattern.now.cycle label_tree)) c.in_ok-from_description.ensures.accepts c.in_ok-description.ensures
