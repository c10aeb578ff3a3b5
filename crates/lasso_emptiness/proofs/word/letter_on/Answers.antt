use Rattle.std.proofs.Common.{ap, get_or}
use Rattle.aut_base.proofs.Outcomes.{none_said, some_said}
use Rattle.aut_core.specs.declared.link.Link.{Link}
use Rattle.label_guards.specs.Guards.{IsNeverMet}
use Rattle.label_guards.specs.Leasts.{IsLeastLetter}
use Rattle.lasso_emptiness.proofs.trails.Lettered.{never_picked, picked_letter}
use Rattle.lasso_emptiness.proofs.word.letter_on.Goals as goal

pub returns-in-Some : goal.returns-in-Some
returns-in-Some c =
    let links = c.links.result.now in
    let link = get_or links c.args.edge.link c.index-links-edge.result in
    picked_letter c.args.a.now c.well_formedness.ensures c.args.edge c.requires links link c.guards.result.now c.names.result.now c.in-Some.letter c.links.ensures
    (ap (λ (l : Link). get_or links c.args.edge.link l) c.index-links-edge.is) c.guards.ensures c.names.ensures
    (some_said (IsNeverMet c.guards.result.now link.guard) (IsLeastLetter c.guards.result.now c.names.result.now link.guard) c.in_ok-letter.field-0 c.in-Some.letter c.in-Some.is
    c.in_ok-letter.ensures)

pub returns-in-None : goal.returns-in-None
returns-in-None c =
    let links = c.links.result.now in
    let link = get_or links c.args.edge.link c.index-links-edge.result in
    absurd (never_picked c.args.a.now c.args.edge c.requires links link c.guards.result.now c.links.ensures (ap (λ (l : Link). get_or links c.args.edge.link l) c.index-links-edge.is) c.guards.ensures
    (none_said (IsNeverMet c.guards.result.now link.guard) (IsLeastLetter c.guards.result.now c.names.result.now link.guard) c.in_ok-letter.field-0 c.in-None.is c.in_ok-letter.ensures))
