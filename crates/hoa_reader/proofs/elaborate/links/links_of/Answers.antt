use Rattle.std.proofs.Common.{◌∙◌, ap, map, subst, sym}
use Rattle.std.proofs.lemmas.Result.{IfOk-weaker}
use Rattle.aut_core.specs.Links.{StandFor}
use Rattle.hoa_parser.specs.Raw.{written_state}
use Rattle.hoa_reader.proofs.labels.RisingStates.{rising_edges}
use Rattle.hoa_reader.specs.inner.TreeEdges.{settled}
use Rattle.hoa_reader.proofs.elaborate.links.links_of.Goals as goal

pub returns-then-rising-clause-stand : goal.returns-then-rising-clause-stand
returns-then-rising-clause-stand c =
    let ws = map written_state c.args.states in
    let all = rising_edges c.args.shared.now c.args.count ws (sym c.requires.rising ∙ c.if-rising.true) c.requires.within in
    IfOk-weaker c.links_in_turn.result _ _
    (λ links is. subst (StandFor c.links_in_turn.new.guards links) (sym (ap (map (settled c.args.guards.now.names)) all)) is) c.links_in_turn.ensures.stand
