use Rattle.std.proofs.Common.{◌∙◌, ap}
use Rattle.hoa_reader.specs.inner.Numbers.{only_state}
use Rattle.hoa_reader.proofs.elaborate.links.link_of.Goals as goal

pub returns-clause-edge : goal.returns-clause-edge
returns-clause-edge c =
    let to = c.only_state.ensures ∙ ap only_state c.to.ensures in
    λ i. record { from = c.args.state.now.number; label = c.in_ok-guard_of.ensures.label i; to = to i; marks = c.in_ok-marks_of.ensures i }
