use Rattle.autfilt_laws.proofs.existence.Runs as laws
use Rattle.autfilt_laws.proofs.runs.a_run_exists.Goals as goal

pub returns : goal.returns
returns c =
    let r = c.refusals_are_shown.ensures in
    laws.a_run_exists c.some_standing.ensures (record { bad = r.bad; deep = r.deep; cut = r.cut }) c.a_verdict_exists.ensures c.each_is_due.ensures
