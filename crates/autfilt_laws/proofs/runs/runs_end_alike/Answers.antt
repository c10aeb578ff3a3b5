use Rattle.autfilt_laws.proofs.alike.Runs.{runs_end_alike}
use Rattle.autfilt_laws.proofs.runs.runs_end_alike.Goals as goal

pub returns : goal.returns
returns c = runs_end_alike c.one_standing.ensures (record {
  verdict = c.verdict_is_one.ensures.verdict;
  inclusion = c.verdict_is_one.ensures.inclusion;
  changes = c.changes_are_determined.ensures;
  trimmed = c.trimmed_is_determined.ensures;
})
