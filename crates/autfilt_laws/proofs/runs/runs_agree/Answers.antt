use Rattle.autfilt_laws.proofs.alike.Operands.{one_operand_front}
use Rattle.autfilt_laws.proofs.alike.Steps.{runs_agree}
use Rattle.autfilt_laws.proofs.runs.runs_agree.Goals as goal

pub returns : goal.returns
returns c = record {
  streams = runs_agree c.one_standing.ensures (record {
    verdict = c.verdict_is_one.ensures.verdict;
    inclusion = c.verdict_is_one.ensures.inclusion;
    changes = c.changes_are_determined.ensures;
    trimmed = c.trimmed_is_determined.ensures;
  });
  operands = one_operand_front c.one_standing.ensures;
}
