use Rattle.std.proofs.Common.{arith}
use Rattle.std.proofs.lemmas.Grind.{common_steps}
use Rattle.hoa_reader.proofs.elaborate.parts.labels_of.Goals as goal

pub states-preserved : goal.states-preserved
states-preserved c = grind (arith, common_steps)

pub returns : goal.returns
returns c = grind (arith, common_steps)
