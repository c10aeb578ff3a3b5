use Rattle.std.proofs.Common.{refl}
use Rattle.safra_trees.proofs.law.worked_steps.Goals as goal

pub returns : goal.returns
returns c = record { first = refl; second = refl; third = refl; fourth = refl; last = refl; calm = refl; green = refl; red = refl }
