use Rattle.std.proofs.Common.{◌^◌, arith}
use Rattle.std.proofs.lemmas.List.{get_or_default}
use Rattle.safra_trees.proofs.flat_step.Sight.{few_places}
use Rattle.safra_trees.proofs.sight.count_of.Goals as goal

pub returns-clause-few : goal.returns-clause-few
returns-clause-few c = few_places c.args.sight.now (2 ^ 32) c.requires (λ i d within. omega (arith, (c.type_inv.sight i).fits, get_or_default c.args.sight.now i d 0 within))
