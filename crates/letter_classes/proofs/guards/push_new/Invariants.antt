use Rattle.std.proofs.Common.{◌++◌, map, take}
use Rattle.letter_classes.specs.SetClasses.{TellTheSame}
use Rattle.letter_classes.proofs.guards.push_new.Given as goal

abbrev pub invariant-links : goal.invariant-links
invariant-links l = TellTheSame l.list (l.fn.list ++ map (λ x. x.guard) (take l.link-index l.links))
