use Rattle.std.proofs.Common.{take}
use Rattle.letter_classes.specs.SetClasses.{TellTheSame, guards_from}
use Rattle.letter_classes.proofs.guards.set_guards.Given as goal

abbrev pub invariant-set : goal.invariant-set
invariant-set l = TellTheSame l.list (guards_from l.fn.a (take l.state-index l.set))
