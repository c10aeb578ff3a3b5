use Rattle.label_guards.proofs.guards.Guards.+least_with.Given as goal

abbrev pub decreases-least_with : goal.decreases-least_with
decreases-least_with l = l.place
