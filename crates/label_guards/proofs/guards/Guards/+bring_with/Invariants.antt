use Rattle.label_guards.proofs.guards.Guards.+bring_with.Given as goal

abbrev pub decreases-bring_with : goal.decreases-bring_with
decreases-bring_with l = l.place
