use Rattle.label_guards.proofs.guards.Guards.+fix_with.Given as goal

abbrev pub decreases-fix_with : goal.decreases-fix_with
decreases-fix_with l = l.place
