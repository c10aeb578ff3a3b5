use Rattle.label_guards.proofs.guards.Guards.+meeting_at.Given as goal

abbrev pub decreases-meeting_at : goal.decreases-meeting_at
decreases-meeting_at l = l.place
