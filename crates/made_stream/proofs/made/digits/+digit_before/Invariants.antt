-- Each call has one digit fewer after its own.
use Rattle.made_stream.proofs.made.digits.+digit_before.Given as goal

abbrev pub decreases-digit_before : goal.decreases-digit_before
decreases-digit_before l = l.others
