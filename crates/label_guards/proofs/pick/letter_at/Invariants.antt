-- The names so far make the letter so far, and what is left of the number gives the others.
use Rattle.label_guards.specs.Leasts.{IsLetterSoFar}
use Rattle.label_guards.proofs.pick.letter_at.Given as goal

abbrev pub invariant-names : goal.invariant-names
invariant-names l = IsLetterSoFar l.names l.fn.number l.name-index l.rest l.letter
