-- The edges so far have a letter each.
use Rattle.std.proofs.Common.{take}
use Rattle.lasso_emptiness.specs.inner.Letters.{AreLettersOf}
use Rattle.lasso_emptiness.proofs.word.letters_along.Given as goal

abbrev pub invariant-edges : goal.invariant-edges
invariant-edges l = AreLettersOf l.a (take l.edge-index l.edges) l.letters
