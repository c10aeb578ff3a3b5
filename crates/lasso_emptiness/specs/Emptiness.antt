-- Emptiness of an automaton, and reduced words that it accepts.
use Rattle.std.specs.Prelude.{◌++◌, List, All}
use Rattle.aut_base.specs.Acceptance.{Accepts}
use Rattle.aut_base.specs.Automaton.{Automaton}
use Rattle.aut_base.specs.Word.{IsReduced, NameSet}
use Rattle.aut_base.specs.declared.letter.Lasso.{Lasso}
use Rattle.word_syntax.specs.Printing.{HoldsOnly}

-- some lasso word is accepted
pub record AcceptsSome (a : Automaton) : Type 0 where
  pub stem : List NameSet
  pub cycle : List NameSet
  pub accepts : Accepts a stem cycle

-- no lasso word is accepted
abbrev pub AcceptsNothing : Automaton → Type 0
AcceptsNothing a = (u v : List NameSet) → Accepts a u v → ⊥

-- the lasso word is reduced, is over the automaton's names, and is accepted
pub record IsAcceptedWord (a : Automaton) (w : Lasso) : Type 0 where
  pub reduced : IsReduced w.stem w.cycle
  pub own_names : All (HoldsOnly a.names) (w.stem ++ w.cycle)
  pub accepts : Accepts a w.stem w.cycle
