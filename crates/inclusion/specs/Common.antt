-- Lasso words that two automata both accept.
use Rattle.std.specs.Prelude.{◌++◌, All}
use Rattle.aut_base.specs.Acceptance.{Accepts}
use Rattle.aut_base.specs.Automaton.{Automaton}
use Rattle.aut_base.specs.Word.{IsReduced}
use Rattle.aut_base.specs.declared.letter.Lasso.{Lasso}
use Rattle.aut_core.specs.OtherNames.{joined_names}
use Rattle.word_syntax.specs.Matching.{AcceptTogether}
use Rattle.word_syntax.specs.Printing.{HoldsOnly}

-- no lasso word is accepted by both
abbrev pub AcceptNoneTogether : Automaton → Automaton → Type 0
AcceptNoneTogether a b = AcceptTogether a b → ⊥

-- the word is a reduced lasso over the names of both, and both accept it
pub record IsWordOfBoth (a b : Automaton) (w : Lasso) : Type 0 where
  pub reduced : IsReduced w.stem w.cycle
  pub own_names : All (HoldsOnly (joined_names a.names b.names)) (w.stem ++ w.cycle)
  pub first : Accepts a w.stem w.cycle
  pub second : Accepts b w.stem w.cycle
