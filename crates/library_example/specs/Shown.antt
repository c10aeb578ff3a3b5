-- What is printed of an automaton.
use Rattle.std.specs.Prelude.{◌≡◌, ◌⊎◌, ℕ, List, codes}
use Rattle.aut_base.specs.Automaton.{Automaton}
use Rattle.aut_base.specs.declared.letter.Lasso.{Lasso}
use Rattle.lasso_emptiness.specs.Emptiness.{AcceptsNothing, IsAcceptedWord}
use Rattle.word_syntax.specs.Printing.{word_text}

-- a reduced word that the automaton accepts, over its names
pub record ShowsWord (a : Automaton) (text : List ℕ) : Type 0 where
  pub word : Lasso
  pub accepted : IsAcceptedWord a word
  pub shown : text ≡ word_text a.names word.stem word.cycle

-- The text shows such a word, or is `nothing` where the automaton accepts none.
abbrev pub IsShown : Automaton → List ℕ → Type 0
IsShown a text = ShowsWord a text ⊎ (AcceptsNothing a × (text ≡ codes "nothing"))
