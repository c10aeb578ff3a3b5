-- The line that `--stats` prints of an automaton.
use Rattle.std.specs.Prelude.{◌≡◌, ◌⊎◌, ℕ, List, [], ◌∷◌, ◌++◌, length, codes}
use Rattle.std.specs.List.{AllZip, concat}
use Rattle.std.specs.Fmt.{decimal}
use Rattle.aut_base.specs.Automaton.{Automaton}
use Rattle.aut_base.specs.declared.letter.Lasso.{Lasso}
use Rattle.aut_ops.specs.Trimming.{IsTrimmed}
use Rattle.filter_plan.specs.declared.format.Piece.{Piece}
use Rattle.filter_plan.specs.declared.format.Piece.TheVariants.{Byte, States, Edges, Sets, Word}
use Rattle.lasso_emptiness.specs.Emptiness.{AcceptsNothing, IsAcceptedWord}
use Rattle.word_syntax.specs.Printing.{word_text}

-- a figure of the automaton without its unreachable states, in decimal digits
pub record ShowsReached (figure : Automaton → ℕ) (a : Automaton) (text : List ℕ) : Type 0 where
  pub trimmed : Automaton
  pub is_trimmed : IsTrimmed a trimmed
  pub shown : text ≡ decimal (figure trimmed)

-- a reduced word that the automaton accepts, over its names
pub record ShowsWord (a : Automaton) (text : List ℕ) : Type 0 where
  pub word : Lasso
  pub accepted : IsAcceptedWord a word
  pub shown : text ≡ word_text a.names word.stem word.cycle

-- The text that a piece of the format becomes. For a word it is an accepted one, or empty where none is.
abbrev pub IsShownAs : Piece → Automaton → List ℕ → Type 0
IsShownAs (Byte b) a text = text ≡ b ∷ []
IsShownAs States a text = ShowsReached (λ t. t.states) a text
IsShownAs Edges a text = ShowsReached (λ t. length t.edges) a text
IsShownAs Sets a text = text ≡ decimal a.sets
IsShownAs Word a text = ShowsWord a text ⊎ (AcceptsNothing a × (text ≡ []))

-- What the pieces become, one after the other, and a line feed.
pub record IsLine (pieces : List Piece) (a : Automaton) (text : List ℕ) : Type 0 where
  pub shown : List (List ℕ)
  pub each : AllZip (λ piece part. IsShownAs piece a part) pieces shown
  pub all : text ≡ concat shown ++ codes "\n"
