-- The line that `--refute` prints of an automaton.
use Rattle.std.specs.Prelude.{◌≡◌, ◌⊎◌, ℕ, List, ◌++◌, codes}
use Rattle.aut_base.specs.Automaton.{Automaton}
use Rattle.aut_base.specs.declared.letter.Lasso.{Lasso}
use Rattle.aut_core.specs.OtherNames.{joined_names}
use Rattle.plan_meaning.specs.Limits.{IsIncluded}
use Rattle.plan_meaning.specs.Refutations.{Refutes}
use Rattle.word_syntax.specs.Printing.{word_text}

-- a reduced word over the names of both that the first accepts and the second doesn't, and a line feed
pub record ShowsRefutation (a b : Automaton) (text : List ℕ) : Type 0 where
  pub word : Lasso
  pub refutes : Refutes a b word
  pub shown : text ≡ word_text (joined_names a.names b.names) word.stem word.cycle ++ codes "\n"

-- the text shows such a word; or it is `included`, and the second automaton accepts all that the first does
abbrev pub SaysOfInclusion : Automaton → Automaton → List ℕ → Type 0
SaysOfInclusion a b text = ShowsRefutation a b text ⊎ (IsIncluded a b × (text ≡ codes "included\n"))
