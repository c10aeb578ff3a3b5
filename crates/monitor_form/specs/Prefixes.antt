-- The safety closure of a language (Alpern and Schneider 1985): the words each of whose prefixes is a prefix of some word of the
-- language.
use Rattle.std.specs.Prelude.{◌≡◌, ◌↔◌, ℕ, ◌<◌, List, length}
use Rattle.aut_base.specs.Acceptance.{Accepts}
use Rattle.aut_base.specs.Automaton.{Automaton}
use Rattle.aut_base.specs.Word.{NameSet, letter_at}

-- the automaton accepts some lasso word that has the same first n letters
pub record HasPrefix (a : Automaton) (u v : List NameSet) (n : ℕ) : Type 0 where
  pub stem : List NameSet
  pub cycle : List NameSet
  pub accepted : Accepts a stem cycle
  pub same : (k : ℕ) → k < n → letter_at stem cycle k ≡ letter_at u v k

-- The automaton made accepts just the words whose first n letters, for every n, are those of some lasso word that `a`
-- accepts.
abbrev pub AcceptsPrefixes : Automaton → Automaton → Type 0
AcceptsPrefixes made a = (u v : List NameSet) → 0 < length v → Accepts made u v ↔ ((n : ℕ) → HasPrefix a u v n)
