-- Language inclusion and equivalence by way of complements.
use Rattle.std.specs.Prelude.{◌↔◌, List}
use Rattle.aut_base.specs.Acceptance.{Accepts}
use Rattle.aut_base.specs.Automaton.{Automaton}
use Rattle.aut_base.specs.Word.{NameSet}
use Rattle.aut_base.specs.declared.letter.Lasso.{Lasso}
use Rattle.aut_core.specs.OtherNames.{AcceptTheSame}
use Rattle.inclusion.specs.Common.{AcceptNoneTogether, IsWordOfBoth}
use Rattle.parity_laws.specs.Complement.{AreComplementLanguages}

-- `a` and a complement of `b` accept no word in common exactly where `b` accepts each word of `a`.
abbrev pub IncludedWhereNone : Type 0
IncludedWhereNone = (a b co : Automaton) → AreComplementLanguages b co → AcceptNoneTogether a co ↔ ((u v : List NameSet) → Accepts a u v → Accepts b u v)

-- A word that `a` and a complement of `b` both accept is a counterexample: `a` accepts it, and `b` doesn't.
abbrev pub NotIncludedWhereWord : Type 0
NotIncludedWhereWord = (a b co : Automaton) (w : Lasso) → AreComplementLanguages b co → IsWordOfBoth a co w → Accepts a w.stem w.cycle × (Accepts b w.stem w.cycle → ⊥)

-- Two automata are language equivalent exactly where neither accepts a word in common with a complement of the other.
abbrev pub SameWhereNoneTwice : Type 0
SameWhereNoneTwice = (a b co_a co_b : Automaton) → AreComplementLanguages a co_a → AreComplementLanguages b co_b → (AcceptNoneTogether a co_b × AcceptNoneTogether b co_a) ↔ AcceptTheSame a b
