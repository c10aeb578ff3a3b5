-- What the grammar amounts to.
use Rattle.std.specs.Prelude.{◌≡◌, ℕ, List, [], ◌++◌}
use Rattle.hoa_lexer.specs.declared.token.Token.{Token}
use Rattle.hoa_parser.specs.Grammar.{IsViable, SpellsAutomaton}
use Rattle.hoa_parser.specs.Raw.{Written}
use Rattle.hoa_parser.specs.WrittenDown.{written_tokens}

-- A list of tokens spells at most one thing, however much may be open.
abbrev pub OneRaw : Type 0
OneRaw = (m n : ℕ) (ts : List Token) (v w : Written) → SpellsAutomaton m ts v → SpellsAutomaton n ts w → v ≡ w

-- What spells an automaton is no beginning of a longer one.
abbrev pub WholeGoesNoFurther : Type 0
WholeGoesNoFurther = (m n : ℕ) (ts more : List Token) (w : Written) → SpellsAutomaton m ts w → IsViable n (ts ++ more) → more ≡ []

-- What a list of tokens spells is also spelled by what is written down from it, with no more open than the list opens.
abbrev pub CanBeWrittenDown : Type 0
CanBeWrittenDown = (m : ℕ) (ts : List Token) (w : Written) → SpellsAutomaton m ts w → SpellsAutomaton m (written_tokens w) w
