-- What stands next, where a text goes on.
use Rattle.std.specs.Prelude.{ℕ, List, ◌++◌}
use Rattle.aut_base.specs.declared.limit.TheConstants.{MOST_DEPTH}
use Rattle.hoa_lexer.specs.Blanks.{IsBlanks}
use Rattle.hoa_lexer.specs.Laws.{IsSpelledApart}
use Rattle.hoa_lexer.specs.declared.token.Token.{Token}
use Rattle.hoa_parser.specs.Grammar.{SpellsAutomaton}
use Rattle.hoa_parser.specs.Raw.{Written}
use Rattle.hoa_parser.specs.Standing.{IsBad, IsWhole, Standing, Stands, Blank, Whole, Aborted, Cut}
use Rattle.hoa_parser.specs.WrittenDown.{written_tokens}

-- the same, where more bytes follow
abbrev pub extended : Standing → List ℕ → Standing
extended (Whole w rest) more = Whole w (rest ++ more)
extended (Aborted after) more = Aborted (after ++ more)
extended s more = s

-- what further bytes cannot change
abbrev pub IsFinal : Standing → Type 0
IsFinal Blank = ⊥
IsFinal Cut = ⊥
IsFinal _ = Unit {0}

-- What the bytes at hand settle stays so, however the text goes on.
abbrev pub SettledStays : Type 0
SettledStays = (s : Standing) (start : ℕ) (text more : List ℕ) → IsFinal s → Stands s start text → Stands (extended s more) start (text ++ more)

-- So where the bytes at hand are bad, no text that begins with them begins with an automaton.
abbrev pub BadIsHopeless : Type 0
BadIsHopeless = (start k : ℕ) (text more rest : List ℕ) (w : Written) → IsBad start text k → IsWhole start (text ++ more) w rest → ⊥

-- An automaton that is written down, with spaces behind each token, stands whole in its text, with only blanks behind it.
abbrev pub WrittenDownIsRead : Type 0
WrittenDownIsRead =
    (ts : List Token) (w : Written) (text : List ℕ) → SpellsAutomaton MOST_DEPTH ts w → IsSpelledApart (written_tokens w) text
    → (rest : List ℕ) × IsBlanks rest × Stands (Whole w rest) 0 text
