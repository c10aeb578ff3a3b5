-- Each automaton of a text, whole or abandoned, takes at least one byte.
use Rattle.std.proofs.Common.{ℕ, ◌+◌, ◌-◌, ◌<◌, ◌≤◌, List, [], ◌∷◌, length, map, ap, arith}
use Rattle.aut_base.specs.declared.limit.TheConstants.{MOST_DEPTH}
use Rattle.hoa_lexer.specs.Text.{Lexes}
use Rattle.hoa_lexer.specs.declared.token.Token.{Token}
use Rattle.hoa_parser.proofs.standing.DeadEnds.{nothing_unfinished}
use Rattle.hoa_parser.proofs.standing.SomeStanding.{next_less}
use Rattle.hoa_parser.specs.Grammar.{SpellsAutomaton}
use Rattle.hoa_parser.specs.Raw.{Written}
use Rattle.hoa_parser.specs.Standing.{IsAborted, IsWhole}

lexes_less : (ts : List (Token × ℕ)) (input : List ℕ) (start : ℕ) (rest : List ℕ) → Lexes input start ts rest → length rest ≤ length input
lexes_less [] input start rest l = omega (arith, ap length l)
lexes_less (t ∷ ts) input start rest l = omega (arith, next_less input start t.0 t.1 l.0 l.1, lexes_less ts l.0 (start + (length input - length l.0)) rest l.2)

spelled_less : (ts : List (Token × ℕ)) (input : List ℕ) (start : ℕ) (rest : List ℕ) (w : Written) → Lexes input start ts rest → SpellsAutomaton MOST_DEPTH (map (λ p. p.0) ts) w
    → length rest < length input
spelled_less [] input start rest w l s = absurd (nothing_unfinished MOST_DEPTH w s)
spelled_less (t ∷ ts) input start rest w l s = omega (arith, next_less input start t.0 t.1 l.0 l.1, lexes_less ts l.0 (start + (length input - length l.0)) rest l.2)

pub whole_less : (start : ℕ) (text : List ℕ) (w : Written) (rest : List ℕ) → IsWhole start text w rest → length rest < length text
whole_less start text w rest h = spelled_less h.placed text start rest w h.lexes h.spells

pub aborted_less : (start : ℕ) (text after : List ℕ) → IsAborted start text after → length after < length text
aborted_less start text after h =
    omega (arith, lexes_less h.begun.placed text start h.rest h.begun.lexes, next_less h.rest h.used _ h.holds.1 after h.holds.2)
