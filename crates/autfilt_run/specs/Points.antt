-- The point of a run that a session is at.
use Rattle.std.specs.Prelude.{◌≡◌, ℕ, ◌+◌, Bool, true, false, List, length, map, drop, Option, Some, None}
use Rattle.aut_base.specs.Automaton.{Automaton}
use Rattle.aut_core.specs.SymbolicAutomata.{automaton_of}
use Rattle.autfilt_run.specs.Events.{Point, Stream}
use Rattle.autfilt_run.specs.Plans.{files_of, tried_name, plan_streams}
use Rattle.autfilt_run.specs.declared.session.Session.{Session}
use Rattle.filter_plan.specs.Words.{operands}

-- the operands that were read
abbrev pub operands_in : Session → List Automaton
operands_in s = map automaton_of s.operands

-- the name in hand: that of the file that was tried last
abbrev pub name_in : Session → List ℕ
name_in s = tried_name (files_of s.plan) s.tried

-- The session has this stream open, or none; `before` bytes were taken of the files before it.
abbrev pub IsInStream : Option Stream → Session → Option (List ℕ) → ℕ → Type 0
IsInStream None s left before = (s.is_open ≡ false) × (s.lexer.taken ≡ before)
IsInStream (Some t) s left before =
    (s.is_open ≡ true) × (left ≡ Some t.rest) × (name_in s ≡ t.name) × (s.lexer.since + length t.rest ≡ length t.text) × (s.lexer.taken ≡ before + s.lexer.since)

-- the session is at this point, and the inputs have this left
pub record IsAt (s : Session) (left : Option (List ℕ)) (p : Point) : Type 0 where
  pub kept : p.kept ≡ s.kept
  pub left_is : p.left ≡ left
  pub stream : IsInStream p.stream s left p.before

-- the same while streams are read
pub record StandsInStreams (s : Session) (left : Option (List ℕ)) (p : Point) : Type 0 where
  pub coming : p.coming ≡ drop s.opened (plan_streams s.plan)
  pub at : IsAt s left p

-- how many files are open
abbrev pub open_count : Bool → ℕ
open_count true = 1
open_count false = 0

-- the same while operands are read: each file that was opened gave one operand, but for the open one
pub record StandsIn (s : Session) (left : Option (List ℕ)) (p : Point) : Type 0 where
  pub coming : p.coming ≡ drop (length s.operands + open_count s.is_open) (operands s.plan)
  pub at : IsAt s left p
