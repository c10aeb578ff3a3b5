-- How operands are read: each from the file of its name, the first automaton that isn't abandoned. The rest of the file is
-- left unread.
use Rattle.std.specs.Prelude.{◌≡◌, ℕ, ◌+◌, ◌≤◌, Bool, true, false, List, [], ◌∷◌, flat_map, Some, None}
use Rattle.aut_base.specs.Automaton.{Automaton}
use Rattle.aut_base.specs.CanonicalLabel.{canonical}
use Rattle.aut_base.specs.declared.limit.TheConstants.{MOST_BYTES}
use Rattle.aut_io.specs.Outside.{Texts}
use Rattle.autfilt_run.specs.Events.{IsGood, OpensStream, PassesOver, Point, Stream, bytes_before}
use Rattle.hoa_parser.specs.Raw.{Written}
use Rattle.hoa_reader.specs.Described.{described}

pub data OperandEvent : Type 0 where
  -- the file of this name is opened
  FileOpened : List ℕ → OperandEvent
  -- this automaton is taken as the operand
  Taken : Written → OperandEvent
  -- an automaton of the file of this name is abandoned, and skipped
  PassedOver : List ℕ → OperandEvent

-- A whole automaton is next in the open file, and is taken, which closes the file. The limit of bytes isn't passed.
pub record TakesOperand (w : Written) (p q : Point) : Type 0 where
  pub stream : Stream
  pub is_open : p.stream ≡ Some stream
  pub next : List ℕ
  pub good : IsGood (bytes_before stream.text stream.rest) stream.rest w next
  pub few : p.before + bytes_before stream.text next ≤ MOST_BYTES
  pub to : q ≡ record p { stream = None; left = Some next; before = p.before + bytes_before stream.text next }

-- Whether an event leads from one point to another.
abbrev pub Proceeds : Texts → OperandEvent → Point → Point → Type 0
Proceeds texts (FileOpened name) p q = OpensStream texts name p q
Proceeds texts (Taken w) p q = TakesOperand w p q
Proceeds texts (PassedOver name) p q = PassesOver name p q

-- The events happen one after the other.
abbrev pub AreRead : Texts → List OperandEvent → Point → Point → Type 0
AreRead texts [] p q = p ≡ q
AreRead texts (event ∷ events) p q = (m : Point) × Proceeds texts event p m × AreRead texts events m q

-- the automaton that was taken, with labels in canonical form
abbrev pub operand_of : OperandEvent → List Automaton
operand_of (Taken w) = canonical (described w) ∷ []
operand_of _ = []

abbrev pub operands_read : List OperandEvent → List Automaton
operands_read = flat_map operand_of

-- the names of the files that were opened
abbrev pub opened_file : OperandEvent → List (List ℕ)
opened_file (FileOpened name) = name ∷ []
opened_file (Taken w) = []
opened_file (PassedOver name) = []

abbrev pub opened_files : List OperandEvent → List (List ℕ)
opened_files = flat_map opened_file

-- whether a file is open after an event, where one was before or not
abbrev pub file_open_by : Bool → OperandEvent → Bool
file_open_by before (FileOpened name) = true
file_open_by before (Taken w) = false
file_open_by before (PassedOver name) = before

-- the names of the files in which abandoned automata were skipped
abbrev pub passed_of : OperandEvent → List (List ℕ)
passed_of (PassedOver name) = name ∷ []
passed_of _ = []

abbrev pub all_passed : List OperandEvent → List (List ℕ)
all_passed = flat_map passed_of
