-- What every call that reads changes, and what it leaves, of a lexer and of its inputs.
use Rattle.std.specs.Prelude.{◌≡◌, ℕ, ◌+◌, ◌<◌, ◌≤◌, length, Option, Some, None, Result, Ok, Err}
use Rattle.aut_io.specs.Outside.{Rose}
use Rattle.aut_io.specs.Seen.{Seen}
use Rattle.hoa_lexer.specs.Reading.{Tells, held_count}
use Rattle.hoa_lexer.specs.declared.lexer.Lexer.{Lexer}
use Rattle.hoa_lexer.specs.declared.token.LexFault.{LexFault}
use Rattle.hoa_lexer.specs.declared.token.LexFault.TheVariants.{BadToken, OpenComment, OpenString, OpenToken, Read, Bytes, Memory}

-- why a call that reads ended
pub data Stop : Type 0 where
  -- at the end of the text
  AtEnd : Stop
  -- at a read that failed
  AtFault : Stop
  -- at the limit of bytes, where another byte is needed
  AtMost : Stop
  -- anywhere else
  Elsewhere : Stop

-- The count of read faults rises by one where a read failed, and is unchanged elsewhere.
abbrev pub CountsReads : Stop → ℕ → ℕ → Type 0
CountsReads AtFault before after = Rose before after
CountsReads _ before after = after ≡ before

-- How many bytes may have been taken at each end: at the limit all that may be. The end of a text and a read fault come of
-- asking for another byte, which is done below the limit alone.
abbrev pub IsWithinByteLimit : Stop → ℕ → ℕ → Type 0
IsWithinByteLimit AtMost taken most = taken ≡ most
IsWithinByteLimit AtEnd taken most = taken < most
IsWithinByteLimit AtFault taken most = taken < most
IsWithinByteLimit Elsewhere taken most = Unit {0}

pub record MovesLexer (stop : Stop) (old new : Lexer) (seen seen' : Seen) : Type 0 where
  pub most : new.most ≡ old.most
  -- each byte that leaves the inputs is counted
  pub taken : Tells seen seen' (λ x y. new.taken + length y ≡ old.taken + length x)
  pub since : new.since + old.taken ≡ old.since + new.taken
  pub later : old.taken ≤ new.taken
  pub used : old.taken + held_count new.held ≤ new.taken + held_count old.held
  pub within : IsWithinByteLimit stop new.taken new.most
  -- the inputs' own counters
  pub reads : CountsReads stop seen.read_faults seen'.read_faults
  pub reads_later : seen.read_faults ≤ seen'.read_faults
  pub openings : seen'.openings ≡ seen.openings
  pub opens : seen'.open_faults ≡ seen.open_faults
  pub texts : seen'.texts ≡ seen.texts

-- why a fault ended the call
abbrev pub stop_of_lex_fault : LexFault → Stop
stop_of_lex_fault (BadToken k) = Elsewhere
stop_of_lex_fault OpenComment = AtEnd
stop_of_lex_fault OpenString = AtEnd
stop_of_lex_fault OpenToken = AtEnd
stop_of_lex_fault Read = AtFault
stop_of_lex_fault Bytes = AtMost
stop_of_lex_fault Memory = Elsewhere

abbrev pub stop_of : {A : Type 0} → Result A LexFault → Stop
stop_of (Ok value) = Elsewhere
stop_of (Err fault) = stop_of_lex_fault fault

-- the same of a call that answers None at the end of the text
abbrev pub stop_of_next : {A : Type 0} → Result (Option A) LexFault → Stop
stop_of_next (Ok (Some value)) = Elsewhere
stop_of_next (Ok None) = AtEnd
stop_of_next (Err fault) = stop_of_lex_fault fault
