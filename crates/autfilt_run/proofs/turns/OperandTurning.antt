-- One turn of the loop over operands, where something was read.
use Rattle.std.proofs.Common.{◌≡◌, ◌≢◌, ◌⊎◌, ℕ, ◌+◌, ◌<◌, true, List, [], ◌∷◌, ◌++◌, Option, None, Result, Ok, Err, sym, ap, ◌∙◌, subst, inl, inr, arith}
use Rattle.std.specs.Prelude.{map}
use Rattle.std.specs.Result.{IsErrAnd}
use Rattle.std.proofs.lemmas.List.{map-append}
use Rattle.aut_base.proofs.Outcomes.{hands_on}
use Rattle.aut_base.specs.Automaton.{Automaton}
use Rattle.aut_base.specs.declared.limit.Limit.{Limit}
use Rattle.aut_core.specs.SymbolicAutomata.{SymbolicAutomaton, automaton_of}
use Rattle.aut_io.specs.Seen.{Seen}
use Rattle.autfilt_run.proofs.handling.PassedLimits.{counts_pass, elsewhere}
use Rattle.autfilt_run.proofs.turns.Reading.{AnswersAt, is_broken, is_past, is_wanting, stops}
use Rattle.autfilt_run.specs.Faults.{fault_of_reading}
use Rattle.autfilt_run.specs.declared.fault.RunFault.{RunFault}
use Rattle.autfilt_run.specs.declared.fault.RunFault.TheVariants as fault
use Rattle.autfilt_run.specs.declared.session.Session.{Session}
use Rattle.autfilt_run.specs.declared.session.Stage.{Stage}
use Rattle.autfilt_run.specs.declared.session.Stage.TheVariants as stages
use Rattle.autfilt_run.specs.declared.session.operand_reading.OperandTurn.{OperandTurn}
use Rattle.autfilt_run.specs.inner.OperandTurns.{FailsOperand, KeepsAll, TurnsOperands}
use Rattle.autfilt_run.specs.inner.Taking.{TakesAutomaton}
use Rattle.hoa_lexer.proofs.next_token.Between.{between_as}
use Rattle.hoa_lexer.specs.Moves.{Elsewhere, MovesLexer, Stop}
use Rattle.hoa_lexer.specs.Reading.{Between, held_count}
use Rattle.hoa_lexer.specs.declared.lexer.Lexer.{Lexer}
use Rattle.hoa_parser.specs.Raw.{Written}
use Rattle.hoa_parser.specs.Reads as reads
use Rattle.hoa_parser.specs.Reads.{HoldsBehind}
use Rattle.hoa_parser.specs.Standing.{Stands, Whole}
use Rattle.hoa_parser.specs.declared.fault.ReadFault.{ReadFault}
use Rattle.hoa_parser.specs.declared.fault.ReadFault.TheVariants as reading
use Rattle.hoa_parser.specs.declared.read.Front.{Front}
use Rattle.hoa_parser.specs.declared.read.Front.TheVariants as front

-- while an operand is read no limits but the reader's are passed
abbrev none_over : Limit → Written → Type 0
none_over which w = ⊥

-- a fault of the reader
pub not_read : (f : ReadFault) (old new : Session) (s t : Seen) (held' : Option ℕ) → old.is_open ≡ true → new.tried ≡ old.tried → new.skipped ≡ old.skipped → HoldsBehind (Err f) held'
    → Between s.left t.left (AnswersAt (Err f) old.lexer.since held') → MovesLexer (reads.stop_of_read_fault f) old.lexer new.lexer s t → FailsOperand (fault_of_reading f) old new s t
not_read (reading.Syntax k) old new s t held' r hand same n at moves =
    record { reads = record { was_open = r; in_hand = hand; read = stops none_over (reading.Syntax k) old.lexer.since held' s.left t.left n at; moves = moves }; skipped = same }
not_read reading.Truncated old new s t held' r hand same n at moves = record {
  reads = record { was_open = r; in_hand = hand; read = between_as s.left t.left _ _ (λ x y h. inl h) (stops none_over reading.Truncated old.lexer.since held' s.left t.left n at); moves = moves };
  skipped = same;
}
not_read reading.Depth old new s t held' r hand same n at moves =
    record { reads = record { was_open = r; in_hand = hand; read = stops none_over reading.Depth old.lexer.since held' s.left t.left n at; moves = moves }; skipped = same }
not_read reading.Bytes old new s t held' r hand same n at moves =
    record { reads = record { was_open = r; in_hand = hand; read = stops none_over reading.Bytes old.lexer.since held' s.left t.left n at; moves = moves }; skipped = same }
not_read reading.Read old new s t held' r hand same n at moves =
    record { reads = record { was_open = r; in_hand = hand; read = stops none_over reading.Read old.lexer.since held' s.left t.left n at; moves = moves }; skipped = same }
not_read reading.Memory old new s t held' r hand same n at moves =
    inr (record { reads = record { was_open = r; in_hand = hand; read = stops none_over reading.Memory old.lexer.since held' s.left t.left n at; moves = moves }; skipped = same })

-- an automaton was read whole, and can't be taken
pub not_taken : (f : RunFault) (w : Written) (old new : Session) (s t : Seen) → old.is_open ≡ true → new.tried ≡ old.tried → new.skipped ≡ old.skipped
    → Between s.left t.left (λ rest next. Stands (Whole w next) old.lexer.since rest)
    → MovesLexer Elsewhere old.lexer new.lexer s t → TakesAutomaton (Err f) w → FailsOperand f old new s t
not_taken (fault.Invalid rule) w old new s t r hand same whole moves h =
    record { reads = record { was_open = r; in_hand = hand; read = is_broken none_over rule w old.lexer.since s.left t.left h whole; moves = moves }; skipped = same }
not_taken (fault.Limit which) w old new s t r hand same whole moves h = record {
  reads = record {
    was_open = r;
    in_hand = hand;
    read = is_past none_over which w old.lexer.since s.left t.left (inl h) whole;
    moves = subst (λ (x : Stop). MovesLexer x old.lexer new.lexer s t) (sym (elsewhere which (counts_pass which w h))) moves;
  };
  skipped = same;
}
not_taken fault.Memory w old new s t r hand same whole moves h =
    inr (record { reads = record { was_open = r; in_hand = hand; read = is_wanting w old.lexer.since s.left t.left whole; moves = moves }; skipped = same })
not_taken _ w old new s t r hand same whole moves h = absurd h

-- a fault that `?` returns
pub turns_on : (r : Result OperandTurn RunFault) (f : RunFault) (old new : Session) (s t : Seen) → IsErrAnd r (λ y. y ≡ f) → FailsOperand f old new s t → KeepsAll old new → TurnsOperands r old new s t
turns_on r f old new s t h fails keeps = hands_on r f (λ x. TurnsOperands x old new s t) h (record { turns = fails; keeps = keeps })

-- an abandoned automaton takes a byte
pub rises : (field : Front) (old new : Lexer) → field ≡ front.Aborted → old.held ≡ None → HoldsBehind (Ok field) new.held
    → (field ≢ front.Blank → old.taken + held_count new.held < new.taken + held_count old.held) → old.taken < new.taken
rises field old new is none holds used =
    let after : new.held ≡ None = subst (λ (x : Front). HoldsBehind (Ok x) new.held) is holds in
    let more = used (λ e. let same : front.Aborted ≡ front.Blank = sym is ∙ e in cc) in
    omega (arith, more, ap held_count after, ap held_count none)

-- another operand
pub automata_of_pushed : (old new : List SymbolicAutomaton) (core : SymbolicAutomaton) (a : Automaton) → new ≡ old ++ core ∷ [] → automaton_of core ≡ a
    → map automaton_of new ≡ map automaton_of old ++ a ∷ []
automata_of_pushed old new core a is same = ap (map automaton_of) is ∙ map-append automaton_of old (core ∷ []) ∙ ap (λ x. map automaton_of old ++ x ∷ []) same

-- a session that is over is neither new nor prepared
pub not_over : (stage : Stage) → stage ≡ stages.Over → (stage ≡ stages.New) ⊎ (stage ≡ stages.Prepared) → ⊥
not_over stage is (inl h) = let none : stages.Over ≡ stages.New = sym is ∙ h in cc
not_over stage is (inr h) = let none : stages.Over ≡ stages.Prepared = sym is ∙ h in cc
