-- The parser of patterns as a function from state and token to state, with a stack. `place` has the index of each name.
use Rattle.std.specs.Prelude.{ℕ, zero, suc, ◌+◌, ◌==◌, ◌&&◌, if◌then◌else◌, Bool, true, false, not, List, [], ◌∷◌, ◌++◌, length, nat_lt, Option, Some, None}
use Rattle.std.specs.Option.{option_and_then, option_map}
use Rattle.aut_base.specs.CanonicalLabel.{all_of, one_of}
use Rattle.aut_base.specs.Label as label
use Rattle.aut_base.specs.Label.{LabelTree}
use Rattle.aut_base.specs.declared.limit.TheConstants.{MOST_DEPTH}
use Rattle.word_syntax.specs.declared.token.Token.{Token}
use Rattle.word_syntax.specs.declared.token.Token.TheVariants as token
use Rattle.word_syntax.specs.declared.stage.Stage.{Stage}
use Rattle.word_syntax.specs.declared.stage.Stage.TheVariants.{Stem, Brace, Cycle, End}

-- A level: a letter, or a part of one in parentheses, as far as it is read. `around` is how many `(` and `!` are open around it, and
-- `nots` how many `!` were read before the next operand.
pub record LevelTree : Type 0 where
  pub around : ℕ
  pub ors : List LabelTree
  pub ands : List LabelTree
  pub nots : ℕ

-- a letter as far as it is read: the levels around the innermost one, from inside outwards, and whether an operand has
-- just ended
pub record LetterState : Type 0 where
  pub outer : List LevelTree
  pub level : LevelTree
  pub ready : Bool

-- a level of which nothing is read yet
abbrev pub fresh_level : ℕ → LevelTree
fresh_level around = record { around = around; ors = []; ands = []; nots = 0 }

-- a letter of which nothing is read yet
abbrev pub fresh : LetterState
fresh = record { outer = []; level = fresh_level 0; ready = false }

-- the label with this many `!` before it
abbrev pub nots_on : ℕ → LabelTree → LabelTree
nots_on zero t = t
nots_on (suc n) t = nots_on n (label.Not t)

-- the level once an operand has ended
abbrev pub complete_level : LevelTree → LabelTree → LevelTree
complete_level l t = record { around = l.around; ors = l.ors; ands = l.ands ++ nots_on l.nots t ∷ []; nots = 0 }

abbrev pub complete : LetterState → LabelTree → LetterState
complete s t = record { outer = s.outer; level = complete_level s.level t; ready = true }

-- another `(` or `!` may be opened
abbrev pub may_nest : LevelTree → Bool
may_nest l = nat_lt (l.around + l.nots) MOST_DEPTH

-- the label of a complete level
abbrev pub level_label : LevelTree → LabelTree
level_label l = one_of (l.ors ++ all_of l.ands ∷ [])

abbrev pub with_level : LetterState → LevelTree → LetterState
with_level s l = record { outer = s.outer; level = l; ready = false }

abbrev pub negated : LetterState → LetterState
negated s = with_level s (record { around = s.level.around; ors = s.level.ors; ands = s.level.ands; nots = s.level.nots + 1 })

abbrev pub opened : LetterState → LetterState
opened s = record { outer = s.level ∷ s.outer; level = fresh_level (s.level.around + s.level.nots + 1); ready = false }

abbrev pub anded : LetterState → LetterState
anded s = with_level s s.level

-- the level once a conjunction has ended and another follows
abbrev pub or_level : LevelTree → LevelTree
or_level l = record { around = l.around; ors = l.ors ++ all_of l.ands ∷ []; ands = []; nots = l.nots }

abbrev pub ored : LetterState → LetterState
ored s = with_level s (or_level s.level)

-- `!` and `(`, where another may be opened
abbrev pub maybe_negated : LetterState → Option LetterState
maybe_negated s = if may_nest s.level then Some (negated s) else None

abbrev pub maybe_opened : LetterState → Option LetterState
maybe_opened s = if may_nest s.level then Some (opened s) else None

-- `)`
abbrev pub closed : List LevelTree → LevelTree → Option LetterState
closed [] inner = None
closed (l ∷ ls) inner = Some (complete (record { outer = ls; level = l; ready = false }) (level_label inner))

abbrev pub close : LetterState → Option LetterState
close s = closed s.outer s.level

-- takes a token where an operand has to follow
abbrev pub begin_operand : (List ℕ → ℕ) → LetterState → Token → Option LetterState
begin_operand place s token.True = Some (complete s label.True)
begin_operand place s token.False = Some (complete s label.False)
begin_operand place s (token.Name name) = Some (complete s (label.Prop (place name)))
begin_operand place s token.Not = maybe_negated s
begin_operand place s token.LeftParen = maybe_opened s
begin_operand place s _ = None

-- takes a token where an operand has just ended
abbrev pub after_operand : LetterState → Token → Option LetterState
after_operand s token.And = Some (anded s)
after_operand s token.Or = Some (ored s)
after_operand s token.RightParen = close s
after_operand s _ = None

abbrev pub letter_step : (List ℕ → ℕ) → LetterState → Token → Option LetterState
letter_step place s t = if s.ready then after_operand s t else begin_operand place s t

-- a word as far as it is read
pub record WordState : Type 0 where
  pub stem : List LabelTree
  pub cycle : List LabelTree
  pub stage : Stage
  pub letter : LetterState

abbrev pub is_none : {A : Type 0} → List A → Bool
is_none xs = length xs == 0

-- the label of the letter, where it is complete
abbrev pub whole_letter : LetterState → Option LabelTree
whole_letter s = if s.ready && is_none s.outer then Some (level_label s.level) else None

-- the labels with that of the letter at their end, where it is complete, and the parser of the next letter
abbrev pub ended_into : List LabelTree → LetterState → Option (List LabelTree × LetterState)
ended_into labels s = option_map (λ t. (labels ++ t ∷ [], fresh)) (whole_letter s)

-- nothing is read of the letter yet
abbrev pub is_fresh : LetterState → Bool
is_fresh s = not s.ready && (is_none s.outer && (is_none s.level.ors && (is_none s.level.ands && (s.level.nots == 0))))

abbrev pub with_letter : WordState → LetterState → WordState
with_letter s l = record { stem = s.stem; cycle = s.cycle; stage = s.stage; letter = l }

-- `;` after a letter
abbrev pub letter_ended : Stage → WordState → LabelTree → Option WordState
letter_ended Stem s t = Some (record { stem = s.stem ++ t ∷ []; cycle = s.cycle; stage = Stem; letter = fresh })
letter_ended Cycle s t = Some (record { stem = s.stem; cycle = s.cycle ++ t ∷ []; stage = Cycle; letter = fresh })
letter_ended Brace s t = None
letter_ended End s t = None

-- `}` after a letter
abbrev pub closed_at : Stage → WordState → LabelTree → Option WordState
closed_at Cycle s t = Some (record { stem = s.stem; cycle = s.cycle ++ t ∷ []; stage = End; letter = fresh })
closed_at Stem s t = None
closed_at Brace s t = None
closed_at End s t = None

-- `cycle`
abbrev pub cycle_at : Stage → WordState → Option WordState
cycle_at Stem s = if is_fresh s.letter then Some (record { stem = s.stem; cycle = s.cycle; stage = Brace; letter = s.letter }) else None
cycle_at Cycle s = None
cycle_at Brace s = None
cycle_at End s = None

-- `{`
abbrev pub brace_at : Stage → WordState → Option WordState
brace_at Brace s = Some (record { stem = s.stem; cycle = s.cycle; stage = Cycle; letter = s.letter })
brace_at Stem s = None
brace_at Cycle s = None
brace_at End s = None

-- letters may follow at this stage
abbrev pub has_letters : Stage → Bool
has_letters Stem = true
has_letters Cycle = true
has_letters Brace = false
has_letters End = false

abbrev pub word_step : (List ℕ → ℕ) → WordState → Token → Option WordState
word_step place s token.Semicolon = option_and_then (letter_ended s.stage s) (whole_letter s.letter)
word_step place s token.RightBrace = option_and_then (closed_at s.stage s) (whole_letter s.letter)
word_step place s token.Cycle = cycle_at s.stage s
word_step place s token.LeftBrace = brace_at s.stage s
word_step place s t = if has_letters s.stage then option_map (with_letter s) (letter_step place s.letter t) else None

-- the token belongs to a letter
abbrev pub is_of_letter : Token → Bool
is_of_letter token.Semicolon = false
is_of_letter token.RightBrace = false
is_of_letter token.Cycle = false
is_of_letter token.LeftBrace = false
is_of_letter _ = true

-- nothing is read yet
abbrev pub word_start : WordState
word_start = record { stem = []; cycle = []; stage = Stem; letter = fresh }
