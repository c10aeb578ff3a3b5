-- The states of the parsers in memory as states of the abstract parser (`Machine`), and what a step of them does.
use Rattle.std.specs.Prelude.{◌≡◌, ◌≢◌, ℕ, Bool, if◌then◌else◌, ◌⊎◌, List, [], ◌∷◌, ◌++◌, map, reverse, All, Contains, slice_get, Option, Some, None}
use Rattle.aut_base.specs.Label.{LabelTree, label_list, label_tree}
use Rattle.word_syntax.specs.inner.Machine.{LetterState, LevelTree, WordState, letter_step, word_step}
use Rattle.word_syntax.specs.declared.chain.Chain.{Chain}
use Rattle.word_syntax.specs.declared.chain.Chain.TheVariants.{Nothing, One, Several}
use Rattle.word_syntax.specs.declared.letter.Level.{Level}
use Rattle.word_syntax.specs.declared.letter.LetterReader.{LetterReader}
use Rattle.word_syntax.specs.declared.word.WordReader.{WordReader}
use Rattle.word_syntax.specs.declared.token.Token.{Token}
use Rattle.word_syntax.specs.declared.token.Token.TheVariants as token

abbrev pub chain_list : Chain → List LabelTree
chain_list Nothing = []
chain_list (One l) = label_tree l ∷ []
chain_list (Several ls) = label_list ls.value

abbrev pub level_tree : Level → LevelTree
level_tree l = record { around = l.around; ors = chain_list l.ors; ands = chain_list l.ands; nots = l.nots }

abbrev pub letter_state : LetterReader → LetterState
letter_state r = record { outer = map level_tree (reverse r.outer.items); level = level_tree r.level; ready = r.ready }

abbrev pub word_state : WordReader → WordState
word_state r = record { stem = map label_tree r.stem; cycle = map label_tree r.cycle; stage = r.stage; letter = letter_state r.letter }

-- the list gets this name at its end, unless it has it
abbrev pub GrowsBy : List ℕ → List (List ℕ) → List (List ℕ) → Type 0
GrowsBy name old new = (Contains old name × (new ≡ old)) ⊎ (All (λ other. other ≢ name) old × (new ≡ old ++ name ∷ []))

-- the list gets the name, unless it has it, and then has it at this index
pub record IsNamePlaced (old new : List (List ℕ)) (name : List ℕ) (place : ℕ) : Type 0 where
  pub grows : GrowsBy name old new
  pub stands : slice_get new place ≡ Some name

-- a token that is a name is added to the names, unless it is there
abbrev pub NamesGo : Token → List (List ℕ) → List (List ℕ) → Type 0
NamesGo (token.Name name) old new = GrowsBy name old new
NamesGo _ old new = new ≡ old

-- the function has the index of each name of the list
abbrev pub Agrees : (List ℕ → ℕ) → List (List ℕ) → Type 0
Agrees place names = (i : ℕ) (name : List ℕ) → slice_get names i ≡ Some name → place name ≡ i

-- the state after a token, where the token is taken
abbrev pub state_if : {A : Type 0} → Bool → A → Option A
state_if taken s = if taken then Some s else None

-- The parser of a letter takes the token, or rejects it.
abbrev pub GoesInLetter : LetterState → Token → List (List ℕ) → List (List ℕ) → Option LetterState → Type 0
GoesInLetter s t old new None = (place : List ℕ → ℕ) → letter_step place s t ≡ None
GoesInLetter s t old new (Some next) = NamesGo t old new × ((place : List ℕ → ℕ) → Agrees place new → letter_step place s t ≡ Some next)

-- The parser of a pattern has taken the token.
pub record HasTaken (before : WordReader) (t : Token) (after : WordReader) : Type 0 where
  pub names : NamesGo t before.names after.names
  pub steps : (place : List ℕ → ℕ) → Agrees place after.names → word_step place (word_state before) t ≡ Some (word_state after)

abbrev pub TakesToken : WordReader → Token → Option WordReader → Type 0
TakesToken before t None = (place : List ℕ → ℕ) → word_step place (word_state before) t ≡ None
TakesToken before t (Some after) = HasTaken before t after
