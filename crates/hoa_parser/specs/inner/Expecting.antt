-- What a reader expects next while it reads an automaton token by token: the parts that are still to come, the first
-- one first. The inner contracts speak of it; what it amounts to is said by the grammar.
use Rattle.std.specs.Prelude.{ℕ, suc, nat_le, List, [], ◌∷◌, ◌++◌, codes, Option, Some, None, if◌then◌else◌}
use Rattle.hoa_lexer.specs.declared.token.Token.{Token}
use Rattle.hoa_lexer.specs.declared.token.Token.TheVariants.{HeaderName, Identifier, Str, Int, Alias, Bang, Amp, Bar, LeftParen, RightParen}
use Rattle.hoa_lexer.specs.declared.token.Token.TheVariants.{LeftBrace, RightBrace, LeftBracket, RightBracket, Body, End}
use Rattle.aut_base.specs.Text.{same_text}
use Rattle.hoa_parser.specs.Headers.{header_of}
use Rattle.hoa_parser.specs.declared.header.Header.{Header}
use Rattle.hoa_parser.specs.declared.header.Header.TheVariants as header

pub data Part : Type 0 where
  -- the whole automaton
  Whole : Part
  -- INT; ("&" INT)*
  Number : Part
  MoreNumbers : Part
  -- STRING; STRING?; STRING*
  Quoted : Part
  MaybeQuoted : Part
  Strings : Part
  -- IDENTIFIER; IDENTIFIER*
  Word : Part
  Words : Part
  -- ANAME
  AliasName : Part
  -- (INT | IDENTIFIER)*; (INT | STRING | IDENTIFIER)*
  AccValues : Part
  Values : Part
  -- lnot; ("&" lnot)*; ("|" land)*, where this many `(` and `!` are open
  Factor : ℕ → Part
  Factors : ℕ → Part
  Products : ℕ → Part
  -- fatom; ("&" fatom)*; ("|" fand)*, where this many `(` are open
  Atom : ℕ → Part
  Atoms : ℕ → Part
  Conjunctions : ℕ → Part
  -- "("; "!"?; ")"; "]"
  OpeningParen : Part
  MaybeBang : Part
  ClosingParen : Part
  ClosingBracket : Part
  -- item* "--BODY--" state* "--END--"
  Items : Part
  -- state* "--END--"
  States : Part
  -- ("[" label "]")?; sig?; INT* "}"; edge*
  MaybeLabel : Part
  MaybeMarks : Part
  Marks : Part
  Edges : Part

-- what a token is to a part: it begins it and leaves these parts of it, it stands behind it, or it can't stand here
pub data TokenUse : Type 0 where
  Takes : List Part → TokenUse
  Passes : TokenUse
  Refuses : TokenUse

-- label, formula and conj
abbrev pub expected_label : ℕ → List Part
expected_label depth = Factor depth ∷ Factors depth ∷ Products depth ∷ []

abbrev pub condition_parts : ℕ → List Part
condition_parts depth = Atom depth ∷ Atoms depth ∷ Conjunctions depth ∷ []

abbrev pub conj_parts : List Part
conj_parts = Number ∷ MoreNumbers ∷ []

-- what is expected behind the name of a header
abbrev pub header_parts : Header → List Part
header_parts header.States = Number ∷ []
header_parts header.Start = conj_parts
header_parts header.Ap = Number ∷ Strings ∷ []
header_parts header.Alias = AliasName ∷ expected_label 0
header_parts header.Acceptance = Number ∷ condition_parts 0
header_parts header.AccName = Word ∷ AccValues ∷ []
header_parts header.Tool = Quoted ∷ MaybeQuoted ∷ []
header_parts header.Name = Quoted ∷ []
header_parts header.Properties = Words ∷ []
header_parts header.Other = Values ∷ []
header_parts header.Opening = Values ∷ []
header_parts header.State = Values ∷ []

-- what follows the name of a header, where one may stand
abbrev pub header_move : Header → TokenUse
header_move header.Opening = Refuses
header_move header.State = Refuses
header_move h = Takes (header_parts h ++ Items ∷ [])

abbrev pub if_header : Header → Header → List Part → TokenUse
if_header header.Opening header.Opening parts = Takes parts
if_header header.State header.State parts = Takes parts
if_header _ _ parts = Refuses

-- the truth values, and the signs of acceptance conditions
abbrev pub label_word : List ℕ → TokenUse
label_word word = if same_text word (codes "t") then Takes [] else if same_text word (codes "f") then Takes [] else Refuses

abbrev pub set_parts : List Part
set_parts = OpeningParen ∷ MaybeBang ∷ Number ∷ ClosingParen ∷ []

abbrev pub condition_word : List ℕ → TokenUse
condition_word word =
    if same_text word (codes "t") then Takes [] else if same_text word (codes "f") then Takes [] else
    if same_text word (codes "Inf") then Takes set_parts else if same_text word (codes "Fin") then Takes set_parts else Refuses

abbrev pub move : Part → Token → TokenUse
move Whole (HeaderName name) = if_header header.Opening (header_of name) (Word ∷ Items ∷ [])
move Whole _ = Refuses
move Number (Int n) = Takes []
move Number _ = Refuses
move MoreNumbers Amp = Takes (Number ∷ MoreNumbers ∷ [])
move MoreNumbers _ = Passes
move Quoted (Str text) = Takes []
move Quoted _ = Refuses
move MaybeQuoted (Str text) = Takes []
move MaybeQuoted _ = Passes
move Strings (Str text) = Takes (Strings ∷ [])
move Strings _ = Passes
move Word (Identifier word) = Takes []
move Word _ = Refuses
move Words (Identifier word) = Takes (Words ∷ [])
move Words _ = Passes
move AliasName (Alias name) = Takes []
move AliasName _ = Refuses
move AccValues (Int n) = Takes (AccValues ∷ [])
move AccValues (Identifier word) = Takes (AccValues ∷ [])
move AccValues _ = Passes
move Values (Int n) = Takes (Values ∷ [])
move Values (Str text) = Takes (Values ∷ [])
move Values (Identifier word) = Takes (Values ∷ [])
move Values _ = Passes
move (Factor depth) Bang = Takes (Factor (suc depth) ∷ [])
move (Factor depth) (Identifier word) = label_word word
move (Factor depth) (Int n) = Takes []
move (Factor depth) (Alias name) = Takes []
move (Factor depth) LeftParen = Takes (expected_label (suc depth) ++ ClosingParen ∷ [])
move (Factor depth) _ = Refuses
move (Factors depth) Amp = Takes (Factor depth ∷ Factors depth ∷ [])
move (Factors depth) _ = Passes
move (Products depth) Bar = Takes (expected_label depth)
move (Products depth) _ = Passes
move (Atom depth) (Identifier word) = condition_word word
move (Atom depth) LeftParen = Takes (condition_parts (suc depth) ++ ClosingParen ∷ [])
move (Atom depth) _ = Refuses
move (Atoms depth) Amp = Takes (Atom depth ∷ Atoms depth ∷ [])
move (Atoms depth) _ = Passes
move (Conjunctions depth) Bar = Takes (condition_parts depth)
move (Conjunctions depth) _ = Passes
move OpeningParen LeftParen = Takes []
move OpeningParen _ = Refuses
move MaybeBang Bang = Takes []
move MaybeBang _ = Passes
move ClosingParen RightParen = Takes []
move ClosingParen _ = Refuses
move ClosingBracket RightBracket = Takes []
move ClosingBracket _ = Refuses
move Items (HeaderName name) = header_move (header_of name)
move Items Body = Takes (States ∷ [])
move Items _ = Refuses
move States (HeaderName name) = if_header header.State (header_of name) (MaybeLabel ∷ Number ∷ MaybeQuoted ∷ MaybeMarks ∷ Edges ∷ States ∷ [])
move States End = Takes []
move States _ = Refuses
move MaybeLabel LeftBracket = Takes (expected_label 0 ++ ClosingBracket ∷ [])
move MaybeLabel _ = Passes
move MaybeMarks LeftBrace = Takes (Marks ∷ [])
move MaybeMarks _ = Passes
move Marks (Int n) = Takes (Marks ∷ [])
move Marks RightBrace = Takes []
move Marks _ = Refuses
move Edges LeftBracket = Takes (expected_label 0 ++ ClosingBracket ∷ Number ∷ MoreNumbers ∷ MaybeMarks ∷ Edges ∷ [])
move Edges (Int n) = Takes (MoreNumbers ∷ MaybeMarks ∷ Edges ∷ [])
move Edges _ = Passes

-- how many `(` and `!` are open where this is expected
abbrev pub open_at : List Part → ℕ
open_at (Factor depth ∷ parts) = depth
open_at (Atom depth ∷ parts) = depth
open_at _ = 0

-- What is expected behind a token, if it can stand here and opens no more than `most`. `passed` is what is expected if
-- it stands behind the first part.
abbrev pub moved : ℕ → TokenUse → Option (List Part) → List Part → Option (List Part)
moved most (Takes parts) passed others = if nat_le (open_at parts) most then Some (parts ++ others) else None
moved most Passes passed others = passed
moved most Refuses passed others = None

abbrev pub parts_behind : ℕ → List Part → Token → Option (List Part)
parts_behind most [] token = None
parts_behind most (part ∷ parts) token = moved most (move part token) (parts_behind most parts token) parts

-- What is expected behind the tokens, if they can stand here and never open more than `most`.
abbrev pub after_some : ℕ → Option (List Part) → List Token → Option (List Part)
after_some most None tokens = None
after_some most (Some parts) [] = Some parts
after_some most (Some parts) (t ∷ ts) = after_some most (parts_behind most parts t) ts

abbrev pub parts_after : ℕ → List Part → List Token → Option (List Part)
parts_after most parts = after_some most (Some parts)
