-- What parts are written by, and that each can be written.
use Rattle.std.proofs.Common.{◌≡◌, ℕ, zero, Bool, false, List, [], ◌∷◌, ◌++◌, map, Option, None, refl}
use Rattle.std.specs.Prelude.{flat_map}
use Rattle.std.specs.List.{AllByRecursion}
use Rattle.hoa_lexer.specs.declared.token.Token.{Token}
use Rattle.hoa_lexer.specs.declared.token.Token.TheVariants as token
use Rattle.hoa_parser.specs.inner.Expecting as part
use Rattle.hoa_parser.specs.inner.Expecting.{Part}
use Rattle.hoa_parser.specs.Phrases.{Label, Lands, Lnots, Lnot, no_land, no_lnot, true_label, lands_tokens, lnots_tokens, lnot_tokens, LandsWithin}
use Rattle.hoa_parser.specs.Phrases.{LnotsWithin, LnotWithin, Fands, Fatoms, Fatom, no_fand, no_fatom, true_condition, fands_tokens, fatoms_tokens}
use Rattle.hoa_parser.specs.Grammar.{and_number, bang_tokens, optional_text}
use Rattle.hoa_parser.specs.Phrases.{fatom_tokens, FandsWithin, FatomsWithin, FatomWithin, AccValue, acc_value_token, Value}
use Rattle.hoa_parser.specs.Phrases.{value_token, ItemPhrase, item_tokens, ItemWithin, optional_label, OptionalWithin, optional_marks}
use Rattle.hoa_parser.specs.Phrases.{EdgePhrase, edge_tokens, StatePhrase, StateWithin, body_tokens, AutomatonPhrase, AutomatonWithin}
use Rattle.hoa_parser.specs.Phrases.{automaton_tokens}

-- The phrases of X that keep P are written by their tokens.
pub record IsWritten (X : Type 0) (P : X → Type 0) (tokens : X → List Token) (u : List Token) : Type 0 where
  pub phrase : X
  pub keeps : P phrase
  pub spelled : u ≡ tokens phrase

-- without a condition
abbrev pub IsPlain : (X : Type 0) → (X → List Token) → List Token → Type 0
IsPlain X = IsWritten X (λ x. Unit {0})

-- items and states
abbrev pub rest_tokens : (List ItemPhrase × List StatePhrase) → List Token
rest_tokens r = flat_map item_tokens r.0 ++ token.Body ∷ body_tokens r.1

abbrev pub RestWithin : ℕ → (List ItemPhrase × List StatePhrase) → Type 0
RestWithin most r = AllByRecursion (ItemWithin most) r.0 × AllByRecursion (StateWithin most) r.1

-- the part is written by these tokens
abbrev pub Fills : ℕ → Part → List Token → Type 0
Fills most part.Whole u = IsWritten AutomatonPhrase (AutomatonWithin most) automaton_tokens u
Fills most part.Number u = IsPlain ℕ (λ n. token.Int n ∷ []) u
Fills most part.MoreNumbers u = IsPlain (List ℕ) (flat_map and_number) u
Fills most part.Quoted u = IsPlain (List ℕ) (λ text. token.Str text ∷ []) u
Fills most part.MaybeQuoted u = IsPlain (Option (List ℕ)) optional_text u
Fills most part.Strings u = IsPlain (List (List ℕ)) (map token.Str) u
Fills most part.Word u = IsPlain (List ℕ) (λ word. token.Identifier word ∷ []) u
Fills most part.Words u = IsPlain (List (List ℕ)) (map token.Identifier) u
Fills most part.AliasName u = IsPlain (List ℕ) (λ name. token.Alias name ∷ []) u
Fills most part.AccValues u = IsPlain (List AccValue) (map acc_value_token) u
Fills most part.Values u = IsPlain (List Value) (map value_token) u
Fills most (part.Factor depth) u = IsWritten Lnot (LnotWithin most depth) lnot_tokens u
Fills most (part.Factors depth) u = IsWritten Lnots (LnotsWithin most depth) lnots_tokens u
Fills most (part.Products depth) u = IsWritten Lands (LandsWithin most depth) lands_tokens u
Fills most (part.Atom depth) u = IsWritten Fatom (FatomWithin most depth) fatom_tokens u
Fills most (part.Atoms depth) u = IsWritten Fatoms (FatomsWithin most depth) fatoms_tokens u
Fills most (part.Conjunctions depth) u = IsWritten Fands (FandsWithin most depth) fands_tokens u
Fills most part.OpeningParen u = u ≡ token.LeftParen ∷ []
Fills most part.MaybeBang u = IsPlain Bool bang_tokens u
Fills most part.ClosingParen u = u ≡ token.RightParen ∷ []
Fills most part.ClosingBracket u = u ≡ token.RightBracket ∷ []
Fills most part.Items u = IsWritten (List ItemPhrase × List StatePhrase) (RestWithin most) rest_tokens u
Fills most part.States u = IsWritten (List StatePhrase) (AllByRecursion (StateWithin most)) body_tokens u
Fills most part.MaybeLabel u = IsWritten (Option Label) (OptionalWithin most) optional_label u
Fills most part.MaybeMarks u = IsPlain (Option (List ℕ)) optional_marks u
Fills most part.Marks u = IsPlain (List ℕ) (λ marks. map token.Int marks ++ token.RightBrace ∷ []) u
Fills most part.Edges u = IsWritten (List EdgePhrase) (AllByRecursion (λ e. OptionalWithin most e.label)) (flat_map edge_tokens) u

-- the parts are written by these tokens, one after the other
abbrev pub Derives : ℕ → List Part → List Token → Type 0
Derives most [] u = u ≡ []
Derives most (p ∷ ps) u = (v : List Token) × (w : List Token) × Fills most p v × Derives most ps w × (u ≡ v ++ w)

-- each part can be written
pub record IsFillable (most : ℕ) (p : Part) : Type 0 where
  pub tokens : List Token
  pub fills : Fills most p tokens

fillable : (most : ℕ) (p : Part) → IsFillable most p
fillable most part.Whole = record { tokens = _; fills = record { phrase = record { version = []; items = []; states = [] }; keeps = (tt, tt); spelled = refl } }
fillable most part.Number = record { tokens = _; fills = record { phrase = zero; keeps = tt; spelled = refl } }
fillable most part.MoreNumbers = record { tokens = _; fills = record { phrase = []; keeps = tt; spelled = refl } }
fillable most part.Quoted = record { tokens = _; fills = record { phrase = []; keeps = tt; spelled = refl } }
fillable most part.MaybeQuoted = record { tokens = _; fills = record { phrase = None; keeps = tt; spelled = refl } }
fillable most part.Strings = record { tokens = _; fills = record { phrase = []; keeps = tt; spelled = refl } }
fillable most part.Word = record { tokens = _; fills = record { phrase = []; keeps = tt; spelled = refl } }
fillable most part.Words = record { tokens = _; fills = record { phrase = []; keeps = tt; spelled = refl } }
fillable most part.AliasName = record { tokens = _; fills = record { phrase = []; keeps = tt; spelled = refl } }
fillable most part.AccValues = record { tokens = _; fills = record { phrase = []; keeps = tt; spelled = refl } }
fillable most part.Values = record { tokens = _; fills = record { phrase = []; keeps = tt; spelled = refl } }
fillable most (part.Factor depth) = record { tokens = _; fills = record { phrase = true_label; keeps = tt; spelled = refl } }
fillable most (part.Factors depth) = record { tokens = _; fills = record { phrase = no_lnot; keeps = tt; spelled = refl } }
fillable most (part.Products depth) = record { tokens = _; fills = record { phrase = no_land; keeps = tt; spelled = refl } }
fillable most (part.Atom depth) = record { tokens = _; fills = record { phrase = true_condition; keeps = tt; spelled = refl } }
fillable most (part.Atoms depth) = record { tokens = _; fills = record { phrase = no_fatom; keeps = tt; spelled = refl } }
fillable most (part.Conjunctions depth) = record { tokens = _; fills = record { phrase = no_fand; keeps = tt; spelled = refl } }
fillable most part.OpeningParen = record { tokens = _; fills = refl }
fillable most part.MaybeBang = record { tokens = _; fills = record { phrase = false; keeps = tt; spelled = refl } }
fillable most part.ClosingParen = record { tokens = _; fills = refl }
fillable most part.ClosingBracket = record { tokens = _; fills = refl }
fillable most part.Items = record { tokens = _; fills = record { phrase = ([], []); keeps = (tt, tt); spelled = refl } }
fillable most part.States = record { tokens = _; fills = record { phrase = []; keeps = tt; spelled = refl } }
fillable most part.MaybeLabel = record { tokens = _; fills = record { phrase = None; keeps = tt; spelled = refl } }
fillable most part.MaybeMarks = record { tokens = _; fills = record { phrase = None; keeps = tt; spelled = refl } }
fillable most part.Marks = record { tokens = _; fills = record { phrase = []; keeps = tt; spelled = refl } }
fillable most part.Edges = record { tokens = _; fills = record { phrase = []; keeps = tt; spelled = refl } }

-- and so all of them can
pub record IsCompletable (most : ℕ) (ps : List Part) : Type 0 where
  pub tokens : List Token
  pub derives : Derives most ps tokens

pub completable : (most : ℕ) (ps : List Part) → IsCompletable most ps
completable most [] = record { tokens = []; derives = refl }
completable most (p ∷ ps) =
    let first = fillable most p in
    let others = completable most ps in
    record { tokens = first.tokens ++ others.tokens; derives = (first.tokens, others.tokens, first.fills, others.derives, refl) }
