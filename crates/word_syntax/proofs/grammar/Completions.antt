-- Each state of the parser can be completed to a whole word.
use Rattle.std.proofs.Common.{◌≡◌, ◌∙◌, ◌∷◌, ◌++◌, Bool, List, None, Some, [], ap, cond, false, refl, true, ℕ}
use Rattle.std.proofs.lemmas.Option.{none-some}
use Rattle.aut_base.specs.Label as label
use Rattle.aut_base.specs.Label.{LabelTree}
use Rattle.word_syntax.proofs.grammar.InLetters.{letter_taken}
use Rattle.word_syntax.proofs.grammar.LetterRuns.{awaiting, ended}
use Rattle.word_syntax.proofs.grammar.NamePlaces.{names_of-append}
use Rattle.word_syntax.proofs.grammar.Runs.{runs_then}
use Rattle.word_syntax.specs.inner.Runs.{RunsTokens}
use Rattle.word_syntax.proofs.grammar.WordParts.{word}
use Rattle.word_syntax.specs.Grammar.{token_names}
use Rattle.word_syntax.specs.inner.Machine.{LetterState, LevelTree, WordState, complete_level, has_letters, is_of_letter, letter_step, level_label, with_letter, word_step}
use Rattle.word_syntax.specs.declared.stage.Stage.{Stage}
use Rattle.word_syntax.specs.declared.stage.Stage.TheVariants.{Stem, Brace, Cycle, End}
use Rattle.word_syntax.specs.declared.token.Token.{Token}
use Rattle.word_syntax.specs.declared.token.Token.TheVariants as token

none_anyway : {A : Type 0} (b : Bool) (x : A) → cond b None None ≡ Some x → ⊥
none_anyway true x e = none-some x e
none_anyway false x e = none-some x e

of_letter : (place : List ℕ → ℕ) (s next : LetterState) (t : Token) → letter_step place s t ≡ Some next → is_of_letter t ≡ true
of_letter place s next token.True e = refl
of_letter place s next token.False e = refl
of_letter place s next (token.Name name) e = refl
of_letter place s next token.Not e = refl
of_letter place s next token.And e = refl
of_letter place s next token.Or e = refl
of_letter place s next token.LeftParen e = refl
of_letter place s next token.RightParen e = refl
of_letter place s next token.Semicolon e = absurd (none_anyway s.ready next e)
of_letter place s next token.Cycle e = absurd (none_anyway s.ready next e)
of_letter place s next token.LeftBrace e = absurd (none_anyway s.ready next e)
of_letter place s next token.RightBrace e = absurd (none_anyway s.ready next e)

-- a run of the letter's parser is one of the word's parser, within its letter
pub lifted : (place : List ℕ → ℕ) (s : WordState) (a b : LetterState) (w : List Token) → has_letters s.stage ≡ true → RunsTokens (letter_step place) a w b
    → RunsTokens (word_step place) (with_letter s a) w (with_letter s b)
lifted place s a b [] has runs = ap (with_letter s) runs
lifted place s a b (t ∷ w) has runs =
    (with_letter s runs.0, letter_taken place (with_letter s a) t (Some runs.0) (of_letter place a runs.0 t runs.1) has runs.1, lifted place s runs.0 b w has runs.2)

-- tokens that complete a letter
pub record LetterEnd (place : List ℕ → ℕ) (s : LetterState) : Type 0 where
  pub more : List Token
  pub inner : LevelTree
  pub runs : RunsTokens (letter_step place) s more (ended [] inner)
  pub nameless : token_names more ≡ []

close_all : (place : List ℕ → ℕ) (o : List LevelTree) (l : LevelTree) → LetterEnd place (ended o l)
close_all place [] l = record { more = []; inner = l; runs = refl; nameless = refl }
close_all place (k ∷ ks) l =
    let rest = close_all place ks (complete_level k (level_label l)) in
    record { more = token.RightParen ∷ rest.more; inner = rest.inner; runs = (ended ks (complete_level k (level_label l)), refl, rest.runs); nameless = rest.nameless }

letter_end_at : (place : List ℕ → ℕ) (o : List LevelTree) (l : LevelTree) (ready : Bool) → LetterEnd place (record { outer = o; level = l; ready = ready })
letter_end_at place o l true = close_all place o l
letter_end_at place o l false =
    let rest = close_all place o (complete_level l label.True) in
    record { more = token.True ∷ rest.more; inner = rest.inner; runs = (ended o (complete_level l label.True), refl, rest.runs); nameless = rest.nameless }

letter_end : (place : List ℕ → ℕ) (s : LetterState) → LetterEnd place s
letter_end place s = letter_end_at place s.outer s.level s.ready

-- tokens that complete a word
pub record WordEnd (place : List ℕ → ℕ) (s : WordState) : Type 0 where
  pub more : List Token
  pub last : WordState
  pub runs : RunsTokens (word_step place) s more last
  pub stage : last.stage ≡ End
  pub nameless : token_names more ≡ []

nameless_then : (v w : List Token) → token_names v ≡ [] → token_names w ≡ [] → token_names (v ++ w) ≡ []
nameless_then v w e f = names_of-append v w ∙ (ap (λ (x : List (List ℕ)). x ++ token_names w) e ∙ f)

end_cycle : (place : List ℕ → ℕ) (stem cycle : List LabelTree) (l : LetterState) → WordEnd place (word stem cycle Cycle l)
end_cycle place stem cycle l =
    let rest = letter_end place l in
    let s : WordState = word stem cycle Cycle l in
    let last : WordState = word stem (cycle ++ level_label rest.inner ∷ []) End (awaiting [] (record { around = 0; ors = []; ands = []; nots = 0 })) in
    record {
      more = rest.more ++ token.RightBrace ∷ [];
      last = last;
      runs = runs_then (word_step place) s (with_letter s (ended [] rest.inner)) last rest.more (token.RightBrace ∷ []) (lifted place s l (ended [] rest.inner) rest.more refl rest.runs)
          (last, refl, refl);
      stage = refl;
      nameless = nameless_then rest.more (token.RightBrace ∷ []) rest.nameless refl;
    }

end_brace : (place : List ℕ → ℕ) (stem cycle : List LabelTree) (l : LetterState) → WordEnd place (word stem cycle Brace l)
end_brace place stem cycle l =
    let rest = end_cycle place stem cycle l in
    record { more = token.LeftBrace ∷ rest.more; last = rest.last; runs = (word stem cycle Cycle l, refl, rest.runs); stage = rest.stage; nameless = rest.nameless }

end_stem : (place : List ℕ → ℕ) (stem cycle : List LabelTree) (l : LetterState) → WordEnd place (word stem cycle Stem l)
end_stem place stem cycle l =
    let rest = letter_end place l in
    let s : WordState = word stem cycle Stem l in
    let none : LetterState = awaiting [] (record { around = 0; ors = []; ands = []; nots = 0 }) in
    let stem' : List LabelTree = stem ++ level_label rest.inner ∷ [] in
    let behind = end_brace place stem' cycle none in
    record {
      more = rest.more ++ (token.Semicolon ∷ token.Cycle ∷ behind.more);
      last = behind.last;
      runs = runs_then (word_step place) s (with_letter s (ended [] rest.inner)) behind.last rest.more (token.Semicolon ∷ token.Cycle ∷ behind.more)
          (lifted place s l (ended [] rest.inner) rest.more refl rest.runs)
          (word stem' cycle Stem none, refl, (word stem' cycle Brace none, refl, behind.runs));
      stage = behind.stage;
      nameless = nameless_then rest.more (token.Semicolon ∷ token.Cycle ∷ behind.more) rest.nameless behind.nameless;
    }

end_at : (place : List ℕ → ℕ) (stem cycle : List LabelTree) (stage : Stage) (l : LetterState) → WordEnd place (word stem cycle stage l)
end_at place stem cycle Stem l = end_stem place stem cycle l
end_at place stem cycle Brace l = end_brace place stem cycle l
end_at place stem cycle Cycle l = end_cycle place stem cycle l
end_at place stem cycle End l = record { more = []; last = word stem cycle End l; runs = refl; stage = refl; nameless = refl }

pub word_end : (place : List ℕ → ℕ) (s : WordState) → WordEnd place s
word_end place s = end_at place s.stem s.cycle s.stage s.letter
