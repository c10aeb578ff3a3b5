-- The tokens that the word's parser has read are the beginning of a word, by the grammar.
use Rattle.std.proofs.Common.{◌≡◌, ◌∙◌, ◌∷◌, ◌++◌, ◌&&◌, ◌==◌, Bool, List, None, Option, Some, [], ap, arith, cond, false, not, refl, subst, sym, true, ℕ}
use Rattle.std.proofs.lemmas.Bool.{and_parts}
use Rattle.std.proofs.lemmas.Bool.Decides.{nat_tests}
use Rattle.std.proofs.lemmas.List.{append_assoc, append-nil}
use Rattle.std.proofs.lemmas.Option.{cond_some, none-some, option_and_then_some, same_Some}
use Rattle.std.specs.Option.{option_map}
use Rattle.aut_base.specs.declared.limit.TheConstants.{MOST_DEPTH}
use Rattle.aut_base.specs.Label.{LabelTree}
use Rattle.word_syntax.proofs.grammar.NamePlaces.{each_once}
use Rattle.word_syntax.proofs.grammar.LetterParts.{IsLevel, IsPart, Knows, Surrounds, level_letter, nots, part_fresh, part_step}
use Rattle.word_syntax.specs.Grammar.{AreLetters, IsWord, letter, token_names, no_letter}
use Rattle.word_syntax.proofs.grammar.FromLeft.{AreConjunctions, AreConjuncts, IsLetter, alternative, no_conjunction, no_operand, operand, letter_sum}
use Rattle.word_syntax.specs.inner.Machine as machine
use Rattle.word_syntax.specs.inner.Machine.{LetterState, LevelTree, WordState, is_fresh, is_none, is_of_letter, letter_step, level_label, whole_letter, with_letter, word_step}
use Rattle.word_syntax.specs.declared.stage.Stage.{Stage}
use Rattle.word_syntax.specs.declared.stage.Stage.TheVariants.{Stem, Brace, Cycle, End}
use Rattle.word_syntax.specs.declared.token.Token.{Token}
use Rattle.word_syntax.specs.declared.token.Token.TheVariants as token

none_is : {A : Type 0} (xs : List A) → is_none xs ≡ true → xs ≡ []
none_is [] e = refl
none_is (x ∷ xs) e = absurd (grind (arith, nat_tests))

not_pushed : {A : Type 0} (xs ys : List A) (x : A) → ys ≡ [] → ys ≡ xs ++ x ∷ [] → ⊥
not_pushed [] ys x e h = cc
not_pushed (y ∷ xs) ys x e h = cc

no_conjunctions : {names : List (List ℕ)} {room : ℕ} {w : List Token} {ts : List LabelTree} → AreConjunctions names room w ts → ts ≡ [] → w ≡ []
no_conjunctions no_conjunction e = refl
no_conjunctions (alternative {ts = ts} {us = us} {t = t} before one spelled parts) e = absurd (not_pushed ts us t e parts)

no_operands : {names : List (List ℕ)} {room : ℕ} {w : List Token} {ts : List LabelTree} → AreConjuncts names room w ts → ts ≡ [] → w ≡ []
no_operands no_operand e = refl
no_operands (operand {ts = ts} {us = us} {t = t} before one spelled parts) e = absurd (not_pushed ts us t e parts)

whole_level : (names : List (List ℕ)) (o : List LevelTree) (l : LevelTree) (ready : Bool) (v u : List Token) → Surrounds names o l.around v → IsLevel names ready l u
    → (ready && is_none o) ≡ true → IsLetter names MOST_DEPTH (v ++ u) (level_label l)
whole_level names o l false v u outer inner e = cc
whole_level names [] l true v u outer inner e =
    let all : inner.room ≡ MOST_DEPTH = omega (arith, inner.room_is, outer.1) in
    let P : ℕ → Type 0 = λ r. IsLetter names r u (level_label l) in
    let Q : List Token → Type 0 = λ x. IsLetter names MOST_DEPTH (x ++ u) (level_label l) in
    subst Q (sym outer.0) (subst P all (level_letter names l u inner))
whole_level names (k ∷ ks) l true v u outer inner e = absurd (grind (arith, nat_tests))

whole_part : (names : List (List ℕ)) (s : LetterState) (w : List Token) (t : LabelTree) → IsPart names s w → whole_letter s ≡ Some t → IsLetter names MOST_DEPTH w t
whole_part names s w t part e =
    let found = cond_some (s.ready && is_none s.outer) (level_label s.level) t e in
    let P : LabelTree → Type 0 = λ x. IsLetter names MOST_DEPTH w x in
    let Q : List Token → Type 0 = λ x. IsLetter names MOST_DEPTH x (level_label s.level) in
    subst P found.1 (subst Q (sym part.spelled) (whole_level names s.outer s.level s.ready part.outer_tokens part.level_tokens part.outer part.inner found.0))

fresh_level_empty : (names : List (List ℕ)) (o : List LevelTree) (l : LevelTree) (ready : Bool) (v u : List Token) → Surrounds names o l.around v → IsLevel names ready l u → not ready ≡ true
    → o ≡ [] → l.ors ≡ [] → l.ands ≡ [] → l.nots ≡ 0 → v ++ u ≡ []
fresh_level_empty names o l true v u outer inner waits e1 e2 e3 e4 = cc
fresh_level_empty names [] l false v u outer inner waits e1 e2 e3 e4 =
    let ors = no_conjunctions inner.ors e2 in
    let ands = no_operands inner.ands e3 in
    let none : nots l.nots ≡ [] = ap nots e4 in
    ap (λ (x : List Token). x ++ u) outer.0 ∙ (inner.spelled ∙ (ap (λ (x : List Token). x ++ (inner.ands_tokens ++ nots l.nots)) ors ∙ (ap (λ (x : List Token). x ++ nots l.nots) ands ∙ none)))
fresh_level_empty names (k ∷ ks) l false v u outer inner waits e1 e2 e3 e4 = cc

fresh_part : (names : List (List ℕ)) (s : LetterState) (w : List Token) → IsPart names s w → is_fresh s ≡ true → w ≡ []
fresh_part names s w part e =
    let a = and_parts (not s.ready) (is_none s.outer && (is_none s.level.ors && (is_none s.level.ands && (s.level.nots == 0)))) e in
    let b = and_parts (is_none s.outer) (is_none s.level.ors && (is_none s.level.ands && (s.level.nots == 0))) a.1 in
    let c = and_parts (is_none s.level.ors) (is_none s.level.ands && (s.level.nots == 0)) b.1 in
    let d = and_parts (is_none s.level.ands) (s.level.nots == 0) c.1 in
    let zeros : s.level.nots ≡ 0 = grind (arith, nat_tests) in
    part.spelled ∙ fresh_level_empty names s.outer s.level s.ready part.outer_tokens part.level_tokens part.outer part.inner a.0 (none_is s.outer b.0) (none_is s.level.ors c.0)
    (none_is s.level.ands d.0) zeros

-- in the stem
pub record StemPart (names : List (List ℕ)) (s : WordState) (tokens : List Token) : Type 0 where
  pub stem_tokens : List Token
  pub letter_tokens : List Token
  pub stem : AreLetters names MOST_DEPTH stem_tokens s.stem
  pub part : IsPart names s.letter letter_tokens
  pub cycle : s.cycle ≡ []
  pub spelled : tokens ≡ stem_tokens ++ letter_tokens

-- after `cycle`
pub record BracePart (names : List (List ℕ)) (s : WordState) (tokens : List Token) : Type 0 where
  pub stem_tokens : List Token
  pub stem : AreLetters names MOST_DEPTH stem_tokens s.stem
  pub part : IsPart names s.letter []
  pub cycle : s.cycle ≡ []
  pub spelled : tokens ≡ stem_tokens ++ token.Cycle ∷ []

-- in the cycle
pub record CyclePart (names : List (List ℕ)) (s : WordState) (tokens : List Token) : Type 0 where
  pub stem_tokens : List Token
  pub cycle_tokens : List Token
  pub letter_tokens : List Token
  pub stem : AreLetters names MOST_DEPTH stem_tokens s.stem
  pub cycle : AreLetters names MOST_DEPTH cycle_tokens s.cycle
  pub part : IsPart names s.letter letter_tokens
  pub spelled : tokens ≡ stem_tokens ++ (token.Cycle ∷ token.LeftBrace ∷ (cycle_tokens ++ letter_tokens))

-- after the closing brace: a word, where the names are those of its tokens
abbrev pub EndPart : List (List ℕ) → WordState → List Token → Type 0
EndPart names s tokens = names ≡ each_once (token_names tokens) → IsWord tokens (record { names = names; stem = s.stem; cycle = s.cycle })

abbrev pub PartAt : Stage → List (List ℕ) → WordState → List Token → Type 0
PartAt Stem names s tokens = StemPart names s tokens
PartAt Brace names s tokens = BracePart names s tokens
PartAt Cycle names s tokens = CyclePart names s tokens
PartAt End names s tokens = EndPart names s tokens

-- the tokens of a word as far as it is read
abbrev pub IsWordPart : List (List ℕ) → WordState → List Token → Type 0
IsWordPart names s tokens = PartAt s.stage names s tokens

abbrev pub word : List LabelTree → List LabelTree → Stage → LetterState → WordState
word stem cycle stage l = record { stem = stem; cycle = cycle; stage = stage; letter = l }

-- the same of a next state that is known
part_at : (names : List (List ℕ)) (s next : WordState) (tokens : List Token) → Some s ≡ Some next → IsWordPart names s tokens → IsWordPart names next tokens
part_at names s next tokens e part = let P : WordState → Type 0 = λ x. IsWordPart names x tokens in subst P (same_Some s next e) part

four : (v a w : List Token) (x y z : Token) → (v ++ (x ∷ y ∷ (a ++ w))) ++ z ∷ [] ≡ v ++ (x ∷ y ∷ (a ++ (w ++ z ∷ [])))
four v a w x y z = simp append_assoc

five : (v a w : List Token) (x y z : Token) → (v ++ (x ∷ y ∷ (a ++ w))) ++ z ∷ [] ≡ v ++ (x ∷ y ∷ ((a ++ (w ++ z ∷ [])) ++ []))
five v a w x y z = simp (append_assoc, append-nil)

semicolon_part : (names : List (List ℕ)) (stem cycle : List LabelTree) (stage : Stage) (l : LetterState) (next : WordState) (t : LabelTree) (tokens : List Token)
    → IsWordPart names (word stem cycle stage l) tokens → whole_letter l ≡ Some t → machine.letter_ended stage (word stem cycle stage l) t ≡ Some next
    → IsWordPart names next (tokens ++ token.Semicolon ∷ [])
semicolon_part names stem cycle Stem l next t tokens p whole step = part_at names _ next (tokens ++ token.Semicolon ∷ []) step (record {
  stem_tokens = p.stem_tokens ++ (p.letter_tokens ++ token.Semicolon ∷ []);
  letter_tokens = [];
  stem = letter p.stem (letter_sum (whole_part names l p.letter_tokens t p.part whole)) refl refl;
  part = part_fresh names;
  cycle = p.cycle;
  spelled = ap (λ (x : List Token). x ++ token.Semicolon ∷ []) p.spelled
      ∙ (append_assoc p.stem_tokens p.letter_tokens (token.Semicolon ∷ []) ∙ sym (append-nil (p.stem_tokens ++ (p.letter_tokens ++ token.Semicolon ∷ []))));
})
semicolon_part names stem cycle Cycle l next t tokens p whole step = part_at names _ next (tokens ++ token.Semicolon ∷ []) step (record {
  stem_tokens = p.stem_tokens;
  cycle_tokens = p.cycle_tokens ++ (p.letter_tokens ++ token.Semicolon ∷ []);
  letter_tokens = [];
  stem = p.stem;
  cycle = letter p.cycle (letter_sum (whole_part names l p.letter_tokens t p.part whole)) refl refl;
  part = part_fresh names;
  spelled = ap (λ (x : List Token). x ++ token.Semicolon ∷ []) p.spelled ∙ five p.stem_tokens p.cycle_tokens p.letter_tokens token.Cycle token.LeftBrace token.Semicolon;
})
semicolon_part names stem cycle Brace l next t tokens p whole step = absurd (none-some next step)
semicolon_part names stem cycle End l next t tokens p whole step = absurd (none-some next step)

brace_part : (names : List (List ℕ)) (stem cycle : List LabelTree) (stage : Stage) (l : LetterState) (next : WordState) (t : LabelTree) (tokens : List Token)
    → IsWordPart names (word stem cycle stage l) tokens → whole_letter l ≡ Some t → machine.closed_at stage (word stem cycle stage l) t ≡ Some next
    → IsWordPart names next (tokens ++ token.RightBrace ∷ [])
brace_part names stem cycle Cycle l next t tokens p whole step = part_at names _ next (tokens ++ token.RightBrace ∷ []) step (λ names_are. record {
  stem_tokens = p.stem_tokens;
  cycle_tokens = p.cycle_tokens;
  last_tokens = p.letter_tokens;
  first = cycle;
  last = t;
  names = names_are;
  stem = p.stem;
  letters = p.cycle;
  last_letter = letter_sum (whole_part names l p.letter_tokens t p.part whole);
  cycle = refl;
  spelled = ap (λ (x : List Token). x ++ token.RightBrace ∷ []) p.spelled ∙ four p.stem_tokens p.cycle_tokens p.letter_tokens token.Cycle token.LeftBrace token.RightBrace;
})
brace_part names stem cycle Stem l next t tokens p whole step = absurd (none-some next step)
brace_part names stem cycle Brace l next t tokens p whole step = absurd (none-some next step)
brace_part names stem cycle End l next t tokens p whole step = absurd (none-some next step)

cycle_part : (names : List (List ℕ)) (stem cycle : List LabelTree) (stage : Stage) (l : LetterState) (next : WordState) (tokens : List Token)
    → IsWordPart names (word stem cycle stage l) tokens → machine.cycle_at stage (word stem cycle stage l) ≡ Some next → IsWordPart names next (tokens ++ token.Cycle ∷ [])
cycle_part names stem cycle Stem l next tokens p step =
    let found = cond_some (is_fresh l) (word stem cycle Brace l) next step in
    let none = fresh_part names l p.letter_tokens p.part found.0 in
    let P : List Token → Type 0 = λ x. IsPart names l x in
    part_at names _ next (tokens ++ token.Cycle ∷ []) (ap Some found.1) (record {
      stem_tokens = p.stem_tokens;
      stem = p.stem;
      part = subst P none p.part;
      cycle = p.cycle;
      spelled = ap (λ (x : List Token). x ++ token.Cycle ∷ []) (p.spelled ∙ (ap (λ (x : List Token). p.stem_tokens ++ x) none ∙ append-nil p.stem_tokens));
    })
cycle_part names stem cycle Cycle l next tokens p step = absurd (none-some next step)
cycle_part names stem cycle Brace l next tokens p step = absurd (none-some next step)
cycle_part names stem cycle End l next tokens p step = absurd (none-some next step)

opened_part : (names : List (List ℕ)) (stem cycle : List LabelTree) (stage : Stage) (l : LetterState) (next : WordState) (tokens : List Token)
    → IsWordPart names (word stem cycle stage l) tokens → machine.brace_at stage (word stem cycle stage l) ≡ Some next → IsWordPart names next (tokens ++ token.LeftBrace ∷ [])
opened_part names stem cycle Brace l next tokens p step =
    let P : List LabelTree → Type 0 = λ x. AreLetters names MOST_DEPTH [] x in
    part_at names _ next (tokens ++ token.LeftBrace ∷ []) step (record {
      stem_tokens = p.stem_tokens;
      cycle_tokens = [];
      letter_tokens = [];
      stem = p.stem;
      cycle = subst P (sym p.cycle) no_letter;
      part = p.part;
      spelled = ap (λ (x : List Token). x ++ token.LeftBrace ∷ []) p.spelled ∙ append_assoc p.stem_tokens (token.Cycle ∷ []) (token.LeftBrace ∷ []);
    })
opened_part names stem cycle Stem l next tokens p step = absurd (none-some next step)
opened_part names stem cycle Cycle l next tokens p step = absurd (none-some next step)
opened_part names stem cycle End l next tokens p step = absurd (none-some next step)

-- a token that the letter's parser takes
mapped : (f : LetterState → WordState) (o : Option LetterState) (next : WordState) → option_map f o ≡ Some next → (l : LetterState) × (o ≡ Some l) × (f l ≡ next)
mapped f None next e = absurd (none-some next e)
mapped f (Some l) next e = (l, refl, same_Some _ _ e)

lettered_part : (place : List ℕ → ℕ) (names : List (List ℕ)) (stem cycle : List LabelTree) (stage : Stage) (l : LetterState) (next : WordState) (t : Token) (tokens : List Token)
    → Knows place names t → IsWordPart names (word stem cycle stage l) tokens
    → cond (machine.has_letters stage) (option_map (with_letter (word stem cycle stage l)) (letter_step place l t)) None ≡ Some next → IsWordPart names next (tokens ++ t ∷ [])
lettered_part place names stem cycle Stem l next t tokens knows p step =
    let m = mapped (with_letter (word stem cycle Stem l)) (letter_step place l t) next step in
    part_at names _ next (tokens ++ t ∷ []) (ap Some m.2) (record {
      stem_tokens = p.stem_tokens;
      letter_tokens = p.letter_tokens ++ t ∷ [];
      stem = p.stem;
      part = part_step place names l m.0 t p.letter_tokens knows p.part m.1;
      cycle = p.cycle;
      spelled = ap (λ (x : List Token). x ++ t ∷ []) p.spelled ∙ append_assoc p.stem_tokens p.letter_tokens (t ∷ []);
    })
lettered_part place names stem cycle Cycle l next t tokens knows p step =
    let m = mapped (with_letter (word stem cycle Cycle l)) (letter_step place l t) next step in
    part_at names _ next (tokens ++ t ∷ []) (ap Some m.2) (record {
      stem_tokens = p.stem_tokens;
      cycle_tokens = p.cycle_tokens;
      letter_tokens = p.letter_tokens ++ t ∷ [];
      stem = p.stem;
      cycle = p.cycle;
      part = part_step place names l m.0 t p.letter_tokens knows p.part m.1;
      spelled = ap (λ (x : List Token). x ++ t ∷ []) p.spelled ∙ four p.stem_tokens p.cycle_tokens p.letter_tokens token.Cycle token.LeftBrace t;
    })
lettered_part place names stem cycle Brace l next t tokens knows p step = absurd (none-some next step)
lettered_part place names stem cycle End l next t tokens knows p step = absurd (none-some next step)

-- another token
pub word_part_step : (place : List ℕ → ℕ) (names : List (List ℕ)) (s next : WordState) (t : Token) (tokens : List Token) → Knows place names t → IsWordPart names s tokens
    → word_step place s t ≡ Some next → IsWordPart names next (tokens ++ t ∷ [])
word_part_step place names s next token.Semicolon tokens knows p step = option_and_then_some (machine.letter_ended s.stage s) (whole_letter s.letter) next step
    (λ t whole e. semicolon_part names s.stem s.cycle s.stage s.letter next t tokens p whole e)
word_part_step place names s next token.RightBrace tokens knows p step = option_and_then_some (machine.closed_at s.stage s) (whole_letter s.letter) next step
    (λ t whole e. brace_part names s.stem s.cycle s.stage s.letter next t tokens p whole e)
word_part_step place names s next token.Cycle tokens knows p step = cycle_part names s.stem s.cycle s.stage s.letter next tokens p step
word_part_step place names s next token.LeftBrace tokens knows p step = opened_part names s.stem s.cycle s.stage s.letter next tokens p step
word_part_step place names s next token.True tokens knows p step = lettered_part place names s.stem s.cycle s.stage s.letter next token.True tokens knows p step
word_part_step place names s next token.False tokens knows p step = lettered_part place names s.stem s.cycle s.stage s.letter next token.False tokens knows p step
word_part_step place names s next (token.Name name) tokens knows p step = lettered_part place names s.stem s.cycle s.stage s.letter next (token.Name name) tokens knows p step
word_part_step place names s next token.Not tokens knows p step = lettered_part place names s.stem s.cycle s.stage s.letter next token.Not tokens knows p step
word_part_step place names s next token.And tokens knows p step = lettered_part place names s.stem s.cycle s.stage s.letter next token.And tokens knows p step
word_part_step place names s next token.Or tokens knows p step = lettered_part place names s.stem s.cycle s.stage s.letter next token.Or tokens knows p step
word_part_step place names s next token.LeftParen tokens knows p step = lettered_part place names s.stem s.cycle s.stage s.letter next token.LeftParen tokens knows p step
word_part_step place names s next token.RightParen tokens knows p step = lettered_part place names s.stem s.cycle s.stage s.letter next token.RightParen tokens knows p step

-- nothing is read yet
pub word_part_start : (names : List (List ℕ)) → IsWordPart names machine.word_start []
word_part_start names = record { stem_tokens = []; letter_tokens = []; stem = no_letter; part = part_fresh names; cycle = refl; spelled = refl }
