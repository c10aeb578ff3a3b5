-- The word's parser and the grammar agree: on which tokens are a word, which begin one, and on the pattern.
use Rattle.std.proofs.Common.{◌≡◌, ◌≢◌, ◌∙◌, ◌∷◌, ◌++◌, List, None, Some, [], ap, arith, refl, subst, sym, ℕ}
use Rattle.std.proofs.lemmas.List.{append_assoc, append-nil}
use Rattle.std.specs.List.{AllByRecursion}
use Rattle.aut_base.specs.declared.limit.TheConstants.{MOST_DEPTH}
use Rattle.aut_base.specs.Label.{LabelTree}
use Rattle.word_syntax.proofs.grammar.NamePlaces.{each_once}
use Rattle.word_syntax.proofs.grammar.Completions.{lifted, word_end}
use Rattle.word_syntax.proofs.grammar.LetterParts.{Knows}
use Rattle.word_syntax.proofs.grammar.LetterRuns.{ended, letter_runs}
use Rattle.word_syntax.proofs.grammar.NamePlaces.{agrees_front, distinct_differ, distinct_front, knows_all, names_of-append, place_in, places_agree}
use Rattle.word_syntax.proofs.grammar.Runs.{runs_once, runs_over, runs_push, runs_stuck, runs_then, runs_to}
use Rattle.word_syntax.specs.inner.Runs.{RunsTokens}
use Rattle.word_syntax.proofs.grammar.WordParts.{IsWordPart, PartAt, word, word_part_start, word_part_step}
use Rattle.word_syntax.specs.Grammar.{AreLetters, IsPrefixOfWord, IsWord, WordPattern, letter, token_names, no_letter}
use Rattle.word_syntax.proofs.grammar.FromLeft.{sum_letter}
use Rattle.word_syntax.specs.inner.Chains.{Agrees}
use Rattle.word_syntax.specs.inner.Reading.{HasReadTokens}
use Rattle.word_syntax.specs.inner.Machine.{WordState, fresh, with_letter, word_start, word_step}
use Rattle.word_syntax.specs.declared.stage.Stage.{Stage}
use Rattle.word_syntax.specs.declared.stage.Stage.TheVariants.{Stem, Brace, Cycle, End}
use Rattle.word_syntax.specs.declared.token.Token.{Token}
use Rattle.word_syntax.specs.declared.token.Token.TheVariants as token

-- letters of the stem, and of the cycle
stem_runs : (place : List ℕ → ℕ) {names : List (List ℕ)} {w : List Token} {ts : List LabelTree} → Agrees place names → AreLetters names MOST_DEPTH w ts
    → RunsTokens (word_step place) word_start w (word ts [] Stem fresh)
stem_runs place agrees no_letter = refl
stem_runs place {names = names} agrees (letter {v = v} {w = w} {u = u} {ts = ts} {us = us} {t = t} before one spelled parts) =
    let first = stem_runs place agrees before in
    let read = letter_runs place agrees (sum_letter names one) [] 0 (omega arith) in
    let here : WordState = word ts [] Stem fresh in
    let second = lifted place here fresh (ended [] read.inner) w refl read.runs in
    let third = runs_push (word_step place) here (with_letter here (ended [] read.inner)) (word (ts ++ t ∷ []) [] Stem fresh) w token.Semicolon second
    (ap (λ (x : LabelTree). Some (word (ts ++ x ∷ []) [] Stem fresh)) read.says) in
    runs_to (word_step place) _ _ _ u (runs_over (word_step place) _ _ _ _ (sym spelled)
    (runs_then (word_step place) word_start here (word (ts ++ t ∷ []) [] Stem fresh) v (w ++ token.Semicolon ∷ []) first third)) (ap (λ (x : List LabelTree). word x [] Stem fresh) (sym parts))

cycle_runs : (place : List ℕ → ℕ) (stem : List LabelTree) {names : List (List ℕ)} {w : List Token} {ts : List LabelTree} → Agrees place names → AreLetters names MOST_DEPTH w ts
    → RunsTokens (word_step place) (word stem [] Cycle fresh) w (word stem ts Cycle fresh)
cycle_runs place stem agrees no_letter = refl
cycle_runs place stem {names = names} agrees (letter {v = v} {w = w} {u = u} {ts = ts} {us = us} {t = t} before one spelled parts) =
    let first = cycle_runs place stem agrees before in
    let read = letter_runs place agrees (sum_letter names one) [] 0 (omega arith) in
    let here : WordState = word stem ts Cycle fresh in
    let second = lifted place here fresh (ended [] read.inner) w refl read.runs in
    let third = runs_push (word_step place) here (with_letter here (ended [] read.inner)) (word stem (ts ++ t ∷ []) Cycle fresh) w token.Semicolon second
    (ap (λ (x : LabelTree). Some (word stem (ts ++ x ∷ []) Cycle fresh)) read.says) in
    runs_to (word_step place) _ _ _ u (runs_over (word_step place) _ _ _ _ (sym spelled)
    (runs_then (word_step place) (word stem [] Cycle fresh) here (word stem (ts ++ t ∷ []) Cycle fresh) v (w ++ token.Semicolon ∷ []) first third))
    (ap (λ (x : List LabelTree). word stem x Cycle fresh) (sym parts))

-- the parser accepts what the grammar derives as a word
pub word_runs : (place : List ℕ → ℕ) (tokens : List Token) (p : WordPattern) → Agrees place p.names → IsWord tokens p → RunsTokens (word_step place) word_start tokens (word p.stem p.cycle End fresh)
word_runs place tokens p agrees w =
    let stem = stem_runs place agrees w.stem in
    let letters = cycle_runs place p.stem agrees w.letters in
    let read = letter_runs place agrees (sum_letter p.names w.last_letter) [] 0 (omega arith) in
    let here : WordState = word p.stem w.first Cycle fresh in
    let last : WordState = word p.stem (w.first ++ w.last ∷ []) End fresh in
    let final = runs_push (word_step place) here (with_letter here (ended [] read.inner)) last w.last_tokens token.RightBrace
    (lifted place here fresh (ended [] read.inner) w.last_tokens refl read.runs) (ap (λ (x : LabelTree). Some (word p.stem (w.first ++ x ∷ []) End fresh)) read.says) in
    let rest = runs_then (word_step place) (word p.stem [] Cycle fresh) here last w.cycle_tokens (w.last_tokens ++ token.RightBrace ∷ []) letters final in
    let all = runs_then (word_step place) word_start (word p.stem [] Stem fresh) last w.stem_tokens (token.Cycle ∷ token.LeftBrace ∷ (w.cycle_tokens ++ (w.last_tokens ++ token.RightBrace ∷ []))) stem
    (word p.stem [] Brace fresh, refl, (word p.stem [] Cycle fresh, refl, rest)) in
    runs_to (word_step place) word_start last (word p.stem p.cycle End fresh) tokens (runs_over (word_step place) word_start last _ tokens (sym w.spelled) all)
    (ap (λ (x : List LabelTree). word p.stem x End fresh) (sym w.cycle))

-- tokens that were read are the beginning of a word
run_part : (place : List ℕ → ℕ) (names : List (List ℕ)) (s last : WordState) (v w : List Token) → AllByRecursion (Knows place names) w → IsWordPart names s v
    → RunsTokens (word_step place) s w last → IsWordPart names last (v ++ w)
run_part place names s last v [] known part runs =
    let P : WordState → Type 0 = λ x. IsWordPart names x (v ++ []) in
    let Q : List Token → Type 0 = λ x. IsWordPart names s x in
    subst P runs (subst Q (sym (append-nil v)) part)
run_part place names s last v (t ∷ w) known part runs =
    let Q : List Token → Type 0 = λ x. IsWordPart names last x in
    subst Q (append_assoc v (t ∷ []) w) (run_part place names runs.0 last (v ++ t ∷ []) w known.1 (word_part_step place names s runs.0 t v known.0 part runs.1) runs.2)

known_from : (all v w : List Token) → all ≡ v ++ w → AllByRecursion (Knows (place_in (each_once (token_names all))) (each_once (token_names all))) w
known_from all v [] e = tt
known_from all v (t ∷ w) e = (knows_all v w t all e, known_from all (v ++ t ∷ []) w (e ∙ sym (append_assoc v (t ∷ []) w)))

own_places : (tokens : List Token) → Agrees (place_in (each_once (token_names tokens))) (each_once (token_names tokens))
own_places tokens = places_agree (each_once (token_names tokens)) (distinct_differ (token_names tokens))

ran_word : (tokens : List Token) (s : WordState) → RunsTokens (word_step (place_in (each_once (token_names tokens)))) word_start tokens s → s.stage ≡ End
    → IsWord tokens (record { names = each_once (token_names tokens); stem = s.stem; cycle = s.cycle })
ran_word tokens s runs is_end =
    let names = each_once (token_names tokens) in
    let part = run_part (place_in names) names word_start s [] tokens (known_from tokens [] tokens refl) (word_part_start names) runs in
    let P : Stage → Type 0 = λ x. PartAt x names s tokens in
    subst P is_end part refl

pub whole_word : (tokens : List Token) (s : WordState) → HasReadTokens tokens s → s.stage ≡ End → IsWord tokens (record { names = each_once (token_names tokens); stem = s.stem; cycle = s.cycle })
whole_word tokens s read is_end = ran_word tokens s (read (place_in (each_once (token_names tokens))) (own_places tokens)) is_end

pub no_word : (tokens : List Token) (s : WordState) (p : WordPattern) → HasReadTokens tokens s → s.stage ≢ End → IsWord tokens p → ⊥
no_word tokens s p read not_end w =
    let P : List (List ℕ) → Type 0 = λ x. Agrees (place_in (each_once (token_names tokens))) x in
    let place = place_in (each_once (token_names tokens)) in
    let same = runs_once (word_step place) word_start s (word p.stem p.cycle End fresh) tokens (read place (own_places tokens))
    (word_runs place tokens p (subst P (sym w.names) (own_places tokens)) w) in
    not_end (ap (λ (x : WordState). x.stage) same)

-- some word begins with the tokens that were read
pub begins : (tokens : List Token) (s : WordState) → HasReadTokens tokens s → IsPrefixOfWord tokens
begins tokens s read =
    let rest = word_end (place_in (each_once (token_names tokens))) s in
    let all : List Token = tokens ++ rest.more in
    let same : token_names tokens ≡ token_names all = sym (names_of-append tokens rest.more ∙ (ap (λ (x : List (List ℕ)). token_names tokens ++ x) rest.nameless ∙ append-nil (token_names tokens))) in
    let P : List (List ℕ) → Type 0 = λ x. RunsTokens (word_step (place_in (each_once x))) word_start all rest.last in
    record {
      more = rest.more;
      pattern = record { names = each_once (token_names all); stem = rest.last.stem; cycle = rest.last.cycle };
      word = ran_word all rest.last (subst P same
          (runs_then (word_step (place_in (each_once (token_names tokens)))) word_start s rest.last tokens rest.more (read (place_in (each_once (token_names tokens))) (own_places tokens))
          rest.runs)) rest.stage;
    }

-- and none with a further token that the parser rejects
pub begins_not : (tokens : List Token) (s : WordState) (t : Token) → HasReadTokens tokens s → ((place : List ℕ → ℕ) → word_step place s t ≡ None) → IsPrefixOfWord (tokens ++ t ∷ []) → ⊥
begins_not tokens s t read stuck b =
    let all : List Token = (tokens ++ t ∷ []) ++ b.more in
    let place = place_in (each_once (token_names all)) in
    let P : List (List ℕ) → Type 0 = λ x. Agrees place x in
    let front = distinct_front (token_names tokens) (token_names (t ∷ b.more)) in
    let whole : each_once (token_names all) ≡ each_once (token_names tokens) ++ front.0 = ap (λ (x : List Token). each_once (token_names x)) (append_assoc tokens (t ∷ []) b.more)
    ∙ (ap each_once (names_of-append tokens (t ∷ b.more)) ∙ front.1) in
    runs_stuck (word_step place) word_start s (word b.pattern.stem b.pattern.cycle End fresh) tokens t b.more
    (read place (agrees_front place (each_once (token_names tokens)) front.0 (subst P whole (own_places all))))
    (stuck place) (word_runs place all b.pattern (subst P (sym b.word.names) (own_places all)) b.word)

-- tokens are the word of one pattern at most
pub one_pattern : (tokens : List Token) (p q : WordPattern) → IsWord tokens p → IsWord tokens q → p ≡ q
one_pattern tokens p q w x =
    let place = place_in (each_once (token_names tokens)) in
    let P : List (List ℕ) → Type 0 = λ ns. Agrees place ns in
    let same : word p.stem p.cycle End fresh ≡ word q.stem q.cycle End fresh = runs_once (word_step place) word_start (word p.stem p.cycle End fresh) (word q.stem q.cycle End fresh) tokens
    (word_runs place tokens p (subst P (sym w.names) (own_places tokens)) w) (word_runs place tokens q (subst P (sym x.names) (own_places tokens)) x) in
    let names : p.names ≡ q.names = w.names ∙ sym x.names in
    let stem : p.stem ≡ q.stem = ap (λ (s : WordState). s.stem) same in
    let cycle : p.cycle ≡ q.cycle = ap (λ (s : WordState). s.cycle) same in
    ap (λ (ns : List (List ℕ)). record { names = ns; stem = p.stem; cycle = p.cycle }) names
    ∙ (ap (λ (us : List LabelTree). record { names = q.names; stem = us; cycle = p.cycle }) stem ∙ ap (λ (us : List LabelTree). record { names = q.names; stem = q.stem; cycle = us }) cycle)
