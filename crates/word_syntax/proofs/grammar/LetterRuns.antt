-- The letter's parser accepts what the grammar derives.
use Rattle.std.proofs.Common.{◌≡◌, ◌∙◌, ◌∷◌, ◌++◌, ◌+◌, ◌≤◌, List, Option, Some, [], ap, arith, false, refl, suc, sym, true, ℕ}
use Rattle.std.proofs.lemmas.Bool.{cond-true, lt-ltb}
use Rattle.aut_base.specs.declared.limit.TheConstants.{MOST_DEPTH}
use Rattle.aut_base.specs.CanonicalLabel.{all_of, one_of}
use Rattle.aut_base.specs.Label as label
use Rattle.aut_base.specs.Label.{LabelTree}
use Rattle.word_syntax.proofs.grammar.Runs.{runs_over, runs_push, runs_then, runs_to}
use Rattle.word_syntax.specs.inner.Runs.{RunsTokens}
use Rattle.word_syntax.proofs.grammar.FromLeft.{AreConjunctions, AreConjuncts, IsConjunction, IsLetter, IsOperand}
use Rattle.word_syntax.proofs.grammar.FromLeft.{alternative, always, either, group, joined, negated, never, no_conjunction, no_operand, operand, proposition}
use Rattle.word_syntax.specs.inner.Chains.{Agrees}
use Rattle.word_syntax.specs.inner.Machine.{LetterState, LevelTree, complete_level, fresh_level, may_nest, letter_step, level_label, nots_on}
use Rattle.word_syntax.specs.declared.token.Token.{Token}
use Rattle.word_syntax.specs.declared.token.Token.TheVariants as token

-- the state where an operand has to follow
abbrev pub awaiting : List LevelTree → LevelTree → LetterState
awaiting o l = record { outer = o; level = l; ready = false }

-- the state where an operand has just ended
abbrev pub ended : List LevelTree → LevelTree → LetterState
ended o l = record { outer = o; level = l; ready = true }

abbrev pub level : ℕ → List LabelTree → List LabelTree → ℕ → LevelTree
level around ors ands nots = record { around = around; ors = ors; ands = ands; nots = nots }

-- a conjunction is read in a level with these complete parts of its disjunction
pub record ReadsConjunction (step : LetterState → Token → Option LetterState) (o : List LevelTree) (around : ℕ) (ors : List LabelTree) (w : List Token) (t : LabelTree) : Type 0 where
  pub ands : List LabelTree
  pub runs : RunsTokens step (awaiting o (level around ors [] 0)) w (ended o (level around ors ands 0))
  pub says : all_of ands ≡ t

-- a letter is read from its beginning
pub record ReadsLetter (step : LetterState → Token → Option LetterState) (o : List LevelTree) (around : ℕ) (w : List Token) (t : LabelTree) : Type 0 where
  pub inner : LevelTree
  pub runs : RunsTokens step (awaiting o (fresh_level around)) w (ended o inner)
  pub says : level_label inner ≡ t

room_for : (l : LevelTree) (room : ℕ) → l.around + l.nots + suc room ≤ MOST_DEPTH → may_nest l ≡ true
room_for l room h = lt-ltb (l.around + l.nots) MOST_DEPTH (omega arith)

may_negate : (place : List ℕ → ℕ) (o : List LevelTree) (l : LevelTree) (room : ℕ) → l.around + l.nots + suc room ≤ MOST_DEPTH
    → letter_step place (awaiting o l) token.Not ≡ Some (awaiting o (level l.around l.ors l.ands (l.nots + 1)))
may_negate place o l room h = cond-true _ _ _ (room_for l room h)

may_open : (place : List ℕ → ℕ) (o : List LevelTree) (l : LevelTree) (room : ℕ) → l.around + l.nots + suc room ≤ MOST_DEPTH
    → letter_step place (awaiting o l) token.LeftParen ≡ Some (awaiting (l ∷ o) (fresh_level (l.around + l.nots + 1)))
may_open place o l room h = cond-true _ _ _ (room_for l room h)

one_not : (l : LevelTree) (t : LabelTree) → complete_level (level l.around l.ors l.ands (l.nots + 1)) t ≡ complete_level l (label.Not t)
one_not l t = let e : l.nots + 1 ≡ suc l.nots = omega arith in ap (λ (n : ℕ). level l.around l.ors (l.ands ++ nots_on n t ∷ []) 0) e

mutual
  pub operand_runs : (place : List ℕ → ℕ) {names : List (List ℕ)} {room : ℕ} {w : List Token} {t : LabelTree} → Agrees place names → IsOperand names room w t
      → (o : List LevelTree) (l : LevelTree) → l.around + l.nots + room ≤ MOST_DEPTH → RunsTokens (letter_step place) (awaiting o l) w (ended o (complete_level l t))
  operand_runs place agrees always o l h = (ended o (complete_level l label.True), refl, refl)
  operand_runs place agrees never o l h = (ended o (complete_level l label.False), refl, refl)
  operand_runs place agrees (proposition name i stands) o l h =
      (ended o (complete_level l (label.Prop (place name))), refl, ap (λ (n : ℕ). ended o (complete_level l (label.Prop n))) (agrees i name stands))
  operand_runs place agrees (negated {room = room} {w = w} {t = t} inner) o l h = (
    awaiting o (level l.around l.ors l.ands (l.nots + 1)),
    may_negate place o l room h,
    runs_to (letter_step place) _ _ _ w (operand_runs place agrees inner o (level l.around l.ors l.ands (l.nots + 1)) (omega arith)) (ap (ended o) (one_not l t)),
  )
  operand_runs place agrees (group {room = room} {w = w} {t = t} inner) o l h =
      let read = letter_runs place agrees inner (l ∷ o) (l.around + l.nots + 1) (omega arith) in (
        awaiting (l ∷ o) (fresh_level (l.around + l.nots + 1)),
        may_open place o l room h,
        runs_push (letter_step place) _ _ _ w token.RightParen read.runs (ap (λ (x : LabelTree). Some (ended o (complete_level l x))) read.says),
      )

  pub operands_run : (place : List ℕ → ℕ) {names : List (List ℕ)} {room : ℕ} {w : List Token} {ts : List LabelTree} → Agrees place names → AreConjuncts names room w ts
      → (o : List LevelTree) (around : ℕ) (ors : List LabelTree) → around + room ≤ MOST_DEPTH
      → RunsTokens (letter_step place) (awaiting o (level around ors [] 0)) w (awaiting o (level around ors ts 0))
  operands_run place agrees no_operand o around ors h = refl
  operands_run place agrees (operand {v = v} {w = w} {u = u} {ts = ts} {us = us} {t = t} before one spelled parts) o around ors h =
      let first = operands_run place agrees before o around ors h in
      let second = operand_runs place agrees one o (level around ors ts 0) (omega arith) in
      let third = runs_push (letter_step place) _ _ (awaiting o (level around ors (ts ++ t ∷ []) 0)) w token.And second refl in
      runs_to (letter_step place) _ _ _ u (runs_over (letter_step place) _ _ _ _ (sym spelled) (runs_then (letter_step place) _ _ _ v (w ++ token.And ∷ []) first third))
      (ap (λ (x : List LabelTree). awaiting o (level around ors x 0)) (sym parts))

  pub conjunction_runs : (place : List ℕ → ℕ) {names : List (List ℕ)} {room : ℕ} {w : List Token} {t : LabelTree} → Agrees place names → IsConjunction names room w t
      → (o : List LevelTree) (around : ℕ) (ors : List LabelTree) → around + room ≤ MOST_DEPTH → ReadsConjunction (letter_step place) o around ors w t
  conjunction_runs place agrees (joined {v = v} {w = w} {u = u} {ts = ts} {t = t} before last spelled says) o around ors h =
      let first = operands_run place agrees before o around ors h in
      let second = operand_runs place agrees last o (level around ors ts 0) (omega arith) in
      record {
        ands = ts ++ t ∷ [];
        runs = runs_over (letter_step place) _ _ _ _ (sym spelled) (runs_then (letter_step place) _ _ _ v w first second);
        says = sym says;
      }

  pub conjunctions_run : (place : List ℕ → ℕ) {names : List (List ℕ)} {room : ℕ} {w : List Token} {ts : List LabelTree} → Agrees place names → AreConjunctions names room w ts
      → (o : List LevelTree) (around : ℕ) → around + room ≤ MOST_DEPTH → RunsTokens (letter_step place) (awaiting o (fresh_level around)) w (awaiting o (level around ts [] 0))
  conjunctions_run place agrees no_conjunction o around h = refl
  conjunctions_run place agrees (alternative {v = v} {w = w} {u = u} {ts = ts} {us = us} {t = t} before one spelled parts) o around h =
      let first = conjunctions_run place agrees before o around h in
      let second = conjunction_runs place agrees one o around ts h in
      let third = runs_push (letter_step place) _ _ (awaiting o (level around (ts ++ all_of second.ands ∷ []) [] 0)) w token.Or second.runs refl in
      runs_to (letter_step place) _ _ _ u (runs_over (letter_step place) _ _ _ _ (sym spelled) (runs_then (letter_step place) _ _ _ v (w ++ token.Or ∷ []) first third))
      (ap (λ (x : LabelTree). awaiting o (level around (ts ++ x ∷ []) [] 0)) second.says ∙ ap (λ (x : List LabelTree). awaiting o (level around x [] 0)) (sym parts))

  pub letter_runs : (place : List ℕ → ℕ) {names : List (List ℕ)} {room : ℕ} {w : List Token} {t : LabelTree} → Agrees place names → IsLetter names room w t
      → (o : List LevelTree) (around : ℕ) → around + room ≤ MOST_DEPTH → ReadsLetter (letter_step place) o around w t
  letter_runs place agrees (either {v = v} {w = w} {u = u} {ts = ts} {t = t} before last spelled says) o around h =
      let first = conjunctions_run place agrees before o around h in
      let second = conjunction_runs place agrees last o around ts h in
      record {
        inner = level around ts second.ands 0;
        runs = runs_over (letter_step place) _ _ _ _ (sym spelled) (runs_then (letter_step place) _ _ _ v w first second.runs);
        says = ap (λ (x : LabelTree). one_of (ts ++ x ∷ [])) second.says ∙ sym says;
      }
