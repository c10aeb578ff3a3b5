-- The propositions of the formulas of a word are indices of the list of names.
use Rattle.std.proofs.Common.{◌≡◌, ◌∷◌, ◌++◌, ◌<◌, List, [], arith, length, length-append, ap, subst, sym, ℕ}
use Rattle.std.proofs.lemmas.Option.{slice_get_within}
use Rattle.std.specs.List.{AllByRecursion}
use Rattle.aut_base.proofs.lists.AllByRecursion.{AllByRecursion-push}
use Rattle.aut_base.proofs.canonical.CanonicalBelow.{all_of_below, one_of_below}
use Rattle.aut_base.specs.CanonicalLabel.{all_of, one_of}
use Rattle.aut_base.specs.Label.{AllBelow, LabelTree}
use Rattle.word_syntax.specs.Grammar.{AreLetters, IsWord, WordPattern, letter, no_letter}
use Rattle.word_syntax.proofs.grammar.FromLeft.{AreConjunctions, AreConjuncts, IsConjunction, IsLetter, IsOperand}
use Rattle.word_syntax.proofs.grammar.FromLeft.{alternative, always, either, group, joined, negated, never, no_conjunction, no_operand, operand, proposition, sum_letter}
use Rattle.word_syntax.specs.declared.token.Token.{Token}

along : (n : ℕ) (t u : LabelTree) → t ≡ u → AllBelow n u → AllBelow n t
along n t u e h = subst (λ (x : LabelTree). AllBelow n x) (sym e) h

all_along : (n : ℕ) (ts us : List LabelTree) → ts ≡ us → AllByRecursion (AllBelow n) us → AllByRecursion (AllBelow n) ts
all_along n ts us e h = subst (λ (x : List LabelTree). AllByRecursion (AllBelow n) x) (sym e) h

mutual
  operand_below : {names : List (List ℕ)} {room : ℕ} {w : List Token} {t : LabelTree} → IsOperand names room w t → AllBelow (length names) t
  operand_below always = tt
  operand_below never = tt
  operand_below (proposition {names = names} name place stands) = slice_get_within names place name stands
  operand_below (negated inner) = operand_below inner
  operand_below (group inner) = letter_below inner

  operands_below : {names : List (List ℕ)} {room : ℕ} {w : List Token} {ts : List LabelTree} → AreConjuncts names room w ts → AllByRecursion (AllBelow (length names)) ts
  operands_below no_operand = tt
  operands_below (operand {names = names} {ts = ts} {us = us} {t = t} before one spelled parts) =
      all_along (length names) us (ts ++ t ∷ []) parts (AllByRecursion-push (AllBelow (length names)) ts t (operands_below before) (operand_below one))

  conjunction_below : {names : List (List ℕ)} {room : ℕ} {w : List Token} {t : LabelTree} → IsConjunction names room w t → AllBelow (length names) t
  conjunction_below (joined {names = names} {ts = ts} {t = t} {c = c} before last spelled says) =
      along (length names) c (all_of (ts ++ t ∷ [])) says (all_of_below (length names) (ts ++ t ∷ []) (AllByRecursion-push (AllBelow (length names)) ts t (operands_below before) (operand_below last)))

  conjunctions_below : {names : List (List ℕ)} {room : ℕ} {w : List Token} {ts : List LabelTree} → AreConjunctions names room w ts → AllByRecursion (AllBelow (length names)) ts
  conjunctions_below no_conjunction = tt
  conjunctions_below (alternative {names = names} {ts = ts} {us = us} {t = t} before one spelled parts) =
      all_along (length names) us (ts ++ t ∷ []) parts (AllByRecursion-push (AllBelow (length names)) ts t (conjunctions_below before) (conjunction_below one))

  letter_below : {names : List (List ℕ)} {room : ℕ} {w : List Token} {t : LabelTree} → IsLetter names room w t → AllBelow (length names) t
  letter_below (either {names = names} {ts = ts} {t = t} {l = l} before last spelled says) =
      along (length names) l (one_of (ts ++ t ∷ [])) says
      (one_of_below (length names) (ts ++ t ∷ []) (AllByRecursion-push (AllBelow (length names)) ts t (conjunctions_below before) (conjunction_below last)))

letters_below : {names : List (List ℕ)} {room : ℕ} {w : List Token} {ts : List LabelTree} → AreLetters names room w ts → AllByRecursion (AllBelow (length names)) ts
letters_below no_letter = tt
letters_below {names = names} (letter {ts = ts} {us = us} {t = t} before one spelled parts) =
    all_along (length names) us (ts ++ t ∷ []) parts (AllByRecursion-push (AllBelow (length names)) ts t (letters_below before) (letter_below (sum_letter names one)))

pub stem_below : (tokens : List Token) (p : WordPattern) → IsWord tokens p → AllByRecursion (AllBelow (length p.names)) p.stem
stem_below tokens p w = letters_below w.stem

pub cycle_below : (tokens : List Token) (p : WordPattern) → IsWord tokens p → AllByRecursion (AllBelow (length p.names)) p.cycle
cycle_below tokens p w = all_along (length p.names) p.cycle (w.first ++ w.last ∷ []) w.cycle
    (AllByRecursion-push (AllBelow (length p.names)) w.first w.last (letters_below w.letters) (letter_below (sum_letter p.names w.last_letter)))

pub some_cycle : (tokens : List Token) (p : WordPattern) → IsWord tokens p → 0 < length p.cycle
some_cycle tokens p w = let e : length p.cycle ≡ length (w.first ++ w.last ∷ []) = ap (λ (x : List LabelTree). length x) w.cycle in omega (arith, length-append w.first (w.last ∷ []))
