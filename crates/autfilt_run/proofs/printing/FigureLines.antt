-- A line of figures, piece by piece, and the word of an automaton.
use Rattle.std.proofs.Common.{◌≡◌, ℕ, ◌+◌, ◌<◌, List, ◌∷◌, ◌++◌, codes, length, get_or, drop, Result, Ok, Err, IfOk, inl, sym, ap, ◌∙◌, subst, append_assoc}
use Rattle.std.specs.List.{concat}
use Rattle.std.specs.Fmt.{decimal}
use Rattle.std.proofs.lemmas.List.{drop_more}
use Rattle.aut_base.specs.Automaton.{Automaton}
use Rattle.aut_base.specs.declared.letter.Lasso.{Lasso}
use Rattle.aut_ops.specs.Trimming.{IsTrimmed}
use Rattle.autfilt_run.specs.Figures.{IsLine, IsShownAs, ShowsReached}
use Rattle.filter_plan.specs.declared.format.Piece.{Piece}
use Rattle.filter_plan.specs.declared.format.Piece.TheVariants.{Word}
use Rattle.lasso_emptiness.specs.Emptiness.{IsAcceptedWord}
use Rattle.word_syntax.specs.Printing.{word_text}

-- A text is the beginning of the line: followed by the texts of the other pieces, it is the line.
pub record IsBegun (pieces rest : List Piece) (a : Automaton) (begun : List ℕ) : Type 0 where
  pub whole : (text : List ℕ) → IsLine rest a text → IsLine pieces a (begun ++ text)

-- another piece
pub piece_more :
    (pieces : List Piece) (i : ℕ) (d piece : Piece) (a : Automaton) (begun shown new : List ℕ) →
    i < length pieces → piece ≡ get_or pieces i d → new ≡ begun ++ shown → IsShownAs piece a shown →
    IsBegun pieces (drop i pieces) a begun → IsBegun pieces (drop (i + 1) pieces) a new
piece_more pieces i d piece a begun shown new within is extended shows so_far =
    record {
      whole = λ text behind.
          let next : drop i pieces ≡ piece ∷ drop (i + 1) pieces =
          subst (λ p. drop i pieces ≡ p ∷ drop (i + 1) pieces) (sym is) (drop_more pieces i d within) in
          let line : IsLine (piece ∷ drop (i + 1) pieces) a (shown ++ text) = record {
            shown = shown ∷ behind.shown;
            each = (shows, behind.each);
            all = ap (λ (t : List ℕ). shown ++ t) behind.all ∙ sym (append_assoc shown (concat behind.shown) (codes "\n"));
          } in
          subst (λ start. IsLine pieces a (start ++ text)) (sym extended)
          (subst (IsLine pieces a) (sym (append_assoc begun shown text))
          (so_far.whole (shown ++ text) (subst (λ rest. IsLine rest a (shown ++ text)) (sym next) line)));
    }

-- the digits of a figure of the trimmed automaton
pub shows_reached :
    {E : Type 0} (figure : Automaton → ℕ) (a trimmed : Automaton) (n : ℕ) (result : Result (List ℕ) E) →
    IsTrimmed a trimmed → n ≡ figure trimmed → IfOk result (λ text. text ≡ decimal n) →
    IfOk result (ShowsReached figure a)
shows_reached figure a trimmed n (Ok text) is_trimmed is digits =
    record { trimmed = trimmed; is_trimmed = is_trimmed; shown = digits ∙ ap decimal is }
shows_reached figure a trimmed n (Err e) is_trimmed is digits = digits

-- the text of an accepted word
pub shows_word :
    {E : Type 0} (a : Automaton) (word : Lasso) (names : List (List ℕ)) (result : Result (List ℕ) E) →
    IsAcceptedWord a word → names ≡ a.names → IfOk result (λ text. text ≡ word_text names word.stem word.cycle) →
    IfOk result (IsShownAs Word a)
shows_word a word names (Ok text) accepted own shown =
    inl (record { word = word; accepted = accepted; shown = shown ∙ ap (λ n. word_text n word.stem word.cycle) own })
shows_word a word names (Err e) accepted own shown = shown
