-- The text of an accepted word.
use Rattle.std.proofs.Common.{◌≡◌, ℕ, List, Result, Ok, Err, IfOk, inl, ap, ◌∙◌}
use Rattle.aut_base.specs.Automaton.{Automaton}
use Rattle.aut_base.specs.declared.letter.Lasso.{Lasso}
use Rattle.lasso_emptiness.specs.Emptiness.{IsAcceptedWord}
use Rattle.library_example.specs.Shown.{IsShown}
use Rattle.word_syntax.specs.Printing.{word_text}

-- the text of a word shows it
pub shows_word :
    {E : Type 0} (a : Automaton) (word : Lasso) (names : List (List ℕ)) (result : Result (List ℕ) E) →
    IsAcceptedWord a word → names ≡ a.names → IfOk result (λ text. text ≡ word_text names word.stem word.cycle) →
    IfOk result (IsShown a)
shows_word a word names (Ok text) accepted own shown =
    inl (record { word = word; accepted = accepted; shown = shown ∙ ap (λ n. word_text n word.stem word.cycle) own })
shows_word a word names (Err e) accepted own shown = shown
