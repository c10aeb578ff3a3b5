-- Letters that satisfy the labels of edges, and accepted words over the automaton's names.
use Rattle.std.specs.Prelude.{◌≡◌, ◌++◌, true, List, [], ◌∷◌, All}
use Rattle.aut_base.specs.Acceptance.{Accepts}
use Rattle.aut_base.specs.Automaton.{Automaton}
use Rattle.aut_base.specs.Label.{holds_at, truth}
use Rattle.aut_base.specs.Word.{NameSet}
use Rattle.aut_base.specs.declared.letter.Lasso.{Lasso}
use Rattle.aut_core.specs.SymbolicAutomata.{SymbolicAutomaton}
use Rattle.aut_core.specs.declared.link.Link.{Link}
use Rattle.label_guards.specs.Store.{label_in}
use Rattle.lasso_emptiness.specs.declared.live.EdgeRef.{EdgeRef}
use Rattle.lasso_emptiness.specs.inner.Live.{IsEdgeAt}
use Rattle.word_syntax.specs.Printing.{HoldsOnly}

-- the letter satisfies the label of the edge, and has no other names than the automaton's
pub record IsLetterOf (c : SymbolicAutomaton) (e : EdgeRef) (letter : NameSet) : Type 0 where
  pub link : Link
  pub at : IsEdgeAt c e link
  pub meets : truth (holds_at c.names letter) (label_in c.store link.guard) ≡ true
  pub own_names : HoldsOnly c.names letter

-- a letter for each of the edges, in order
abbrev pub AreLettersOf : SymbolicAutomaton → List EdgeRef → List NameSet → Type 0
AreLettersOf c [] [] = Unit {0}
AreLettersOf c [] (x ∷ xs) = ⊥
AreLettersOf c (e ∷ es) [] = ⊥
AreLettersOf c (e ∷ es) (x ∷ xs) = IsLetterOf c e x × AreLettersOf c es xs

-- the word is accepted and over the automaton's names
pub record IsOwnWord (a : Automaton) (w : Lasso) : Type 0 where
  pub own_names : All (HoldsOnly a.names) (w.stem ++ w.cycle)
  pub accepts : Accepts a w.stem w.cycle
