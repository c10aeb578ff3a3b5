-- A word of a product is one of both automata; what a word of an automaton and a complement, or none, says of inclusion.
use Rattle.std.proofs.Common.{◌↔◌, ℕ, Bool, List, Option, Some, None, inl, inr, ap, subst}
use Rattle.std.specs.Prelude.{◌++◌, All, IsTrue, MatchOption}
use Rattle.aut_base.specs.Acceptance.{Accepts}
use Rattle.aut_base.specs.Automaton.{Automaton}
use Rattle.aut_base.specs.Formula.{FormulaTree}
use Rattle.aut_base.specs.Word.{NameSet}
use Rattle.aut_base.specs.declared.letter.Lasso.{Lasso}
use Rattle.aut_ops.specs.Languages.{AcceptsBoth}
use Rattle.aut_ops.specs.Products.{IsProduct, over_both}
use Rattle.inclusion.specs.Common.{AcceptNoneTogether, IsWordOfBoth}
use Rattle.inclusion.specs.Laws.{IncludedWhereNone, NotIncludedWhereWord, SameWhereNoneTwice}
use Rattle.lasso_emptiness.specs.Emptiness.{AcceptsNothing, AcceptsSome, IsAcceptedWord}
use Rattle.parity_laws.specs.Complement.{AreComplementLanguages}
use Rattle.word_syntax.specs.Matching.{AcceptTogether}
use Rattle.word_syntax.specs.Printing.{HoldsOnly}

-- the answer of a search in the product, as an answer on both automata
pub of_both : {join : FormulaTree → FormulaTree → FormulaTree} (a b made : Automaton) (found : Option Lasso) → IsProduct join (over_both a b a) (over_both a b b) made
    → AcceptsBoth made a b → MatchOption found (AcceptsNothing made) (IsAcceptedWord made) → MatchOption found (AcceptNoneTogether a b) (IsWordOfBoth a b)
of_both a b made None is accepts nothing = λ word. nothing word.stem word.cycle ((accepts word.stem word.cycle).1 (word.first, word.second))
of_both a b made (Some w) is accepts word =
    let both = (accepts w.stem w.cycle).0 word.accepts in
    record {
      reduced = word.reduced;
      own_names = subst (λ (names : List (List ℕ)). All (HoldsOnly names) (w.stem ++ w.cycle)) (ap (λ (x : Automaton). x.names) is.is) word.own_names;
      first = both.0;
      second = both.1;
    }

-- a word of a product is one of both
pub some_of_both : (a b made : Automaton) (some : Bool) → AcceptsBoth made a b → IsTrue some ↔ AcceptsSome made → IsTrue some ↔ AcceptTogether a b
some_of_both a b made some accepts said = (
  λ is.
      let word = said.0 is in
      let both = (accepts word.stem word.cycle).0 word.accepts in
      record { stem = word.stem; cycle = word.cycle; first = both.0; second = both.1 },
  λ word. said.1 (record { stem = word.stem; cycle = word.cycle; accepts = (accepts word.stem word.cycle).1 (word.first, word.second) }),
)

included : (a b co : Automaton) → AreComplementLanguages b co → AcceptNoneTogether a co → (u v : List NameSet) → Accepts a u v → Accepts b u v
included a b co h none u v accepts = elim (h.one u v accepts.endless) [ inl other ↦ other | inr never ↦ absurd (none (record { stem = u; cycle = v; first = accepts; second = never })) ]

none : (a b co : Automaton) → AreComplementLanguages b co → ((u v : List NameSet) → Accepts a u v → Accepts b u v) → AcceptNoneTogether a co
none a b co h all word = h.never_both word.stem word.cycle (all word.stem word.cycle word.first) word.second

pub included_where_none : IncludedWhereNone
included_where_none a b co h = (included a b co h, none a b co h)

pub not_included_where_word : NotIncludedWhereWord
not_included_where_word a b co w h word = (word.first, λ accepts. h.never_both w.stem w.cycle accepts word.second)

pub same_where_none_twice : SameWhereNoneTwice
same_where_none_twice a b co_a co_b first second = (
  λ h u v. (included a b co_b second h.0 u v, included b a co_a first h.1 u v),
  λ h. (none a b co_b second (λ u v. (h u v).0), none b a co_a first (λ u v. (h u v).1)),
)
