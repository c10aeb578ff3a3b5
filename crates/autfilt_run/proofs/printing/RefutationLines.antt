-- The line of a refutation that was found.
use Rattle.std.proofs.Common.{◌≡◌, ◌∙◌, ℕ, List, Option, None, Some, ap, inl, subst, sym}
use Rattle.std.specs.Prelude.{◌++◌, All, MatchOption, codes}
use Rattle.aut_base.proofs.lists.Members.{all_of_first, all_of_second}
use Rattle.aut_base.specs.Automaton.{Automaton}
use Rattle.autfilt_run.specs.inner.Handling.{ShowsInclusion}
use Rattle.plan_meaning.specs.Refutations.{IsRefutation, IsRefutedOr}
use Rattle.plan_meaning.specs.declared.refuting.Refutation.{Refutation}
use Rattle.word_syntax.specs.Printing.{HoldsOnly, word_text}

module _ (a : Automaton) (r : Refutation) where
  own : (b : Automaton) (answer : Option Refutation) → answer ≡ Some r → IsRefutedOr a b answer → IsRefutation a b r
  own b None is h = cc
  own b (Some x) is h = let same : x ≡ r = cc in subst (IsRefutation a b) same h.found

  own_names : (b : Automaton) → IsRefutation a b r → All (HoldsOnly r.names) (r.word.stem ++ r.word.cycle)
  own_names b h = subst (λ (names : List (List ℕ)). All (HoldsOnly names) (r.word.stem ++ r.word.cycle)) (sym h.names) h.refutes.own_names

  pub of_stem : (operand : Option Automaton) (answer : Option Refutation) → answer ≡ Some r → MatchOption operand ⊥ (λ b. IsRefutedOr a b answer) → All (HoldsOnly r.names) r.word.stem
  of_stem None answer is h = absurd h
  of_stem (Some b) answer is h = all_of_first (HoldsOnly r.names) r.word.stem r.word.cycle (own_names b (own b answer is h))

  pub of_cycle : (operand : Option Automaton) (answer : Option Refutation) → answer ≡ Some r → MatchOption operand ⊥ (λ b. IsRefutedOr a b answer) → All (HoldsOnly r.names) r.word.cycle
  of_cycle None answer is h = absurd h
  of_cycle (Some b) answer is h = all_of_second (HoldsOnly r.names) r.word.stem r.word.cycle (own_names b (own b answer is h))

  pub is_line : (operand : Option Automaton) (answer : Option Refutation) (text : List ℕ) → answer ≡ Some r → text ≡ word_text r.names r.word.stem r.word.cycle ++ codes "\n"
      → MatchOption operand ⊥ (λ b. IsRefutedOr a b answer) → MatchOption operand ⊥ (ShowsInclusion a text)
  is_line None answer text is shown h = absurd h
  is_line (Some b) answer text is shown h =
      let found = own b answer is h in
      (h.within, inl (record { word = r.word; refutes = found.refutes; shown = shown ∙ ap (λ names. word_text names r.word.stem r.word.cycle ++ codes "\n") found.names }))
