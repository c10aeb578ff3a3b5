-- A word that one automaton accepts and another doesn't, by a product with the complement of the other.
use Rattle.std.proofs.Common.{ℕ, ◌≡◌, ◌≤◌, ◌↔◌, Bool, true, false, not, Option, None, Some, List, Ok, arith, inl, inr, length, refl, subst, sym}
use Rattle.std.specs.Prelude.{◌++◌, All, IsTrue, MatchOption}
use Rattle.std.proofs.lemmas.Bool.{true≢false}
use Rattle.aut_base.specs.Automaton.{Automaton}
use Rattle.aut_base.specs.declared.letter.Lasso.{Lasso}
use Rattle.aut_base.specs.declared.limit.Limit.{Limit}
use Rattle.aut_base.specs.declared.limit.Limit.TheVariants as limit
use Rattle.aut_base.specs.declared.limit.TheConstants.{MOST_NAMES, MOST_PAIRS}
use Rattle.aut_core.specs.Deterministic.{IsDeterministic}
use Rattle.aut_core.specs.OtherNames.{joined_names}
use Rattle.aut_ops.specs.Products.{HasMorePairs, over_both}
use Rattle.inclusion.proofs.Common.{included_where_none, not_included_where_word}
use Rattle.inclusion.specs.Common.{AcceptNoneTogether, IsWordOfBoth}
use Rattle.parity_det.proofs.ParityLaws.{complement_is_determined}
use Rattle.parity_det.specs.Complements.{IsWithinParity}
use Rattle.plan_meaning.proofs.changes.Determinised.{within}
use Rattle.plan_meaning.specs.Complements.{IsKeptComplement}
use Rattle.plan_meaning.specs.Limits.{HaveFewNames, IsIncluded, PassesOfBoth, PassesOfInclusion, PassesUnlessDeterministic}
use Rattle.plan_meaning.specs.Refutations.{Refutes}
use Rattle.plan_meaning.specs.inner.Beside.{IsFoundBeside}
use Rattle.plan_meaning.specs.inner.Judging.{ComparesInclusion}
use Rattle.word_syntax.specs.Matching.{AcceptTogether}
use Rattle.word_syntax.specs.Printing.{HoldsOnly}

abbrev HavePairs : Automaton → Automaton → Type 0
HavePairs a co = HasMorePairs MOST_PAIRS (over_both a co a) (over_both a co co)

none_of_both : (which : Limit) (a co : Automaton) → HaveFewNames a co → (HavePairs a co → ⊥) → PassesOfBoth which a co → ⊥
none_of_both limit.Names a co few pairs h = omega (arith, few, h)
none_of_both limit.Pairs a co few pairs h = pairs h.1
none_of_both _ a co few pairs h = h

pub complement_within : (b : Automaton) → ((IsDeterministic b → ⊥) → IsWithinParity b) → (which : Limit) → PassesUnlessDeterministic which b → ⊥
complement_within b none which h = within b (none h.0) which h.1

module _ (a b co : Automaton) (kept : IsKeptComplement b co) where
  inclusion_within : HaveFewNames a co → (HavePairs a co → ⊥) → (which : Limit) → PassesOfInclusion which a b → ⊥
  inclusion_within few pairs which (inl h) = kept.within which h
  inclusion_within few pairs which (inr h) =
      let same : h.1.co ≡ co = complement_is_determined b h.1.co co h.1.is kept.shape in
      none_of_both which a co few pairs (subst (PassesOfBoth which a) same h.1.passes)

  refutes : (w : Lasso) → IsWordOfBoth a co w → Refutes a b w
  refutes w word =
      let said = not_included_where_word a b co w kept.complements word in
      record {
        reduced = word.reduced;
        own_names = subst (λ (names : List (List ℕ)). All (HoldsOnly (joined_names a.names names)) (w.stem ++ w.cycle)) kept.names word.own_names;
        accepted = said.0;
        rejected = said.1;
      }

  of_found : (found : Option Lasso) → MatchOption found (AcceptNoneTogether a co) (IsWordOfBoth a co) → MatchOption found (IsIncluded a b) (Refutes a b)
  of_found None none = (included_where_none a b co kept.complements).0 none
  of_found (Some w) word = refutes w word

  -- what the search found, or that there is nothing
  pub is_found : (found : Option Lasso) → HaveFewNames a co → (HavePairs a co → ⊥) → MatchOption found (AcceptNoneTogether a co) (IsWordOfBoth a co) → IsFoundBeside a b found
  is_found found few pairs said = record {
    within = inclusion_within few pairs;
    few = subst (λ (names : List (List ℕ)). length (joined_names a.names names) ≤ MOST_NAMES) kept.names few;
    found = of_found found said;
  }

  -- whether a word is accepted with the complement, or none
  pub compared : (some : Bool) → HaveFewNames a co → (HavePairs a co → ⊥) → IsTrue some ↔ AcceptTogether a co → ComparesInclusion (Ok (not some)) a b
  compared true few pairs said = (inclusion_within few pairs, λ all. (included_where_none a b co kept.complements).1 all (said.0 refl))
  compared false few pairs said = (inclusion_within few pairs, (included_where_none a b co kept.complements).0 (λ word. true≢false (sym (said.1 word))))
