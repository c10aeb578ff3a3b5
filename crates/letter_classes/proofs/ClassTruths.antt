-- A letter satisfies the label of a class exactly where each edge's label has the same truth at it as at the class's least valuation.
use Rattle.std.proofs.Common.{◌≡◌, ◌∙◌, ℕ, Bool, List, ap, length, sym}
use Rattle.std.proofs.lemmas.List.{length-map}
use Rattle.std.specs.FinSet as set
use Rattle.aut_base.proofs.canonical.CanonicalTruth.{truth_on-label_of}
use Rattle.aut_base.proofs.canonical.ValuationLetters.{valuation_at, valuation_at_holds}
use Rattle.aut_base.specs.Label.{LabelTree, holds_at, truth}
use Rattle.aut_base.specs.Valuation.{holds_in}
use Rattle.aut_base.specs.Word.{NameSet}
use Rattle.label_guards.specs.ClassLeasts.{are_alike}
use Rattle.letter_classes.specs.SetClasses.{class_label}

module _ (names : List (List ℕ)) where
  abbrev n : ℕ
  n = length names

  -- the propositions that hold at a letter, as a valuation
  pub at_letter : (x : NameSet) → holds_at names x ≡ holds_in (valuation_at names x)
  at_letter x = λ j. λ i. valuation_at_holds names x i j

  pub valuation_long : (x : NameSet) → length (valuation_at names x) ≡ n
  valuation_long x = length-map names (set.contains x)

  pub class_truth : (labels : List LabelTree) (v : List Bool) (x : NameSet) → truth (holds_at names x) (class_label n labels v) ≡ are_alike labels (holds_in v) (holds_at names x)
  class_truth labels v x =
      ap (λ (f : ℕ → Bool). truth f (class_label n labels v)) (at_letter x)
      ∙ (truth_on-label_of n (λ w. are_alike labels (holds_in v) (holds_in w)) (valuation_at names x) (valuation_long x) ∙ ap (are_alike labels (holds_in v)) (sym (at_letter x)))
