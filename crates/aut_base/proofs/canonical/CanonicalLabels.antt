-- Labels that are true at the same letters have the same canonical label, and a canonical label is its own canonical form.
use Rattle.std.proofs.Common.{◌≡◌, ◌≢◌, ◌∙◌, ◌↔◌, ℕ, ◌<◌, Bool, List, length, AllPairs, sym, ap}
use Rattle.aut_base.specs.CanonicalLabel.{canonical_label}
use Rattle.aut_base.specs.Label.{AllBelow, LabelTree, holds_at, truth}
use Rattle.aut_base.specs.Valuation.{holds_in, letter_of, truth_on}
use Rattle.aut_base.specs.Word.{NameSet}
use Rattle.aut_base.proofs.canonical.CanonicalTruth.{canonical_label_keeps_truth, label_of-same, truth_below, truth_on-label_of}
use Rattle.aut_base.proofs.canonical.ValuationLetters.{letter_of_holds}

-- labels that are true at the same letters are true under the same valuations
pub same_on : (names : List (List ℕ)) (t u : LabelTree) → AllPairs (λ p q. p ≢ q) names → AllBelow (length names) t → AllBelow (length names) u
    → ((letter : NameSet) → truth (holds_at names letter) t ≡ truth (holds_at names letter) u) → (v : List Bool) → length v ≡ length names → truth_on t v ≡ truth_on u v
same_on names t u differ t_below u_below same v long =
    let at : (i : ℕ) → i < length names → holds_at names (letter_of names v) i ≡ holds_in v i = λ i less. letter_of_holds names v i differ long in
    sym (truth_below (length names) (holds_at names (letter_of names v)) (holds_in v) t t_below at)
    ∙ (same (letter_of names v) ∙ truth_below (length names) (holds_at names (letter_of names v)) (holds_in v) u u_below at)

pub same_truth_same_label : (names : List (List ℕ)) (t u : LabelTree) → AllPairs (λ p q. p ≢ q) names → AllBelow (length names) t → AllBelow (length names) u
    → (canonical_label (length names) t ≡ canonical_label (length names) u) ↔ ((letter : NameSet) → truth (holds_at names letter) t ≡ truth (holds_at names letter) u)
same_truth_same_label names t u differ t_below u_below = (to, from)
  where
    to : canonical_label (length names) t ≡ canonical_label (length names) u → (letter : NameSet) → truth (holds_at names letter) t ≡ truth (holds_at names letter) u
    to e letter =
        sym (canonical_label_keeps_truth (length names) t (holds_at names letter) t_below)
        ∙ (ap (truth (holds_at names letter)) e ∙ canonical_label_keeps_truth (length names) u (holds_at names letter) u_below)

    from : ((letter : NameSet) → truth (holds_at names letter) t ≡ truth (holds_at names letter) u) → canonical_label (length names) t ≡ canonical_label (length names) u
    from same = label_of-same (length names) (truth_on t) (truth_on u) (same_on names t u differ t_below u_below same)

-- a canonical label is its own canonical form
pub canonical_label-twice : (n : ℕ) (t : LabelTree) → canonical_label n (canonical_label n t) ≡ canonical_label n t
canonical_label-twice n t = label_of-same n (truth_on (canonical_label n t)) (truth_on t) (truth_on-label_of n (truth_on t))
