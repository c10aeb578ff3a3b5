-- Valuations of n propositions, as lists of truth values, and their numbers. Bit k of a valuation's number is the
-- truth of proposition k, as in HOA v1, implicit labels. So proposition 0 varies fastest.
use Rattle.std.specs.Prelude.{◌≡◌, ℕ, zero, suc, ◌+◌, ◌*◌, ◌≤◌, Bool, true, false, if◌then◌else◌, List, [], ◌∷◌, ◌++◌, flat_map, map, length}
use Rattle.std.specs.FinSet as set
use Rattle.std.specs.List.{range_with_len, slice_index_or}
use Rattle.aut_base.specs.Label.{LabelTree, truth}
use Rattle.aut_base.specs.Word.{NameSet}

-- bit k of the number is the k-th truth value
abbrev pub number_of : List Bool → ℕ
number_of [] = 0
number_of (b ∷ v) = (if b then 1 else 0) + 2 * number_of v

-- all valuations of n propositions, in the order of their numbers
abbrev pub valuations : ℕ → List (List Bool)
valuations zero = [] ∷ []
valuations (suc n) = flat_map (λ v. (false ∷ v) ∷ (true ∷ v) ∷ []) (valuations n)

-- whether the i-th proposition holds
abbrev pub holds_in : List Bool → ℕ → Bool
holds_in v i = slice_index_or v i false

-- the valuation of the first n propositions, of which `holds` says which hold
abbrev pub valuation_of : ℕ → (ℕ → Bool) → List Bool
valuation_of n holds = map holds (range_with_len 0 n)

-- the truth of a label under a valuation
abbrev pub truth_on : LabelTree → List Bool → Bool
truth_on t v = truth (holds_in v) t

-- the names of the propositions that hold under the valuation
abbrev pub names_on : List (List ℕ) → List Bool → List (List ℕ)
names_on [] v = []
names_on (name ∷ names) [] = []
names_on (name ∷ names) (b ∷ v) = (if b then name ∷ [] else []) ++ names_on names v

-- the letter at which just the propositions of the valuation hold
abbrev pub letter_of : List (List ℕ) → List Bool → NameSet
letter_of names v = set.from_list (names_on names v)

-- the valuation of n propositions with the least number among those at which the function is true
pub record IsLeast (n : ℕ) (g : List Bool → Bool) (v : List Bool) : Type 0 where
  pub size : length v ≡ n
  pub is_true : g v ≡ true
  pub least : (w : List Bool) → length w ≡ n → g w ≡ true → number_of v ≤ number_of w
