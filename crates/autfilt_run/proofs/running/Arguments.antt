-- Facts about the words of a list of arguments.
use Rattle.std.proofs.Common.{◌≡◌, ℕ, List, Result, Ok, Err, IfOk, subst}

-- what holds of these words holds of the words of the list
pub holds_of_words : {A E : Type 0} (P : A → Type 0) (W : A → List (List ℕ)) (args : Result A E) (words : List (List ℕ)) (R : List (List ℕ) → Type 0)
    → IfOk args (λ list. P list → words ≡ W list) → R words → IfOk args (λ list. P list → R (W list))
holds_of_words P W (Ok list) words R said holds = λ counted. subst R (said counted) holds
holds_of_words P W (Err error) words R said holds = tt
