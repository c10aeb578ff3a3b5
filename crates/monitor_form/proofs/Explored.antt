-- Parts of the subset construction, under names that proofs use.
use Rattle.std.proofs.Common.{◌≡◌, ◌<◌, ◌==◌, ◌&&◌, ℕ, Bool, List, [], ◌∷◌, arith, length, refl}
use Rattle.std.specs.List.{list_any, slice_index_or}
use Rattle.aut_base.specs.Automaton.{Automaton, LabelledEdge}
use Rattle.exploration.specs.Turns.{Transition, EndsWith}
use Rattle.letter_classes.specs.ClassForms.{class_edge}
use Rattle.monitor_form.specs.Subsets.{IsSubsetForm, start_set, subset_rules}

-- some edge of the list leads to this state and passes the test `reads`
abbrev pub is_goal : (LabelledEdge → Bool) → List LabelledEdge → ℕ → Bool
is_goal reads es q = list_any (λ e. (e.to == q) && reads e) es

-- the edge between the indices of two sets, with the label of its class
abbrev pub monitor_edge : Automaton → List (List ℕ) → Transition → LabelledEdge
monitor_edge b sets = class_edge b (λ place. slice_index_or sets place []) (λ place v. [])

-- by these starts: where there are some, the exploration ends with these sets and edges; else there are none
abbrev pub IsExploredFrom : Automaton → List ℕ → List (List ℕ) → List Transition → Type 0
IsExploredFrom b [] sets transitions = (sets ≡ []) × (transitions ≡ [])
IsExploredFrom b (s ∷ ss) sets transitions = EndsWith (subset_rules b) (start_set b) sets transitions

by_starts : (b : Automaton) (ss : List ℕ) (sets : List (List ℕ)) (transitions : List Transition) → (ss ≡ [] → (sets ≡ []) × (transitions ≡ []))
    → (0 < length ss → EndsWith (subset_rules b) (start_set b) sets transitions) → IsExploredFrom b ss sets transitions
by_starts b [] sets transitions none some = none refl
by_starts b (s ∷ ss) sets transitions none some = some (omega arith)

pub explored_by : (b made : Automaton) (form : IsSubsetForm b made) → IsExploredFrom b b.starts form.sets form.transitions
explored_by b made form = by_starts b b.starts form.sets form.transitions form.none form.explored
