-- Which lasso words an automaton accepts: those with an accepting run, which is a path from a start and a closed path at its end. The
-- paths may read the word's cycle any number of times.
use Rattle.std.specs.Prelude.{◌≡◌, ℕ, ◌<◌, true, List, [], ◌∷◌, ◌++◌, map, Contains, ◌↔◌, length}
use Rattle.aut_base.specs.Automaton.{LabelledEdge, Automaton}
use Rattle.aut_base.specs.Formula.{met}
use Rattle.aut_base.specs.Label.{truth, holds_at}
use Rattle.aut_base.specs.Word.{NameSet, copies, SpellsSame}

-- a path from `p` to `q` along these edges, which reads these letters: each edge starts where the one before
-- ends, and its label holds of the letter at the same index
abbrev pub IsPath : Automaton → ℕ → List NameSet → List LabelledEdge → ℕ → Type 0
IsPath a p [] [] q = p ≡ q
IsPath a p [] (e ∷ es) q = ⊥
IsPath a p (x ∷ xs) [] q = ⊥
IsPath a p (x ∷ xs) (e ∷ es) q =
    (p ≡ e.from) × Contains a.edges e × (truth (holds_at a.names x) e.label ≡ true) × IsPath a e.to xs es q

-- The automaton accepts the lasso word, whose cycle isn't empty: a path from a start reads the stem and then the cycle
-- `stem_rounds` times, and one from its end back to that end reads the cycle `cycle_rounds` times and meets the acceptance condition.
pub record Accepts (a : Automaton) (u v : List NameSet) : Type 0 where
  pub endless : 0 < length v
  pub start : ℕ
  pub state : ℕ
  pub stem_rounds : ℕ
  pub cycle_rounds : ℕ
  pub path_edges : List LabelledEdge
  pub cycle : List LabelledEdge
  pub is_start : Contains a.starts start
  pub leads : IsPath a start (u ++ copies stem_rounds v) path_edges state
  pub positive : 0 < cycle_rounds
  pub returns : IsPath a state (copies cycle_rounds v) cycle state
  pub meets : met (map (λ e. e.marks) cycle) a.formula ≡ true

-- Lasso words that spell the same infinite word are accepted alike, by every automaton.
abbrev pub SameWordSameVerdict : Type 0
SameWordSameVerdict = (a : Automaton) (u v x y : List NameSet) → 0 < length v → 0 < length y → SpellsSame u v x y → Accepts a u v ↔ Accepts a x y
