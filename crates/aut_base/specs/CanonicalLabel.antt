-- The canonical form of a label: one label for each truth function of n propositions, for any n.
use Rattle.std.specs.Prelude.{ℕ, zero, suc, ◌+◌, Bool, true, false, if◌then◌else◌, List, [], ◌∷◌, ◌++◌, length, map}
use Rattle.std.specs.Bool.{beq}
use Rattle.std.specs.List.{list_all}
use Rattle.aut_base.specs.Automaton.{LabelledEdge, Automaton}
use Rattle.aut_base.specs.Label.{LabelTree, True, False, Prop, Not, And, Or, trees}
use Rattle.aut_base.specs.Valuation.{truth_on, valuations}

-- a literal: a proposition, and whether it holds or fails
pub record Literal : Type 0 where
  pub prop : ℕ
  pub holds : Bool

-- a truth function of n + 1 propositions doesn't depend on the first
abbrev pub is_independent : ℕ → (List Bool → Bool) → Bool
is_independent n g = list_all (λ v. beq (g (false ∷ v)) (g (true ∷ v))) (valuations n)

-- The cubes of a truth function of the n propositions from the i-th on. A proposition on which the function doesn't depend occurs in
-- no cube; of one on which it depends, the cubes where it fails come before those where it holds.
abbrev pub cubes : ℕ → ℕ → (List Bool → Bool) → List (List Literal)
cubes i zero g = if g [] then [] ∷ [] else []
cubes i (suc n) g =
    if is_independent n g then cubes (i + 1) n (λ v. g (false ∷ v))
    else (map (λ cube. record { prop = i; holds = false } ∷ cube) (cubes (i + 1) n (λ v. g (false ∷ v)))
    ++ map (λ cube. record { prop = i; holds = true } ∷ cube) (cubes (i + 1) n (λ v. g (true ∷ v))))

abbrev pub literal_tree : Literal → LabelTree
literal_tree l = if l.holds then Prop l.prop else Not (Prop l.prop)

-- the conjunction of these labels; a single one is its own
abbrev pub all_of : List LabelTree → LabelTree
all_of [] = True
all_of (t ∷ []) = t
all_of (t ∷ u ∷ us) = And t u (trees us)

-- the disjunction of these labels; a single one is its own
abbrev pub one_of : List LabelTree → LabelTree
one_of [] = False
one_of (t ∷ []) = t
one_of (t ∷ u ∷ us) = Or t u (trees us)

-- the label of a truth function of n propositions, the disjunction of its cubes: `f` where there is none, `t` where the only one is empty
abbrev pub label_of_truth : ℕ → (List Bool → Bool) → LabelTree
label_of_truth n g = one_of (map (λ cube. all_of (map literal_tree cube)) (cubes 0 n g))

-- the canonical form of a label over n propositions
abbrev pub canonical_label : ℕ → LabelTree → LabelTree
canonical_label n t = label_of_truth n (truth_on t)

-- the automaton with each label in its canonical form
abbrev pub canonical : Automaton → Automaton
canonical a = record a { edges = map (λ (e : LabelledEdge). record e { label = canonical_label (length a.names) e.label }) a.edges }
