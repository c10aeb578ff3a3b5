-- The Büchi form of an automaton, by degeneralisation with a counter at each state, its level. A run waits on a level for
-- an edge that meets the level's literal, moves on to the next level, and from the last one back to the first. That last
-- step carries the mark.
use Rattle.std.specs.Prelude.{◌≡◌, ℕ, ◌+◌, ◌*◌, ◌/◌, ◌<◌, ◌==◌, max, Bool, false, not, if◌then◌else◌, Option, None, Some, List, [], ◌∷◌, length, map, flat_map, slice_get}
use Rattle.std.specs.List.{fold, list_all, range_with_len}
use Rattle.std.specs.Option.{option_and_then}
use Rattle.aut_base.specs.Automaton.{Automaton, LabelledEdge}
use Rattle.aut_base.specs.Formula.{FormulaTree}
use Rattle.acc_forms.specs.Joined.{conjuncts}
use Rattle.acc_forms.specs.Terms.{count, terms}
use Rattle.acc_forms.specs.declared.literal.Literal.{Literal}
use Rattle.acc_forms.specs.declared.literal.Literal.TheVariants.{Inf}
use Rattle.aut_core.specs.Surveys.{edges_from}
use Rattle.aut_base.specs.declared.limit.TheConstants.{MOST_TERMS}
use Rattle.fin_removal.specs.Copies.{copied, owned_sets}
use Rattle.fin_removal.specs.Meeting.{meets_at, literal_places}

-- What a state waits for: each of these literals in turn, or nothing.
abbrev pub Watch : Type 0
Watch = Option (List Literal)

-- how many levels such a state has
abbrev pub levels : Watch → ℕ
levels None = 1
levels (Some literals) = literal_places literals

-- whether an edge with these marks meets the literal of the level; where nothing is waited for, none does
abbrev pub meets_level : Watch → ℕ → List ℕ → Bool
meets_level None level marks = false
meets_level (Some literals) level marks = meets_at literals level marks

-- the level after the edge: where it meets the level's literal the next one, and after the last one the first
abbrev pub level_after : Watch → ℕ → List ℕ → ℕ
level_after watch level marks = if meets_level watch level marks then (if level + 1 == levels watch then 0 else level + 1) else level

-- the marks of an edge at this level: set 0 where it meets the literal of the last level, else none
abbrev pub marks_at_level : Watch → ℕ → List ℕ → List ℕ
marks_at_level watch level marks = if meets_level watch level marks then (if level + 1 == levels watch then 0 ∷ [] else []) else []

-- The edge from its source at this level. Where each state has k numbers, state q at a level has the number q * k + level.
abbrev pub edge_at_level : ℕ → Watch → ℕ → LabelledEdge → LabelledEdge
edge_at_level k watch level e = record e { from = e.from * k + level; to = e.to * k + level_after watch level e.marks; marks = marks_at_level watch level e.marks }

-- the edges that leave the levels of one state
abbrev pub level_edges : ℕ → List LabelledEdge → Watch → List LabelledEdge
level_edges k edges watch = flat_map (λ level. map (edge_at_level k watch level) edges) (range_with_len 0 (levels watch))

-- the automaton with a counter of k levels at each state, where `watch` says what a state waits for
abbrev pub with_counters : ℕ → (ℕ → Watch) → Automaton → Automaton
with_counters k watch a = record {
  names = a.names;
  starts = map (λ start. start * k + 0) a.starts;
  states = a.states * k;
  edges = flat_map (λ state. level_edges k (edges_from state a.edges) (watch state)) (range_with_len 0 a.states);
  sets = 1;
  formula = FormulaTree.Inf 0 false;
}

-- the literal of an Inf, and none of any other condition
abbrev pub inf_literals : FormulaTree → List Literal
inf_literals (FormulaTree.Inf set neg) = Inf set neg ∷ []
inf_literals f = []

-- A generalised Büchi condition: `t`, an Inf, or an And of Infs alone, so that each of its parts has a literal for a run to wait for.
abbrev pub is_generalised_buchi : FormulaTree → Bool
is_generalised_buchi f = list_all (λ part. not (length (inf_literals part) == 0)) (conjuncts f)

-- What the states of each copy wait for. Under a generalised Büchi condition there is one copy, the automaton itself, else
-- the main copy waits for nothing, and each of the others for its sets.
abbrev pub watches : FormulaTree → List Watch
watches f = if is_generalised_buchi f then Some (flat_map inf_literals (conjuncts f)) ∷ [] else None ∷ map (λ sets. Some sets) (owned_sets (terms f))

-- the greatest number of levels
abbrev pub most_levels : List Watch → ℕ
most_levels those = fold (λ most watch. max most (levels watch)) 1 those

-- what the state waits for, where each copy has n states
abbrev pub watch_of : ℕ → List Watch → ℕ → Watch
watch_of n those state = option_and_then (λ watch. watch) (slice_get those (state / n))

-- The Büchi form. Law: it accepts the same lasso words.
abbrev pub buchi : Automaton → Automaton
buchi a = with_counters (most_levels (watches a.formula)) (watch_of a.states (watches a.formula)) (if is_generalised_buchi a.formula then a else copied a)

-- how many states it has
abbrev pub buchi_states : Automaton → ℕ
buchi_states a = a.states * length (watches a.formula) * most_levels (watches a.formula)

-- the condition isn't generalised Büchi, so that its terms are needed, and they are too many
pub record NeedsTooManyTerms (f : FormulaTree) : Type 0 where
  pub needed : is_generalised_buchi f ≡ false
  pub many : MOST_TERMS < count (terms f)
