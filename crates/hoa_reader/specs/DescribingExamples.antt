-- Small automata, worked out by hand: which rules they break, what they describe, and what is counted of them.
use Rattle.std.specs.Prelude.{◌≡◌, ℕ, true, false, List, [], ◌∷◌, Option, Some, None, codes, not, filter, map, replicate, take}
use Rattle.std.specs.List.{AllByRecursion}
use Rattle.aut_base.specs.Automaton.{LabelledEdge}
use Rattle.aut_base.specs.Formula as formula
use Rattle.aut_base.specs.Label as label
use Rattle.aut_base.specs.Label.{LabelTree}
use Rattle.aut_base.specs.declared.limit.Limit.TheVariants as limit
use Rattle.hoa_reader.specs.Counts.{IsCountWithin, PassesNone, growth, height, limit_counts, size_in, weight}
use Rattle.hoa_reader.specs.Described.{below, described, expanded, letter_label, meanings_of, state_count}
use Rattle.hoa_reader.specs.Elaborating.{PassesLimit}
use Rattle.hoa_parser.specs.Raw as raw
use Rattle.hoa_parser.specs.Raw.{RawTree, Written, WrittenEdge, WrittenItem, WrittenState}
use Rattle.hoa_reader.specs.Validity.{IsFirstBroken, IsValid, keeps_rule, rules}
use Rattle.hoa_reader.specs.declared.elaborate.Rule.{Rule}
use Rattle.hoa_reader.specs.declared.elaborate.Rule.TheVariants.{V1, V2, V3, V4, V5, V6, V7, V8, V9, V10, V11, V12}

-- all the rules that are broken
abbrev pub broken_rules : Written → List Rule
broken_rules w = filter (λ rule. not (keeps_rule rule w)) rules

abbrev pub written_edge_to : Option RawTree → ℕ → List ℕ → WrittenEdge
written_edge_to guard to marks = record { label = guard; to = to ∷ []; marks = marks }

abbrev pub written_state_with : ℕ → List WrittenEdge → WrittenState
written_state_with number edges = record { label = None; number = number; marks = []; edges = edges }

-- the items behind those that all examples have, and the body
abbrev pub text : List WrittenItem → List WrittenState → Written
text items states = record { version = codes "v1"; items = raw.Acceptance 1 (formula.Inf 0 false) ∷ items; states = states }

abbrev pub names_a_b : WrittenItem
names_a_b = raw.Ap 2 (codes "a" ∷ codes "b" ∷ [])

abbrev pub at_x : RawTree
at_x = raw.Alias (codes "x")

abbrev pub raw_or : RawTree
raw_or = raw.Or (raw.Prop 0) (raw.Prop 1) raw.none

abbrev pub goal_and_alias : Written
goal_and_alias = text [] (written_state_with 0 (record { label = Some at_x; to = 0 ∷ 1 ∷ []; marks = [] } ∷ []) ∷ [])

abbrev pub written_two_states : Written
written_two_states = record {
  version = codes "v1";
  items =
      raw.States 2 ∷ raw.Start (1 ∷ []) ∷ raw.Start (0 ∷ []) ∷ names_a_b ∷ raw.AliasOf (codes "x") raw_or
      ∷ raw.Acceptance 2 (formula.And (formula.Inf 0 false) (formula.Fin 1 false) formula.none) ∷ [];
  states =
      record { label = Some at_x; number = 1; marks = 1 ∷ []; edges = written_edge_to None 0 (0 ∷ []) ∷ written_edge_to None 1 [] ∷ [] }
      ∷ written_state_with 0 (written_edge_to (Some (raw.Not at_x)) 1 (0 ∷ []) ∷ []) ∷ [];
}

abbrev pub either_holds : LabelTree
either_holds = label.Or (label.Prop 0) (label.Prop 1) label.none

abbrev pub expected_edge : ℕ → LabelTree → ℕ → List ℕ → LabelledEdge
expected_edge from guard to marks = record { from = from; label = guard; to = to; marks = marks }

abbrev pub goals_of_letters : Written
goals_of_letters = text (names_a_b ∷ raw.States 4 ∷ []) (written_state_with 3 (written_edge_to None 0 [] ∷ written_edge_to None 1 [] ∷ written_edge_to None 2 [] ∷ written_edge_to None 3 [] ∷ []) ∷ [])

abbrev pub label_and : LabelTree → LabelTree → LabelTree
label_and s t = label.And s t label.none

abbrev pub chained : Written
chained = text
    (names_a_b ∷ raw.AliasOf (codes "x") (raw.And (raw.Prop 0) (raw.Prop 1) raw.none) ∷ raw.AliasOf (codes "y") (raw.Not at_x)
    ∷ raw.AliasOf (codes "z") (raw.Or at_x raw.False (raw.more (raw.Alias (codes "y")) raw.none)) ∷ [])
    (written_state_with 0 (written_edge_to (Some (raw.Alias (codes "z"))) 0 [] ∷ written_edge_to (Some (raw.Prop 1)) 0 [] ∷ []) ∷ [])

abbrev pub both_hold : LabelTree
both_hold = label.And (label.Prop 0) (label.Prop 1) label.none

abbrev pub labelled : List WrittenEdge → Written
labelled edges = text (names_a_b ∷ []) (record (written_state_with 0 edges) { label = Some (raw.Not (raw.Not raw_or)) } ∷ [])

-- Each rule broken alone, and of two broken rules the earlier one.
pub record RuleExamples : Type 0 where
  -- Each rule broken alone.
  pub no_rule : broken_rules (text [] []) ≡ []
  pub another_version : broken_rules (record (text [] []) { version = codes "v2" }) ≡ V1 ∷ []
  pub no_acceptance_line : broken_rules (record { version = codes "v1"; items = []; states = [] }) ≡ V2 ∷ []
  pub two_acceptance_lines : broken_rules (text (raw.Acceptance 1 (formula.Inf 0 false) ∷ []) []) ≡ V2 ∷ []
  pub two_numbers_of_states : broken_rules (text (raw.States 1 ∷ raw.States 1 ∷ []) []) ≡ V2 ∷ []
  pub two_lines_of_names : broken_rules (text (raw.Ap 0 [] ∷ raw.Ap 0 [] ∷ []) []) ≡ V2 ∷ []
  pub two_acceptance_names : broken_rules (text (raw.AccName ∷ raw.AccName ∷ []) []) ≡ V2 ∷ []
  pub two_tools : broken_rules (text (raw.Tool ∷ raw.Tool ∷ []) []) ≡ V2 ∷ []
  pub two_titles : broken_rules (text (raw.Name (codes "n") ∷ raw.Name (codes "m") ∷ []) []) ≡ V2 ∷ []
  -- properties and unknown headers may stand again and again
  pub repeated_lines : broken_rules (text (raw.Properties [] ∷ raw.Properties [] ∷ raw.Other (codes "o") ∷ raw.Other (codes "o") ∷ []) []) ≡ []
  pub capital_header : broken_rules (text (raw.Other (codes "Zone") ∷ []) []) ≡ V3 ∷ []
  pub capital_property : broken_rules (text (raw.Properties (codes "weak" ∷ codes "Ample" ∷ []) ∷ []) []) ≡ V3 ∷ []
  pub too_few_names : broken_rules (text (raw.Ap 2 (codes "a" ∷ []) ∷ []) []) ≡ V4 ∷ []
  pub equal_names : broken_rules (text (raw.Ap 3 (codes "a" ∷ codes "b" ∷ codes "a" ∷ []) ∷ []) []) ≡ V4 ∷ []
  pub two_states_at_once : broken_rules (text (raw.Start (0 ∷ 1 ∷ []) ∷ []) []) ≡ V5 ∷ []
  pub goal_of_two_states : broken_rules (text [] (written_state_with 0 (record { label = Some raw.True; to = 0 ∷ 1 ∷ []; marks = [] } ∷ []) ∷ [])) ≡ V5 ∷ []
  pub high_start : broken_rules (text (raw.Start (2 ∷ []) ∷ raw.States 2 ∷ []) []) ≡ V6 ∷ []
  pub high_state : broken_rules (text (raw.States 2 ∷ []) (written_state_with 2 [] ∷ [])) ≡ V6 ∷ []
  pub high_goal : broken_rules (text (raw.States 2 ∷ []) (written_state_with 0 (written_edge_to (Some raw.True) 2 [] ∷ []) ∷ [])) ≡ V6 ∷ []
  pub alias_twice : broken_rules (text (raw.AliasOf (codes "x") raw.True ∷ raw.AliasOf (codes "x") raw.True ∷ []) []) ≡ V7 ∷ []
  pub alias_of_itself : broken_rules (text (raw.AliasOf (codes "x") (raw.Not at_x) ∷ []) []) ≡ V7 ∷ []
  pub alias_of_later_line : broken_rules (text (raw.AliasOf (codes "y") at_x ∷ raw.AliasOf (codes "x") raw.True ∷ []) []) ≡ V7 ∷ []
  pub unknown_alias : broken_rules (text [] (written_state_with 0 (written_edge_to (Some at_x) 0 [] ∷ []) ∷ [])) ≡ V7 ∷ []
  pub proposition_without_names : broken_rules (text [] (written_state_with 0 (written_edge_to (Some (raw.Prop 0)) 0 [] ∷ []) ∷ [])) ≡ V8 ∷ []
  -- also where nothing uses the alias
  pub proposition_of_alias : broken_rules (text (raw.AliasOf (codes "x") (raw.Not (raw.Prop 2)) ∷ names_a_b ∷ []) []) ≡ V8 ∷ []
  pub high_set_of_condition : broken_rules (record { version = codes "v1"; items = raw.Acceptance 1 (formula.And (formula.Inf 0 false) (formula.Fin 1 true) formula.none) ∷ []; states = [] }) ≡ V9 ∷ []
  pub high_mark_of_state : broken_rules (text [] (record (written_state_with 0 []) { marks = 0 ∷ 1 ∷ [] } ∷ [])) ≡ V9 ∷ []
  pub high_mark_of_edge : broken_rules (text [] (written_state_with 0 (written_edge_to (Some raw.True) 0 (1 ∷ []) ∷ []) ∷ [])) ≡ V9 ∷ []
  pub state_twice : broken_rules (text [] (written_state_with 0 [] ∷ written_state_with 1 [] ∷ written_state_with 0 [] ∷ [])) ≡ V10 ∷ []
  pub label_in_label : broken_rules (text [] (record (written_state_with 0 (written_edge_to (Some raw.True) 0 [] ∷ [])) { label = Some raw.True } ∷ [])) ≡ V11 ∷ []
  pub half_labelled : broken_rules (text [] (written_state_with 0 (written_edge_to (Some raw.True) 0 [] ∷ written_edge_to None 0 [] ∷ []) ∷ [])) ≡ V11 ∷ []
  pub three_letters_of_four : broken_rules (text (names_a_b ∷ []) (written_state_with 0 (replicate 3 (written_edge_to None 0 [])) ∷ [])) ≡ V12 ∷ []
  pub four_letters_of_four : broken_rules (text (names_a_b ∷ []) (written_state_with 0 (replicate 4 (written_edge_to None 0 [])) ∷ [])) ≡ []
  -- Of two broken rules the earlier one is first.
  pub both_broken : broken_rules goal_and_alias ≡ V5 ∷ V7 ∷ []
  pub earlier_is_first : IsFirstBroken V5 goal_and_alias

-- What is described.
pub record DescriptionExamples : Type 0 where
  -- An automaton with a label and marks at a state and with an alias.
  pub two_states_valid : IsValid written_two_states
  pub two_states_described : described written_two_states ≡ record {
    names = codes "a" ∷ codes "b" ∷ [];
    starts = 1 ∷ 0 ∷ [];
    states = 2;
    edges = expected_edge 0 (label.Not either_holds) 1 (0 ∷ []) ∷ expected_edge 1 either_holds 0 (0 ∷ 1 ∷ []) ∷ expected_edge 1 either_holds 1 (1 ∷ []) ∷ [];
    sets = 2;
    formula = formula.And (formula.Inf 0 false) (formula.Fin 1 false) formula.none;
  }
  pub two_states_within : PassesNone written_two_states
  -- Edges without labels stand for the letters in order, the first proposition changing fastest.
  pub letters_in_order : (described goals_of_letters).edges ≡
      expected_edge 3 (label_and (label.Not (label.Prop 0)) (label.Not (label.Prop 1))) 0 []
      ∷ expected_edge 3 (label_and (label.Prop 0) (label.Not (label.Prop 1))) 1 []
      ∷ expected_edge 3 (label_and (label.Not (label.Prop 0)) (label.Prop 1)) 2 []
      ∷ expected_edge 3 (label_and (label.Prop 0) (label.Prop 1)) 3 [] ∷ []
  pub letter_of_three : letter_label 3 5 ≡ label.And (label.Prop 0) (label.Not (label.Prop 1)) (label.more (label.Prop 2) label.none)
  pub letters_of_one : letter_label 1 0 ∷ letter_label 1 1 ∷ [] ≡ label.Not (label.Prop 0) ∷ label.Prop 0 ∷ []
  pub letter_of_none : letter_label 0 0 ≡ label.True
  -- one edge without label, where there are no names
  pub always : (described (text [] (written_state_with 0 (written_edge_to None 0 [] ∷ []) ∷ []))).edges ≡ expected_edge 0 label.True 0 [] ∷ []
  -- Aliases that stand for other aliases are replaced all the way.
  pub chained_valid : IsValid chained
  pub chain_replaced : (described chained).edges ≡
      expected_edge 0 (label.Or both_hold label.False (label.more (label.Not both_hold) label.none)) 0 [] ∷ expected_edge 0 (label.Prop 1) 0 [] ∷ []
  -- Without `States:` the greatest number that is used tells how many states there are.
  pub used_goal : state_count (text (raw.Start (1 ∷ []) ∷ []) (written_state_with 2 (written_edge_to (Some raw.True) 4 [] ∷ []) ∷ [])) ≡ 5
  pub used_start : state_count (text (raw.Start (6 ∷ []) ∷ []) (written_state_with 2 [] ∷ [])) ≡ 7
  pub used_state : state_count (text (raw.Start (1 ∷ []) ∷ []) (written_state_with 2 [] ∷ [])) ≡ 3
  pub none_used : state_count (text [] []) ≡ 0
  pub repeated_starts : (described (text (raw.Start (2 ∷ []) ∷ raw.Start (0 ∷ []) ∷ raw.Start (2 ∷ []) ∷ raw.Start (1 ∷ []) ∷ []) [])).starts ≡ 2 ∷ 0 ∷ 1 ∷ []
  -- marks of a state and of its edge, joined
  pub joined_marks : map (λ e. e.marks) (described (record {
    version = codes "v1";
    items = raw.Acceptance 4 formula.True ∷ [];
    states = record { label = None; number = 0; marks = 3 ∷ 1 ∷ []; edges = written_edge_to (Some raw.True) 0 (1 ∷ 0 ∷ 0 ∷ []) ∷ [] } ∷ [];
  })).edges ≡ (0 ∷ 1 ∷ 3 ∷ []) ∷ []

-- What is counted, and the first count that passes its number.
pub record CountExamples : Type 0 where
  -- The label of `@z` is an Or of an And, `f` and a Not of that And: 1 + 3 + 1 + (1 + 3) signs, four of them one inside the other.
  -- The other edge holds no alias, and weighs nothing.
  pub height_of_chain : height (expanded (meanings_of chained) (raw.Alias (codes "z"))) ≡ 4
  pub size_of_chain : size_in chained (raw.Alias (codes "z")) ≡ 9
  pub weight_of_chain : weight chained ≡ 9
  pub aliases_of_chain : growth chained ≡ 4
  -- A state's label weighs as often as the state has edges, and has its height without any.
  pub weight_of_edges : weight (labelled (replicate 3 (written_edge_to None 0 []))) ≡ 15
  pub no_weight : weight (labelled []) ≡ 0
  pub height_of_state : growth (labelled []) ≡ 4
  -- nothing is counted of edges without labels, nor of an alias that nothing uses
  pub uncounted : growth (text (raw.AliasOf (codes "x") (raw.Not raw.True) ∷ []) (written_state_with 0 (written_edge_to None 0 [] ∷ []) ∷ [])) ≡ 0
  -- Of two counts that pass their numbers the earlier one is first.
  pub many_sets : PassesLimit limit.Sets (record { version = codes "v1"; items = raw.Acceptance 513 formula.True ∷ raw.States 100001 ∷ []; states = [] })
  pub many_states : PassesLimit limit.States (text (raw.States 100001 ∷ []) [])
  pub too_many_names : PassesLimit limit.Names (text (raw.Ap 33 (map (λ k. k ∷ []) (below 33)) ∷ []) [])
  -- each greatest number is still read
  pub most_names : AllByRecursion IsCountWithin (take 1 (limit_counts (text (raw.Ap 32 (replicate 32 (codes "a")) ∷ []) [])))
  pub most_sets : AllByRecursion IsCountWithin (take 2 (limit_counts (record { version = codes "v1"; items = raw.Acceptance 512 formula.True ∷ []; states = [] })))
  pub most_states : AllByRecursion IsCountWithin (take 3 (limit_counts (text (raw.States 100000 ∷ []) [])))
  pub greatest_numbers : (w : Written) → map (λ c. c.most) (limit_counts w) ≡ 32 ∷ 512 ∷ 100000 ∷ 1000000 ∷ 2048 ∷ []

pub record DescribingExamples : Type 0 where
  pub rules : RuleExamples
  pub descriptions : DescriptionExamples
  pub counts : CountExamples
