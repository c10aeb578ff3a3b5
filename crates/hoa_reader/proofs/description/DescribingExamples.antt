-- The worked examples, by computation.
use Rattle.std.proofs.Common.{[], ◌∷◌, codes, drop, map, refl, take}
use Rattle.aut_base.specs.Formula as formula
use Rattle.hoa_parser.specs.Raw as raw
use Rattle.hoa_reader.proofs.counting.PassedFirst.{passed_first}
use Rattle.hoa_reader.specs.Described.{below}
use Rattle.hoa_reader.specs.DescribingExamples.{CountExamples, DescribingExamples, DescriptionExamples, RuleExamples, text}
use Rattle.hoa_reader.specs.Validity.{rules}

rule_examples : RuleExamples
rule_examples = record {
  no_rule = refl;
  another_version = refl;
  no_acceptance_line = refl;
  two_acceptance_lines = refl;
  two_numbers_of_states = refl;
  two_lines_of_names = refl;
  two_acceptance_names = refl;
  two_tools = refl;
  two_titles = refl;
  repeated_lines = refl;
  capital_header = refl;
  capital_property = refl;
  too_few_names = refl;
  equal_names = refl;
  two_states_at_once = refl;
  goal_of_two_states = refl;
  high_start = refl;
  high_state = refl;
  high_goal = refl;
  alias_twice = refl;
  alias_of_itself = refl;
  alias_of_later_line = refl;
  unknown_alias = refl;
  proposition_without_names = refl;
  proposition_of_alias = refl;
  high_set_of_condition = refl;
  high_mark_of_state = refl;
  high_mark_of_edge = refl;
  state_twice = refl;
  label_in_label = refl;
  half_labelled = refl;
  three_letters_of_four = refl;
  four_letters_of_four = refl;
  both_broken = refl;
  earlier_is_first = (record { before = take 4 rules; after = drop 5 rules; all = refl; earlier = (refl, (refl, (refl, (refl, tt)))) }, refl);
}

description_examples : DescriptionExamples
description_examples = record {
  two_states_valid = (refl, (refl, (refl, (refl, (refl, (refl, (refl, (refl, (refl, (refl, (refl, (refl, tt))))))))))));
  two_states_described = refl;
  two_states_within = (refl, (refl, (refl, (refl, (refl, tt)))));
  letters_in_order = refl;
  letter_of_three = refl;
  letters_of_one = refl;
  letter_of_none = refl;
  always = refl;
  chained_valid = (refl, (refl, (refl, (refl, (refl, (refl, (refl, (refl, (refl, (refl, (refl, (refl, tt))))))))))));
  chain_replaced = refl;
  used_goal = refl;
  used_start = refl;
  used_state = refl;
  none_used = refl;
  repeated_starts = refl;
  joined_marks = refl;
}

count_examples : CountExamples
count_examples = record {
  height_of_chain = refl;
  size_of_chain = refl;
  weight_of_chain = refl;
  aliases_of_chain = refl;
  weight_of_edges = refl;
  no_weight = refl;
  height_of_state = refl;
  uncounted = refl;
  many_sets =
      passed_first 1 _ (record { version = codes "v1"; items = raw.Acceptance 513 formula.True ∷ raw.States 100001 ∷ []; states = [] })
      (refl, (refl, (refl, (refl, (refl, (refl, (refl, (refl, (refl, (refl, (refl, (refl, tt)))))))))))) refl (refl, tt) refl;
  many_states =
      passed_first 2 _ (text (raw.States 100001 ∷ []) [])
      (refl, (refl, (refl, (refl, (refl, (refl, (refl, (refl, (refl, (refl, (refl, (refl, tt)))))))))))) refl (refl, (refl, tt)) refl;
  too_many_names =
      passed_first 0 _ (text (raw.Ap 33 (map (λ k. k ∷ []) (below 33)) ∷ []) [])
      (refl, (refl, (refl, (refl, (refl, (refl, (refl, (refl, (refl, (refl, (refl, (refl, tt)))))))))))) refl tt refl;
  most_names = (refl, tt);
  most_sets = (refl, (refl, tt));
  most_states = (refl, (refl, (refl, tt)));
  greatest_numbers = λ w. refl;
}

pub describing_examples : DescribingExamples
describing_examples = record { rules = rule_examples; descriptions = description_examples; counts = count_examples }
