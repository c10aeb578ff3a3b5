-- The words have one plan at most.
use Rattle.std.specs.Prelude.{◌≡◌, ℕ, List}
use Rattle.std.specs.Option.{option_map}
use Rattle.filter_plan.specs.Words.{IsPlan}
use Rattle.filter_plan.specs.declared.plan.Plan.{Plan}
use Rattle.word_syntax.specs.Writing.{word_pattern}

-- the plans have equal fields; patterns are compared as values, wherever they are in memory
pub record SamePlan (p q : Plan) : Type 0 where
  pub accept_word : option_map word_pattern p.accept_word ≡ option_map word_pattern q.accept_word
  pub reject_word : option_map word_pattern p.reject_word ≡ option_map word_pattern q.reject_word
  pub others : p ≡ record q { accept_word = p.accept_word; reject_word = p.reject_word }

abbrev pub OnePlan : Type 0
OnePlan = (words : List (List ℕ)) (p q : Plan) → IsPlan words p → IsPlan words q → SamePlan p q
