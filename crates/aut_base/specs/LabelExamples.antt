-- Examples of canonical labels, and of the order of valuations.
use Rattle.std.specs.Prelude.{◌≡◌, ◌^◌, ℕ, true, false, [], ◌∷◌, map, codes}
use Rattle.std.specs.List.{range_with_len}
use Rattle.aut_base.specs.Label.{LabelTree, Prop, Not, And, Or, none}
use Rattle.aut_base.specs.LabelText.{label_text}
use Rattle.aut_base.specs.Valuation.{number_of, valuations}

abbrev pub both : LabelTree → LabelTree → LabelTree
both t u = And t u none

abbrev pub either : LabelTree → LabelTree → LabelTree
either t u = Or t u none

pub record CanonicalExamples : Type 0 where
  pub exclusive : label_text 2 (either (both (Prop 0) (Not (Prop 1))) (both (Not (Prop 0)) (Prop 1))) ≡ codes "!0&1 | 0&!1"
  pub inclusive : label_text 2 (either (Prop 0) (Prop 1)) ≡ codes "!0&1 | 0"
  pub never : label_text 1 (both (Prop 0) (Not (Prop 0))) ≡ codes "f"
  pub always : label_text 1 (either (Prop 0) (Not (Prop 0))) ≡ codes "t"
  pub second_of_two : label_text 2 (Prop 1) ≡ codes "1"
  pub shared : label_text 3 (either (both (Prop 0) (Prop 2)) (both (Prop 1) (Prop 2))) ≡ codes "!0&1&2 | 0&2"
  pub of_two : valuations 2 ≡ (false ∷ false ∷ []) ∷ (true ∷ false ∷ []) ∷ (false ∷ true ∷ []) ∷ (true ∷ true ∷ []) ∷ []
  -- the k-th valuation has the number k
  pub in_order : (n : ℕ) → map number_of (valuations n) ≡ range_with_len 0 (2 ^ n)
