-- A canonical text, line by line: an exclusive or, a label that is always true, a name with a quote.
use Rattle.std.specs.Prelude.{◌≡◌, true, false, [], ◌∷◌, ◌++◌, codes, Some}
use Rattle.aut_base.specs.Automaton.{Automaton}
use Rattle.aut_base.specs.Formula.{Inf, Fin, And, none}
use Rattle.aut_base.specs.Label.{Prop, Not}
use Rattle.aut_base.specs.LabelExamples.{both, either}
use Rattle.aut_base.specs.Text.{line}
use Rattle.hoa_writer.specs.CanonicalText.{canonical_text}

-- the second name is `b"`
abbrev pub two_states : Automaton
two_states = record {
  names = codes "a" ∷ (98 ∷ 34 ∷ []) ∷ [];
  starts = 0 ∷ [];
  states = 2;
  edges =
      record { from = 0; label = either (both (Prop 0) (Not (Prop 1))) (both (Not (Prop 0)) (Prop 1)); to = 1; marks = 0 ∷ 1 ∷ [] }
      ∷ record { from = 1; label = either (Prop 0) (Not (Prop 0)); to = 0; marks = [] } ∷ [];
  sets = 2;
  formula = And (Inf 0 false) (Fin 1 true) none;
}

pub record CanonicalTextExamples : Type 0 where
  pub whole : canonical_text two_states (Some (codes "x")) ≡
      line (codes "HOA: v1") ++ (line (codes "name: \"x\"") ++ (line (codes "States: 2") ++ (line (codes "Start: 0")
      ++ (line (codes "AP: 2 \"a\" " ++ (34 ∷ 98 ∷ 92 ∷ 34 ∷ 34 ∷ [])) ++ (line (codes "Acceptance: 2 Inf(0) & Fin(!1)")
      ++ (line (codes "properties: trans-labels explicit-labels trans-acc") ++ (line (codes "--BODY--")
      ++ (line (codes "State: 0") ++ (line (codes "[!0&1 | 0&!1] 1 {0 1}")
      ++ (line (codes "State: 1") ++ (line (codes "[t] 0") ++ line (codes "--END--"))))))))))))
