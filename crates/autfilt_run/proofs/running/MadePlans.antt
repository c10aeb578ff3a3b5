-- How many automata `--made` generates.
use Rattle.std.proofs.Common.{◌≡◌, ℕ, ◌≤◌, List, [], ◌∷◌, Option, Some, codes, subst}
use Rattle.filter_plan.proofs.TableRows.{given}
use Rattle.filter_plan.specs.Numbers.{IsMadeCount}
use Rattle.filter_plan.specs.Table.{EachGives, ReadsOption, table, values_of}
use Rattle.filter_plan.specs.Words.{IsPlan}
use Rattle.filter_plan.specs.declared.plan.Plan.{Plan}

read_of : (values : List (List ℕ)) (n : ℕ) → ReadsOption IsMadeCount values (Some n) → (1 ≤ n) × (n ≤ 10000)
read_of [] n h = absurd h
read_of (value ∷ []) n h = (h.1, h.2)
read_of (value ∷ other ∷ values) n h = absurd h

read_as : (values : List (List ℕ)) (o : Option ℕ) (n : ℕ) → ReadsOption IsMadeCount values o → o ≡ Some n → (1 ≤ n) × (n ≤ 10000)
read_as values o n h is = read_of values n (subst (λ (x : Option ℕ). ReadsOption IsMadeCount values x) is h)

-- the number that its row of options gives a plan
of_row : (rows : _) (p : Plan) → EachGives table rows p → ReadsOption IsMadeCount (values_of (codes "made") rows) p.made
unfolding table
of_row rows p gives = given rows p gives (codes "made")

pub made_within : (words : List (List ℕ)) (p : Plan) (n : ℕ) → IsPlan words p → p.made ≡ Some n → (1 ≤ n) × (n ≤ 10000)
made_within words p n plan is = read_as _ p.made n (of_row _ p plan.options) is
