-- The plan's set operation describes the same words for two automata that accept the same.
use Rattle.std.proofs.Common.{List}
use Rattle.std.specs.Prelude.{◌↔◌}
use Rattle.ap_project.specs.Laws.{SayTheSame}
use Rattle.aut_base.specs.Acceptance.{Accepts}
use Rattle.aut_base.specs.Automaton.{Automaton}
use Rattle.aut_base.specs.Word.{NameSet}
use Rattle.filter_plan.specs.declared.plan.Plan.{Plan}
use Rattle.plan_meaning.proofs.changes.Stepping.{all_alike}
use Rattle.plan_meaning.specs.Changes.{changes_of, set_operation}

pub said_as : (p : Plan) (ops : List Automaton) (a b : Automaton) → ((u v : List NameSet) → Accepts a u v ↔ Accepts b u v) → SayTheSame (set_operation p ops a) (set_operation p ops b)
said_as p ops a b h = all_alike (changes_of p ops) (λ u v. Accepts a u v) (λ u v. Accepts b u v) (λ u v some. h u v)

-- what an automaton that was read is changed into
pub made_as : (p : Plan) (ops : List Automaton) (a b made : Automaton) → ((u v : List NameSet) → Accepts a u v ↔ Accepts b u v) → SayTheSame (λ u v. Accepts made u v) (set_operation p ops a)
    → SayTheSame (λ u v. Accepts made u v) (set_operation p ops b)
made_as p ops a b made h says u v some =
    let on = said_as p ops a b h u v some in
    (λ x. on.0 ((says u v some).0 x), λ x. (says u v some).1 (on.1 x))
