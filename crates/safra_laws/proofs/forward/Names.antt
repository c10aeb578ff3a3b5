-- The forward argument: in a round of a run with an accepting move some name is green while none up to it is red. From the root
-- on: a name holds the run all along and none up to it is red; where it is never green, a child of it comes to hold the run, and
-- does so all along, since the names of such children only go down.
use Rattle.std.proofs.Common.{◌≡◌, ◌∙◌, ◌⊎◌, ◌+◌, ◌<◌, ◌≤◌, ℕ, zero, suc, true, List, [], ◌∷◌, Contains, ap, arith, inl, inr, length, subst, sym}
use Rattle.std.proofs.lemmas.Bool.{cases_eq}
use Rattle.aut_base.proofs.lists.Members.{first_there, later_there, none_there, there_cases}
use Rattle.safra_trees.specs.Trees.{Node, holds, node_at}
use Rattle.safra_laws.proofs.forward.RunSteps.{HasGreenStep, IsRun, RunStep}

-- c is a child of x, and holds s
pub record Child (t : List Node) (x s c : ℕ) : Type 0 where
  pub above : x < c
  pub within : c < length t
  pub parent : (node_at t c).parent ≡ x
  pub holds_it : holds t c s ≡ true

-- x holds the run before and after the step, and no name up to x is red
pub record HoldsRun (x : ℕ) (e : RunStep) : Type 0 where
  pub begins : holds e.tree x e.state ≡ true
  pub ends : holds e.next x e.move.to ≡ true
  pub none_red : (f : ℕ) → f ≤ x → Contains e.red f → ⊥

-- after the step the child c of x, or an older one, holds the run; where it has the name c again, no name up to c is red
pub record ChildBehind (x c : ℕ) (e : RunStep) : Type 0 where
  pub to : ℕ
  pub low : to ≤ c
  pub child : Child e.next x e.move.to to
  pub none_red : to ≡ c → (f : ℕ) → f ≤ c → Contains e.red f → ⊥

-- some child of x holds the run after the step
pub record ChildMade (x : ℕ) (e : RunStep) : Type 0 where
  pub to : ℕ
  pub child : Child e.next x e.move.to to

-- what the argument needs of a step: the root holds the run on, and so does a child of a name that isn't green, or comes to
pub record FollowsRun (e : RunStep) : Type 0 where
  pub root : holds e.tree 0 e.state ≡ true → HoldsRun 0 e
  pub child_behind : (x c : ℕ) → HoldsRun x e → (Contains e.green x → ⊥) → Child e.tree x e.state c → ChildBehind x c e
  pub child_made : (x : ℕ) → HoldsRun x e → (Contains e.green x → ⊥) → e.move.accepting ≡ true → ChildMade x e

-- children that hold the same state are one
abbrev pub Apart : List Node → Type 0
Apart t = (x s c d : ℕ) → Child t x s c → Child t x s d → c ≡ d

pub record NotGreen (x : ℕ) (e : RunStep) : Type 0 where
  pub step : FollowsRun e
  pub holding : HoldsRun x e
  pub no_green : Contains e.green x → ⊥

-- after the steps the child c of x, or an older one, holds the run; where it has the name c again, c held the run all along
pub record ChildAtEnd (x c : ℕ) (es : List RunStep) (q : ℕ) (u : List Node) : Type 0 where
  pub to : ℕ
  pub low : to ≤ c
  pub child : Child u x q to
  pub same : to ≡ c → (e : RunStep) → Contains es e → HoldsRun c e

-- all of these steps
abbrev pub Each : (RunStep → Type 0) → List RunStep → Type 0
Each P es = (e : RunStep) → Contains es e → P e

rest_of : (P : RunStep → Type 0) (e : RunStep) (es : List RunStep) → Each P (e ∷ es) → Each P es
rest_of P e es each d there = each d (later_there e es d there)

child_along : (x c p q : ℕ) (t u : List Node) (es : List RunStep) → IsRun p t es q u → Each (NotGreen x) es → Child t x p c → ChildAtEnd x c es q u
child_along x c p q t u [] path each child = record {
  to = c;
  low = omega arith;
  child = subst (λ r. Child u x r c) path.0 (subst (λ w. Child w x p c) path.1 child);
  same = λ is e there. absurd (none_there e there);
}
child_along x c p q t u (e ∷ es) path each child =
    let here = each e (first_there e es) in
    let held : Child e.tree x e.state c = subst (λ r. Child e.tree x r c) path.0 (subst (λ w. Child w x p c) path.1 child) in
    let one = here.step.child_behind x c here.holding here.no_green held in
    let rest = child_along x one.to e.move.to q e.next u es path.2 (rest_of (NotGreen x) e es each) one.child in
    record {
      to = rest.to;
      low = omega (arith, rest.low, one.low);
      child = rest.child;
      same = λ is d there. (
          let first : one.to ≡ c = omega (arith, is, rest.low, one.low) in
          let second : rest.to ≡ one.to = is ∙ sym first in
          elim (there_cases e es d there) [
            | inl same ↦ subst (λ w. HoldsRun c w) same
                (record { begins = held.holds_it; ends = subst (λ k. holds e.next k e.move.to ≡ true) first one.child.holds_it; none_red = one.none_red first })
            | inr later ↦ subst (λ k. HoldsRun k d) first (rest.same second d later)
          ]);
    }

-- on a run with an accepting move, where x isn't green, a child of x comes to hold it
pub record ChildComes (x q : ℕ) (u : List Node) : Type 0 where
  pub to : ℕ
  pub child : Child u x q to

child_comes : (x p q : ℕ) (t u : List Node) (es : List RunStep) → IsRun p t es q u → Each (NotGreen x) es
    → (a : RunStep) → Contains es a → a.move.accepting ≡ true → ChildComes x q u
child_comes x p q t u [] path each a there accepts = absurd (none_there a there)
child_comes x p q t u (e ∷ es) path each a there accepts = elim (there_cases e es a there) [
  | inl same ↦ (
      let here = each e (first_there e es) in
      let one = here.step.child_made x here.holding here.no_green (ap (λ (d : RunStep). d.move.accepting) same ∙ accepts) in
      let rest = child_along x one.to e.move.to q e.next u es path.2 (rest_of (NotGreen x) e es each) one.child in
      record { to = rest.to; child = rest.child })
  | inr later ↦ child_comes x e.move.to q e.next u es path.2 (rest_of (NotGreen x) e es each) a later accepts
]

-- a step at which x is green
pub record IsGreen (x : ℕ) (es : List RunStep) : Type 0 where
  pub step : RunStep
  pub there : Contains es step
  pub green : Contains step.green x

green_at : (x : ℕ) (xs : List ℕ) → Contains xs x ⊎ (Contains xs x → ⊥)
green_at x [] = inr (λ there. none_there x there)
green_at x (y ∷ ys) = elim (cases_eq y x) [
  | inl same ↦ inl (subst (λ z. Contains (y ∷ ys) z) same (first_there y ys))
  | inr other ↦ (elim (green_at x ys) [
    | inl later ↦ inl (later_there y ys x later)
    | inr none ↦ inr (λ there. elim (there_cases y ys x there) [ inl e ↦ other e | inr l ↦ none l ])
  ])
]

greens : (x : ℕ) (es : List RunStep) → IsGreen x es ⊎ ((e : RunStep) → Contains es e → Contains e.green x → ⊥)
greens x [] = inr (λ e there. absurd (none_there e there))
greens x (e ∷ es) = elim (green_at x e.green) [
  | inl is ↦ inl (record { step = e; there = first_there e es; green = is })
  | inr isnt ↦ (elim (greens x es) [
    | inl found ↦ inl (record { step = found.step; there = later_there e es found.step found.there; green = found.green })
    | inr none ↦ inr (λ d there. elim (there_cases e es d there) [ inl same ↦ subst (λ (w : RunStep). Contains w.green x → ⊥) same isnt | inr later ↦ none d later ])
  ])
]

-- a name greater than x that holds the run all along
pub record HigherName (x : ℕ) (t : List Node) (es : List RunStep) : Type 0 where
  pub name : ℕ
  pub above : x < name
  pub within : name < length t
  pub holding : (e : RunStep) → Contains es e → HoldsRun name e

-- a round of steps of a run with an accepting move, from a state and a tree back to both
pub record IsRound (p : ℕ) (t : List Node) (es : List RunStep) : Type 0 where
  pub apart : Apart t
  pub run : IsRun p t es p t
  pub follows : Each FollowsRun es
  pub step : RunStep
  pub there : Contains es step
  pub accepts : step.move.accepting ≡ true

higher_name : (x p : ℕ) (t : List Node) (es : List RunStep) → IsRound p t es → Each (HoldsRun x) es → HasGreenStep es ⊎ HigherName x t es
higher_name x p t es round holding = elim (greens x es) [
  | inl found ↦ inl (record { name = x; step = found.step; there = found.there; green = found.green; none_red = λ e f inside low red. (holding e inside).none_red f low red })
  | inr none ↦ (
      let not_green : Each (NotGreen x) es = λ e inside. record { step = round.follows e inside; holding = holding e inside; no_green = none e inside } in
      let first = child_comes x p p t t es round.run not_green round.step round.there round.accepts in
      let again = child_along x first.to p p t t es round.run not_green first.child in
      inr (record {
        name = first.to;
        above = first.child.above;
        within = first.child.within;
        holding = again.same (round.apart x p again.to first.to again.child first.child);
      }))
]

ascend : (k x p : ℕ) (t : List Node) (es : List RunStep) → length t ≤ x + k → IsRound p t es → Each (HoldsRun x) es → HasGreenStep es
ascend zero x p t es room round holding = elim (higher_name x p t es round holding) [
  | inl green ↦ green
  | inr more ↦ absurd (omega (arith, room, more.above, more.within))
]
ascend (suc k) x p t es room round holding = elim (higher_name x p t es round holding) [
  | inl green ↦ green
  | inr more ↦ ascend k more.name p t es (omega (arith, room, more.above, more.within)) round more.holding
]

pub round_has_green : (p : ℕ) (t : List Node) (es : List RunStep) → IsRound p t es → ((e : RunStep) → Contains es e → holds e.tree 0 e.state ≡ true) → HasGreenStep es
round_has_green p t es round rooted = ascend (length t) 0 p t es (omega arith) round (λ e inside. (round.follows e inside).root (rooted e inside))
