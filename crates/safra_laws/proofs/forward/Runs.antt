-- The forward direction over letters: a path of moves and the trees along it, as the steps of a run.
use Rattle.std.proofs.Common.{◌≡◌, ◌<◌, ◌≤◌, ℕ, true, List, [], ◌∷◌, ◌++◌, Contains, ap, inl, inr, length, refl, subst, sym}
use Rattle.std.proofs.lemmas.Bool.{or_cases, true≢false}
use Rattle.std.specs.List.{list_any}
use Rattle.aut_base.proofs.lists.Members.{first_there, later_there, none_there, there_cases}
use Rattle.safra_trees.specs.Step.{IsTree, greens, grown, reds}
use Rattle.safra_trees.specs.Trees.{Node, holds}
use Rattle.safra_trees.specs.declared.moves.Move.{Move}
use Rattle.safra_laws.proofs.forward.Names.{Each, round_has_green}
use Rattle.safra_laws.proofs.forward.RunSteps.{HasGreenStep, IsRun, IsRunStep, RunStep}
use Rattle.safra_laws.proofs.forward.Steps.{each_follows, each_rooted, next_rooted, tree_apart}
use Rattle.safra_laws.specs.Language.{AcceptedIsGreen}
use Rattle.safra_laws.specs.Rounds.{GoalsBelow, IsMovePath, NeverRed, next_tree, tree_after}

abbrev run_step : ℕ → List Node → List Move → Move → RunStep
run_step n t ms m = record { state = m.from; tree = t; moves = ms; move = m; next = next_tree n ms t; green = greens (grown n ms t); red = reds (grown n ms t) (length t) }

abbrev run_steps : ℕ → List Node → List (List Move) → List Move → List RunStep
run_steps n t [] es = []
run_steps n t (ms ∷ w) [] = []
run_steps n t (ms ∷ w) (m ∷ es) = run_step n t ms m ∷ run_steps n (next_tree n ms t) w es

is_run_step : (n : ℕ) (t : List Node) (ms : List Move) (m : Move) → Contains ms m → m.to < n → IsRunStep n (run_step n t ms m)
is_run_step n t ms m there below = record { takes = there; leaves = refl; below = below; steps = refl; green_names = refl; red_names = refl }

are_run_steps : (n p q : ℕ) (t : List Node) (w : List (List Move)) (es : List Move) → GoalsBelow n w → IsMovePath p w es q → Each (IsRunStep n) (run_steps n t w es)
are_run_steps n p q t [] es below path e there = absurd (none_there e there)
are_run_steps n p q t (ms ∷ w) [] below path e there = absurd path
are_run_steps n p q t (ms ∷ w) (m ∷ es) below path e there = elim (there_cases (run_step n t ms m) (run_steps n (next_tree n ms t) w es) e there) [
  | inl same ↦ subst (IsRunStep n) same (is_run_step n t ms m path.1 (below.0 m path.1))
  | inr later ↦ are_run_steps n m.to q (next_tree n ms t) w es below.1 path.2 e later
]

is_run : (n p q : ℕ) (t : List Node) (w : List (List Move)) (es : List Move) → IsMovePath p w es q → IsRun p t (run_steps n t w es) q (tree_after n t w)
is_run n p q t [] [] path = (path, refl)
is_run n p q t [] (m ∷ es) path = absurd path
is_run n p q t (ms ∷ w) [] path = absurd path
is_run n p q t (ms ∷ w) (m ∷ es) path = (path.0, refl, is_run n m.to q (next_tree n ms t) w es path.2)

-- where the root holds the first state of a path, it holds the last one too
pub after_rooted : (n p q : ℕ) (t : List Node) (w : List (List Move)) (es : List Move) → GoalsBelow n w → IsMovePath p w es q → holds t 0 p ≡ true → holds (tree_after n t w) 0 q ≡ true
after_rooted n p q t [] [] below path h = subst (λ r. holds t 0 r ≡ true) path h
after_rooted n p q t [] (m ∷ es) below path h = absurd path
after_rooted n p q t (ms ∷ w) [] below path h = absurd path
after_rooted n p q t (ms ∷ w) (m ∷ es) below path h =
    let step = is_run_step n t ms m path.1 (below.0 m path.1) in
    after_rooted n m.to q (next_tree n ms t) w es below.1 path.2 (next_rooted n (run_step n t ms m) step (subst (λ r. holds t 0 r ≡ true) path.0 h))

-- a step with an accepting move
record AcceptingStep (es : List RunStep) : Type 0 where
  step : RunStep
  there : Contains es step
  accepts : step.move.accepting ≡ true

accepting_step : (n p q : ℕ) (t : List Node) (w : List (List Move)) (es : List Move) → IsMovePath p w es q → list_any (λ (e : Move). e.accepting) es ≡ true → AcceptingStep (run_steps n t w es)
accepting_step n p q t [] [] path some = absurd (true≢false (sym some))
accepting_step n p q t [] (m ∷ es) path some = absurd path
accepting_step n p q t (ms ∷ w) [] path some = absurd path
accepting_step n p q t (ms ∷ w) (m ∷ es) path some = elim (or_cases m.accepting (list_any (λ (e : Move). e.accepting) es) some) [
  | inl here ↦ record { step = run_step n t ms m; there = first_there (run_step n t ms m) (run_steps n (next_tree n ms t) w es); accepts = here }
  | inr later ↦ (let rest = accepting_step n m.to q (next_tree n ms t) w es path.2 later in
      record { step = rest.step; there = later_there (run_step n t ms m) (run_steps n (next_tree n ms t) w es) rest.step rest.there; accepts = rest.accepts })
]

-- the letter at which the name is green
record GreenLetter (n : ℕ) (t : List Node) (w : List (List Move)) (name : ℕ) : Type 0 where
  before : List (List Move)
  letter : List Move
  behind : List (List Move)
  parts : w ≡ before ++ letter ∷ behind
  green : Contains (greens (grown n letter (tree_after n t before))) name

green_letter : (n name : ℕ) (t : List Node) (w : List (List Move)) (es : List Move) (e : RunStep) → Contains (run_steps n t w es) e → Contains e.green name → GreenLetter n t w name
green_letter n name t [] es e there green = absurd (none_there e there)
green_letter n name t (ms ∷ w) [] e there green = absurd (none_there e there)
green_letter n name t (ms ∷ w) (m ∷ es) e there green = elim (there_cases (run_step n t ms m) (run_steps n (next_tree n ms t) w es) e there) [
  | inl same ↦ record { before = []; letter = ms; behind = w; parts = refl; green = subst (λ (d : RunStep). Contains d.green name) (sym same) green }
  | inr later ↦ (let rest = green_letter n name (next_tree n ms t) w es e later green in
      record { before = ms ∷ rest.before; letter = rest.letter; behind = rest.behind; parts = ap (λ (x : List (List Move)). ms ∷ x) rest.parts; green = rest.green })
]

never_red : (n name p q : ℕ) (t : List Node) (w : List (List Move)) (es : List Move) → IsMovePath p w es q
    → ((e : RunStep) (f : ℕ) → Contains (run_steps n t w es) e → f ≤ name → Contains e.red f → ⊥) → NeverRed n name t w
never_red n name p q t [] es path none = tt
never_red n name p q t (ms ∷ w) [] path none = absurd path
never_red n name p q t (ms ∷ w) (m ∷ es) path none = (
  (λ f upto red. none (run_step n t ms m) f (first_there (run_step n t ms m) (run_steps n (next_tree n ms t) w es)) upto red),
  never_red n name m.to q (next_tree n ms t) w es path.2 (λ e f there upto red. none e f (later_there (run_step n t ms m) (run_steps n (next_tree n ms t) w es) e there) upto red),
)

green_step : (n p : ℕ) (t : List Node) (w : List (List Move)) (es : List Move) → IsTree t → holds t 0 p ≡ true → GoalsBelow n w → IsMovePath p w es p → tree_after n t w ≡ t
    → list_any (λ (e : Move). e.accepting) es ≡ true → HasGreenStep (run_steps n t w es)
green_step n p t w es tree rooted below path home some =
    let steps = run_steps n t w es in
    let run = subst (λ u. IsRun p t steps p u) home (is_run n p p t w es path) in
    let each = are_run_steps n p p t w es below path in
    let a = accepting_step n p p t w es path some in
    round_has_green p t steps
    (record { apart = tree_apart t tree; run = run; follows = each_follows n p p t t steps tree run each; step = a.step; there = a.there; accepts = a.accepts })
    (each_rooted n p p t t steps rooted run each)

pub accepted_is_green : AcceptedIsGreen
accepted_is_green n p t w es tree rooted below path home some =
    let found = green_step n p t w es tree rooted below path home some in
    let at = green_letter n found.name t w es found.step found.there found.green in
    record {
      name = found.name;
      before = at.before;
      letter = at.letter;
      behind = at.behind;
      parts = at.parts;
      green = at.green;
      never_red = never_red n found.name p p t w es path found.none_red;
    }
