-- A step of a run and of its tree has what the forward argument needs.
use Rattle.std.proofs.Common.{◌≡◌, ◌∙◌, ◌+◌, ◌-◌, ◌<◌, ◌≤◌, ◌==◌, ◌&&◌, ℕ, Bool, true, false, not, List, [], ◌∷◌, Contains, ap, arith, inl, inr, length, refl, subst, sym}
use Rattle.std.proofs.lemmas.Bool.{and_from, cases_Bool, cases_eq, cases_lt, eq-eqb, not_from_false, true≢false}
use Rattle.std.specs.List.{range_with_len}
use Rattle.aut_base.proofs.lists.Members.{any_from, first_there, from_filter, later_there, none_there, there_cases, there_filter, there_range_zero}
use Rattle.safra_trees.proofs.list_step.Forests.{Next, next_child, stays_from}
use Rattle.safra_trees.proofs.list_step.Pruned.{grown_forest, new_holds, new_parent, old_holds, old_parent, pruned_holds, pruned_parent, pruned_parts, pruned_within}
use Rattle.safra_trees.proofs.list_step.Ranks.{rank_all, rank_low, rank_rises, rank_whole}
use Rattle.safra_trees.specs.Step.{Forest, IsTree, covered, goes_accepting, greens, grown, retains, pruned, reds, survives}
use Rattle.safra_trees.specs.inner.Names.{rank}
use Rattle.safra_trees.specs.Trees.{Node, holds}
use Rattle.safra_trees.specs.declared.moves.Move.{Move}
use Rattle.safra_laws.proofs.TreesAfter.{holds_within, steps_keep_trees}
use Rattle.safra_laws.proofs.forward.Names.{Apart, Child, ChildBehind, ChildMade, Each, FollowsRun, HoldsRun}
use Rattle.safra_laws.proofs.forward.RunSteps.{IsRun, IsRunStep, RunStep}

-- a name that isn't red survives, and one that survives and isn't green isn't covered
not_red : (f : Forest) (m x : ℕ) → x < m → (Contains (reds f m) x → ⊥) → survives f x ≡ true
not_red f m x less none = elim (cases_Bool (survives f x)) [
  | inl is ↦ is
  | inr isnt ↦ absurd (none (there_filter (λ y. not (survives f y)) (range_with_len 0 m) x (there_range_zero m x less) (not_from_false (survives f x) isnt)))
]

red_goes : (f : Forest) (m x : ℕ) → survives f x ≡ true → Contains (reds f m) x → ⊥
red_goes f m x is there = go (survives f x) is (from_filter (λ y. not (survives f y)) (range_with_len 0 m) x there).1
  where
    go : (b : Bool) → b ≡ true → not b ≡ true → ⊥
    go true e h = true≢false (sym h)
    go false e h = true≢false (sym e)

not_green : (f : Forest) (x : ℕ) → x < f.size → survives f x ≡ true → (Contains (greens f) x → ⊥) → covered f x ≡ false
not_green f x less is none = elim (cases_Bool (covered f x)) [
  | inl is_covered ↦ absurd (none (there_filter (λ y. survives f y && covered f y) (range_with_len 0 f.size) x (there_range_zero f.size x less) (and_from (survives f x) (covered f x) is is_covered)))
  | inr isnt ↦ isnt
]

-- what is known of a step at which x holds the run before and after, and no name up to x is removed
pub record Kept (n : ℕ) (e : RunStep) (x : ℕ) : Type 0 where
  pub within : x < length e.tree
  pub stays_on : survives (grown n e.moves e.tree) x ≡ true
  pub same : rank (survives (grown n e.moves e.tree)) x ≡ x
  pub keeps_it : retains (grown n e.moves e.tree) x e.move.to ≡ true

known : (n : ℕ) (e : RunStep) → IsRunStep n e → (x : ℕ) → HoldsRun x e → Kept n e x
known n e step x holding =
    let f = grown n e.moves e.tree in
    let m = length e.tree in
    let within : x < m = holds_within e.tree x e.state holding.begins in
    let each : (y : ℕ) → y ≤ x → survives f y ≡ true = λ y low.
    not_red f m y (omega (arith, low, within)) (λ there. holding.none_red y low (subst (λ ys. Contains ys y) (sym step.red_names) there)) in
    let on = each x (omega arith) in
    let same : rank (survives f) x ≡ x = rank_all (survives f) x (λ y less. each y (omega (arith, less))) in
    let ends : holds (pruned f) (rank (survives f) x) e.move.to ≡ true =
    subst (λ y. holds (pruned f) y e.move.to ≡ true) (sym same) (subst (λ t. holds t x e.move.to ≡ true) step.steps holding.ends) in
    record {
      within = within;
      stays_on = on;
      same = same;
      keeps_it = (pruned_parts f x e.move.to (omega (arith, within)) on ends).0;
    }

goal_held : (n : ℕ) (e : RunStep) → IsRunStep n e → (x : ℕ) → holds e.tree x e.state ≡ true → x < length e.tree → (grown n e.moves e.tree).holds x e.move.to ≡ true
goal_held n e step x h less =
    old_holds n e.moves e.tree x e.move.to less
    ∙ any_from (λ (m : Move). holds e.tree x m.from && (m.to == e.move.to)) e.moves e.move step.takes
    (and_from (holds e.tree x e.move.from) (e.move.to == e.move.to) (ap (holds e.tree x) step.leaves ∙ h) (eq-eqb e.move.to e.move.to refl))

child_next : (n : ℕ) (e : RunStep) → IsRunStep n e → IsTree e.tree → (x y : ℕ) → Kept n e x → (next : Next (grown n e.moves e.tree) x e.move.to y)
    → y < length e.tree + length e.tree → Child e.next x e.move.to (rank (survives (grown n e.moves e.tree)) next.name)
child_next n e step tree x y k next less =
    let f = grown n e.moves e.tree in
    let z = next.name in
    let size : z < f.size = omega (arith, next.low, less) in
    let low : x < z = omega (arith, (grown_forest n e.moves e.tree tree).lower z next.more size, next.parent) in
    let child : Child (pruned f) x e.move.to (rank (survives f) z) = record {
      above = omega (arith, rank_rises (survives f) x z low k.stays_on, k.same);
      within = pruned_within f z size next.stays_on;
      parent = pruned_parent f z size next.stays_on ∙ (ap (rank (survives f)) next.parent ∙ k.same);
      holds_it = pruned_holds f z e.move.to size next.stays_on next.keeps_it step.below;
    } in
    subst (λ t. Child t x e.move.to (rank (survives f) z)) (sym step.steps) child

child_behind : (n : ℕ) (e : RunStep) → IsRunStep n e → IsTree e.tree → (x c : ℕ) → HoldsRun x e → (Contains e.green x → ⊥) → Child e.tree x e.state c → ChildBehind x c e
child_behind n e step tree x c holding none child =
    let f = grown n e.moves e.tree in
    let m = length e.tree in
    let k = known n e step x holding in
    let uncovered = not_green f x (omega (arith, k.within)) k.stays_on (λ there. none (subst (λ ys. Contains ys x) (sym step.green_names) there)) in
    let parent = old_parent n e.moves e.tree c child.within ∙ child.parent in
    let held = goal_held n e step c child.holds_it child.within in
    let forest = grown_forest n e.moves e.tree tree in
    let next = next_child f forest x e.move.to c (omega (arith, child.above)) (omega (arith, child.within)) parent held k.keeps_it step.below k.stays_on uncovered in
    let z = next.name in
    record {
      to = rank (survives f) z;
      low = omega (arith, rank_low (survives f) z, next.low);
      child = child_next n e step tree x c k next (omega (arith, child.within));
      none_red = λ is d low red. (
          let at : z ≡ c = omega (arith, is, rank_low (survives f) z, next.low) in
          let whole : rank (survives f) z ≡ z = is ∙ sym at in
          let on : survives f d ≡ true = elim (cases_eq d z) [
            | inl last ↦ ap (survives f) last ∙ next.stays_on
            | inr other ↦ rank_whole (survives f) z whole d (omega (arith, low, at, other))
          ] in
          red_goes f m d on (subst (λ ys. Contains ys d) step.red_names red));
    }

child_made : (n : ℕ) (e : RunStep) → IsRunStep n e → IsTree e.tree → (x : ℕ) → HoldsRun x e → (Contains e.green x → ⊥) → e.move.accepting ≡ true → ChildMade x e
child_made n e step tree x holding none accepts =
    let f = grown n e.moves e.tree in
    let m = length e.tree in
    let k = known n e step x holding in
    let uncovered = not_green f x (omega (arith, k.within)) k.stays_on (λ there. none (subst (λ ys. Contains ys x) (sym step.green_names) there)) in
    let y = m + x in
    let back : y - m ≡ x = omega arith in
    let size : y < m + m = omega (arith, k.within) in
    let more : 0 < y = omega (arith, k.within) in
    let past : m ≤ y = omega arith in
    let held : goes_accepting e.moves e.tree x e.move.to ≡ true =
    any_from (λ (w : Move). w.accepting && (holds e.tree x w.from && (w.to == e.move.to))) e.moves e.move step.takes
    (and_from e.move.accepting (holds e.tree x e.move.from && (e.move.to == e.move.to)) accepts
    (and_from (holds e.tree x e.move.from) (e.move.to == e.move.to) (ap (holds e.tree x) step.leaves ∙ holding.begins) (eq-eqb e.move.to e.move.to refl))) in
    let next = next_child f (grown_forest n e.moves e.tree tree) x e.move.to y more size (new_parent n e.moves e.tree y past ∙ back)
    (new_holds n e.moves e.tree y e.move.to past ∙ (ap (λ w. goes_accepting e.moves e.tree w e.move.to) back ∙ held)) k.keeps_it step.below k.stays_on uncovered in
    record { to = rank (survives f) next.name; child = child_next n e step tree x y k next size }

root : (n : ℕ) (e : RunStep) → IsRunStep n e → holds e.tree 0 e.state ≡ true → HoldsRun 0 e
root n e step h =
    let f = grown n e.moves e.tree in
    let m = length e.tree in
    let within : 0 < m = holds_within e.tree 0 e.state h in
    let kept : retains f 0 e.move.to ≡ true = and_from (f.holds 0 e.move.to) true (goal_held n e step 0 h within) refl in
    let on : survives f 0 ≡ true = stays_from f 0 e.move.to kept step.below refl in
    record {
      begins = h;
      ends = subst (λ t. holds t 0 e.move.to ≡ true) (sym step.steps) (pruned_holds f 0 e.move.to (omega (arith, within)) on kept step.below);
      none_red = λ d low red. (let none : d ≡ 0 = omega (arith, low) in red_goes f m d (ap (survives f) none ∙ on) (subst (λ ys. Contains ys d) step.red_names red));
    }

pub follows_run : (n : ℕ) (e : RunStep) → IsRunStep n e → IsTree e.tree → FollowsRun e
follows_run n e step tree = record { root = root n e step; child_behind = child_behind n e step tree; child_made = child_made n e step tree }

next_is_tree : (n : ℕ) (e : RunStep) → IsRunStep n e → IsTree e.tree → IsTree e.next
next_is_tree n e step tree = subst IsTree (sym step.steps) (steps_keep_trees n e.moves e.tree tree)

pub each_follows : (n p q : ℕ) (t u : List Node) (es : List RunStep) → IsTree t → IsRun p t es q u → Each (IsRunStep n) es → Each FollowsRun es
each_follows n p q t u [] tree run steps e there = absurd (none_there e there)
each_follows n p q t u (d ∷ es) tree run steps e there =
    let first = steps d (first_there d es) in
    let here : IsTree d.tree = subst IsTree run.1 tree in
    elim (there_cases d es e there) [
      | inl same ↦ subst FollowsRun same (follows_run n d first here)
      | inr later ↦ each_follows n d.move.to q d.next u es (next_is_tree n d first here) run.2 (λ w inside. steps w (later_there d es w inside)) e later
    ]

pub tree_apart : (t : List Node) → IsTree t → Apart t
tree_apart t tree x s c d one two = elim (cases_lt c d) [
  | inl less ↦ absurd (tree.apart c d s (omega (arith, one.above)) less two.within (one.parent ∙ sym two.parent) one.holds_it two.holds_it)
  | inr more ↦ (elim (cases_lt d c) [
    | inl less ↦ absurd (tree.apart d c s (omega (arith, two.above)) less one.within (two.parent ∙ sym one.parent) two.holds_it one.holds_it)
    | inr most ↦ omega (arith, more, most)
  ])
]

pub next_rooted : (n : ℕ) (e : RunStep) → IsRunStep n e → holds e.tree 0 e.state ≡ true → holds e.next 0 e.move.to ≡ true
next_rooted n e step h = (root n e step h).ends

-- the root holds the run all along
pub each_rooted : (n p q : ℕ) (t u : List Node) (es : List RunStep) → holds t 0 p ≡ true → IsRun p t es q u → Each (IsRunStep n) es
    → (e : RunStep) → Contains es e → holds e.tree 0 e.state ≡ true
each_rooted n p q t u [] h run steps e there = absurd (none_there e there)
each_rooted n p q t u (d ∷ es) h run steps e there =
    let here : holds d.tree 0 d.state ≡ true = subst (λ r. holds d.tree 0 r ≡ true) run.0 (subst (λ w. holds w 0 p ≡ true) run.1 h) in
    elim (there_cases d es e there) [
      | inl same ↦ subst (λ (w : RunStep). holds w.tree 0 w.state ≡ true) same here
      | inr later ↦ each_rooted n d.move.to q d.next u es (next_rooted n d (steps d (first_there d es)) here) run.2 (λ w inside. steps w (later_there d es w inside)) e later
    ]
