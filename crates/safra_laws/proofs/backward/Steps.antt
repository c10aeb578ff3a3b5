-- What tracing back needs of a step at which neither a name nor a lower one is red, and of a step at which that name is
-- green.
use Rattle.std.proofs.Common.{◌≡◌, ◌∙◌, ◌&&◌, ◌==◌, ℕ, ◌+◌, ◌-◌, ◌<◌, ◌≤◌, true, false, not, List, [], ◌∷◌, ◌++◌, Contains, filter, length, nat_lt, sym, ap, arith, inl, inr, subst}
use Rattle.std.proofs.lemmas.Bool.{and_parts, both_ways, cases_Bool, cases_lt, eqb-true, ltb-true, not_from_false, or_parts}
use Rattle.std.specs.List.{list_any, range_with_len}
use Rattle.aut_base.proofs.lists.Members.{any_found, each_is, from_filter, from_range, there_filter, there_range_zero}
use Rattle.safra_trees.proofs.list_step.Forests.{ancestors_of, keeps_holds, stays_free, stays_some, stays_up}
use Rattle.safra_trees.proofs.list_step.Pruned.{grown_forest, new_holds, new_parent, old_holds, old_parent, pruned_length, pruned_parent, pruned_parts, pruned_within, rank_zero}
use Rattle.safra_trees.proofs.list_step.Ranks.{rank_all, rank_back, rank_same}
use Rattle.safra_trees.specs.Step.{Forest, IsTree, ancestors, covered, goes, goes_accepting, greens, grown, is_child, retains, pruned, reds, survives}
use Rattle.safra_trees.specs.inner.Names.{rank}
use Rattle.safra_trees.specs.Trees.{Node, holds, node_at}
use Rattle.safra_trees.specs.declared.moves.Move.{Move}
use Rattle.safra_laws.proofs.TreesAfter.{steps_keep_trees}
use Rattle.safra_laws.proofs.backward.Traces.{Enters, EntersAccepting, EntersBelow, IsChild, KeepsName, KeepsNameAlong, TurnsGreen}
use Rattle.safra_laws.specs.Rounds.{NeverRed, next_tree, tree_after}

pub enters_found : (ms : List Move) (t : List Node) (x q : ℕ) → goes ms t x q ≡ true → Enters ms (holds t x) q
enters_found ms t x q h =
    let found = any_found (λ (m : Move). holds t x m.from && (m.to == q)) ms h in
    let parts = and_parts (holds t x found.0.from) (found.0.to == q) found.2 in
    record { move = found.0; there = found.1; from = parts.0; to = eqb-true found.0.to q parts.1 }

pub enters_accepting_found : (ms : List Move) (t : List Node) (x q : ℕ) → goes_accepting ms t x q ≡ true → EntersAccepting ms (holds t x) q
enters_accepting_found ms t x q h =
    let found = any_found (λ (m : Move). m.accepting && (holds t x m.from && (m.to == q))) ms h in
    let parts = and_parts found.0.accepting (holds t x found.0.from && (found.0.to == q)) found.2 in
    let inner = and_parts (holds t x found.0.from) (found.0.to == q) parts.1 in
    record { enters = record { move = found.0; there = found.1; from = inner.0; to = eqb-true found.0.to q inner.1 }; accepting = parts.0 }

-- what a child of g in the grown forest holds
grown_enters : (n : ℕ) (ms : List Move) (t : List Node) (g y q : ℕ) → 0 < y → y < length t + length t → (grown n ms t).parent y ≡ g → (grown n ms t).holds y q ≡ true → EntersBelow ms t g q
grown_enters n ms t g y q more less parent held = elim (cases_lt y (length t)) [
  | inl old ↦ inr (record {
    child = y;
    is = record { some = more; below = old; parent = sym (old_parent n ms t y old) ∙ parent };
    enters = enters_found ms t y q (sym (old_holds n ms t y q old) ∙ held);
  })
  | inr new ↦ (let back : y - length t ≡ g = sym (new_parent n ms t y new) ∙ parent in
      inl (subst (λ x. EntersAccepting ms (holds t x) q) back (enters_accepting_found ms t (y - length t) q (sym (new_holds n ms t y q new) ∙ held))))
]

-- the names up to g survive
abbrev pub AllStay : ℕ → List Move → List Node → ℕ → Type 0
AllStay n ms t g = (f : ℕ) → f ≤ g → survives (grown n ms t) f ≡ true

same_name : (n : ℕ) (ms : List Move) (t : List Node) (g : ℕ) → AllStay n ms t g → rank (survives (grown n ms t)) g ≡ g
same_name n ms t g on = rank_all (survives (grown n ms t)) g (λ f less. on f (omega (arith, less)))

pub stays_below : (n : ℕ) (ms : List Move) (t : List Node) (g : ℕ) → g < length t → AllStay n ms t g → g < length (next_tree n ms t)
stays_below n ms t g below on = omega (arith, pruned_within (grown n ms t) g (omega (arith, below)) (on g (omega arith)), same_name n ms t g on)

-- what the name holds after the step it kept
kept_here : (n : ℕ) (ms : List Move) (t : List Node) (g q : ℕ) → g < length t → AllStay n ms t g → holds (next_tree n ms t) g q ≡ true → (retains (grown n ms t) g q ≡ true) × (q < n)
kept_here n ms t g q below on here =
    pruned_parts (grown n ms t) g q (omega (arith, below)) (on g (omega arith)) (subst (λ x. holds (next_tree n ms t) x q ≡ true) (sym (same_name n ms t g on)) here)

-- a child of the name after the step was a child of it in the grown forest
record WasChild (n : ℕ) (ms : List Move) (t : List Node) (g c : ℕ) : Type 0 where
  name : ℕ
  some : 0 < name
  below : name < length t + length t
  on : survives (grown n ms t) name ≡ true
  is : rank (survives (grown n ms t)) name ≡ c
  parent : (grown n ms t).parent name ≡ g

former : (n : ℕ) (ms : List Move) (t : List Node) (g c : ℕ) → IsTree t → AllStay n ms t g → IsChild (next_tree n ms t) g c → WasChild n ms t g c
former n ms t g c tree on is =
    let f = grown n ms t in
    let at = rank_back (survives f) f.size c (omega (arith, is.below, pruned_length f)) in
    let over = rank_zero (survives f) at.name (omega (arith, is.some, at.is)) in
    let ranks : rank (survives f) (f.parent at.name) ≡ rank (survives f) g =
    sym (pruned_parent f at.name at.below at.stays) ∙ (ap (λ x. (node_at (pruned f) x).parent) at.is ∙ (is.parent ∙ sym (same_name n ms t g on))) in
    record {
      name = at.name;
      some = over;
      below = at.below;
      on = at.stays;
      is = at.is;
      parent = rank_same (survives f) (f.parent at.name) g (stays_up f (grown_forest n ms t tree) at.name over at.below at.stays) (on g (omega arith)) ranks;
    }

pub step_keeps : (n : ℕ) (ms : List Move) (t : List Node) (g : ℕ) → IsTree t → g < length t → AllStay n ms t g → KeepsName ms t (next_tree n ms t) g
step_keeps n ms t g tree below on = record {
  own = λ q here. enters_found ms t g q (sym (old_holds n ms t g q below) ∙ keeps_holds (grown n ms t) g q (kept_here n ms t g q below on here).0);
  child = λ c q is here. (
      let f = former n ms t g c tree on is in
      let held = pruned_parts (grown n ms t) f.name q f.below f.on (subst (λ x. holds (next_tree n ms t) x q ≡ true) (sym f.is) here) in
      grown_enters n ms t g f.name q f.some f.below f.parent (keeps_holds (grown n ms t) f.name q held.0));
}

-- a child of g that keeps the state
record ChildWith (f : Forest) (g q : ℕ) : Type 0 where
  name : ℕ
  some : 0 < name
  below : name < f.size
  parent : f.parent name ≡ g
  keeps_it : retains f name q ≡ true

child_with : (f : Forest) (g q : ℕ) → covered f g ≡ true → q < f.bound → retains f g q ≡ true → ChildWith f g q
child_with f g q bare less held =
    let there = there_filter (retains f g) (range_with_len 0 f.bound) q (there_range_zero f.bound q less) held in
    let inside = each_is (λ s. list_any (λ z. is_child f g z && retains f z s) (range_with_len 0 f.size)) (filter (retains f g) (range_with_len 0 f.bound)) q bare there in
    let found = any_found (λ z. is_child f g z && retains f z q) (range_with_len 0 f.size) inside in
    let parts = and_parts (is_child f g found.0) (retains f found.0 q) found.2 in
    let ones = and_parts (nat_lt 0 found.0) (f.parent found.0 == g) parts.0 in
    record {
      name = found.0;
      some = ltb-true 0 found.0 ones.0;
      below = omega (arith, (from_range 0 f.size found.0 found.1).1);
      parent = eqb-true (f.parent found.0) g ones.1;
      keeps_it = parts.1;
    }

-- after a step, a name that its children covered has no child
no_child : (n : ℕ) (ms : List Move) (t : List Node) (g c : ℕ) → IsTree t → AllStay n ms t g → covered (grown n ms t) g ≡ true → IsChild (next_tree n ms t) g c → ⊥
no_child n ms t g c tree on bare is =
    let f = grown n ms t in
    let was = former n ms t g c tree on is in
    let p = f.parent was.name in
    let free : list_any (covered f) (p ∷ ancestors f p) ≡ false =
    subst (λ ys. list_any (covered f) ys ≡ false) (ancestors_of f (grown_forest n ms t tree) was.name was.some was.below) (stays_free f was.name was.on) in
    both_ways (covered f g) (subst (λ v. covered f v ≡ false) was.parent (or_parts (covered f p) (list_any (covered f) (ancestors f p)) free).0) bare

pub step_turns_green : (n : ℕ) (ms : List Move) (t : List Node) (g : ℕ) → IsTree t → g < length t → AllStay n ms t g → covered (grown n ms t) g ≡ true → TurnsGreen ms t (next_tree n ms t) g
step_turns_green n ms t g tree below on bare = record {
  covered = λ q here. (
      let held = kept_here n ms t g q below on here in
      let c = child_with (grown n ms t) g q bare held.1 held.0 in
      grown_enters n ms t g c.name q c.some c.below c.parent (keeps_holds (grown n ms t) c.name q c.keeps_it));
  leaf = λ c is. no_child n ms t g c tree on bare is;
}

-- what holds of a green name
pub record GreenFacts (n : ℕ) (ms : List Move) (t : List Node) (g : ℕ) : Type 0 where
  pub on : survives (grown n ms t) g ≡ true
  pub bare : covered (grown n ms t) g ≡ true
  pub below : g < length t

-- a green name is an old one
pub green_facts : (n : ℕ) (ms : List Move) (t : List Node) (g : ℕ) → IsTree t → Contains (greens (grown n ms t)) g → GreenFacts n ms t g
green_facts n ms t g tree there =
    let f = grown n ms t in
    let parts = and_parts (survives f g) (covered f g) (from_filter (λ y. survives f y && covered f y) (range_with_len 0 f.size) g there).1 in
    let some = any_found (retains f g) (range_with_len 0 n) (stays_some f g parts.0) in
    let c = child_with f g some.0 parts.1 (omega (arith, (from_range 0 n some.0 some.1).1)) some.2 in
    record {
      on = parts.0;
      bare = parts.1;
      below = elim (cases_lt c.name (length t)) [
        | inl old ↦ omega (arith, (grown_forest n ms t tree).lower c.name c.some c.below, c.parent, old)
        | inr new ↦ omega (arith, new_parent n ms t c.name new, c.parent, new, c.below)
      ];
    }

-- no name up to g is red
abbrev pub NoneRed : ℕ → ℕ → List Node → List Move → Type 0
NoneRed n g t ms = (f : ℕ) → f ≤ g → Contains (reds (grown n ms t) (length t)) f → ⊥

pub not_red_stays : (n : ℕ) (ms : List Move) (t : List Node) (g : ℕ) → g < length t → NoneRed n g t ms → AllStay n ms t g
not_red_stays n ms t g below none_red f upto = elim (cases_Bool (survives (grown n ms t) f)) [
  | inl on ↦ on
  | inr off ↦ absurd (
      let within = there_range_zero (length t) f (omega (arith, upto, below)) in
      none_red f upto (there_filter (λ y. not (survives (grown n ms t) y)) (range_with_len 0 (length t)) f within (not_from_false (survives (grown n ms t) f) off)))
]

pub never_red_below : (n g : ℕ) (t : List Node) (w : List (List Move)) → g < length t → NeverRed n g t w → g < length (tree_after n t w)
never_red_below n g t [] below none_red = below
never_red_below n g t (ms ∷ w) below none_red = never_red_below n g (next_tree n ms t) w (stays_below n ms t g below (not_red_stays n ms t g below none_red.0)) none_red.1

pub never_red_keeps : (n g : ℕ) (t : List Node) (w : List (List Move)) → IsTree t → g < length t → NeverRed n g t w → KeepsNameAlong n g t w
never_red_keeps n g t [] tree below none_red = tt
never_red_keeps n g t (ms ∷ w) tree below none_red =
    let on = not_red_stays n ms t g below none_red.0 in
    (step_keeps n ms t g tree below on, never_red_keeps n g (next_tree n ms t) w (steps_keep_trees n ms t tree) (stays_below n ms t g below on) none_red.1)

pub never_red_first : (n g : ℕ) (t : List Node) (u v : List (List Move)) → NeverRed n g t (u ++ v) → NeverRed n g t u
never_red_first n g t [] v none_red = tt
never_red_first n g t (ms ∷ u) v none_red = (none_red.0, never_red_first n g (next_tree n ms t) u v none_red.1)

pub never_red_second : (n g : ℕ) (t : List Node) (u v : List (List Move)) → NeverRed n g t (u ++ v) → NeverRed n g (tree_after n t u) v
never_red_second n g t [] v none_red = none_red
never_red_second n g t (ms ∷ u) v none_red = never_red_second n g (next_tree n ms t) u v none_red.1
