-- A step commutes with renumbering the states: where a strictly increasing function renumbers the states of a tree and of
-- moves, it renumbers those of the new tree, and nothing else changes.
use Rattle.std.proofs.Common.{◌≡◌, ◌∙◌, ◌⊎◌, ◌-◌, ◌<◌, ◌==◌, ◌&&◌, ◌||◌, ℕ, zero, suc, Bool, true, false, cond, not, List, [], ◌∷◌, All, Contains, ap, arith}
use Rattle.std.proofs.Common.{inl, inr, length, map, nat_lt, refl, subst, sym}
use Rattle.std.proofs.lemmas.Bool.{both_ways, cases_Bool, cases_eq, cases_lt, cond-false, cond-true, eq-eqb, ne_eqb}
use Rattle.std.proofs.lemmas.List.{length-map}
use Rattle.std.proofs.lemmas.List.Elements.{All-head, All-tail}
use Rattle.std.proofs.lemmas.Simd.{map-map}
use Rattle.std.specs.List.{list_all, list_any, range_with_len}
use Rattle.aut_base.proofs.lists.Members.{any_found, any_from, from_filter, from_map, from_range, none_at, there_filter, there_map, there_range_zero}
use Rattle.aut_base.proofs.order.AllPairsOf.{pairs_map}
use Rattle.aut_base.proofs.order.RisingLists.{same_rising}
use Rattle.safra_trees.proofs.list_step.Forests.{none_any}
use Rattle.safra_trees.proofs.list_step.Places.{any_same}
use Rattle.safra_trees.proofs.list_step.Ranks.{names_below, rising_names}
use Rattle.safra_trees.specs.Events.{IsMoveInRange, event_of, least}
use Rattle.safra_trees.specs.Step.{Forest, above, ancestors, covered, goes, goes_accepting, greens, grown, is_child, retains, pruned, reds, renamed, survives, held_by_older}
use Rattle.safra_trees.specs.inner.Names.{has, names_where, rank}
use Rattle.safra_trees.specs.Trees.{Node, holds, node_at}
use Rattle.safra_trees.specs.declared.moves.Move.{Move}
use Rattle.safra_trees.specs.inner.Sight.{move_by, node_by}

-- f is strictly increasing on the numbers below k, and its values are below n
pub record IsRising (f : ℕ → ℕ) (k n : ℕ) : Type 0 where
  pub rises : (a b : ℕ) → a < b → b < k → f a < f b
  pub below : (a : ℕ) → a < k → f a < n

-- the number is no value of f below k
abbrev pub IsMissed : (ℕ → ℕ) → ℕ → ℕ → Type 0
IsMissed f k s = (a : ℕ) → a < k → f a ≡ s → ⊥

one_number : (f : ℕ → ℕ) (k n : ℕ) → IsRising f k n → (a b : ℕ) → a < k → b < k → f a ≡ f b → a ≡ b
one_number f k n is a b one other e = elim (cases_lt a b) [
  | inl less ↦ absurd (omega (arith, is.rises a b less other, e))
  | inr past ↦ (elim (cases_lt b a) [
    | inl more ↦ absurd (omega (arith, is.rises b a more one, e))
    | inr low ↦ omega (arith, past, low)
  ])
]

same_test : (f : ℕ → ℕ) (k n : ℕ) → IsRising f k n → (a b : ℕ) → a < k → b < k → (f a == f b) ≡ (a == b)
same_test f k n is a b one other = elim (cases_eq a b) [
  | inl e ↦ eq-eqb (f a) (f b) (ap f e) ∙ sym (eq-eqb a b e)
  | inr differs ↦ ne_eqb (f a) (f b) (λ e. differs (one_number f k n is a b one other e)) ∙ sym (ne_eqb a b differs)
]

cases_given : (f : ℕ → ℕ) (k s : ℕ) → ((a : ℕ) × (a < k) × (f a ≡ s)) ⊎ IsMissed f k s
cases_given f zero s = inr (λ a less e. absurd (omega (arith, less)))
cases_given f (suc k) s = elim (cases_eq (f k) s) [
  | inl here ↦ inl (k, omega arith, here)
  | inr other ↦ (elim (cases_given f k s) [
    | inl given ↦ inl (given.0, omega (arith, given.1), given.2)
    | inr none ↦ inr (λ a less e. elim (cases_eq a k) [
      | inl last ↦ other (ap f (sym last) ∙ e)
      | inr lower ↦ none a (omega (arith, less, lower)) e
    ])
  ])
]

has_moved : (f : ℕ → ℕ) (k n : ℕ) → IsRising f k n → (xs : List ℕ) → All (λ x. x < k) xs → (s : ℕ) → s < k → has (map f xs) (f s) ≡ has xs s
has_moved f k n is [] all s less = refl
has_moved f k n is (x ∷ xs) all s less =
    ap (λ b. b || has (map f xs) (f s)) (same_test f k n is x s (All-head (λ y. y < k) x xs all) less)
    ∙ ap (λ b. (x == s) || b) (has_moved f k n is xs (All-tail (λ y. y < k) x xs all) s less)

-- all states that nodes hold are below k
abbrev pub AllBelow : ℕ → List Node → Type 0
AllBelow k t = (x : ℕ) → All (λ s. s < k) (node_at t x).states

node_moved : (f : ℕ → ℕ) (t : List Node) (x : ℕ) → node_at (map (node_by f) t) x ≡ node_by f (node_at t x)
node_moved f [] x = refl
node_moved f (m ∷ t) zero = refl
node_moved f (m ∷ t) (suc x) = node_moved f t x

holds_moved : (f : ℕ → ℕ) (k n : ℕ) → IsRising f k n → (t : List Node) → AllBelow k t → (x s : ℕ) → s < k → holds (map (node_by f) t) x (f s) ≡ holds t x s
holds_moved f k n is t all x s less = ap (λ (m : Node). has m.states (f s)) (node_moved f t x) ∙ has_moved f k n is (node_at t x).states (all x) s less

behind : (a b : Bool) → b ≡ false → (a && b) ≡ false
behind true b e = e
behind false b e = refl

goes_moved : (f : ℕ → ℕ) (k n : ℕ) → IsRising f k n → (t : List Node) → AllBelow k t → (ms : List Move) → All (IsMoveInRange k) ms → (x s : ℕ) → s < k
    → goes (map (move_by f) ms) (map (node_by f) t) x (f s) ≡ goes ms t x s
goes_moved f k n is t all [] within x s less = refl
goes_moved f k n is t all (m ∷ ms) within x s less =
    let here = All-head (IsMoveInRange k) m ms within in
    let held = holds_moved f k n is t all x m.from here.from in
    let told = same_test f k n is m.to s here.to less in
    ap (λ b. (b && (f m.to == f s)) || goes (map (move_by f) ms) (map (node_by f) t) x (f s)) held
    ∙ (ap (λ b. (holds t x m.from && b) || goes (map (move_by f) ms) (map (node_by f) t) x (f s)) told
    ∙ ap (λ b. (holds t x m.from && (m.to == s)) || b) (goes_moved f k n is t all ms (All-tail (IsMoveInRange k) m ms within) x s less))

goes_well_moved : (f : ℕ → ℕ) (k n : ℕ) → IsRising f k n → (t : List Node) → AllBelow k t → (ms : List Move) → All (IsMoveInRange k) ms → (x s : ℕ) → s < k
    → goes_accepting (map (move_by f) ms) (map (node_by f) t) x (f s) ≡ goes_accepting ms t x s
goes_well_moved f k n is t all [] within x s less = refl
goes_well_moved f k n is t all (m ∷ ms) within x s less =
    let here = All-head (IsMoveInRange k) m ms within in
    let held = holds_moved f k n is t all x m.from here.from in
    let told = same_test f k n is m.to s here.to less in
    ap (λ b. (m.accepting && (b && (f m.to == f s))) || goes_accepting (map (move_by f) ms) (map (node_by f) t) x (f s)) held
    ∙ (ap (λ b. (m.accepting && (holds t x m.from && b)) || goes_accepting (map (move_by f) ms) (map (node_by f) t) x (f s)) told
    ∙ ap (λ b. (m.accepting && (holds t x m.from && (m.to == s))) || b) (goes_well_moved f k n is t all ms (All-tail (IsMoveInRange k) m ms within) x s less))

goes_missed : (f : ℕ → ℕ) (k s : ℕ) → IsMissed f k s → (t : List Node) (ms : List Move) → All (IsMoveInRange k) ms → (x : ℕ) → goes (map (move_by f) ms) t x s ≡ false
goes_missed f k s none t [] within x = refl
goes_missed f k s none t (m ∷ ms) within x =
    let other = ne_eqb (f m.to) s (none m.to (All-head (IsMoveInRange k) m ms within).to) in
    ap (λ b. b || goes (map (move_by f) ms) t x s) (behind (holds t x (f m.from)) (f m.to == s) other)
    ∙ goes_missed f k s none t ms (All-tail (IsMoveInRange k) m ms within) x

goes_well_missed : (f : ℕ → ℕ) (k s : ℕ) → IsMissed f k s → (t : List Node) (ms : List Move) → All (IsMoveInRange k) ms → (x : ℕ) → goes_accepting (map (move_by f) ms) t x s ≡ false
goes_well_missed f k s none t [] within x = refl
goes_well_missed f k s none t (m ∷ ms) within x =
    let other = ne_eqb (f m.to) s (none m.to (All-head (IsMoveInRange k) m ms within).to) in
    ap (λ b. b || goes_accepting (map (move_by f) ms) t x s) (behind m.accepting (holds t x (f m.from) && (f m.to == s)) (behind (holds t x (f m.from)) (f m.to == s) other))
    ∙ goes_well_missed f k s none t ms (All-tail (IsMoveInRange k) m ms within) x

-- the nodes of the other forest hold f of what those of this one hold
pub record IsMoved (f : ℕ → ℕ) (one other : Forest) : Type 0 where
  pub rising : IsRising f one.bound other.bound
  pub size : other.size ≡ one.size
  pub parent : other.parent ≡ one.parent
  pub held : (y s : ℕ) → s < one.bound → other.holds y (f s) ≡ one.holds y s
  pub missed : (y s : ℕ) → IsMissed f one.bound s → other.holds y s ≡ false

grown_moved : (f : ℕ → ℕ) (k n : ℕ) → IsRising f k n → (ms : List Move) → All (IsMoveInRange k) ms → (t : List Node) → AllBelow k t
    → IsMoved f (grown k ms t) (grown n (map (move_by f) ms) (map (node_by f) t))
grown_moved f k n is ms within t all =
    let ns = map (move_by f) ms in
    let u = map (node_by f) t in
    let size : length u ≡ length t = length-map t (node_by f) in
    record {
      rising = is;
      size = omega (arith, size);
      parent = λ i y. (ap (λ m. cond (nat_lt y m) (node_at u y).parent (y - m)) size
          ∙ ap (λ p. cond (nat_lt y (length t)) p (y - length t)) (ap (λ (m : Node). m.parent) (node_moved f t y))) i;
      held = λ y s less. ap (λ m. cond (nat_lt y m) (goes ns u y (f s)) (goes_accepting ns u (y - m) (f s))) size
          ∙ (ap (λ b. cond (nat_lt y (length t)) b (goes_accepting ns u (y - length t) (f s))) (goes_moved f k n is t all ms within y s less)
          ∙ ap (λ b. cond (nat_lt y (length t)) (goes ms t y s) b) (goes_well_moved f k n is t all ms within (y - length t) s less));
      missed = λ y s none. elim (cases_Bool (nat_lt y (length u))) [
        | inl old ↦ cond-true (nat_lt y (length u)) (goes ns u y s) (goes_accepting ns u (y - length u) s) old ∙ goes_missed f k s none u ms within y
        | inr fresh ↦ cond-false (nat_lt y (length u)) (goes ns u y s) (goes_accepting ns u (y - length u) s) fresh ∙ goes_well_missed f k s none u ms within (y - length u)
      ];
    }

taken_moved : (f : ℕ → ℕ) (one other : Forest) → IsMoved f one other → (s : ℕ) → s < one.bound → (y : ℕ) → held_by_older other (f s) y ≡ held_by_older one s y
taken_moved f one other is s less y =
    ap (λ (p : ℕ → ℕ). list_any (λ z. (nat_lt 0 z && (p z == p y)) && other.holds z (f s)) (range_with_len 0 y)) is.parent
    ∙ any_same (λ z. is_child one (one.parent y) z && other.holds z (f s)) (λ z. is_child one (one.parent y) z && one.holds z s)
    (λ z. ap (λ b. is_child one (one.parent y) z && b) (is.held z s less)) (range_with_len 0 y)

ancestors_moved : (f : ℕ → ℕ) (one other : Forest) → IsMoved f one other → (y : ℕ) → ancestors other y ≡ ancestors one y
ancestors_moved f one other is y = ap (λ p. above p y y) is.parent

keeps_moved : (f : ℕ → ℕ) (one other : Forest) → IsMoved f one other → (y s : ℕ) → s < one.bound → retains other y (f s) ≡ retains one y s
keeps_moved f one other is y s less =
    ap (λ b. b && not (list_any (held_by_older other (f s)) (y ∷ ancestors other y))) (is.held y s less)
    ∙ ap (λ b. one.holds y s && not b)
    (any_same (held_by_older other (f s)) (held_by_older one s) (taken_moved f one other is s less) (y ∷ ancestors other y)
    ∙ ap (λ zs. list_any (held_by_older one s) (y ∷ zs)) (ancestors_moved f one other is y))

keeps_missed : (f : ℕ → ℕ) (one other : Forest) → IsMoved f one other → (y s : ℕ) → IsMissed f one.bound s → retains other y s ≡ false
keeps_missed f one other is y s none = ap (λ b. b && not (list_any (held_by_older other s) (y ∷ ancestors other y))) (is.missed y s none)

kept_moved : (f : ℕ → ℕ) (one other : Forest) → IsMoved f one other → (y : ℕ) → names_where (retains other y) other.bound ≡ map f (names_where (retains one y) one.bound)
kept_moved f one other is y =
    let before = names_where (retains one y) one.bound in
    let all = range_with_len 0 one.bound in
    same_rising (names_where (retains other y) other.bound) (map f before) (rising_names (retains other y) other.bound)
    (pairs_map (λ a b. a < b) f before (λ i j d less within. is.rising.rises _ _ (rising_names (retains one y) one.bound i j d less within) (names_below (retains one y) one.bound j d within)))
    (λ q there. (
    let kept = (from_filter (retains other y) (range_with_len 0 other.bound) q there).1 in
    elim (cases_given f one.bound q) [
      | inl given ↦ subst (λ w. Contains (map f before) w) given.2 (there_map f before given.0 (there_filter (retains one y) all given.0 (there_range_zero one.bound given.0 given.1)
          (sym (keeps_moved f one other is y given.0 given.1) ∙ (ap (retains other y) given.2 ∙ kept))))
      | inr none ↦ absurd (both_ways (retains other y q) (keeps_missed f one other is y q none) kept)
    ]))
    (λ q there. (
    let from = from_map f before q there in
    let parts = from_filter (retains one y) all from.0 from.1 in
    let bounds = from_range 0 one.bound from.0 parts.0 in
    let less : from.0 < one.bound = omega (arith, bounds.1) in
    subst (λ w. Contains (names_where (retains other y) other.bound) w) from.2
    (there_filter (retains other y) (range_with_len 0 other.bound) (f from.0) (there_range_zero other.bound (f from.0) (is.rising.below from.0 less))
    (keeps_moved f one other is y from.0 less ∙ parts.1))))

some_moved : (f : ℕ → ℕ) (one other : Forest) → IsMoved f one other → (y : ℕ)
    → list_any (retains other y) (range_with_len 0 other.bound) ≡ list_any (retains one y) (range_with_len 0 one.bound)
some_moved f one other is y = elim (cases_Bool (list_any (retains one y) (range_with_len 0 one.bound))) [
  | inl some ↦ (
      let found = any_found (retains one y) (range_with_len 0 one.bound) some in
      let bounds = from_range 0 one.bound found.0 found.1 in
      let less : found.0 < one.bound = omega (arith, bounds.1) in
      any_from (retains other y) (range_with_len 0 other.bound) (f found.0) (there_range_zero other.bound (f found.0) (is.rising.below found.0 less))
      (keeps_moved f one other is y found.0 less ∙ found.2) ∙ sym some)
  | inr none ↦ none_any (retains other y) (range_with_len 0 other.bound) (λ q there. elim (cases_given f one.bound q) [
    | inl given ↦ ap (retains other y) (sym given.2) ∙ (keeps_moved f one other is y given.0 given.1
        ∙ none_at (retains one y) (range_with_len 0 one.bound) given.0 none (there_range_zero one.bound given.0 given.1))
    | inr missed ↦ keeps_missed f one other is y q missed
  ]) ∙ sym none
]

all_moved : (p q : ℕ → Bool) (f : ℕ → ℕ) (k : ℕ) → ((s : ℕ) → s < k → p (f s) ≡ q s) → (xs : List ℕ) → All (λ s. s < k) xs → list_all p (map f xs) ≡ list_all q xs
all_moved p q f k same [] all = refl
all_moved p q f k same (x ∷ xs) all =
    ap (λ b. b && list_all p (map f xs)) (same x (All-head (λ s. s < k) x xs all))
    ∙ ap (λ b. q x && b) (all_moved p q f k same xs (All-tail (λ s. s < k) x xs all))

abbrev given : Forest → ℕ → ℕ → Bool
given f x s = list_any (λ z. is_child f x z && retains f z s) (range_with_len 0 f.size)

given_moved : (f : ℕ → ℕ) (one other : Forest) → IsMoved f one other → (x s : ℕ) → s < one.bound → given other x (f s) ≡ given one x s
given_moved f one other is x s less =
    ap (λ (p : ℕ → ℕ). list_any (λ z. (nat_lt 0 z && (p z == x)) && retains other z (f s)) (range_with_len 0 other.size)) is.parent
    ∙ (any_same (λ z. is_child one x z && retains other z (f s)) (λ z. is_child one x z && retains one z s)
    (λ z. ap (λ b. is_child one x z && b) (keeps_moved f one other is z s less)) (range_with_len 0 other.size)
    ∙ ap (λ n. list_any (λ z. is_child one x z && retains one z s) (range_with_len 0 n)) is.size)

covered_moved : (f : ℕ → ℕ) (one other : Forest) → IsMoved f one other → covered other ≡ covered one
covered_moved f one other is = λ i x. (ap (list_all (given other x)) (kept_moved f one other is x)
    ∙ all_moved (given other x) (given one x) f one.bound (given_moved f one other is x) (names_where (retains one x) one.bound) (names_below (retains one x) one.bound)) i

stays_moved : (f : ℕ → ℕ) (one other : Forest) → IsMoved f one other → survives other ≡ survives one
stays_moved f one other is = λ i y. (ap (λ b. b && not (list_any (covered other) (ancestors other y))) (some_moved f one other is y)
    ∙ (ap (λ p. list_any (retains one y) (range_with_len 0 one.bound) && not (list_any p (ancestors other y))) (covered_moved f one other is)
    ∙ ap (λ zs. list_any (retains one y) (range_with_len 0 one.bound) && not (list_any (covered one) zs)) (ancestors_moved f one other is y))) i

renamed_moved : (f : ℕ → ℕ) (one other : Forest) → IsMoved f one other → (y : ℕ) → renamed other y ≡ node_by f (renamed one y)
renamed_moved f one other is y =
    let parent = ap (λ p. rank p (other.parent y)) (stays_moved f one other is) ∙ ap (λ (p : ℕ → ℕ). rank (survives one) (p y)) is.parent in
    let states = kept_moved f one other is y in
    λ i. record { parent = parent i; states = states i }

-- the pruned forest is renumbered with the forest
pruned_moved : (f : ℕ → ℕ) (one other : Forest) → IsMoved f one other → pruned other ≡ map (node_by f) (pruned one)
pruned_moved f one other is =
    let each : renamed other ≡ (λ y. node_by f (renamed one y)) = λ i y. renamed_moved f one other is y i in
    ap (λ g. map g (names_where (survives other) other.size)) each
    ∙ (ap (λ p. map (λ y. node_by f (renamed one y)) (names_where p other.size)) (stays_moved f one other is)
    ∙ (ap (λ n. map (λ y. node_by f (renamed one y)) (names_where (survives one) n)) is.size
    ∙ sym (map-map (node_by f) (renamed one) (names_where (survives one) one.size))))

greens_moved : (f : ℕ → ℕ) (one other : Forest) → IsMoved f one other → greens other ≡ greens one
greens_moved f one other is =
    ap (λ p. names_where (λ y. p y && covered other y) other.size) (stays_moved f one other is)
    ∙ (ap (λ p. names_where (λ y. survives one y && p y) other.size) (covered_moved f one other is)
    ∙ ap (λ n. names_where (λ y. survives one y && covered one y) n) is.size)

pub step_moved : (f : ℕ → ℕ) (k n : ℕ) → IsRising f k n → (ms : List Move) → All (IsMoveInRange k) ms → (t : List Node) → AllBelow k t
    → pruned (grown n (map (move_by f) ms) (map (node_by f) t)) ≡ map (node_by f) (pruned (grown k ms t))
step_moved f k n is ms within t all = pruned_moved f (grown k ms t) (grown n (map (move_by f) ms) (map (node_by f) t)) (grown_moved f k n is ms within t all)

pub event_moved : (f : ℕ → ℕ) (k n : ℕ) → IsRising f k n → (ms : List Move) → All (IsMoveInRange k) ms → (t : List Node) → AllBelow k t
    → event_of n (map (move_by f) ms) (map (node_by f) t) ≡ event_of k ms t
event_moved f k n is ms within t all =
    let one = grown k ms t in
    let other = grown n (map (move_by f) ms) (map (node_by f) t) in
    let moved = grown_moved f k n is ms within t all in
    let red = ap (λ m. least (reds other m)) (length-map t (node_by f)) ∙ ap (λ p. least (names_where (λ y. not (p y)) (length t))) (stays_moved f one other moved) in
    let green = ap least (greens_moved f one other moved) in
    λ i. record { red = red i; green = green i }
