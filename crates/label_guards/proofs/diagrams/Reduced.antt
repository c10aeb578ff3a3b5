-- Nodes that are added one after the other keep the diagrams reduced.
use Rattle.std.proofs.Common.{◌≡◌, ◌≢◌, ℕ, zero, suc, ◌+◌, ◌-◌, ◌<◌, ◌≤◌, ◌∙◌, List, [], ◌∷◌, ◌++◌, length, map, Some, get_or, slice_get, Contains, sym, refl, ap, subst, inl, inr, arith}
use Rattle.std.proofs.lemmas.Option.{none-some, same_Some, slice_get_within}
use Rattle.std.proofs.lemmas.List.{get_or_append_left, length-map, map-append}
use Rattle.label_guards.specs.declared.nodes.Node.{Node}
use Rattle.label_guards.specs.Nodes.{level_among, level, IsNode, IsReducedDiagram, AddsNode, IsNodeAt, IsChoice}
use Rattle.label_guards.specs.Store.{Store, HasPlace}
use Rattle.aut_base.proofs.lists.Lists.{slice_get-push_cases}
use Rattle.aut_base.proofs.lists.Members.{placed_there}
use Rattle.label_guards.proofs.diagrams.Outcomes.{outcome_at}

abbrev prop_of : Node → ℕ
prop_of n = n.prop

pub level_grows : (names : ℕ) (ns more : List Node) (p : ℕ) → p < 2 + length ns → level_among names (ns ++ more) p ≡ level_among names ns p
level_grows names ns more p h =
    let f : Node → ℕ = λ n. n.prop in
    let size : length (map f ns) ≡ length ns = length-map ns f in
    ap (λ (l : List ℕ). get_or (names ∷ names ∷ l) p names) (map-append f ns more) ∙ get_or_append_left (names ∷ names ∷ map f ns) (map f more) names p (omega arith)

prop_at : (ns : List Node) (i names : ℕ) (n : Node) → slice_get ns i ≡ Some n → get_or (map prop_of ns) i names ≡ n.prop
prop_at [] i names n h = absurd (none-some n h)
prop_at (m ∷ ns) zero names n h = ap prop_of (same_Some m n h)
prop_at (m ∷ ns) (suc i) names n h = prop_at ns i names n h

pub level_at : (names : ℕ) (ns : List Node) (i : ℕ) (n : Node) → slice_get ns i ≡ Some n → level_among names ns (2 + i) ≡ n.prop
level_at names ns i n h =
    let e : 2 + i ≡ suc (suc i) = omega arith in
    ap (level_among names ns) e ∙ prop_at ns i names n h

pub node_kept : (names : ℕ) (ns more : List Node) (i : ℕ) (n : Node) → i < length ns → IsNode names ns (2 + i) n → IsNode names (ns ++ more) (2 + i) n
node_kept names ns more i n h is = record {
  within = is.within;
  differ = is.differ;
  low = is.low;
  high = is.high;
  low_later = rw (level_grows names ns more n.low (let a = is.low in omega arith)) is.low_later;
  high_later = rw (level_grows names ns more n.high (let a = is.high in omega arith)) is.high_later;
}

pub reduced_push : (names : ℕ) (ns : List Node) (m : Node) → IsReducedDiagram names ns → (Contains ns m → ⊥) → IsNode names ns (2 + length ns) m → IsReducedDiagram names (ns ++ m ∷ [])
reduced_push names ns m is new node = record {
  few = is.few;
  node = λ i n h. elim (slice_get-push_cases ns m i n h) [
    | inl e ↦ node_kept names ns (m ∷ []) i n (slice_get_within ns i n e) (is.node i n e)
    | inr e ↦ subst (λ k. IsNode names (ns ++ m ∷ []) (2 + k) n) (sym e.0) (subst (IsNode names (ns ++ m ∷ []) (2 + length ns)) e.1 (newest e.1))
  ];
  once = λ i j n h k. elim (slice_get-push_cases ns m i n h) [
    | inl a ↦ elim (slice_get-push_cases ns m j n k) [
      | inl b ↦ is.once i j n a b
      | inr b ↦ absurd (new (subst (Contains ns) (sym b.1) (placed_there ns i n a)))
    ]
    | inr a ↦ elim (slice_get-push_cases ns m j n k) [
      | inl b ↦ absurd (new (subst (Contains ns) (sym a.1) (placed_there ns j n b)))
      | inr b ↦ a.0 ∙ sym b.0
    ]
  ];
}
  where
    newest : {n : Node} → m ≡ n → IsNode names (ns ++ m ∷ []) (2 + length ns) m
    newest e = record {
      within = node.within;
      differ = node.differ;
      low = node.low;
      high = node.high;
      low_later = rw (level_grows names ns (m ∷ []) m.low node.low) node.low_later;
      high_later = rw (level_grows names ns (m ∷ []) m.high node.high) node.high_later;
    }

pub reduced_adds : (names : ℕ) (ns ns' : List Node) (m : Node) → IsReducedDiagram names ns → AddsNode ns ns' m → IsNode names ns (2 + length ns) m → IsReducedDiagram names ns'
reduced_adds names ns ns' m is (inl e) node = subst (IsReducedDiagram names) (sym e) is
reduced_adds names ns ns' m is (inr e) node = subst (IsReducedDiagram names) (sym e.0) (reduced_push names ns m is e.1 node)

pub stands : (s : Store) → IsReducedDiagram s.names s.nodes → (i : ℕ) (n : Node) → slice_get s.nodes i ≡ Some n → IsNodeAt s (2 + i) n
stands s is i n h =
    let node = is.node i n h in
    record {
      node = node;
      level = level_at s.names s.nodes i n h;
      truth = λ on. outcome_at s.nodes on i n h node.low node.high;
    }

-- the node of a place behind `f` and `t`
pub stands_at : (s : Store) → IsReducedDiagram s.names s.nodes → (place : ℕ) (n : Node) → 2 ≤ place → slice_get s.nodes (place - 2) ≡ Some n → IsNodeAt s place n
stands_at s is place n inner h =
    let e : 2 + (place - 2) ≡ place = omega arith in
    subst (λ k. IsNodeAt s k n) e (stands s is (place - 2) n h)

get_some : {A : Type 0} (xs : List A) (i : ℕ) → i < length xs → (x : A) × (slice_get xs i ≡ Some x)
get_some [] i h = absurd (omega arith)
get_some (x ∷ xs) zero h = (x, refl)
get_some (x ∷ xs) (suc i) h = get_some xs i (omega arith)

pub node_of : (s : Store) → IsReducedDiagram s.names s.nodes → (place : ℕ) → 2 ≤ place → HasPlace s place → (n : Node) × IsNodeAt s place n × (slice_get s.nodes (place - 2) ≡ Some n)
node_of s is place inner has =
    let got = get_some s.nodes (place - 2) (omega arith) in
    (got.0, stands_at s is place got.0 inner got.1, got.1)

-- no place asks for a proposition behind the last
pub level_most : (s : Store) → IsReducedDiagram s.names s.nodes → (p : ℕ) → HasPlace s p → level s p ≤ s.names
level_most s is zero h = omega arith
level_most s is (suc zero) h = omega arith
level_most s is (suc (suc i)) h =
    let got = node_of s is (suc (suc i)) (omega arith) h in
    let a = got.1.level in
    let b = got.1.node.within in
    omega arith

new_node : (s : Store) → IsReducedDiagram s.names s.nodes → (prop low high : ℕ) → HasPlace s low → HasPlace s high → prop < level s low → prop < level s high → low ≢ high
    → IsNode s.names s.nodes (2 + length s.nodes) (record { prop = prop; low = low; high = high })
new_node s is prop low high has_low has_high low_later high_later differ =
    let most = level_most s is low has_low in
    record {
      within = omega arith;
      differ = differ;
      low = has_low;
      high = has_high;
      low_later = low_later;
      high_later = high_later;
    }

-- a store with a node more
pub make_reduced : (s old : Store) → s ≡ old → IsReducedDiagram s.names s.nodes → (prop low high : ℕ) → HasPlace old low → HasPlace old high → prop < level old low → prop < level old high
    → low ≢ high → (new : List Node) → AddsNode s.nodes new (record { prop = prop; low = low; high = high }) → IsReducedDiagram s.names new
make_reduced s old e is prop low high has_low has_high low_later high_later differ new adds =
    let node : Node = record { prop = prop; low = low; high = high } in
    let fits : (t : Store) → s ≡ t → HasPlace t low → HasPlace t high → prop < level t low → prop < level t high → IsNode s.names s.nodes (2 + length s.nodes) node =
    λ t same a b c d. new_node s is prop low high (subst (λ (u : Store). HasPlace u low) (sym same) a) (subst (λ (u : Store). HasPlace u high) (sym same) b)
    (subst (λ (u : Store). prop < level u low) (sym same) c) (subst (λ (u : Store). prop < level u high) (sym same) d) differ in
    reduced_adds s.names s.nodes new node is adds (fits old e has_low has_high low_later high_later)

pub pushed_is_reduced : (s : Store) → IsReducedDiagram s.names s.nodes → (prop low high index place : ℕ) → place ≡ index + 2
    → slice_get s.nodes index ≡ Some (record { prop = prop; low = low; high = high })
    → IsChoice s prop low high place
pushed_is_reduced s is prop low high index place e h =
    let within = slice_get_within s.nodes index _ h in
    let there : 2 + index ≡ place = omega arith in
    let is_at = subst (λ k. IsNodeAt s k (record { prop = prop; low = low; high = high })) there (stands s is index _ h) in
    let l = is_at.level in
    record {
      has = omega arith;
      later = omega arith;
      truth = is_at.truth;
    }
