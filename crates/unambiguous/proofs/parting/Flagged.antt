-- The loops that flag the targets of twins, link by link.
use Rattle.std.proofs.Common.{◌≡◌, ◌≢◌, ◌∙◌, ◌↔◌, ◌⊎◌, ◌==◌, IsTrue, ◌+◌, ◌<◌, ℕ, Bool, true, false, not, ◌&&◌, List, Some, ap, arith, get_or, get_or-set_other, get_or-set_same, inl, inr, length}
use Rattle.std.proofs.Common.{refl, set, slice_get, subst, sym}
use Rattle.std.proofs.lemmas.Bool.{cases_eq, cases_lt, eq-eqb, false≢true}
use Rattle.std.proofs.lemmas.List.{length-set}
use Rattle.std.proofs.lemmas.List.Elements.{All-contains}
use Rattle.std.proofs.lemmas.Option.{get_or_from_slice_get, same_Some, slice_get_within}
use Rattle.aut_base.proofs.lists.Members.{placed_there}
use Rattle.aut_core.proofs.Rows.{by_key}
use Rattle.aut_core.specs.SymbolicAutomata.{SymbolicAutomaton, IsWellFormedSymbolic, IsLinkOf}
use Rattle.aut_core.specs.declared.link.Link.{Link}
use Rattle.aut_ops.proofs.pairs.Pairings.{never_met}
use Rattle.aut_ops.specs.Labels.{both_labels, is_never}
use Rattle.label_guards.specs.Guards.{IsGuardOf, IsNeverMet, truth_in}
use Rattle.label_guards.specs.declared.guard.Guard.{Guard}
use Rattle.label_guards.specs.Store.{Keeps, Store}
use Rattle.unambiguous.specs.Parted.{AreEnds, AreFlagged, AreTwins, HasTwin, do_meet, flag, is_doubled}

-- after one more flag is set

flag_set : (flags : List Bool) (w : ℕ) → w < length flags → flag (set flags w true) w ≡ true
flag_set flags w within = get_or-set_same flags w true false within

flag_kept : (flags : List Bool) (w : ℕ) → w < length flags → (q : ℕ) → flag flags q ≡ true → flag (set flags w true) q ≡ true
flag_kept flags w within q is = elim (cases_eq q w) [
  | inl same ↦ ap (flag (set flags w true)) same ∙ flag_set flags w within
  | inr other ↦ get_or-set_other flags w q true false other ∙ is
]

flag_cases : (flags : List Bool) (w q : ℕ) → flag (set flags w true) q ≡ true → (flag flags q ≡ true) ⊎ (q ≡ w)
flag_cases flags w q is = elim (cases_eq q w) [
  | inl same ↦ inr same
  | inr other ↦ inl (sym (get_or-set_other flags w q true false other) ∙ is)
]

pub link_within : (a : SymbolicAutomaton) (core : IsWellFormedSymbolic a) (m : ℕ) (link : Link) → slice_get a.links m ≡ Some link → IsLinkOf a link
link_within a core m link at = All-contains (IsLinkOf a) a.links link core.parts.links (placed_there a.links m link at)

-- twins of one link

module _ (a : SymbolicAutomaton) (core : IsWellFormedSymbolic a) (pairs : List (ℕ × ℕ)) (m : ℕ) (link : Link) (at : slice_get a.links m ≡ Some link) where
  from_at : (n : ℕ) (l : Link) → slice_get a.links n ≡ Some l → (get_or a.links n link).from ≡ l.from
  from_at n l is = ap (λ (k : Link). k.from) (get_or_from_slice_get a.links n l link is)

  first_is : (n q : ℕ) (twins : AreTwins a pairs m n q) → twins.first ≡ link
  first_is n q twins = same_Some twins.first link (sym twins.at ∙ at)

  module _ (n : ℕ) (other : Link) (there : slice_get a.links n ≡ Some other) (before : m < n) (so_far : (k q : ℕ) → k < n → AreTwins a pairs m k q → ⊥) where
    -- links are in the order of their sources: after a link of another state comes none of this one
    pub none_behind_others : other.from ≢ link.from → (k q : ℕ) → AreTwins a pairs m k q → ⊥
    none_behind_others differ k q twins = elim (cases_lt k n) [
      | inl early ↦ so_far k q early twins
      | inr late ↦
          (let rises = by_key (λ (l : Link). l.from) a.links core.parts.in_order in
          let low = rises m n link (omega (arith, before)) (slice_get_within a.links n other there) in
          let high = rises n k link (omega (arith, late)) (slice_get_within a.links k twins.second twins.other_at) in
          let here = from_at m link at in
          let middle = from_at n other there in
          let far = from_at k twins.second twins.other_at in
          let first : twins.first.from ≡ link.from = ap (λ (l : Link). l.from) (first_is k q twins) in
          differ (omega (arith, low, high, here, middle, far, first, twins.from)))
    ]

    pub one_less : do_meet a.store link other ≡ false → (k q : ℕ) → k < n + 1 → AreTwins a pairs m k q → ⊥
    one_less apart k q less twins = elim (cases_lt k n) [
      | inl early ↦ so_far k q early twins
      | inr late ↦
          (let same : k ≡ n = omega (arith, less, late) in
          let second : twins.second ≡ other = same_Some twins.second other (sym twins.other_at ∙ (ap (slice_get a.links) same ∙ there)) in
          false≢true (sym apart ∙ ((λ i. do_meet a.store (sym (first_is k q twins) i) (sym second i)) ∙ twins.meet)))
    ]

    pub found : is_doubled pairs link.from ≡ true → other.from ≡ link.from → do_meet a.store link other ≡ true → HasTwin a pairs m
    found doubled from meet =
        (n, link.to, record { first = link; second = other; at = at; other_at = there; before = before; doubled = doubled; from = from; to = refl; meet = meet })

  -- the flags after one more link

  pub set_ends : (flags : List Bool) → AreEnds a pairs flags → HasTwin a pairs m → AreEnds a pairs (set flags link.to true)
  set_ends flags ends twin = record {
    size = length-set flags link.to true ∙ ends.size;
    sound = λ q is. elim (flag_cases flags link.to q is) [
      | inl old ↦ ends.sound q old
      | inr new ↦
          (let to : twin.1 ≡ link.to = sym twin.2.to ∙ ap (λ (l : Link). l.to) (first_is twin.0 twin.1 twin.2) in
          (m, twin.0, subst (AreTwins a pairs m twin.0) (to ∙ sym new) twin.2))
    ];
  }

  pub set_flagged : (flags : List Bool) → AreEnds a pairs flags → AreFlagged a pairs flags m → AreFlagged a pairs (set flags link.to true) (m + 1)
  set_flagged flags ends so_far k n q less twins = elim (cases_lt k m) [
    | inl early ↦ flag_kept flags link.to inside q (so_far k n q early twins)
    | inr late ↦
        (let same : k ≡ m = omega (arith, less, late) in
        let mine = subst (λ j. AreTwins a pairs j n q) same twins in
        ap (flag (set flags link.to true)) (sym mine.to ∙ ap (λ (l : Link). l.to) (first_is n q mine)) ∙ flag_set flags link.to inside)
  ]
    where
      inside : link.to < length flags
      inside = omega (arith, ends.size, (link_within a core m link at).to)

pub kept_flagged : (a : SymbolicAutomaton) (pairs : List (ℕ × ℕ)) (flags : List Bool) (m : ℕ) → AreFlagged a pairs flags m → (HasTwin a pairs m → ⊥) → AreFlagged a pairs flags (m + 1)
kept_flagged a pairs flags m so_far none k n q less twins = elim (cases_lt k m) [
  | inl early ↦ so_far k n q early twins
  | inr late ↦ (let same : k ≡ m = omega (arith, less, late) in absurd (none (n, q, subst (λ j. AreTwins a pairs j n q) same twins)))
]

-- whether links meet is the same in a store that has grown
pub same_meet : (a : SymbolicAutomaton) (core : IsWellFormedSymbolic a) (t : Store) (m n : ℕ) (l k : Link) (b : Bool) → slice_get a.links m ≡ Some l → slice_get a.links n ≡ Some k
    → Keeps a.store t → b ≡ do_meet t l k
    → do_meet a.store l k ≡ b
same_meet a core t m n l k b at there keeps is =
    let one = (link_within a core m l at).guard in
    let two = (link_within a core n k there).guard in
    let grown : do_meet t l k ≡ do_meet a.store l k = λ i. (l.to == k.to)
    && not (is_never (keeps.names i) (both_labels (keeps.names i) (keeps.labels l.guard one i) (keeps.labels k.guard two i))) in
    sym (is ∙ grown)

-- whether links meet, by the conjunction of their guards
pub links_meet : (s t : Store) (l m : Link) (k : Guard) (b : Bool) → l.to ≡ m.to → Keeps s t → IsGuardOf t (λ on. truth_in s l.guard on && truth_in s m.guard on) k → (IsTrue b ↔ IsNeverMet t k)
    → not b ≡ do_meet s l m
links_meet s t l m k b same keeps is says =
    let never = never_met s t l.guard m.guard k b keeps is says in
    let meet : do_meet s l m ≡ not b = λ i. eq-eqb l.to m.to same i && not (never i) in
    sym meet
