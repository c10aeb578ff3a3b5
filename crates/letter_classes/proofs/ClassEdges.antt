-- Edges labelled by classes: each letter meets the edge of its class, and no letter meets two edges from one state.
use Rattle.std.proofs.Common.{◌≡◌, ◌∙◌, ◌<◌, ℕ, AllPairs, Bool, true, Contains, List, [], Some, ap, arith, get_or, inl, inr, length, map, slice_get, subst, sym}
use Rattle.std.proofs.lemmas.List.Elements.{Contains-get_or}
use Rattle.std.proofs.lemmas.Option.{get_or_from_slice_get, slice_get-get_or}
use Rattle.aut_base.proofs.canonical.ValuationLetters.{valuation_at}
use Rattle.aut_base.proofs.lists.Members.{there_at}
use Rattle.aut_base.proofs.order.AllPairsOf.{pairs_map}
use Rattle.aut_base.specs.Automaton.{Automaton, LabelledEdge}
use Rattle.aut_base.specs.Label.{LabelTree, holds_at, truth}
use Rattle.aut_base.specs.Valuation.{holds_in}
use Rattle.aut_base.specs.Word.{NameSet}
use Rattle.aut_core.specs.Deterministic.{AreApart, is_met}
use Rattle.exploration.proofs.Edges.{ArrowBefore}
use Rattle.exploration.specs.Turns.{Transition}
use Rattle.label_guards.proofs.alike.ClassLeastLaws.{alike_on, alike_turned, least_alike, leasts_apart}
use Rattle.label_guards.specs.ClassLeasts.{are_alike}
use Rattle.letter_classes.proofs.ClassTruths.{at_letter, class_truth, valuation_long}
use Rattle.letter_classes.specs.ClassForms.{class_edge}
use Rattle.letter_classes.specs.SetClasses.{class_label, set_classes, set_labels}

-- the least valuation of the class of this number
abbrev pub class_at : Automaton → List ℕ → ℕ → List Bool
class_at b set k = get_or (set_classes b set) k []

module _ (b : Automaton) (set_of : ℕ → List ℕ) (marks_of : ℕ → List Bool → List ℕ) where
  abbrev edge : Transition → LabelledEdge
  edge = class_edge b set_of marks_of

  abbrev labels_at : ℕ → List LabelTree
  labels_at p = set_labels b (set_of p)

  abbrev classes_at : ℕ → List (List Bool)
  classes_at p = set_classes b (set_of p)

  -- a letter that meets an edge is in the edge's class
  pub edge_alike : (a : Transition) (x : NameSet) → is_met b.names x (edge a) ≡ true → are_alike (labels_at a.from) (holds_in (class_at b (set_of a.from) a.class)) (holds_at b.names x) ≡ true
  edge_alike a x e = sym (class_truth b.names (labels_at a.from) (class_at b (set_of a.from) a.class) x) ∙ e

  -- the class of a letter at a state
  pub record ClassOf (i : ℕ) (x : NameSet) : Type 0 where
    pub number : ℕ
    pub valuation : List Bool
    pub at : slice_get (classes_at i) number ≡ Some valuation
    pub alike : are_alike (labels_at i) (holds_in valuation) (holds_at b.names x) ≡ true

  pub class_of : (i : ℕ) (x : NameSet) → ClassOf i x
  class_of i x =
      let least = least_alike (length b.names) (labels_at i) (valuation_at b.names x) (valuation_long b.names x) in
      let there = there_at (classes_at i) least.0 least.1 in
      record { number = there.0; valuation = least.0; at = there.1; alike = ap (are_alike (labels_at i) (holds_in least.0)) (at_letter b.names x) ∙ least.2 }

  -- the letter meets the edge of its class
  pub class_meets : (i : ℕ) (x : NameSet) (c : ClassOf i x) (a : Transition) → a.from ≡ i → a.class ≡ c.number → is_met b.names x (edge a) ≡ true
  class_meets i x c a from class =
      let same : (edge a).label ≡ class_label (length b.names) (labels_at i) c.valuation =
      (λ j. class_label (length b.names) (labels_at (from j)) (get_or (classes_at (from j)) (class j) []))
      ∙ ap (class_label (length b.names) (labels_at i)) (get_or_from_slice_get (classes_at i) c.number c.valuation [] c.at) in
      ap (truth (holds_at b.names x)) same ∙ (class_truth b.names (labels_at i) c.valuation x ∙ c.alike)

  apart : (a d : Transition) → a.class < length (classes_at a.from) → d.class < length (classes_at d.from) → ArrowBefore a d → a.from ≡ d.from → AreApart b.names (edge a) (edge d)
  apart a d one other (inl less) same x h k = absurd (omega (arith, less, same))
  apart a d one other (inr later) same x h k =
      let labels = labels_at a.from in
      let v = class_at b (set_of a.from) a.class in
      let w = class_at b (set_of a.from) d.class in
      let first : slice_get (classes_at a.from) a.class ≡ Some v = slice_get-get_or (classes_at a.from) a.class [] one in
      let second : slice_get (classes_at a.from) d.class ≡ Some w = slice_get-get_or (classes_at a.from) d.class [] (subst (λ p. d.class < length (classes_at p)) (sym same) other) in
      let met : are_alike labels (holds_in w) (holds_at b.names x) ≡ true = subst
      (λ p. are_alike (labels_at p) (holds_in (class_at b (set_of p) d.class)) (holds_at b.names x) ≡ true) (sym same) (edge_alike d x k) in
      leasts_apart (length b.names) labels a.class d.class v w first second later.1
      (alike_on labels (holds_in v) (holds_at b.names x) (holds_in w) (edge_alike a x h) (alike_turned labels (holds_in w) (holds_at b.names x) met))

  pub all_apart : (transitions : List Transition) → AllPairs ArrowBefore transitions → ((a : Transition) → Contains transitions a → a.class < length (classes_at a.from))
      → AllPairs (λ d e. d.from ≡ e.from → AreApart b.names d e) (map edge transitions)
  all_apart transitions rise within = pairs_map (λ (d e : LabelledEdge). d.from ≡ e.from → AreApart b.names d e) edge transitions (λ i j d less inside.
      apart (get_or transitions i d) (get_or transitions j d) (within _ (Contains-get_or transitions i d (omega (arith, less, inside)))) (within _ (Contains-get_or transitions j d inside))
      (rise i j d less inside))
