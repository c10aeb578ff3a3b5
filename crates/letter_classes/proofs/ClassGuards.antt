-- The guards of the classes of a set are right, stay so in a store that has grown, and a step may read any valuation of a class.
use Rattle.std.proofs.Common.{◌≡◌, ◌∙◌, ◌&&◌, ◌<◌, ◌≤◌, ℕ, Bool, true, cond, List, [], ◌∷◌, Option, None, Some, Result, Ok, Err, ap, arith}
use Rattle.std.proofs.Common.{filter, length, map, nat_lt, refl, not, slice_get, subst, sym}
use Rattle.std.specs.Prelude.{IfOk, MatchOption}
use Rattle.std.proofs.lemmas.Bool.{and_parts}
use Rattle.std.proofs.lemmas.List.Elements.{All-contains}
use Rattle.std.proofs.lemmas.List.Folds.{list_all-map}
use Rattle.std.specs.Bool.{beq}
use Rattle.std.specs.List.{list_all, list_any}
use Rattle.aut_base.proofs.canonical.CanonicalTruth.{truth_on-label_of}
use Rattle.aut_base.proofs.canonical.ValuationLists.{same_test}
use Rattle.aut_base.specs.Automaton.{LabelledEdge}
use Rattle.aut_base.specs.CanonicalLabel.{label_of_truth}
use Rattle.aut_base.specs.Label.{LabelTree, truth}
use Rattle.aut_base.specs.Valuation.{IsLeast, holds_in, number_of, truth_on, valuations}
use Rattle.aut_base.proofs.lists.Members.{map_alike}
use Rattle.aut_core.specs.SymbolicAutomata.{SymbolicAutomaton, IsWellFormedSymbolic, automaton_of}
use Rattle.exploration.specs.TransitionFunctions.{AreClassHandles}
use Rattle.label_guards.proofs.valuations.Valuations.{length-bits_of}
use Rattle.label_guards.specs.ClassLeasts.{are_alike, class_leasts, labels_in}
use Rattle.label_guards.specs.Guards.{IsNeverMet}
use Rattle.label_guards.specs.Leasts.{bits_of}
use Rattle.label_guards.specs.Store.{Has, Keeps, Store, label_in}
use Rattle.label_guards.specs.declared.guard.Guard.{Guard}
use Rattle.letter_classes.proofs.SetGuards.{guards_has, guards_labels}
use Rattle.letter_classes.specs.Known.{IsKnown}
use Rattle.letter_classes.specs.SetClasses.{FitsStore, IsClassGuard, TellTheSame, guards_from, set_classes, set_edges, set_labels}

-- an equivalence of valuations, which are given as functions
abbrev Alike : Type 0
Alike = (ℕ → Bool) → (ℕ → Bool) → Bool

-- the least valuations of the equivalence's classes
abbrev leasts_of : ℕ → Alike → List (List Bool)
leasts_of n alike = filter (λ v. not (list_any (λ w. nat_lt (number_of w) (number_of v) && alike (holds_in w) (holds_in v)) (valuations n))) (valuations n)

-- the guard is that of the k-th class of the equivalence
abbrev IsHandle : Store → ℕ → Alike → ℕ → Guard → Type 0
IsHandle s n alike k g = (v : List Bool) × (slice_get (leasts_of n alike) k ≡ Some v) × Has s g × IsLeast s.names (truth_on (label_in s g)) v ×
    (label_in s g ≡ label_of_truth n (λ w. alike (holds_in v) (holds_in w)))

module _ (c : SymbolicAutomaton) (core : IsWellFormedSymbolic c) (set : List ℕ) (list : List Guard) (told : TellTheSame list (guards_from c set)) where
  -- in a later store the labels are the same
  labels_kept : (s : Store) → Keeps c.store s → labels_in s (guards_from c set) ≡ set_labels (automaton_of c) set
  labels_kept s keeps =
      map_alike (label_in s) (label_in c.store) (guards_from c set) (λ g there. keeps.labels g (All-contains (Has c.store) (guards_from c set) g (guards_has c core set) there))
      ∙ guards_labels c set

  -- and so is the equivalence
  alike_on : (s : Store) → Keeps c.store s → (on also : ℕ → Bool) → are_alike (labels_in s list) on also ≡ are_alike (set_labels (automaton_of c) set) on also
  alike_on s keeps on also =
      let same : LabelTree → Bool = λ (t : LabelTree). beq (truth on t) (truth also t) in
      list_all-map same (label_in s) list
      ∙ (told (λ g. same (label_in s g))
      ∙ (sym (list_all-map same (label_in s) (guards_from c set)) ∙ ap (list_all same) (labels_kept s keeps)))

  alike_kept : (s : Store) → Keeps c.store s → are_alike (labels_in s list) ≡ are_alike (set_labels (automaton_of c) set)
  alike_kept s keeps = λ i. λ on also. alike_on s keeps on also i

  names_kept : (s : Store) → Keeps c.store s → s.names ≡ length c.names
  names_kept s keeps = keeps.names ∙ core.parts.store_names

  leasts_kept : (s : Store) → Keeps c.store s → class_leasts s.names (labels_in s list) ≡ set_classes (automaton_of c) set
  leasts_kept s keeps = λ i. leasts_of (names_kept s keeps i) (alike_kept s keeps i)

  pub class_guards : (s : Store) → Keeps c.store s → (classes : List Guard) → IsKnown s list classes
      → AreClassHandles (IsClassGuard c s set) (length (set_classes (automaton_of c) set)) classes
  class_guards s keeps classes known = record {
    all = known.are.all ∙ ap length (leasts_kept s keeps);
    each = λ k g at. (
        let is = known.are.each k g at in
        let own : IsHandle s s.names (are_alike (labels_in s list)) k g = (is.valuation, is.at, is.has, is.least, is.label) in
        let h = subst (λ (n : ℕ). IsHandle s n (are_alike (set_labels (automaton_of c) set)) k g) (names_kept s keeps)
        (subst (λ (alike : Alike). IsHandle s s.names alike k g) (alike_kept s keeps) own) in
        record { valuation = h.0; at = h.1; has = h.2; least = h.3; label = h.4 }
        );
  }

  few_classes : (s : Store) → Keeps c.store s → (most : ℕ) (classes : List Guard) → IsKnown s list classes → length classes ≤ most → length (set_classes (automaton_of c) set) ≤ most
  few_classes s keeps most classes known few = omega (arith, few, known.are.all ∙ ap length (leasts_kept s keeps))

  more_classes : (s : Store) → Keeps c.store s → (most : ℕ) → most < length (class_leasts s.names (labels_in s list)) → most < length (set_classes (automaton_of c) set)
  more_classes s keeps most more = subst (λ (vs : List (List Bool)). most < length vs) (leasts_kept s keeps) more

  -- the classes of the list of guards are the classes of the set; the store may have grown meanwhile
  module _ (s t : Store) (old : Keeps c.store s) (new : Keeps c.store t) (most : ℕ) where
    pub set_answer : {V E : Type 0} (r : Result (Option V) E) (items : V → List Guard)
        → IfOk r (λ found. MatchOption found (most < length (class_leasts s.names (labels_in s list))) (λ v. IsKnown t list (items v)))
        → IfOk r (λ found. MatchOption found (most < length (set_classes (automaton_of c) set)) (λ v. AreClassHandles (IsClassGuard c t set) (length (set_classes (automaton_of c) set)) (items v)))
    set_answer (Ok (Some v)) items known = class_guards t new (items v) known
    set_answer (Ok None) items more = more_classes s old most more
    set_answer (Err e) items said = said

    pub few_answer : {V E : Type 0} (r : Result (Option V) E) (items : V → List Guard)
        → IfOk r (λ found. MatchOption found (most < length (class_leasts s.names (labels_in s list))) (λ v. IsKnown t list (items v)))
        → IfOk r (λ found. MatchOption found (Unit {0}) (λ v. length (items v) ≤ most))
        → IfOk r (λ found. MatchOption found (Unit {0}) (λ v. length (set_classes (automaton_of c) set) ≤ most))
    few_answer (Ok (Some v)) items known few = few_classes t new most (items v) known few
    few_answer (Ok None) items known few = few
    few_answer (Err e) items known few = few

-- the least number that a store finds for a guard is that of a valuation that satisfies it
pub met_number : (s t : Store) (g : Guard) (found : Option ℕ) (number : ℕ) → t ≡ s → found ≡ Some number
    → MatchOption found (IsNeverMet t g) (λ n. truth_on (label_in t g) (bits_of t.names n) ≡ true) → truth_on (label_in s g) (bits_of s.names number) ≡ true
met_number s t g found number same is met =
    subst (λ (x : Store). truth_on (label_in x g) (bits_of x.names number) ≡ true) same
    (subst (λ (o : Option ℕ). MatchOption o (IsNeverMet t g) (λ n. truth_on (label_in t g) (bits_of t.names n) ≡ true)) is met)

-- Where each label of these edges has the same truth at two valuations, both satisfy the same edges.
same_edges : (v w : List Bool) (es : List LabelledEdge) → are_alike (map (λ e. e.label) es) (holds_in v) (holds_in w) ≡ true
    → filter (λ e. truth_on e.label w) es ≡ filter (λ e. truth_on e.label v) es
same_edges v w [] alike = refl
same_edges v w (e ∷ es) alike =
    let parts = and_parts (beq (truth_on e.label v) (truth_on e.label w)) (are_alike (map (λ e. e.label) es) (holds_in v) (holds_in w)) alike in
    let head = same_test (truth_on e.label v) (truth_on e.label w) parts.0 in
    let tail = same_edges v w es parts.1 in
    λ i. cond (sym head i) (e ∷ tail i) (tail i)

-- A valuation that satisfies the guard of a class satisfies the same edges from the set as the class's least valuation.
module _ (c : SymbolicAutomaton) (core : IsWellFormedSymbolic c) (s : Store) (set : List ℕ) (k : ℕ) (g : Guard) (fits : FitsStore c s set) (is : IsClassGuard c s set k g) where
  names_are : s.names ≡ length c.names
  names_are = fits.keeps.names ∙ core.parts.store_names

  pub class_edges : (w : List Bool) → length w ≡ s.names → truth_on (label_in s g) w ≡ true
      → filter (λ e. truth_on e.label w) (set_edges (automaton_of c) set) ≡ filter (λ e. truth_on e.label is.valuation) (set_edges (automaton_of c) set)
  class_edges w size meets =
      let alike : are_alike (set_labels (automaton_of c) set) (holds_in is.valuation) (holds_in w) ≡ true =
      sym (truth_on-label_of (length c.names) (λ u. are_alike (set_labels (automaton_of c) set) (holds_in is.valuation) (holds_in u)) w (size ∙ names_are))
      ∙ (ap (λ (t : LabelTree). truth_on t w) (sym is.label) ∙ meets) in
      same_edges is.valuation w (set_edges (automaton_of c) set) alike

  -- the same of the valuation of a number
  pub number_edges : (n number : ℕ) → n ≡ c.store.names → truth_on (label_in s g) (bits_of s.names number) ≡ true
      → filter (λ e. truth_on e.label (bits_of n number)) (set_edges (automaton_of c) set) ≡ filter (λ e. truth_on e.label is.valuation) (set_edges (automaton_of c) set)
  number_edges n number own meets =
      let size : n ≡ s.names = own ∙ sym fits.keeps.names in
      class_edges (bits_of n number) (length-bits_of n number ∙ size) (subst (λ (m : ℕ). truth_on (label_in s g) (bits_of m number) ≡ true) (sym size) meets)
