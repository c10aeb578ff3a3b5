-- Labels and automata over other names.
use Rattle.std.proofs.Common.{◌≡◌, ◌≢◌, ◌∙◌, ◌<◌, ◌≤◌, ◌+◌, ⊎_elim, ℕ, Bool, false, List, [], ◌∷◌, ◌++◌, All, AllPairs, Contains, Some, ap, arith}
use Rattle.std.proofs.Common.{get_or, length, length-append, map, slice_get, subst, sym}
use Rattle.std.proofs.lemmas.Bool.{cases_lt}
use Rattle.std.proofs.lemmas.List.{get_or_append_left, get_or-append-add}
use Rattle.std.proofs.lemmas.List.Elements.{All-contains, All-map, All-push, All-weaker}
use Rattle.std.proofs.lemmas.Simd.{map-map}
use Rattle.std.specs.List.Sorted.{IsNonDecreasing}
use Rattle.std.proofs.lemmas.Option.{slice_get-get_or, slice_get_within}
use Rattle.std.specs.FinSet.{contains}
use Rattle.std.specs.List.{slice_index_or}
use Rattle.std.specs.Option.{option_map_or}
use Rattle.aut_base.proofs.canonical.CanonicalAutomata.{labels_below}
use Rattle.aut_base.proofs.canonical.CanonicalBelow.{label_of_below}
use Rattle.aut_base.proofs.canonical.CanonicalTruth.{label_of-same, truth-label_of, truth_below}
use Rattle.aut_base.proofs.runs.OtherEdges.{other_labels_accept}
use Rattle.aut_base.proofs.canonical.ValuationLists.{holds_in-valuation_of, length-valuation_of}
use Rattle.aut_base.proofs.lists.Lists.{slice_get-at}
use Rattle.aut_base.proofs.canonical.ValuationLetters.{letter_of_holds}
use Rattle.aut_base.specs.Automaton.{Automaton, IsEdgeOf, IsWellFormed, LabelledEdge}
use Rattle.aut_base.specs.CanonicalLabel.{label_of_truth}
use Rattle.aut_base.specs.Label.{AllBelow, LabelTree, holds_at, truth}
use Rattle.aut_base.specs.Valuation.{holds_in, letter_of, truth_on, valuation_of}
use Rattle.aut_base.specs.LabelLaws.{LabelsBelow}
use Rattle.aut_base.specs.Word.{NameSet}
use Rattle.aut_base.specs.declared.limit.TheConstants.{MOST_NAMES}
use Rattle.label_guards.specs.Guards.{AreNames, IsGuardOf, truth_in}
use Rattle.label_guards.specs.Store.{Has, Store, label_in}
use Rattle.label_guards.specs.declared.guard.Guard.{Guard}
use Rattle.aut_core.specs.SymbolicAutomata.{AreSymbolicParts, SymbolicAutomaton, IsWellFormedSymbolic, automaton_of, edge_of}
use Rattle.aut_core.specs.OtherNames.{AcceptTheSame, label_over, over_names}
use Rattle.aut_core.specs.declared.link.Link.{Link}
use Rattle.aut_core.proofs.Made.{label_in_below, label_in_settled, parts_from}

-- each old name is in the new list, at the index that `to` has for it
abbrev pub ArePlaces : List (List ℕ) → List (List ℕ) → List ℕ → Type 0
ArePlaces old new to = (k : ℕ) → k < length old → slice_get new (slice_index_or to k 0) ≡ slice_get old k

-- the label of a guard that was translated into another store
pub brought_label : (s t : Store) (old new : List (List ℕ)) (to : List ℕ) (g h : Guard) → s.names ≡ length old → AreNames t new → ArePlaces old new to
    → IsGuardOf t (λ on. truth_in s g (λ k. on (slice_index_or to k 0))) h → label_in t h ≡ label_over old new (label_in s g)
brought_label s t old new to g h count names places is =
    let at : (v : List Bool) → length v ≡ t.names → truth_on (label_in t h) v ≡ truth (holds_at old (letter_of new v)) (label_in s g) = λ v long.
    is.truth (holds_in v) ∙ truth_below s.names (λ k. holds_in v (slice_index_or to k 0)) (holds_at old (letter_of new v)) (label_in s g) (label_in_below s g) (λ i less.
    sym (letter_of_holds new v (slice_index_or to i 0) names.1 (long ∙ sym names.0)) ∙ ap (λ o. option_map_or (contains (letter_of new v)) o false) (places i (omega (arith, less, count)))) in
    sym (label_in_settled t h) ∙ (label_of-same t.names (truth_on (label_in t h)) (λ v. truth (holds_at old (letter_of new v)) (label_in s g)) at
    ∙ ap (λ n. label_of_truth n (λ v. truth (holds_at old (letter_of new v)) (label_in s g))) (sym names.0))

-- the indices of the first k names
pub record IsPlaced (old new : List (List ℕ)) (to : List ℕ) (k : ℕ) : Type 0 where
  pub count : length to ≡ k
  pub within : All (λ place. place < length new) to
  pub places : (i : ℕ) → i < k → slice_get new (slice_index_or to i 0) ≡ slice_get old i

pub placed_more : (old new : List (List ℕ)) (to more : List ℕ) (k place : ℕ) (x : List ℕ) → k < length old → x ≡ get_or old k x → IsPlaced old new to k → slice_get new place ≡ Some x
    → more ≡ to ++ place ∷ [] → IsPlaced old new more (k + 1)
placed_more old new to more k place x within at placed found pushed = subst (λ ps. IsPlaced old new ps (k + 1)) (sym pushed) (record {
  count = length-append to (place ∷ []) ∙ ap (λ n. n + 1) placed.count;
  within = All-push (λ p. p < length new) to place placed.within (slice_get_within new place x found);
  places = λ i less. ⊎_elim
      (λ (early : i < k). ap (slice_get new) (get_or_append_left to (place ∷ []) 0 i (omega (arith, placed.count))) ∙ placed.places i early)
      (λ (late : k ≤ i).
      let here : length to + 0 ≡ i = omega (arith, placed.count, less, late) in
      let same : k ≡ i = omega (arith, less, late) in
      ap (λ n. slice_get new (get_or (to ++ place ∷ []) n 0)) (sym here)
      ∙ (ap (slice_get new) (get_or-append-add to (place ∷ []) 0 0) ∙ (found ∙ (sym (slice_get-at old k x within at) ∙ ap (slice_get old) same))))
      (cases_lt i k);
})

-- The new names differ, and include the old ones.
pub record AreAmong (old new : List (List ℕ)) : Type 0 where
  pub differ : AllPairs (λ p q. p ≢ q) new
  pub has : All (Contains new) old

-- at the letter of a letter's own valuation over the new names the same old names hold
same_at : (old new : List (List ℕ)) → AreAmong old new → (x : NameSet) (i : ℕ) → i < length old → holds_at old (letter_of new (valuation_of (length new) (holds_at new x))) i ≡ holds_at old x i
same_at old new among x i less =
    let name = get_or old i [] in
    let v = valuation_of (length new) (holds_at new x) in
    let there : Contains new name = among.has i [] less in
    let j = there.0 in
    let here : slice_get old i ≡ Some name = slice_get-get_or old i [] less in
    let over : slice_get new j ≡ Some name = slice_get-at new j name there.1 (sym there.2) in
    let both : slice_get old i ≡ slice_get new j = here ∙ sym over in
    ap (λ o. option_map_or (contains (letter_of new v)) o false) both
    ∙ (letter_of_holds new v j among.differ (length-valuation_of (length new) (holds_at new x))
    ∙ (holds_in-valuation_of (length new) (holds_at new x) j there.1
    ∙ ap (λ o. option_map_or (contains x) o false) (sym both)))

-- over the same names a label is the same
label_over_own : (s : Store) (names : List (List ℕ)) → AreNames s names → (g : Guard) → label_over names names (label_in s g) ≡ label_in s g
label_over_own s names are g =
    label_of-same (length names) (λ v. truth (holds_at names (letter_of names v)) (label_in s g)) (truth_on (label_in s g))
    (λ v long. truth_below s.names (holds_at names (letter_of names v)) (holds_in v) (label_in s g) (label_in_below s g) (λ i less. letter_of_holds names v i are.1 long))
    ∙ (ap (λ n. label_of_truth n (truth_on (label_in s g))) are.0 ∙ label_in_settled s g)

-- and so is the automaton
pub over_own : (c : SymbolicAutomaton) → IsWellFormedSymbolic c → over_names c.names (automaton_of c) ≡ automaton_of c
over_own c core = λ i. record (automaton_of c) { edges = edges i }
  where
    own : (l : Link) → label_over c.names c.names (label_in c.store l.guard) ≡ label_in c.store l.guard
    own l = label_over_own c.store c.names (sym core.parts.store_names, core.well_formed.names_differ) l.guard

    edges : map (λ (e : LabelledEdge). record e { label = label_over c.names c.names e.label }) (map (edge_of c.store) c.links) ≡ map (edge_of c.store) c.links
    edges = map-map (λ (e : LabelledEdge). record e { label = label_over c.names c.names e.label }) (edge_of c.store) c.links
        ∙ (λ j. map (λ (l : Link). record (edge_of c.store l) { label = own l j }) c.links)

pub over_says : (old new : List (List ℕ)) → AreAmong old new → (t : LabelTree) → AllBelow (length old) t → (x : NameSet) → truth (holds_at new x) (label_over old new t) ≡ truth (holds_at old x) t
over_says old new among t below x =
    truth-label_of (holds_at new x) (length new) (λ v. truth (holds_at old (letter_of new v)) t)
    ∙ truth_below (length old) (holds_at old (letter_of new (valuation_of (length new) (holds_at new x)))) (holds_at old x) t below (same_at old new among x)

abbrev pub over_edge : List (List ℕ) → List (List ℕ) → LabelledEdge → LabelledEdge
over_edge old new e = record e { label = label_over old new e.label }

pub over_accepts : (a : Automaton) (names : List (List ℕ)) → AreAmong a.names names → LabelsBelow a → AcceptTheSame (over_names names a) a
over_accepts a names among below = other_labels_accept a names (λ e. label_over a.names names e.label)
    (λ e x there. over_says a.names names among e.label (All-contains (λ d. AllBelow (length a.names) d.label) a.edges e below there) x)

pub over_well_formed : (a : Automaton) (names : List (List ℕ)) → AreAmong a.names names → IsWellFormed a → IsWellFormed (over_names names a)
over_well_formed a names among formed = record {
  names_differ = among.differ;
  starts_differ = formed.starts_differ;
  starts = formed.starts;
  in_order = subst IsNonDecreasing (sym (map-map (λ (e : LabelledEdge). e.from) (over_edge a.names names) a.edges)) formed.in_order;
  edges = All-map (IsEdgeOf (over_names names a)) (over_edge a.names names) a.edges
      (All-weaker (IsEdgeOf a) (λ e. IsEdgeOf (over_names names a) (over_edge a.names names e))
      (λ e h. record { from = h.from; to = h.to; label = label_of_below (length names) _; marks = h.marks; marks_rise = h.marks_rise }) a.edges formed.edges);
  formula = formed.formula;
}

-- the parts of an automaton over other names
pub over_parts : (old c : SymbolicAutomaton) (names : List (List ℕ)) → IsWellFormedSymbolic old → AreAmong old.names names → length names ≤ MOST_NAMES
    → automaton_of c ≡ over_names names (automaton_of old)
    → c.store.names ≡ length names → All (λ l. Has c.store l.guard) c.links → AreSymbolicParts c
over_parts old c names core among few same count has =
    let names_are : c.names ≡ names = λ i. (same i).names in
    parts_from c (subst IsWellFormed (sym same) (over_well_formed (automaton_of old) names among core.well_formed)) (omega (arith, few, ap length names_are)) (count ∙ sym (ap length names_are)) has

pub over_accepts_the_same : (old c : SymbolicAutomaton) (names : List (List ℕ)) → IsWellFormedSymbolic old → AreAmong old.names names → automaton_of c ≡ over_names names (automaton_of old)
    → AcceptTheSame (automaton_of c) (automaton_of old)
over_accepts_the_same old c names core among same =
    subst (λ (a : Automaton). AcceptTheSame a (automaton_of old)) (sym same) (over_accepts (automaton_of old) names among (labels_below (automaton_of old) core.well_formed))
