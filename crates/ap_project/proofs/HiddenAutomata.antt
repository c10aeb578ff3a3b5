-- An automaton with a name hidden: its shape, that it is well formed, and its language.
use Rattle.std.proofs.Common.{◌≡◌, ◌≢◌, ◌∙◌, ℕ, Bool, true, false, List, [], ◌∷◌, All, Contains, Some, ap, arith, get_or}
use Rattle.std.proofs.Common.{if◌then◌else◌, length, map, refl, slice_get, subst, sym}
use Rattle.std.proofs.lemmas.List.Elements.{All-contains, All-map, All-weaker, Contains-get_or}
use Rattle.std.proofs.lemmas.Option.{get_or_from_slice_get, slice_get-get_or}
use Rattle.std.proofs.lemmas.Simd.{map-map}
use Rattle.std.specs.List.Sorted.{IsNonDecreasing}
use Rattle.aut_base.proofs.canonical.CanonicalAutomata.{labels_below}
use Rattle.aut_base.proofs.canonical.CanonicalBelow.{label_of_below}
use Rattle.aut_base.proofs.canonical.CanonicalTruth.{truth_below}
use Rattle.aut_base.proofs.numbers.Truth.{or_same}
use Rattle.aut_base.specs.Automaton.{Automaton, IsEdgeOf, IsWellFormed, LabelledEdge}
use Rattle.aut_base.specs.Label.{AllBelow, LabelTree, holds_at, truth}
use Rattle.aut_base.specs.Word.{NameSet}
use Rattle.aut_core.proofs.JoinedNames.{among}
use Rattle.aut_core.proofs.Made.{parts_from}
use Rattle.aut_core.specs.SymbolicAutomata.{AreSymbolicParts, SymbolicAutomaton, IsWellFormedSymbolic, automaton_of, edge_of}
use Rattle.aut_core.specs.OtherNames.{is_among}
use Rattle.label_guards.specs.Store.{Has, label_in}
use Rattle.ap_project.proofs.HiddenLabels.{holds_there, label_says, others_differ}
use Rattle.ap_project.proofs.Languages.{accepts_hidden}
use Rattle.ap_project.proofs.Letters.{SameBut, but_including, but_without, including, without}
use Rattle.ap_project.proofs.OtherNames.{all_left, fewer}
use Rattle.ap_project.proofs.Relabelled.{relabelled_is_hidden}
use Rattle.ap_project.specs.Hiding.{AcceptsHidden, hidden, hidden_label, hidden_truth, hidden_value, names_without}
use Rattle.ap_project.specs.Laws.{HiddenAccepts, IsHidden}
use Rattle.ap_project.specs.inner.HiddenGuards.{hidden_link}
use Rattle.ap_project.specs.declared.hide.Hide.{Hide}
use Rattle.ap_project.specs.declared.hide.Hide.TheVariants.{Any, Absent, Present}

abbrev hidden_edge : Hide → List ℕ → List (List ℕ) → LabelledEdge → LabelledEdge
hidden_edge how name names e = record e { label = hidden_label how name names e.label }

-- the automaton over the other names
abbrev pub over_others : Hide → List ℕ → Automaton → Automaton
over_others how name a = record a { names = names_without name a.names; edges = map (hidden_edge how name a.names) a.edges }

-- the edges of its links
pub hidden_edges : (how : Hide) (name : List ℕ) (prop : ℕ) (a : SymbolicAutomaton) → slice_get a.names prop ≡ Some name
    → map (hidden_link how prop a) a.links ≡ (over_others how name (automaton_of a)).edges
hidden_edges how name prop a at =
    ap (λ n. map (λ l. record (edge_of a.store l) { label = hidden_label how n a.names (label_in a.store l.guard) }) a.links) (get_or_from_slice_get a.names prop name [] at)
    ∙ sym (map-map (hidden_edge how name a.names) (edge_of a.store) a.links)

pub hidden_there : (how : Hide) (name : List ℕ) (a : Automaton) → is_among a.names name ≡ true → hidden how name a ≡ over_others how name a
hidden_there how name a there = ap (λ b. if b then over_others how name a else a) there

pub hidden_lacking : (how : Hide) (name : List ℕ) (a : Automaton) → is_among a.names name ≡ false → hidden how name a ≡ a
hidden_lacking how name a lacking = ap (λ b. if b then over_others how name a else a) lacking

pub names_hidden : (how : Hide) (name : List ℕ) (a : Automaton) → (hidden how name a).names ≡ names_without name a.names
names_hidden how name a = by_cases (is_among a.names name) refl
  where
    by_cases : (b : Bool) → is_among a.names name ≡ b → (hidden how name a).names ≡ names_without name a.names
    by_cases true there = ap (λ (h : Automaton). h.names) (hidden_there how name a there)
    by_cases false lacking = ap (λ (h : Automaton). h.names) (hidden_lacking how name a lacking) ∙ sym (all_left name a.names lacking)

-- what all automata over other names share with their own
kept_hidden : {T : Type 0} (part : Automaton → T) (how : Hide) (name : List ℕ) (a : Automaton) → part (over_others how name a) ≡ part a → part (hidden how name a) ≡ part a
kept_hidden part how name a kept = by_cases (is_among a.names name) refl
  where
    by_cases : (b : Bool) → is_among a.names name ≡ b → part (hidden how name a) ≡ part a
    by_cases true there = ap part (hidden_there how name a there) ∙ kept
    by_cases false lacking = ap part (hidden_lacking how name a lacking)

pub states_hidden : (how : Hide) (name : List ℕ) (a : Automaton) → (hidden how name a).states ≡ a.states
states_hidden how name a = kept_hidden (λ (h : Automaton). h.states) how name a refl

pub sets_hidden : (how : Hide) (name : List ℕ) (a : Automaton) → (hidden how name a).sets ≡ a.sets
sets_hidden how name a = kept_hidden (λ (h : Automaton). h.sets) how name a refl

others_are_hidden : (how : Hide) (name : List ℕ) (a : Automaton) → IsWellFormed a → IsHidden how name a (over_others how name a)
others_are_hidden how name a formed = relabelled_is_hidden how name a (over_others how name a) (record {
  label = λ e. hidden_label how name a.names e.label;
  starts = refl;
  formula = refl;
  edges = refl;
  says = λ e x there. label_says how name a.names e.label formed.names_differ (All-contains (λ d. AllBelow (length a.names) d.label) a.edges e (labels_below a formed) there) x;
})

same_edges : (es : List LabelledEdge) → es ≡ map (λ (e : LabelledEdge). record e { label = e.label }) es
same_edges [] = refl
same_edges (e ∷ es) = ap (λ ds. e ∷ ds) (same_edges es)

same_value : (how : Hide) (b : Bool) → hidden_value how b b ≡ b
same_value Any b = or_same b b refl
same_value Absent b = refl
same_value Present b = refl

-- The truth of a label that doesn't use the name doesn't depend on the name.
says_itself : (how : Hide) (name : List ℕ) (names : List (List ℕ)) → is_among names name ≡ false → (t : LabelTree) → AllBelow (length names) t → (x : NameSet)
    → truth (holds_at names x) t ≡ hidden_truth how name names t x
says_itself how name names lacking t below x = sym ((λ i. hidden_value how (alike (without name x) (but_without name x) i) (alike (including name x) (but_including name x) i))
    ∙ same_value how (truth (holds_at names x) t))
  where
    other : (q : List ℕ) → Contains names q → q ≢ name
    other q there e = cc (among names name (subst (Contains names) e there), lacking)

    alike : (y : NameSet) → SameBut name x y → truth (holds_at names y) t ≡ truth (holds_at names x) t
    alike y but = truth_below (length names) (holds_at names y) (holds_at names x) t below (λ k less.
        let q = get_or names k [] in
        let at = slice_get-get_or names k [] less in
        holds_there names k q y at ∙ (sym (but q (other q (Contains-get_or names k [] less))) ∙ sym (holds_there names k q x at)))

itself_is_hidden : (how : Hide) (name : List ℕ) (a : Automaton) → is_among a.names name ≡ false → IsWellFormed a → IsHidden how name a a
itself_is_hidden how name a lacking formed = relabelled_is_hidden how name a a (record {
  label = λ e. e.label;
  starts = refl;
  formula = refl;
  edges = same_edges a.edges;
  says = λ e x there. says_itself how name a.names lacking e.label (All-contains (λ d. AllBelow (length a.names) d.label) a.edges e (labels_below a formed) there) x;
})

pub hidden_accepts : HiddenAccepts
hidden_accepts how name a formed = by_cases (is_among a.names name) refl
  where
    by_cases : (b : Bool) → is_among a.names name ≡ b → AcceptsHidden how name a (hidden how name a)
    by_cases true there = subst (λ (h : Automaton). AcceptsHidden how name a h) (sym (hidden_there how name a there))
        (accepts_hidden how name a (over_others how name a) (others_are_hidden how name a formed))
    by_cases false lacking = subst (λ (h : Automaton). AcceptsHidden how name a h) (sym (hidden_lacking how name a lacking)) (accepts_hidden how name a a (itself_is_hidden how name a lacking formed))

others_well_formed : (how : Hide) (name : List ℕ) (a : Automaton) → IsWellFormed a → IsWellFormed (over_others how name a)
others_well_formed how name a formed = record {
  names_differ = others_differ name a.names formed.names_differ;
  starts_differ = formed.starts_differ;
  starts = formed.starts;
  in_order = subst IsNonDecreasing (sym (map-map (λ (e : LabelledEdge). e.from) (hidden_edge how name a.names) a.edges)) formed.in_order;
  edges = All-map (IsEdgeOf (over_others how name a)) (hidden_edge how name a.names) a.edges
      (All-weaker (IsEdgeOf a) (λ e. IsEdgeOf (over_others how name a) (hidden_edge how name a.names e))
      (λ e h. record { from = h.from; to = h.to; label = label_of_below (length (names_without name a.names)) _; marks = h.marks; marks_rise = h.marks_rise }) a.edges formed.edges);
  formula = formed.formula;
}

-- the parts of an automaton with a name hidden that it has
pub others_parts : (how : Hide) (name : List ℕ) (old c : SymbolicAutomaton) → IsWellFormedSymbolic old → automaton_of c ≡ over_others how name (automaton_of old)
    → c.store.names ≡ length (names_without name old.names) → All (λ l. Has c.store l.guard) c.links → AreSymbolicParts c
others_parts how name old c core same count has =
    let names_are : c.names ≡ names_without name old.names = λ i. (same i).names in
    parts_from c (subst IsWellFormed (sym same) (others_well_formed how name (automaton_of old) core.well_formed))
    (omega (arith, core.parts.few, fewer name old.names, ap length names_are)) (count ∙ sym (ap length names_are)) has
