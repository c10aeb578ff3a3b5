-- The automaton that the canonical text of a well-formed automaton spells keeps all rules.
use Rattle.std.proofs.Common.{◌≡◌, ◌≢◌, ◌==◌, ◌<◌, ◌^◌, ℕ, Bool, true, false, ◌&&◌, ◌||◌, List, [], ◌∷◌, ◌++◌, length, filter, map, nat_lt, refl, sym}
use Rattle.std.proofs.Common.{ap, ◌∙◌, subst, arith, AllPairs, Option, Some, None}
use Rattle.std.proofs.lemmas.Bool.{eq-eqb, lt-ltb, ne_eqb}
use Rattle.std.proofs.lemmas.List.Elements.{recursion_from_All}
use Rattle.std.specs.Prelude.{flat_map, is_some, nat_le, option_to_list}
use Rattle.std.specs.List.{AllByRecursion, list_all, range_with_len}
use Rattle.aut_base.proofs.words.Texts.{differ_texts}
use Rattle.aut_base.specs.Automaton.{LabelledEdge, Automaton, IsEdgeOf, IsWellFormed}
use Rattle.aut_base.specs.Label.{LabelTree}
use Rattle.hoa_parser.specs.Naming.{name_item}
use Rattle.hoa_parser.specs.Raw.{RawTree, WrittenEdge, WrittenItem, WrittenState}
use Rattle.aut_base.specs.Text.{same_text}
use Rattle.hoa_reader.proofs.validity.RuleParts.{is_one_state, labels_one_way, state_labels}
use Rattle.hoa_reader.specs.Validity.{AcceptanceLine, AliasLine, IsValid, acceptance_item, aliases_among, all_differ, body_labels, edges_written}
use Rattle.hoa_reader.specs.Validity.{has_edge_per_letter, is_acc_name, is_tool, keeps_rule, marks_below, may_be_passed_over, names_agree}
use Rattle.hoa_reader.specs.Validity.{names_item, no_edge_labelled, numbers_below, props_below, sets_below, starts_written, states_item, used_states}
use Rattle.hoa_reader.specs.Validity.{uses_earlier, written_names}
use Rattle.hoa_reader.specs.declared.elaborate.Rule.TheVariants.{V2, V3, V4, V5, V6, V7, V8, V9, V10, V11, V12}
use Rattle.hoa_writer.proofs.round_trip.CanonicalLines.{acceptance_found, all_starts, closing, counted_from, each_edge, each_state, edges_at}
use Rattle.hoa_writer.proofs.round_trip.CanonicalLines.{names_found, no_aliases, no_starts_counted, starting, starts_found, states_found}
use Rattle.hoa_writer.proofs.round_trip.CanonicalTrees.{no_alias, props_are_below, sets_are_below, two}
use Rattle.aut_base.proofs.order.Ordered.{every_passes, pairs_from, pairs_weaker, range_rises}
use Rattle.hoa_writer.proofs.text.InOrder.{all_differ_from}
use Rattle.aut_base.specs.CanonicalLabel.{canonical_label}
use Rattle.hoa_writer.specs.CanonicalWritten.{canonical_edge, canonical_state, canonical_written, written_label}
use Rattle.aut_base.proofs.lists.AllByRecursion.{AllByRecursion-map, AllByRecursion-weaker, AllByRecursion-append, AllByRecursion-flat_map, AllByRecursion-of_each}

-- items that occur once
once : (p : WrittenItem → Bool) (k : ℕ) (a : Automaton) → ((s : ℕ) → p (WrittenItem.Start (s ∷ [])) ≡ false) → nat_le (counted_from p k (closing a)) 1 ≡ true
    → nat_le (counted_from p k (starting a.starts ++ closing a)) 1 ≡ true
once p k a h e = ap (λ n. nat_le n 1) (no_starts_counted p k a.starts (closing a) h) ∙ e

exactly : (p : WrittenItem → Bool) (k : ℕ) (a : Automaton) → ((s : ℕ) → p (WrittenItem.Start (s ∷ [])) ≡ false) → (counted_from p k (closing a) == 1) ≡ true
    → (counted_from p k (starting a.starts ++ closing a) == 1) ≡ true
exactly p k a h e = ap (λ n. n == 1) (no_starts_counted p k a.starts (closing a) h) ∙ e

lines_once : (a : Automaton) (name : Option (List ℕ)) → keeps_rule V2 (canonical_written a name) ≡ true
lines_once a None =
    two _ _ (once (λ i. is_some (states_item i)) 1 a (λ s. refl) refl)
    (two _ _ (once (λ i. is_some (names_item i)) 0 a (λ s. refl) refl)
    (two _ _ (exactly (λ i. is_some (acceptance_item i)) 0 a (λ s. refl) refl)
    (two _ _ (once is_acc_name 0 a (λ s. refl) refl)
    (two _ _ (once is_tool 0 a (λ s. refl) refl) (once (λ i. is_some (name_item i)) 0 a (λ s. refl) refl)))))
lines_once a (Some text) =
    two _ _ (once (λ i. is_some (states_item i)) 1 a (λ s. refl) refl)
    (two _ _ (once (λ i. is_some (names_item i)) 0 a (λ s. refl) refl)
    (two _ _ (exactly (λ i. is_some (acceptance_item i)) 0 a (λ s. refl) refl)
    (two _ _ (once is_acc_name 0 a (λ s. refl) refl)
    (two _ _ (once is_tool 0 a (λ s. refl) refl) (once (λ i. is_some (name_item i)) 1 a (λ s. refl) refl)))))

words_known : (a : Automaton) (name : Option (List ℕ)) → keeps_rule V3 (canonical_written a name) ≡ true
words_known a None = all_starts may_be_passed_over a.starts (closing a) (λ s. refl) refl
words_known a (Some text) = all_starts may_be_passed_over a.starts (closing a) (λ s. refl) refl

names_differ : (names : List (List ℕ)) → AllPairs (λ x y. x ≢ y) names → ((length names == length names) && all_differ same_text names) ≡ true
names_differ names h =
    two _ _ (eq-eqb (length names) (length names) refl)
    (all_differ_from same_text names (pairs_weaker (λ x y. x ≢ y) (λ x y. same_text x y ≡ false) names differ_texts (pairs_from (λ x y. x ≢ y) names h)))

names_counted : (a : Automaton) (name : Option (List ℕ)) → AllPairs (λ x y. x ≢ y) a.names → keeps_rule V4 (canonical_written a name) ≡ true
names_counted a None h = all_starts names_agree a.starts (closing a) (λ s. refl) (two _ _ (names_differ a.names h) refl)
names_counted a (Some text) h = all_starts names_agree a.starts (closing a) (λ s. refl) (two _ _ (names_differ a.names h) refl)

-- each start is one state, and each edge leads to one
single_states : (a : Automaton) (name : Option (List ℕ)) → keeps_rule V5 (canonical_written a name) ≡ true
single_states a name =
    let one : ℕ → List ℕ = λ s. s ∷ [] in
    two _ _ (ap (list_all is_one_state) (starts_found a name)
    ∙ every_passes is_one_state (map one a.starts) (AllByRecursion-map (λ q. is_one_state q ≡ true) one a.starts (AllByRecursion-of_each _ a.starts (λ s. refl))))
    (every_passes (λ (e : WrittenEdge). is_one_state e.to) (edges_written (canonical_written a name))
    (each_edge a name (λ (e : WrittenEdge). is_one_state e.to ≡ true) (AllByRecursion-of_each _ a.edges (λ e. refl))))

tree_edges : (a : Automaton) → IsWellFormed a → AllByRecursion (IsEdgeOf a) a.edges
tree_edges a h = recursion_from_All (IsEdgeOf a) a.edges h.edges

states_below : (a : Automaton) (name : Option (List ℕ)) → IsWellFormed a → keeps_rule V6 (canonical_written a name) ≡ true
states_below a name h =
    let w = canonical_written a name in
    let n = a.states in
    let P : ℕ → Type 0 = λ q. nat_lt q n ≡ true in
    let one : ℕ → List ℕ = λ s. s ∷ [] in
    let groups : AllByRecursion (AllByRecursion P) (map one a.starts) =
    AllByRecursion-map (AllByRecursion P) one a.starts
    (AllByRecursion-weaker (λ s. s < n) (λ s. AllByRecursion P (one s)) a.starts (λ s l. (lt-ltb s n l, tt)) (recursion_from_All (λ s. s < n) a.starts h.starts)) in
    let starts : AllByRecursion P (flat_map (λ (q : List ℕ). q) (starts_written w)) =
    AllByRecursion-flat_map P (λ (q : List ℕ). q) (starts_written w) (subst (AllByRecursion (AllByRecursion P)) (sym (starts_found a name)) groups) in
    let numbers : AllByRecursion P (map (λ (s : WrittenState). s.number) w.states) =
    AllByRecursion-map P (λ (s : WrittenState). s.number) w.states (each_state a name (λ s. P s.number) (λ q l. lt-ltb q n l)) in
    let goals : AllByRecursion P (flat_map (λ (e : WrittenEdge). e.to) (edges_written w)) =
    AllByRecursion-flat_map P (λ (e : WrittenEdge). e.to) (edges_written w)
    (each_edge a name (λ e. AllByRecursion P e.to) (AllByRecursion-weaker (IsEdgeOf a) (λ e. AllByRecursion P (e.to ∷ [])) a.edges (λ e k. (lt-ltb e.to n k.to, tt)) (tree_edges a h))) in
    ap (list_all (λ k. numbers_below k (used_states w))) (states_found a name)
    ∙ two _ _ (every_passes (λ i. nat_lt i n) (used_states w)
    (AllByRecursion-append P (flat_map (λ (q : List ℕ). q) (starts_written w)) (map (λ (s : WrittenState). s.number) w.states ++ flat_map (λ (e : WrittenEdge). e.to) (edges_written w)) starts
    (AllByRecursion-append P (map (λ (s : WrittenState). s.number) w.states) (flat_map (λ (e : WrittenEdge). e.to) (edges_written w)) numbers goals))) refl

-- labels of the body
each_label : (a : Automaton) (name : Option (List ℕ)) (P : RawTree → Type 0) → ((t : LabelTree) → P (written_label (canonical_label (length a.names) t)))
    → AllByRecursion P (body_labels (canonical_written a name).states)
each_label a name P h =
    AllByRecursion-flat_map P state_labels (canonical_written a name).states (each_state a name (λ s. AllByRecursion P (state_labels s))
    (λ q l. AllByRecursion-flat_map P (λ (e : WrittenEdge). option_to_list e.label) (canonical_state a q).edges
    (edges_at a q (λ e. AllByRecursion P (option_to_list e.label)) (AllByRecursion-of_each _ a.edges (λ e. (h e.label, tt))))))

aliases_defined : (a : Automaton) (name : Option (List ℕ)) → keeps_rule V7 (canonical_written a name) ≡ true
aliases_defined a name =
    let labels = body_labels (canonical_written a name).states in
    ap (λ (lines : List AliasLine). all_differ same_text (map (λ line. line.name) lines) && (uses_earlier [] lines && list_all (aliases_among (map (λ line. line.name) lines)) labels))
    (no_aliases a name)
    ∙ every_passes (aliases_among []) labels (each_label a name (λ t. aliases_among [] t ≡ true) (no_alias (length a.names) []))

propositions_named : (a : Automaton) (name : Option (List ℕ)) → keeps_rule V8 (canonical_written a name) ≡ true
propositions_named a name =
    let w = canonical_written a name in
    let labels = body_labels w.states in
    ap (λ (lines : List AliasLine). list_all (props_below (length (written_names w))) (map (λ line. line.label) lines ++ labels)) (no_aliases a name)
    ∙ (ap (λ (names : List (List ℕ)). list_all (props_below (length names)) labels) (names_found a name)
    ∙ every_passes (props_below (length a.names)) labels (each_label a name (λ t. props_below (length a.names) t ≡ true) (props_are_below (length a.names))))

-- sets
sets_kept : (a : Automaton) (name : Option (List ℕ)) → IsWellFormed a → keeps_rule V9 (canonical_written a name) ≡ true
sets_kept a name h =
    let w = canonical_written a name in
    let n = a.sets in
    ap (λ (line : AcceptanceLine). sets_below line.sets line.formula && list_all (marks_below line.sets) w.states) (acceptance_found a name)
    ∙ two _ _ (sets_are_below n a.formula h.formula)
    (every_passes (marks_below n) w.states (each_state a name (λ s. marks_below n s ≡ true)
    (λ q l. every_passes (λ (e : WrittenEdge). numbers_below n e.marks) (canonical_state a q).edges
    (edges_at a q (λ e. numbers_below n e.marks ≡ true) (AllByRecursion-weaker (IsEdgeOf a) (λ e. numbers_below n e.marks ≡ true) a.edges
    (λ e k. every_passes (λ i. nat_lt i n) e.marks
    (AllByRecursion-weaker (λ i. i < n) (λ i. nat_lt i n ≡ true) e.marks (λ i m. lt-ltb i n m) (recursion_from_All (λ i. i < n) e.marks k.marks))) (tree_edges a h))))))

-- states of the body
numbers_of : (a : Automaton) (qs : List ℕ) → map (λ (s : WrittenState). s.number) (map (canonical_state a) qs) ≡ qs
numbers_of a [] = refl
numbers_of a (q ∷ qs) = ap (λ xs. q ∷ xs) (numbers_of a qs)

states_once : (a : Automaton) (name : Option (List ℕ)) → keeps_rule V10 (canonical_written a name) ≡ true
states_once a name =
    let qs = range_with_len 0 a.states in
    ap (all_differ ◌==◌) (numbers_of a qs)
    ∙ all_differ_from ◌==◌ qs (pairs_weaker (λ x y. x < y) (λ x y. (x == y) ≡ false) qs (λ x y l. ne_eqb x y (λ e. omega (arith, l, e))) (range_rises 0 a.states))

or_true : (b c : Bool) → c ≡ true → (b || c) ≡ true
or_true true c e = refl
or_true false c e = e

one_way : (a : Automaton) (name : Option (List ℕ)) → keeps_rule V11 (canonical_written a name) ≡ true
one_way a name =
    every_passes labels_one_way (canonical_written a name).states (each_state a name (λ s. labels_one_way s ≡ true)
    (λ q l. or_true (no_edge_labelled (canonical_state a q)) (list_all (λ (e : WrittenEdge). is_some e.label) (canonical_state a q).edges)
    (every_passes (λ (e : WrittenEdge). is_some e.label) (canonical_state a q).edges (edges_at a q (λ e. is_some e.label ≡ true) (AllByRecursion-of_each _ a.edges (λ e. refl))))))

-- each edge has a label
edge_has_label : (n k q : ℕ) (es : List LabelledEdge) → has_edge_per_letter n (record { label = None; number = q; marks = []; edges = map (canonical_edge k) es }) ≡ true
edge_has_label n k q [] = refl
edge_has_label n k q (e ∷ es) = or_true (length (map (canonical_edge k) (e ∷ es)) == 0) _ (or_true (length (map (canonical_edge k) (e ∷ es)) == 2 ^ n) true refl)

letters_kept : (a : Automaton) (name : Option (List ℕ)) → keeps_rule V12 (canonical_written a name) ≡ true
letters_kept a name =
    let n = length (written_names (canonical_written a name)) in
    every_passes (has_edge_per_letter n) (canonical_written a name).states (each_state a name (λ s. has_edge_per_letter n s ≡ true)
    (λ q l. edge_has_label n (length a.names) q (filter (λ (e : LabelledEdge). e.from == q) a.edges)))

pub canonical_is_valid : (a : Automaton) (name : Option (List ℕ)) → IsWellFormed a → AllPairs (λ x y. x ≢ y) a.names → IsValid (canonical_written a name)
canonical_is_valid a name h names = (
  refl,
  (
    lines_once a name,
    (
      words_known a name,
      (
        names_counted a name names,
        (single_states a name, (states_below a name h, (aliases_defined a name, (propositions_named a name, (sets_kept a name h, (states_once a name, (one_way a name, (letters_kept a name, tt)))))))),
      ),
    ),
  ),
)
