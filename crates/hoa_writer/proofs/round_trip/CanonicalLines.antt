-- The items of the header and of the body of a canonical text.
use Rattle.std.proofs.Common.{slice_get, ◌≡◌, ◌==◌, ◌<◌, ◌≤◌, ◌+◌, ℕ, Bool, true, false, cond, ◌&&◌, List, [], ◌∷◌, ◌++◌, length, map, filter, get_or, refl, ap, ◌∙◌, arith, Option, Some, None}
use Rattle.std.specs.Prelude.{codes, filter_map}
use Rattle.std.specs.List.{AllByRecursion, cons_option, fold, list_all, range_with_len}
use Rattle.aut_base.specs.Automaton.{LabelledEdge, Automaton}
use Rattle.aut_base.specs.Formula.{FormulaTree}
use Rattle.hoa_parser.specs.Naming.{name_item, name_of}
use Rattle.hoa_parser.specs.Raw as raw
use Rattle.hoa_parser.specs.Raw.{WrittenEdge, WrittenItem, WrittenState}
use Rattle.hoa_reader.specs.Validity.{acceptance_item, acceptance_of, alias_item, alias_lines, edges_written, names_item, written_names, start_item, starts_written, states_item}
use Rattle.aut_base.proofs.order.Ordered.{range_within}
use Rattle.hoa_writer.specs.CanonicalWritten.{canonical_edge, canonical_items, canonical_state, canonical_written}
use Rattle.aut_base.proofs.lists.AllByRecursion.{AllByRecursion-map, AllByRecursion-weaker, AllByRecursion-filter, AllByRecursion-flat_map}

abbrev pub starting : List ℕ → List WrittenItem
starting = map (λ s. raw.Start (s ∷ []))

-- the items after the starts
abbrev pub closing : Automaton → List WrittenItem
closing a = raw.Ap (length a.names) a.names ∷ raw.Acceptance a.sets a.formula ∷ raw.Properties (codes "trans-labels" ∷ codes "explicit-labels" ∷ codes "trans-acc" ∷ []) ∷ []

-- what no start item contributes to
no_start : {Y : Type 0} (f : WrittenItem → Option Y) (starts : List ℕ) (rest : List WrittenItem) → ((s : ℕ) → f (raw.Start (s ∷ [])) ≡ None)
    → filter_map f (starting starts ++ rest) ≡ filter_map f rest
no_start f [] rest h = refl
no_start f (s ∷ ss) rest h = ap (λ o. cons_option o (filter_map f (starting ss ++ rest))) (h s) ∙ no_start f ss rest h

-- what neither the name nor a start item contributes to
pub found : {Y : Type 0} (f : WrittenItem → Option Y) (a : Automaton) (name : Option (List ℕ)) → ((text : List ℕ) → f (raw.Name text) ≡ None) → ((s : ℕ) → f (raw.Start (s ∷ [])) ≡ None)
    → filter_map f (canonical_items a name) ≡ filter_map f (raw.States a.states ∷ closing a)
found f a None h k = ap (cons_option (f (raw.States a.states))) (no_start f a.starts (closing a) k)
found f a (Some text) h k =
    ap (λ o. cons_option o (cons_option (f (raw.States a.states)) (filter_map f (starting a.starts ++ closing a)))) (h text)
    ∙ ap (cons_option (f (raw.States a.states))) (no_start f a.starts (closing a) k)

pub states_found : (a : Automaton) (name : Option (List ℕ)) → filter_map states_item (canonical_items a name) ≡ a.states ∷ []
states_found a name = found states_item a name (λ text. refl) (λ s. refl)

pub names_found : (a : Automaton) (name : Option (List ℕ)) → written_names (canonical_written a name) ≡ a.names
names_found a name = ap (λ xs. get_or xs 0 []) (found names_item a name (λ text. refl) (λ s. refl))

pub no_aliases : (a : Automaton) (name : Option (List ℕ)) → alias_lines (canonical_written a name) ≡ []
no_aliases a name = found alias_item a name (λ text. refl) (λ s. refl)

pub acceptance_found : (a : Automaton) (name : Option (List ℕ)) → acceptance_of (canonical_written a name) ≡ record { sets = a.sets; formula = a.formula }
acceptance_found a name = ap (λ xs. get_or xs 0 (record { sets = 0; formula = FormulaTree.True })) (found acceptance_item a name (λ text. refl) (λ s. refl))

only_starts : (starts : List ℕ) (rest : List WrittenItem) → filter_map start_item rest ≡ [] → filter_map start_item (starting starts ++ rest) ≡ map (λ s. s ∷ []) starts
only_starts [] rest h = h
only_starts (s ∷ ss) rest h = ap (λ xs. (s ∷ []) ∷ xs) (only_starts ss rest h)

pub starts_found : (a : Automaton) (name : Option (List ℕ)) → starts_written (canonical_written a name) ≡ map (λ s. s ∷ []) a.starts
starts_found a None = only_starts a.starts (closing a) refl
starts_found a (Some text) = only_starts a.starts (closing a) refl

pub canonical_named : (a : Automaton) (name : Option (List ℕ)) → name_of (canonical_written a name) ≡ name
canonical_named a None = ap (λ xs. slice_get xs 0) (no_start name_item a.starts (closing a) (λ s. refl))
canonical_named a (Some text) = refl

-- tests of items
pub all_starts : (p : WrittenItem → Bool) (starts : List ℕ) (rest : List WrittenItem) → ((s : ℕ) → p (raw.Start (s ∷ [])) ≡ true) → list_all p rest ≡ true → list_all p (starting starts ++ rest) ≡ true
all_starts p [] rest h all = all
all_starts p (s ∷ ss) rest h all = ap (λ b. b && list_all p (starting ss ++ rest)) (h s) ∙ all_starts p ss rest h all

-- how many items pass, plus n
abbrev pub counted_from : (WrittenItem → Bool) → ℕ → List WrittenItem → ℕ
counted_from p = fold (λ k x. k + cond (p x) 1 0)

pub no_starts_counted : (p : WrittenItem → Bool) (n : ℕ) (starts : List ℕ) (rest : List WrittenItem) → ((s : ℕ) → p (raw.Start (s ∷ [])) ≡ false)
    → counted_from p n (starting starts ++ rest) ≡ counted_from p n rest
no_starts_counted p n [] rest h = refl
no_starts_counted p n (s ∷ ss) rest h =
    let same : n + 0 ≡ n = omega arith in
    ap (λ b. counted_from p (n + cond b 1 0) (starting ss ++ rest)) (h s)
    ∙ (ap (λ k. counted_from p k (starting ss ++ rest)) same ∙ no_starts_counted p n ss rest h)

-- a state of the body, and an edge
pub each_state : (a : Automaton) (name : Option (List ℕ)) (P : WrittenState → Type 0) → ((q : ℕ) → q < a.states → P (canonical_state a q)) → AllByRecursion P (canonical_written a name).states
each_state a name P h =
    AllByRecursion-map P (canonical_state a) (range_with_len 0 a.states)
    (AllByRecursion-weaker (λ x. (0 ≤ x) × (x < 0 + a.states)) (λ q. P (canonical_state a q)) (range_with_len 0 a.states) (λ q l. h q (omega (arith, l))) (range_within 0 a.states))

pub edges_at : (a : Automaton) (q : ℕ) (P : WrittenEdge → Type 0) → AllByRecursion (λ e. P (canonical_edge (length a.names) e)) a.edges → AllByRecursion P (canonical_state a q).edges
edges_at a q P all =
    let ours : LabelledEdge → Bool = λ e. e.from == q in
    AllByRecursion-map P (canonical_edge (length a.names)) (filter ours a.edges) (AllByRecursion-filter (λ e. P (canonical_edge (length a.names) e)) ours a.edges all)

pub each_edge : (a : Automaton) (name : Option (List ℕ)) (P : WrittenEdge → Type 0) → AllByRecursion (λ e. P (canonical_edge (length a.names) e)) a.edges
    → AllByRecursion P (edges_written (canonical_written a name))
each_edge a name P all =
    AllByRecursion-flat_map P (λ (s : WrittenState). s.edges) (canonical_written a name).states
    (each_state a name (λ s. AllByRecursion P s.edges) (λ q l. edges_at a q P all))
