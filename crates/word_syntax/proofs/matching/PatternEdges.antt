-- The edges of a pattern's automaton, made one by one.
use Rattle.std.proofs.Common.{◌≡◌, ◌↔◌, ◌∙◌, ◌∷◌, ◌++◌, ◌+◌, ◌<◌, ◌≤◌, AllPairs, List, [], ap, arith, get_or, inl, inr, length, length-append, map, refl, subst, suc, sym, take, zero, ℕ}
use Rattle.std.proofs.lemmas.Bool.{cases_eq}
use Rattle.std.proofs.lemmas.List.{append_assoc, length-map, length-take-le, map-append}
use Rattle.std.proofs.lemmas.List.Elements.{All-from_recursion}
use Rattle.std.specs.List.{AllByRecursion}
use Rattle.std.specs.List.Sorted.{IsNonDecreasing}
use Rattle.aut_base.proofs.lists.AllByRecursion.{AllByRecursion-append}
use Rattle.aut_base.proofs.lists.Lists.{take-push}
use Rattle.aut_base.specs.Automaton.{Automaton, IsEdgeOf, IsWellFormed, LabelledEdge, labelled_edge}
use Rattle.aut_base.specs.Formula as formula
use Rattle.aut_base.specs.Formula.{FormulaTree}
use Rattle.aut_core.specs.OtherNames.{AcceptTheSame}
use Rattle.word_syntax.proofs.matching.PatternWords.{pattern_accepted}
use Rattle.aut_base.specs.Label.{AllBelow, LabelTree, label_tree}
use Rattle.aut_base.specs.declared.description.Edge.{Edge}
use Rattle.aut_base.specs.declared.label.Label.{Label}
use Rattle.word_syntax.proofs.matching.PatternWalks.{edge_at, next_last, next_other}
use Rattle.word_syntax.specs.Grammar.{WordPattern}
use Rattle.word_syntax.specs.Matching.{AcceptTogether, AcceptsPattern, edges_along, next_state, word_automaton}

pub edges_then : (back total place : ℕ) (ts us : List LabelTree) → edges_along back total place (ts ++ us) ≡ edges_along back total place ts ++ edges_along back total (place + length ts) us
edges_then back total place [] us = let z : place ≡ place + 0 = omega arith in ap (λ (n : ℕ). edges_along back total n us) z
edges_then back total place (t ∷ ts) us =
    let z : place + 1 + length ts ≡ place + length (t ∷ ts) = omega arith in
    ap (λ (es : List LabelledEdge). edge_at back total place t ∷ es) (edges_then back total (place + 1) ts us ∙ ap (λ (n : ℕ). edges_along back total (place + 1) ts ++ edges_along back total n us) z)

-- another edge
pub edge_more : (back total place i : ℕ) (start before now : List Edge) (labels : List Label) (label : Label) (e : Edge) → i < length labels → label ≡ get_or labels i label
    → length start ≡ place → map labelled_edge before ≡ map labelled_edge start ++ edges_along back total place (map label_tree (take i labels))
    → labelled_edge e ≡ edge_at back total (place + i) (label_tree label) → now ≡ before ++ e ∷ []
    → map labelled_edge now ≡ map labelled_edge start ++ edges_along back total place (map label_tree (take (i + 1) labels))
edge_more back total place i start before now labels label e within is first so_far edge added =
    let size : length (map label_tree (take i labels)) ≡ i = length-map (take i labels) label_tree ∙ length-take-le i labels (omega arith) in
    let more : map label_tree (take (i + 1) labels) ≡ map label_tree (take i labels) ++ label_tree label ∷ [] = ap (map label_tree) (take-push labels i label within is)
    ∙ map-append label_tree (take i labels) (label ∷ []) in
    ap (map labelled_edge) added ∙ (map-append labelled_edge before (e ∷ [])
    ∙ (ap (λ (es : List LabelledEdge). es ++ labelled_edge e ∷ []) so_far
    ∙ (append_assoc (map labelled_edge start) (edges_along back total place (map label_tree (take i labels))) (labelled_edge e ∷ [])
    ∙ ap (λ (es : List LabelledEdge). map labelled_edge start ++ es) (ap (λ (f : LabelledEdge). edges_along back total place (map label_tree (take i labels)) ++ f ∷ []) edge
    ∙ (ap (λ (n : ℕ). edges_along back total place (map label_tree (take i labels)) ++ edge_at back total (place + n) (label_tree label) ∷ []) (sym size)
    ∙ (sym (edges_then back total place (map label_tree (take i labels)) (label_tree label ∷ [])) ∙ ap (edges_along back total place) (sym more)))))))

froms : (back total place : ℕ) (ts : List LabelTree) (i d : ℕ) → i < length ts → get_or (map (λ e. e.from) (edges_along back total place ts)) i d ≡ place + i
froms back total place [] i d h = absurd (omega arith)
froms back total place (t ∷ ts) zero d h = omega arith
froms back total place (t ∷ ts) (suc i) d h = let z : place + 1 + i ≡ place + suc i = omega arith in froms back total (place + 1) ts i d (omega arith) ∙ z

edges_long : (back total place : ℕ) (ts : List LabelTree) → length (edges_along back total place ts) ≡ length ts
edges_long back total place [] = refl
edges_long back total place (t ∷ ts) = ap suc (edges_long back total (place + 1) ts)

in_order : (back total place : ℕ) (ts : List LabelTree) → IsNonDecreasing (map (λ e. e.from) (edges_along back total place ts))
in_order back total place ts i j d le lt =
    let long : length (map (λ e. e.from) (edges_along back total place ts)) ≡ length ts = length-map (edges_along back total place ts) (λ e. e.from) ∙ edges_long back total place ts in
    omega (arith, froms back total place ts i d (omega arith), froms back total place ts j d (omega arith))

next_within : (back total place : ℕ) → back < total → place < total → next_state back total place < total
next_within back total place h k = elim (cases_eq (place + 1) total) [
  | inl e ↦ omega (arith, next_last back total place e)
  | inr f ↦ omega (arith, next_other back total place f, f)
]

edges_are : (a : Automaton) (back place : ℕ) (ts : List LabelTree) → back < a.states → place + length ts ≤ a.states → AllByRecursion (AllBelow (length a.names)) ts
    → AllByRecursion (IsEdgeOf a) (edges_along back a.states place ts)
edges_are a back place [] h k all = tt
edges_are a back place (t ∷ ts) h k all = (
  record { from = omega arith; to = next_within back a.states place h (omega arith); label = all.0; marks = λ i d l. absurd (omega arith); marks_rise = λ i j d l m. absurd (omega arith) },
  edges_are a back (place + 1) ts h (omega arith) all.1,
)

pub pattern_well_formed : (p : WordPattern) → 0 < length p.cycle → AllPairs (λ a b. a ≡ b → ⊥) p.names → AllByRecursion (AllBelow (length p.names)) p.stem
    → AllByRecursion (AllBelow (length p.names)) p.cycle → IsWellFormed (word_automaton p)
pattern_well_formed p some names stem cycle =
    let total = length-append p.stem p.cycle in
    record {
      names_differ = names;
      starts_differ = λ i j d l m. absurd (omega arith);
      starts = All-from_recursion (λ s. s < length (p.stem ++ p.cycle)) (0 ∷ []) (omega arith, tt);
      in_order = in_order (length p.stem) (length (p.stem ++ p.cycle)) 0 (p.stem ++ p.cycle);
      edges = All-from_recursion (IsEdgeOf (word_automaton p)) (word_automaton p).edges
          (edges_are (word_automaton p) (length p.stem) 0 (p.stem ++ p.cycle) (omega arith) (omega arith) (AllByRecursion-append (AllBelow (length p.names)) p.stem p.cycle stem cycle));
      formula = tt;
    }

-- an edge as it is made
pub made_edge : (back total place from to : ℕ) (t u : LabelTree) (marks : List ℕ) → from ≡ place → t ≡ u → to ≡ next_state back total from → marks ≡ []
    → record { from = from; label = t; to = to; marks = marks } ≡ edge_at back total place u
made_edge back total place from to t u marks e f g h =
    let goes : to ≡ next_state back total place = g ∙ ap (next_state back total) e in
    made e f goes h
  where
    made : from ≡ place → t ≡ u → to ≡ next_state back total place → marks ≡ [] → record { from = from; label = t; to = to; marks = marks } ≡ edge_at back total place u
    made e f goes h = ap (λ (n : ℕ). record { from = n; label = t; to = to; marks = marks }) e
        ∙ (ap (λ (l : LabelTree). record { from = place; label = l; to = to; marks = marks }) f
        ∙ (ap (λ (n : ℕ). record { from = place; label = u; to = n; marks = marks }) goes ∙ ap (λ (ms : List ℕ). record { from = place; label = u; to = next_state back total place; marks = ms }) h))

-- the number of edges that were added
pub edges_number : (back total place : ℕ) (old new : List Edge) (ts : List LabelTree) → map labelled_edge new ≡ map labelled_edge old ++ edges_along back total place ts
    → length new ≡ length old + length ts
edges_number back total place old new ts e =
    let sizes : length (map labelled_edge new) ≡ length (map labelled_edge old ++ edges_along back total place ts) = ap (λ (es : List LabelledEdge). length es) e in
    omega (arith, length-map new labelled_edge, length-map old labelled_edge, length-append (map labelled_edge old) (edges_along back total place ts), edges_long back total place ts)

-- the edges of the stem and then those of the cycle
pub all_edges : (back total : ℕ) (none first second : List Edge) (stem cycle : List Label) → none ≡ [] → back ≡ length stem → total ≡ length stem + length cycle
    → map labelled_edge first ≡ map labelled_edge none ++ edges_along back total (length none) (map label_tree stem)
    → map labelled_edge second ≡ map labelled_edge first ++ edges_along back total (length first) (map label_tree cycle)
    → map labelled_edge second ≡ (word_automaton (record { names = []; stem = map label_tree stem; cycle = map label_tree cycle })).edges
all_edges back total none first second stem cycle nothing back_is total_is one two =
    let s : List LabelTree = map label_tree stem in
    let c : List LabelTree = map label_tree cycle in
    let empty : length none ≡ 0 = ap (λ (es : List Edge). length es) nothing in
    let begun : length first ≡ 0 + length (map label_tree stem) = edges_number back total (length none) none first (map label_tree stem) one ∙ ap (λ (n : ℕ). n + length (map label_tree stem)) empty in
    let back' : back ≡ length (map label_tree stem) = back_is ∙ sym (length-map stem label_tree) in
    let total' : total ≡ length (map label_tree stem ++ map label_tree cycle) =
    omega (arith, length-append (map label_tree stem) (map label_tree cycle), length-map stem label_tree, length-map cycle label_tree) in
    two ∙ (ap (λ (es : List LabelledEdge). es ++ edges_along back total (length first) (map label_tree cycle))
    (one ∙ (ap (λ (es : List Edge). map labelled_edge es ++ edges_along back total (length none) (map label_tree stem)) nothing ∙ ap (λ (n : ℕ). edges_along back total n (map label_tree stem)) empty))
    ∙ (ap (λ (n : ℕ). edges_along back total 0 (map label_tree stem) ++ edges_along back total n (map label_tree cycle)) begun
    ∙ (sym (edges_then back total 0 (map label_tree stem) (map label_tree cycle))
    ∙ (ap (λ (n : ℕ). edges_along n total 0 (map label_tree stem ++ map label_tree cycle)) back'
    ∙ ap (λ (n : ℕ). edges_along (length (map label_tree stem)) n 0 (map label_tree stem ++ map label_tree cycle)) total'))))

-- the automaton of these parts
pub made_automaton : (names names' : List (List ℕ)) (starts : List ℕ) (states : ℕ) (edges : List LabelledEdge) (f : FormulaTree) (stem cycle : List LabelTree) → names ≡ names' → starts ≡ 0 ∷ []
    → states ≡ length (stem ++ cycle) → edges ≡ (word_automaton (record { names = []; stem = stem; cycle = cycle })).edges → f ≡ formula.True
    → record { names = names; starts = starts; states = states; edges = edges; sets = 0; formula = f } ≡ word_automaton (record { names = names'; stem = stem; cycle = cycle })
made_automaton names names' starts states edges f stem cycle a b c d e =
    ap (λ (x : List (List ℕ)). record { names = x; starts = starts; states = states; edges = edges; sets = 0; formula = f }) a
    ∙ (ap (λ (x : List ℕ). record { names = names'; starts = x; states = states; edges = edges; sets = 0; formula = f }) b
    ∙ (ap (λ (x : ℕ). record { names = names'; starts = 0 ∷ []; states = x; edges = edges; sets = 0; formula = f }) c
    ∙ (ap (λ (x : List LabelledEdge). record { names = names'; starts = 0 ∷ []; states = length (stem ++ cycle); edges = x; sets = 0; formula = f }) d
    ∙ ap (λ (x : FormulaTree). record {
      names = names';
      starts = 0 ∷ [];
      states = length (stem ++ cycle);
      edges =
          (word_automaton (record { names = []; stem = stem; cycle = cycle })).edges;
      sets = 0;
      formula = x;
    }) e)))

-- automata that accept the same words have the same common words with another automaton
pub together : (p : WordPattern) (a c b : Automaton) → 0 < length p.cycle → AcceptTheSame a c → c ≡ word_automaton p → AcceptTogether a b ↔ AcceptsPattern p b
together p a c b some same is =
    let P : Automaton → Type 0 = λ x. AcceptTheSame a x in
    let like = subst P is same in
    let law = pattern_accepted p some b in (
      (λ t. law.0 (record { stem = t.stem; cycle = t.cycle; first = (like t.stem t.cycle).0 t.first; second = t.second })),
      λ m. (let t = law.1 m in record { stem = t.stem; cycle = t.cycle; first = (like t.stem t.cycle).1 t.first; second = t.second }),
    )

-- another edge raises the number of edges by one
pub one_more_edge : (before now : List Edge) (e : Edge) (n : ℕ) → now ≡ before ++ e ∷ [] → length before ≡ n → length now ≡ n + 1
one_more_edge before now e n added is = let sizes : length now ≡ length (before ++ e ∷ []) = ap (λ (es : List Edge). length es) added in omega (arith, length-append before (e ∷ []))
