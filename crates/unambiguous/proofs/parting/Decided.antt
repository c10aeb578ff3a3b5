-- An automaton is unambiguous exactly where its square, started in the pairs in which two runs may have diverged, accepts
-- no lasso word.
use Rattle.std.proofs.Common.{◌≡◌, ◌≢◌, ◌∙◌, ◌↔◌, ◌==◌, ◌&&◌, IsTrue, suc, ℕ, ◌+◌, ◌*◌, ◌<◌, ◌≤◌, Bool, true, false, not, List, [], ◌∷◌, ◌++◌, Contains, Some, ap, arith, drop, inl, inr}
use Rattle.std.proofs.Common.{length, length-append, length-take, map, refl, slice_get, subst, sym, take}
use Rattle.std.proofs.Math.Nat.{le-mul_of_pos_right, mul_comm}
use Rattle.std.proofs.lemmas.Bool.{and_from, and_parts, cases_eq, cases_lt, eq-eqb, eqb-true, false≢true, ne_eqb, or_cases, or_left, or_right}
use Rattle.std.proofs.lemmas.List.{append-nil, length-map}
use Rattle.std.proofs.lemmas.Option.{same_Some, slice_get-map, slice_get_within}
use Rattle.std.specs.Option.{option_map}
use Rattle.aut_base.proofs.canonical.CanonicalBelow.{label_of_below}
use Rattle.aut_base.proofs.lists.Copies.{length-copies}
use Rattle.aut_base.proofs.lists.Lists.{slice_get-at, split-at}
use Rattle.aut_base.proofs.lists.Members.{first_there, found_there, item_at, none_there, placed_there, there_at, there_cases, there_found}
use Rattle.aut_base.proofs.runs.OtherEdges.{accepts_wider}
use Rattle.aut_base.specs.Acceptance.{Accepts}
use Rattle.aut_base.specs.Automaton.{Automaton, LabelledEdge}
use Rattle.aut_base.specs.Formula.{met}
use Rattle.aut_base.specs.Label.{AllBelow, LabelTree, holds_at, truth}
use Rattle.aut_base.specs.Valuation.{letter_of, truth_on}
use Rattle.aut_base.specs.Word.{NameSet, copies, nth}
use Rattle.aut_core.specs.SymbolicAutomata.{SymbolicAutomaton, IsWellFormedSymbolic, automaton_of, edge_of}
use Rattle.aut_core.specs.declared.link.Link.{Link}
use Rattle.aut_ops.proofs.links.Labels.{not_never, some_letter, truth_both}
use Rattle.aut_ops.proofs.pairs.BreadthFirst.{listed_exactly}
use Rattle.aut_ops.proofs.pairs.Laws.{reached_by_letters}
use Rattle.aut_ops.proofs.pairs.Places.{pair_tells}
use Rattle.aut_ops.specs.Labels.{both_labels, is_never}
use Rattle.aut_ops.specs.Languages.{begun}
use Rattle.aut_ops.specs.Products.{next_pairs, same_pair, start_pairs}
use Rattle.aut_core.proofs.Made.{label_in_below}
use Rattle.label_guards.specs.Store.{label_in}
use Rattle.lasso_emptiness.specs.Emptiness.{AcceptsNothing, AcceptsSome}
use Rattle.unambiguous.proofs.parting.Tails.{AreLed, Tail, begin_alike, from_one, from_tail, nth_behind, nth_first, tail_before, to_tail}
use Rattle.unambiguous.proofs.tracks.Accepted.{gone, placed, run_meets, run_of}
use Rattle.unambiguous.proofs.tracks.Tracks.{IsEdgePath, Likewise, Run, as_long, edge_marks, later, some_edges, track_join, track_split}
use Rattle.unambiguous.specs.Laws.{PartedDecides}
use Rattle.unambiguous.specs.Parted.{AreTwins, IsParted, do_meet, flag, parts}
use Rattle.unambiguous.specs.Runs.{AcceptingRun, IsUnambiguous}

not_true : (b : Bool) → not b ≡ true → b ≡ false
not_true true e = absurd (false≢true e)
not_true false e = refl

parts_differ : (flags : List Bool) (p q : ℕ) → p ≢ q → parts flags (p, q) ≡ true
parts_differ flags p q apart = or_left (not (p == q)) (flag flags p) (ap not (ne_eqb p q apart))

parts_flagged : (flags : List Bool) (p q : ℕ) → flag flags p ≡ true → parts flags (p, q) ≡ true
parts_flagged flags p q is = or_right (not (p == q)) (flag flags p) is

parts_one : (flags : List Bool) (p q : ℕ) → p ≡ q → parts flags (p, q) ≡ true → flag flags p ≡ true
parts_one flags p q same parts = elim (or_cases (not (p == q)) (flag flags p) parts) [
  | inl apart ↦ absurd (false≢true (sym (ap not (eq-eqb p q same)) ∙ apart))
  | inr flagged ↦ flagged
]

-- a track split at one of its edges
record Cut (a : Automaton) (p q : ℕ) (xs : List NameSet) (y : NameSet) (ys : List NameSet) (ms : List ℕ) : Type 0 where
  middle : ℕ
  front : List ℕ
  place : ℕ
  edge : LabelledEdge
  back : List ℕ
  whole : ms ≡ front ++ place ∷ back
  first : IsEdgePath a p xs front middle
  at : slice_get a.edges place ≡ Some edge
  from : middle ≡ edge.from
  holds : truth (holds_at a.names y) edge.label ≡ true
  rest : IsEdgePath a edge.to ys back q

cut : (a : Automaton) (p q : ℕ) (xs : List NameSet) (y : NameSet) (ys : List NameSet) (ms : List ℕ) → IsEdgePath a p (xs ++ y ∷ ys) ms q → Cut a p q xs y ys ms
cut a p q xs y ys ms track =
    let halves = track_split a p q xs (y ∷ ys) ms track in
    by_cases halves.middle halves.front halves.back halves.parts halves.first halves.second
  where
    by_cases : (middle : ℕ) (front back : List ℕ) → ms ≡ front ++ back → IsEdgePath a p xs front middle → IsEdgePath a middle (y ∷ ys) back q → Cut a p q xs y ys ms
    by_cases middle front [] whole first second = absurd second
    by_cases middle front (m ∷ back) whole first second = record {
      middle = middle;
      front = front;
      place = m;
      edge = second.0;
      back = back;
      whole = whole;
      first = first;
      at = second.1;
      from = second.2;
      holds = second.3;
      rest = second.4;
    }

module _ (a : SymbolicAutomaton) (s : Automaton) (core : IsWellFormedSymbolic a) (parted : IsParted a s) where
  abbrev x : Automaton
  x = automaton_of a

  -- the pairs are those to which two tracks over the same letters lead

  led_there : (p q : ℕ) → AreLed x p q → Contains parted.pairs (p, q)
  led_there p q led =
      let one = gone x led.first p led.letters led.path_edges led.leads in
      let two = gone x led.second q led.letters led.other led.leads_too in
      (listed_exactly same_pair pair_tells (start_pairs x x) (next_pairs x x) parted.pairs parted.listed (p, q)).1
      ((reached_by_letters x x refl core.well_formed core.well_formed (p, q)).1 (record {
        letters = led.letters;
        first = led.first;
        second = led.second;
        is_first = led.is_first;
        is_second = led.is_second;
        path_edges = one.edges;
        other = two.edges;
        leads = one.path;
        leads_too = two.path;
      }))

  there_led : (p q : ℕ) → Contains parted.pairs (p, q) → AreLed x p q
  there_led p q there =
      let led = (reached_by_letters x x refl core.well_formed core.well_formed (p, q)).0
      ((listed_exactly same_pair pair_tells (start_pairs x x) (next_pairs x x) parted.pairs parted.listed (p, q)).0 there) in
      let one = placed x led.first p led.letters led.path_edges led.leads in
      let two = placed x led.second q led.letters led.other led.leads_too in
      record {
        letters = led.letters;
        first = led.first;
        second = led.second;
        is_first = led.is_first;
        is_second = led.is_second;
        path_edges = one.places;
        other = two.places;
        leads = one.track;
        leads_too = two.track;
      }

  -- twins

  below : (l : Link) → AllBelow (length a.names) (label_in a.store l.guard)
  below l = subst (λ n. AllBelow n (label_in a.store l.guard)) core.parts.store_names (label_in_below a.store l.guard)

  both_hold : (l m : Link) (holds : ℕ → Bool) → truth holds (both_labels (length a.names) (label_in a.store l.guard) (label_in a.store m.guard))
      ≡ (truth holds (label_in a.store l.guard) && truth holds (label_in a.store m.guard))
  both_hold l m holds = truth_both (length a.names) holds (label_in a.store l.guard) (label_in a.store m.guard) (below l) (below m)

  both_below : (l m : Link) → AllBelow (length a.names) (both_labels (length a.names) (label_in a.store l.guard) (label_in a.store m.guard))
  both_below l m = label_of_below (length a.names) (λ v. truth_on (label_in a.store l.guard) v && truth_on (label_in a.store m.guard) v)

  meet_is : (l m : Link) → do_meet a.store l m
      ≡ ((l.to == m.to) && not (is_never (length a.names) (both_labels (length a.names) (label_in a.store l.guard) (label_in a.store m.guard))))
  meet_is l m = λ i. (l.to == m.to)
      && not (is_never (core.parts.store_names i) (both_labels (core.parts.store_names i) (label_in a.store l.guard) (label_in a.store m.guard)))

  edge_at : (m : ℕ) (l : Link) → slice_get a.links m ≡ Some l → slice_get x.edges m ≡ Some (edge_of a.store l)
  edge_at m l at = slice_get-map (edge_of a.store) a.links m ∙ ap (option_map (edge_of a.store)) at

  link_at : (m : ℕ) (e : LabelledEdge) → slice_get x.edges m ≡ Some e → (l : Link) × (slice_get a.links m ≡ Some l) × (edge_of a.store l ≡ e)
  link_at m e at =
      let within : m < length a.links = omega (arith, length-map a.links (edge_of a.store), slice_get_within x.edges m e at) in
      let l = item_at a.links m within in
      let here = slice_get-at a.links m l.0 within (sym l.1) in
      (l.0, here, same_Some (edge_of a.store l.0) e (sym (edge_at m l.0 here) ∙ at))

  -- in an unambiguous automaton no accepting run continues from the target of twins
  none_behind : IsUnambiguous x → (q : ℕ) (u v : List NameSet) → 0 < length v → Tail x q u v → (m n : ℕ) → AreTwins a parted.pairs m n q → ⊥
  none_behind alone q u v endless t m n twins =
      let l = twins.first in
      let k = twins.second in
      let labels : LabelTree = both_labels (length a.names) (label_in a.store l.guard) (label_in a.store k.guard) in
      let one = and_parts (l.to == k.to) (not (is_never (length a.names) labels)) (sym (meet_is l k) ∙ twins.meet) in
      let ends : l.to ≡ k.to = eqb-true l.to k.to one.0 in
      let led = there_led l.from l.from (found_there same_pair pair_tells (l.from, l.from) parted.pairs twins.doubled) in
      let some = some_letter a.names labels core.well_formed.names_differ (both_below l k) (not_true (is_never (length a.names) labels) one.1) in
      let letter : NameSet = letter_of a.names some.0 in
      let holds = holds_at a.names letter in
      let hold = and_parts (truth holds (label_in a.store l.guard)) (truth holds (label_in a.store k.guard)) (sym (both_hold l k holds) ∙ some.1) in
      let mine : Tail x l.to u v = subst (λ p. Tail x p u v) (sym twins.to) t in
      let his : Tail x k.to u v = subst (λ p. Tail x p u v) (sym twins.to ∙ ends) t in
      let first = tail_before x l.from m letter (edge_of a.store l) u v (edge_at m l twins.at) refl hold.0 mine in
      let second = tail_before x l.from n letter (edge_of a.store k) u v (edge_at n k twins.other_at) (sym twins.from) hold.1 his in
      let places : m ≡ n = same_Some m n (sym (nth_first m mine.path_edges mine.cycle)
      ∙ (begin_alike x (letter ∷ u) v endless alone l.from l.from led first second ∙ nth_first n his.path_edges his.cycle)) in
      omega (arith, places, twins.before)

  accepts_none : IsUnambiguous x → AcceptsNothing s
  accepts_none alone u v r =
      let k = r.start in
      let start = parted.starts.sound k r.is_start in
      let within : k < length parted.pairs = start.0 in
      let pair = item_at parted.pairs k within in
      let p = pair.0.0 in
      let q = pair.0.1 in
      let at : slice_get parted.pairs k ≡ Some (p, q) = slice_get-at parted.pairs k pair.0 within (sym pair.1) in
      let both = (parted.pairwise k p q at u v).0 (accepts_wider s (begun k s) refl (λ e there. there) u v r (first_there k []) r.meets) in
      let t = to_tail x p u v both.0 in
      let led = there_led p q (placed_there parted.pairs k (p, q) at) in
      let same : p ≡ q = from_one x u v r.endless p q t (to_tail x q u v both.1) (begin_alike x u v r.endless alone p q led t (to_tail x q u v both.1)) in
      let flagged = parts_one parted.flags p q same (start.1 (p, q) at) in
      let twins = parted.ends.sound p flagged in
      none_behind alone p u v r.endless t twins.0 twins.1 twins.2

  -- from where two runs diverge, the square accepts the rest of the word

  accepted : (p q : ℕ) (u v : List NameSet) → 0 < length v → AreLed x p q → Tail x p u v → Tail x q u v → parts parted.flags (p, q) ≡ true → Accepts s u v
  accepted p q u v endless led t r apart =
      let at = there_at parted.pairs (p, q) (led_there p q led) in
      let is_start = parted.starts.whole at.0 (p, q) (slice_get_within parted.pairs at.0 (p, q) at.1) at.1 apart in
      let run = (parted.pairwise at.0 p q at.1 u v).1 (from_tail x p u v endless t, from_tail x q u v endless r) in
      let start : at.0 ≡ run.start = elim (there_cases at.0 [] run.start run.is_start) [ inl is ↦ is | inr none ↦ absurd (none_there run.start none) ] in
      accepts_wider (begun at.0 s) s refl (λ e there. there) u v run (subst (λ k. Contains s.starts k) start is_start) run.meets

  twins_at : (m n : ℕ) (e f : LabelledEdge) (letter : NameSet) → slice_get x.edges m ≡ Some e → slice_get x.edges n ≡ Some f → m < n → AreLed x e.from f.from → f.from ≡ e.from → e.to ≡ f.to
      → truth (holds_at a.names letter) e.label ≡ true → truth (holds_at a.names letter) f.label ≡ true → flag parted.flags e.to ≡ true
  twins_at m n e f letter at other_at before led from ends first second =
      let one = link_at m e at in
      let two = link_at n f other_at in
      let l = one.0 in
      let k = two.0 in
      let labels : LabelTree = both_labels (length a.names) (label_in a.store l.guard) (label_in a.store k.guard) in
      let holds = holds_at a.names letter in
      let l_from : l.from ≡ e.from = ap (λ (d : LabelledEdge). d.from) one.2 in
      let k_from : k.from ≡ f.from = ap (λ (d : LabelledEdge). d.from) two.2 in
      let l_to : l.to ≡ e.to = ap (λ (d : LabelledEdge). d.to) one.2 in
      let k_to : k.to ≡ f.to = ap (λ (d : LabelledEdge). d.to) two.2 in
      let there : Contains parted.pairs (l.from, l.from) = subst (λ pair. Contains parted.pairs pair) (λ i. (sym l_from i, (from ∙ sym l_from) i)) (led_there e.from f.from led) in
      let hold = both_hold l k holds ∙ and_from (truth holds (label_in a.store l.guard)) (truth holds (label_in a.store k.guard))
      (ap (λ (d : LabelledEdge). truth holds d.label) one.2 ∙ first) (ap (λ (d : LabelledEdge). truth holds d.label) two.2 ∙ second) in
      let never = not_never (length a.names) holds labels (both_below l k) hold in
      parted.flagged m n e.to (slice_get_within a.links m l one.1) (record {
        first = l;
        second = k;
        at = one.1;
        other_at = two.1;
        before = before;
        from = k_from ∙ (from ∙ sym l_from);
        to = l_to;
        doubled = there_found same_pair pair_tells (l.from, l.from) parted.pairs there;
        meet = meet_is l k ∙ and_from (l.to == k.to) (not (is_never (length a.names) labels)) (eq-eqb l.to k.to (l_to ∙ (ends ∙ sym k_to))) (ap not never);
      })

  twins_both : (m n : ℕ) (e f : LabelledEdge) (letter : NameSet) → slice_get x.edges m ≡ Some e → slice_get x.edges n ≡ Some f → m ≢ n → AreLed x e.from f.from → f.from ≡ e.from → e.to ≡ f.to
      → truth (holds_at a.names letter) e.label ≡ true → truth (holds_at a.names letter) f.label ≡ true → flag parted.flags e.to ≡ true
  twins_both m n e f letter at other_at other led from ends first second = elim (cases_lt m n) [
    | inl before ↦ twins_at m n e f letter at other_at before led from ends first second
    | inr later ↦ ap (flag parted.flags) ends ∙ twins_at n m f e letter other_at at (omega (arith, later, other)) (subst (λ q. AreLed x f.from q) from (subst (λ p. AreLed x p f.from) (sym from) led))
        (sym from) (sym ends) second first
  ]

  module _ (none : AcceptsNothing s) (u v : List NameSet) (endless : 0 < length v) where
    -- the rest of a run after a prefix of it
    rest_of : (stem_rounds cycle_rounds p : ℕ) (ys : List NameSet) (back : List ℕ) (r : Run x u v stem_rounds cycle_rounds) → 0 < cycle_rounds → met (map (edge_marks x) r.cycle) x.formula ≡ true
        → IsEdgePath x p ys back r.state → Tail x p ys v
    rest_of stem_rounds cycle_rounds p ys back r positive meets track = record {
      state = r.state;
      stem_rounds = 0;
      cycle_rounds = cycle_rounds;
      path_edges = back;
      cycle = r.cycle;
      leads = subst (λ w. IsEdgePath x p w back r.state) (sym (append-nil ys)) track;
      positive = positive;
      returns = r.returns;
      meets = meets;
    }

    -- both have the same edge at the same position
    one_place : (stem_rounds cycle_rounds n : ℕ) → 0 < cycle_rounds → n < stem_rounds → (r t : Run x u v stem_rounds cycle_rounds) → met (map (edge_marks x) r.cycle) x.formula ≡ true
        → met (map (edge_marks x) t.cycle) x.formula ≡ true
        → nth r.path_edges r.cycle n ≡ nth t.path_edges t.cycle n
    one_place stem_rounds cycle_rounds n positive soon r t meets meets_too =
        let word : List NameSet = u ++ copies stem_rounds v in
        let wide : stem_rounds ≤ stem_rounds * length v = le-mul_of_pos_right stem_rounds endless in
        let within : n < length word = omega (arith, length-append u (copies stem_rounds v), length-copies stem_rounds v, wide, soon) in
        let item = item_at word n within in
        let y = item.0 in
        let xs = take n word in
        let ys = drop (n + 1) word in
        let is : word ≡ xs ++ y ∷ ys = split-at word n y within (sym item.1) in
        let mine = cut x r.start r.state xs y ys r.path_edges (subst (λ w. IsEdgePath x r.start w r.path_edges r.state) is r.leads) in
        let his = cut x t.start t.state xs y ys t.path_edges (subst (λ w. IsEdgePath x t.start w t.path_edges t.state) is t.leads) in
        let size : length xs ≡ n = omega (arith, within, length-take n word) in
        let long : n ≡ length mine.front + 0 = omega (arith, as_long x r.start xs mine.front mine.middle mine.first, size) in
        let long_too : n ≡ length his.front + 0 = omega (arith, as_long x t.start xs his.front his.middle his.first, size) in
        let some = some_edges x u v endless r.state r.state cycle_rounds r.cycle positive r.returns in
        let some_too = some_edges x u v endless t.state t.state cycle_rounds t.cycle positive t.returns in
        let at : nth r.path_edges r.cycle n ≡ Some mine.place =
        (λ i. nth (mine.whole i) r.cycle (long i)) ∙ (nth_behind mine.front (mine.place ∷ mine.back) r.cycle 0 some ∙ nth_first mine.place mine.back r.cycle) in
        let at_too : nth t.path_edges t.cycle n ≡ Some his.place =
        (λ i. nth (his.whole i) t.cycle (long_too i)) ∙ (nth_behind his.front (his.place ∷ his.back) t.cycle 0 some_too ∙ nth_first his.place his.back t.cycle) in
        let tail = rest_of stem_rounds cycle_rounds mine.edge.to ys mine.back r positive meets mine.rest in
        let tail_too = rest_of stem_rounds cycle_rounds his.edge.to ys his.back t positive meets_too his.rest in
        let led : AreLed x mine.middle his.middle = record {
          letters = xs;
          first = r.start;
          second = t.start;
          is_first = r.is_start;
          is_second = t.is_start;
          path_edges = mine.front;
          other = his.front;
          leads = mine.first;
          leads_too = his.first;
        } in
        let led_on : AreLed x mine.edge.to his.edge.to = record {
          letters = xs ++ y ∷ [];
          first = r.start;
          second = t.start;
          is_first = r.is_start;
          is_second = t.is_start;
          path_edges = mine.front ++ mine.place ∷ [];
          other = his.front ++ his.place ∷ [];
          leads = track_join x r.start mine.middle mine.edge.to xs (y ∷ []) mine.front (mine.place ∷ []) mine.first (mine.edge, mine.at, mine.from, mine.holds, refl);
          leads_too = track_join x t.start his.middle his.edge.to xs (y ∷ []) his.front (his.place ∷ []) his.first (his.edge, his.at, his.from, his.holds, refl);
        } in
        let apart : mine.place ≢ his.place → ⊥ = λ other. elim (cases_eq mine.middle his.middle) [
          | inl same ↦ none ys v (accepted mine.edge.to his.edge.to ys v endless led_on tail tail_too (elim (cases_eq mine.edge.to his.edge.to) [
            | inl ends ↦ parts_flagged parted.flags mine.edge.to his.edge.to (twins_both mine.place his.place mine.edge his.edge y mine.at his.at other
                (subst (λ p. AreLed x p his.edge.from) mine.from (subst (λ q. AreLed x mine.middle q) his.from led)) (sym his.from ∙ (sym same ∙ mine.from)) ends mine.holds his.holds)
            | inr differ ↦ parts_differ parted.flags mine.edge.to his.edge.to differ
          ]))
          | inr differ ↦ none (y ∷ ys) v (accepted mine.middle his.middle (y ∷ ys) v endless led (tail_before x mine.middle mine.place y mine.edge ys v mine.at mine.from mine.holds tail)
              (tail_before x his.middle his.place y his.edge ys v his.at his.from his.holds tail_too) (parts_differ parted.flags mine.middle his.middle differ))
        ] in
        at ∙ (elim (cases_eq mine.place his.place) [ inl same ↦ ap Some same | inr other ↦ absurd (apart other) ] ∙ sym at_too)

    same_edges : (r t : AcceptingRun x u v) (n : ℕ) → nth r.path_edges r.cycle n ≡ nth t.path_edges t.cycle n
    same_edges r t n =
        let one = r.accepted in
        let two = t.accepted in
        let mine = later x u v endless one.stem_rounds one.cycle_rounds (two.stem_rounds + suc n) two.cycle_rounds (run_of x u v r) one.positive two.positive in
        let his = later x u v endless two.stem_rounds two.cycle_rounds (one.stem_rounds + suc n) one.cycle_rounds (run_of x u v t) two.positive one.positive in
        let stem_rounds : two.stem_rounds + (one.stem_rounds + suc n) ≡ one.stem_rounds + (two.stem_rounds + suc n) = omega arith in
        let other = subst (λ k. Likewise x u v k (two.cycle_rounds * one.cycle_rounds) t.path_edges t.cycle) stem_rounds
        (subst (λ m. Likewise x u v (two.stem_rounds + (one.stem_rounds + suc n)) m t.path_edges t.cycle) (mul_comm one.cycle_rounds two.cycle_rounds) his) in
        let wide : two.cycle_rounds ≤ two.cycle_rounds * one.cycle_rounds = le-mul_of_pos_right two.cycle_rounds one.positive in
        sym (mine.same n) ∙ (one_place (one.stem_rounds + (two.stem_rounds + suc n)) (two.cycle_rounds * one.cycle_rounds) n (omega (arith, wide, two.positive)) (omega arith) mine.run other.run
        (mine.alike x.formula ∙ run_meets x u v r)
        (other.alike x.formula ∙ run_meets x u v t) ∙ other.same n)

pub parted_decides : PartedDecides
parted_decides a s core parted = ((λ none u v r t n. same_edges a s core parted none u v r.accepted.endless r t n), accepts_none a s core parted)

-- so the automaton is unambiguous where no word of the square is found
pub verdict : (a : SymbolicAutomaton) (s : Automaton) (found : Bool) → IsWellFormedSymbolic a → IsParted a s → (IsTrue found ↔ AcceptsSome s) → IsTrue (not found) ↔ IsUnambiguous (automaton_of a)
verdict a s true core parted says =
    (λ none. absurd (false≢true none), λ alone. (let word = says.0 refl in absurd ((parted_decides a s core parted).1 alone word.stem word.cycle word.accepts)))
verdict a s false core parted says = (λ _. (parted_decides a s core parted).0 (λ u v r. false≢true (says.1 (record { stem = u; cycle = v; accepts = r }))), λ _. refl)
