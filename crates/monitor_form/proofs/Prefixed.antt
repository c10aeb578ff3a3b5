-- Why a monitor accepts just the words each of whose prefixes is a prefix of some accepted word.
use Rattle.std.proofs.Common.{◌≡◌, ◌∙◌, ◌<◌, ◌≤◌, ℕ, zero, suc, List, [], ◌∷◌, ◌++◌, Contains, ap, arith, inl, inr, length, map, refl, subst, sym}
use Rattle.std.proofs.lemmas.List.{append-nil, length-append}
use Rattle.aut_base.proofs.lists.Lists.{slice_get-append_left}
use Rattle.aut_base.proofs.lists.Members.{first_there, none_there, there_cases}
use Rattle.aut_base.proofs.runs.Paths.{path_join, path_split}
use Rattle.aut_base.proofs.words.Spelled.{stem_letter}
use Rattle.aut_base.specs.Acceptance.{Accepts, IsPath}
use Rattle.aut_base.specs.Automaton.{Automaton, LabelledEdge}
use Rattle.aut_base.specs.Formula.{met}
use Rattle.aut_base.specs.Word.{NameSet, copies}
use Rattle.aut_base.proofs.words.Turns.{letter_in}
use Rattle.monitor_form.proofs.LongPaths.{begins_with, long_path}
use Rattle.monitor_form.proofs.Stops.{Stops, loop_of, stops}
use Rattle.monitor_form.specs.Monitors.{AreLive, IsGoal, IsLive, TracksSubsets, MonitorAccepts, first_places, set_at}
use Rattle.monitor_form.specs.Prefixes.{HasPrefix}

first_found : (starts : List ℕ) (s : ℕ) → Contains (first_places starts) s → (q : ℕ) × Contains starts q × (s ≡ 0)
first_found [] s there = absurd (none_there s there)
first_found (q ∷ qs) s there = (q, first_there q qs, elim (there_cases 0 [] s there) [ inl e ↦ sym e | inr none ↦ absurd (none_there s none) ])

first_place : (starts : List ℕ) (q : ℕ) → Contains starts q → Contains (first_places starts) 0
first_place [] q there = absurd (none_there q there)
first_place (s ∷ ss) q there = first_there 0 []

some_sets : (sets : List (List ℕ)) (q : ℕ) → Contains (set_at sets 0) q → 0 < length sets
some_sets [] q there = absurd (none_there q there)
some_sets (set ∷ sets) q there = omega arith

module _ (b m : Automaton) (sets : List (List ℕ)) (is : TracksSubsets b m sets) where
  -- the set of this index isn't empty, and all its states are live
  record Good (i : ℕ) : Type 0 where
    below : i < length sets
    some : ℕ
    there : Contains (set_at sets i) some
    each : (q : ℕ) → Contains (set_at sets i) q → IsLive b q

  -- a path of b from a state of the set
  record Back (i : ℕ) (xs : List NameSet) (q : ℕ) : Type 0 where
    from : ℕ
    there : Contains (set_at sets i) from
    path_edges : List LabelledEdge
    leads : IsPath b from xs path_edges q

  record Followed (i j : ℕ) (xs : List NameSet) : Type 0 where
    good : Good j
    back : (q : ℕ) → Contains (set_at sets j) q → Back i xs q

  follow : AreLive b → (i j : ℕ) (xs : List NameSet) (es : List LabelledEdge) → IsPath m i xs es j → Good i → Followed i j xs
  follow live i j [] [] path good = record {
    good = subst Good path good;
    back = λ q there. record { from = q; there = subst (λ k. Contains (set_at sets k) q) (sym path) there; path_edges = []; leads = refl };
  }
  follow live i j [] (e ∷ es) path good = absurd path
  follow live i j (x ∷ xs) [] path good = absurd path
  follow live i j (x ∷ xs) (e ∷ es) path good =
      let move = is.steps e x path.1 path.2 in
      let next : Good e.to = record {
        below = move.below;
        some = move.some;
        there = move.there;
        each = λ q there. (let goal = (move.goals q).0 there in subst (IsLive b) goal.to (live.ends goal.edge goal.there));
      } in
      let rest = follow live e.to j xs es path.3 next in
      record {
        good = rest.good;
        back = λ q there. (let after = rest.back q there in let goal = (move.goals after.from).0 after.there in record {
          from = goal.edge.from;
          there = subst (λ k. Contains (set_at sets k) goal.edge.from) (sym path.0) goal.from;
          path_edges = goal.edge ∷ after.path_edges;
          leads = (refl, goal.there, goal.allowed, subst (λ p. IsPath b p xs after.path_edges q) (sym goal.to) after.leads);
        });
      }

  prefixed : AreLive b → (u v : List NameSet) → Accepts m u v → (n : ℕ) → HasPrefix b u v n
  prefixed live u v r n =
      let p = long_path m u v n r in
      let begun = first_found b.starts p.start (subst (λ ss. Contains ss p.start) is.starts p.is_start) in
      let start = (is.first begun.0).1 begun.1 in
      let read = u ++ copies p.stem_rounds v in
      let good : Good 0 = record { below = some_sets sets begun.0 start; some = begun.0; there = start; each = λ q there. live.starts q ((is.first q).0 there) } in
      let f = follow live 0 p.state read p.path_edges (subst (λ s. IsPath m s read p.path_edges p.state) begun.2 p.leads) good in
      let q = f.good.some in
      let l = f.good.each q f.good.there in
      let back = f.back q f.good.there in
      let stem = read ++ l.stem in
      record {
        stem = stem;
        cycle = l.round;
        accepted = record {
          endless = l.some;
          start = back.from;
          state = l.state;
          stem_rounds = 0;
          cycle_rounds = 1;
          path_edges = back.path_edges ++ l.path_edges;
          cycle = l.cycle;
          is_start = (is.first back.from).0 back.there;
          leads = subst (λ w. IsPath b back.from w (back.path_edges ++ l.path_edges) l.state) (sym (append-nil stem))
              (path_join b back.from q l.state read l.stem back.path_edges l.path_edges back.leads l.leads);
          positive = omega arith;
          returns = subst (λ w. IsPath b l.state w l.cycle l.state) (sym (append-nil l.round)) l.returns;
          meets = l.meets;
        };
        same = λ k within. (let inside : k < length read = omega (arith, within, p.long) in
            stem_letter stem l.round k (omega (arith, inside, length-append read l.stem)) ∙ (slice_get-append_left read l.stem k inside ∙ sym (letter_in u v p.stem_rounds k r.endless inside)));
      }

  -- a path of m
  record Onward (i : ℕ) (xs : List NameSet) : Type 0 where
    stop : ℕ
    path_edges : List LabelledEdge
    leads : IsPath m i xs path_edges stop

  forth : (i p q : ℕ) (xs : List NameSet) (es : List LabelledEdge) → i < length sets → Contains (set_at sets i) p → IsPath b p xs es q → Onward i xs
  forth i p q [] [] below there path = record { stop = i; path_edges = []; leads = refl }
  forth i p q [] (d ∷ ds) below there path = absurd path
  forth i p q (x ∷ xs) [] below there path = absurd path
  forth i p q (x ∷ xs) (d ∷ ds) below there path =
      let goal : IsGoal b (set_at sets i) x d.to = record { edge = d; there = path.1; from = subst (Contains (set_at sets i)) path.0 there; allowed = path.2; to = refl } in
      let one = is.total i x d.to below goal in
      let move = is.steps one.edge x one.there one.allowed in
      let inside = (move.goals d.to).1 (subst (λ k. IsGoal b (set_at sets k) x d.to) (sym one.from) goal) in
      let rest = forth one.edge.to d.to q xs ds move.below inside path.3 in
      record { stop = rest.stop; path_edges = one.edge ∷ rest.path_edges; leads = (sym one.from, one.there, one.allowed, rest.leads) }

  stays : (i j : ℕ) (xs : List NameSet) (es : List LabelledEdge) → IsPath m i xs es j → i < length sets → j < length sets
  stays i j [] [] path below = subst (λ k. k < length sets) path below
  stays i j [] (e ∷ es) path below = absurd path
  stays i j (x ∷ xs) [] path below = absurd path
  stays i j (x ∷ xs) (e ∷ es) path below = stays e.to j xs es path.3 (is.steps e x path.1 path.2).below

  stops_below : (v : List NameSet) (k p : ℕ) (s : Stops m v k p) → p < length sets → (i : ℕ) → i ≤ k → s.at i < length sets
  stops_below v k p s below zero within = subst (λ j. j < length sets) (sym s.first) below
  stops_below v k p s below (suc i) within = stays (s.at i) (s.at (suc i)) v (s.path_edges i) (s.leg i (omega (arith, within))) (stops_below v k p s below i (omega (arith, within)))

  closed : (u v : List NameSet) → 0 < length v → ((n : ℕ) → HasPrefix b u v n) → Accepts m u v
  closed u v some prefixes =
      let n = length sets in
      let read = u ++ copies n v in
      let h = prefixes (length read) in
      let p = long_path b h.stem h.cycle (length read) h.accepted in
      let all = h.stem ++ copies p.stem_rounds h.cycle in
      let begun = begins_with read all p.long (λ k within. (let inside : k < length all = omega (arith, within, p.long) in
      sym (letter_in h.stem h.cycle p.stem_rounds k h.accepted.endless inside) ∙ (h.same k within ∙ letter_in u v n k some within))) in
      let parts = path_split b p.start p.state read begun.rest p.path_edges (subst (λ w. IsPath b p.start w p.path_edges p.state) begun.is p.leads) in
      let there = (is.first p.start).1 p.is_start in
      let below = some_sets sets p.start there in
      let on = forth 0 p.start parts.middle read parts.front below there parts.first in
      let halves = path_split m 0 on.stop u (copies n v) on.path_edges on.leads in
      let low = stays 0 halves.middle u halves.front halves.first below in
      let s = stops m v n halves.middle on.stop halves.back halves.second in
      let loop = loop_of m v n halves.middle s (stops_below v n halves.middle s low) in
      record {
        endless = some;
        start = 0;
        state = loop.state;
        stem_rounds = loop.before;
        cycle_rounds = loop.more;
        path_edges = halves.front ++ loop.path_edges;
        cycle = loop.cycle;
        is_start = subst (λ ss. Contains ss 0) (sym is.starts) (first_place b.starts p.start p.is_start);
        leads = path_join m 0 halves.middle loop.state u (copies loop.before v) halves.front loop.path_edges halves.first loop.leads;
        positive = loop.positive;
        returns = loop.returns;
        meets = ap (met (map (λ (d : LabelledEdge). d.marks) loop.cycle)) is.formula;
      }

pub monitor_accepts : MonitorAccepts
monitor_accepts b m sets live is u v some = (prefixed b m sets is live u v, closed b m sets is u v some)
