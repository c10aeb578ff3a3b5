-- Runs of a product are pairs of runs of the two automata.
use Rattle.std.proofs.Common.{◌≡◌, ◌∙◌, ◌&&◌, ◌+◌, ◌*◌, ◌<◌, ◌≤◌, ℕ, true, List, [], ◌∷◌, ◌++◌, Contains, Some, ap, arith, length, refl, slice_get, subst, sym}
use Rattle.std.proofs.Math.Nat.{le-mul_of_pos_right, mul_comm}
use Rattle.std.proofs.lemmas.Bool.{and_from, and_parts}
use Rattle.std.proofs.lemmas.List.Elements.{All-contains}
use Rattle.std.proofs.lemmas.Option.{get_or_from_slice_get, same_Some, slice_get_within}
use Rattle.std.specs.List.{AllZip, position_or_len}
use Rattle.acc_forms.specs.Shift.{shift}
use Rattle.aut_base.proofs.canonical.CanonicalBelow.{label_of_below}
use Rattle.aut_base.proofs.lists.Members.{from_map, there_map}
use Rattle.aut_base.specs.Acceptance.{IsPath}
use Rattle.aut_base.specs.Automaton.{Automaton, IsEdgeOf, IsWellFormed, LabelledEdge}
use Rattle.aut_base.specs.Formula.{FormulaTree, SetsBelow, met}
use Rattle.aut_base.specs.Label.{AllBelow, LabelTree, holds_at, truth}
use Rattle.aut_base.specs.Valuation.{truth_on}
use Rattle.aut_base.specs.Word.{NameSet, copies}
use Rattle.aut_ops.proofs.following.CycleMarks.{AgreeBelow, AgreeRaised, joint_first, joint_second, met_below, met_raised}
use Rattle.aut_ops.proofs.joint_runs.JointEdges.{EdgeOf, edge_of, edge_there, from_start, joined, next_there, pairs_differ, start_there, there_start}
use Rattle.aut_ops.proofs.links.Labels.{not_never, truth_both}
use Rattle.aut_base.proofs.runs.LassoRuns.{Likewise, later, marks_of}
use Rattle.aut_base.specs.Runs.{LassoRun}
use Rattle.aut_ops.proofs.pairs.Places.{one_place, pair_tells, place_there}
use Rattle.aut_ops.proofs.following.Simulations.{Simulates, run_image}
use Rattle.aut_ops.specs.Labels.{both_labels}
use Rattle.aut_ops.specs.Products.{ArePairs, numbered, product_on, same_pair, start_pairs}

-- a run of the product that is made of runs of both, with their cycles
pub record JointRun (a b p : Automaton) (u v : List NameSet) (stem_rounds cycle_rounds : ℕ) (firsts seconds : List LabelledEdge) : Type 0 where
  pub run : LassoRun p u v stem_rounds cycle_rounds
  pub first : (f : FormulaTree) → SetsBelow a.sets f → met (marks_of run.cycle) f ≡ met (marks_of firsts) f
  pub second : (f : FormulaTree) → SetsBelow b.sets f → met (marks_of run.cycle) (shift a.sets f) ≡ met (marks_of seconds) f

module _ (join : FormulaTree → FormulaTree → FormulaTree) (a b : Automaton) (names : b.names ≡ a.names) (formed : IsWellFormed a) (also : IsWellFormed b) (pairs : List (ℕ × ℕ))
    (listed : ArePairs a b pairs) where
  abbrev p : Automaton
  p = product_on join pairs a b

  edge_of_first : (e : LabelledEdge) → Contains a.edges e → IsEdgeOf a e
  edge_of_first e there = All-contains (IsEdgeOf a) a.edges e formed.edges there

  edge_of_second : (e : LabelledEdge) → Contains b.edges e → IsEdgeOf b e
  edge_of_second e there = All-contains (IsEdgeOf b) b.edges e also.edges there

  second_below : (e : LabelledEdge) → Contains b.edges e → AllBelow (length a.names) e.label
  second_below e there = subst (λ (ns : List (List ℕ)). AllBelow (length ns) e.label) names (edge_of_second e there).label

  -- both labels hold
  both_hold : (x : NameSet) (d e : LabelledEdge) → Contains a.edges d → Contains b.edges e
      → truth (holds_at a.names x) (both_labels (length a.names) d.label e.label) ≡ (truth (holds_at a.names x) d.label && truth (holds_at b.names x) e.label)
  both_hold x d e one two =
      truth_both (length a.names) (holds_at a.names x) d.label e.label (edge_of_first d one).label (second_below e two)
      ∙ ap (λ ns. truth (holds_at a.names x) d.label && truth (holds_at ns x) e.label) (sym names)

  -- each of the two simulates the product

  abbrev pub FirstOf : ℕ → ℕ → Type 0
  FirstOf k q = (r : ℕ) × (slice_get pairs k ≡ Some (q, r))

  abbrev pub SecondOf : ℕ → ℕ → Type 0
  SecondOf k q = (r : ℕ) × (slice_get pairs k ≡ Some (r, q))

  -- an edge of the product whose label holds of a letter is made of an edge of each, whose labels hold of it
  record Gone (e : LabelledEdge) (x : NameSet) (s t : ℕ) : Type 0 where
    of : EdgeOf a b pairs listed e
    first_from : s ≡ of.first.from
    second_from : t ≡ of.second.from
    first_holds : truth (holds_at a.names x) of.first.label ≡ true
    second_holds : truth (holds_at b.names x) of.second.label ≡ true

  gone : (k s t : ℕ) (e : LabelledEdge) (x : NameSet) → slice_get pairs k ≡ Some (s, t) → k ≡ e.from → Contains p.edges e → truth (holds_at p.names x) e.label ≡ true → Gone e x s t
  gone k s t e x stands at there holds =
      let of = edge_of a b pairs listed e there in
      let both = and_parts (truth (holds_at a.names x) of.first.label) (truth (holds_at b.names x) of.second.label) (sym (both_hold x of.first of.second of.in_first of.in_second)
      ∙ (ap (λ (l : LabelTree). truth (holds_at a.names x) l) of.label ∙ holds)) in
      let same : (s, t) ≡ (of.first.from, of.second.from) = same_Some (s, t) (of.first.from, of.second.from) (sym stands ∙ (ap (slice_get pairs) at ∙ of.from)) in
      record {
        of = of;
        first_from = ap (λ (y : ℕ × ℕ). y.0) same;
        second_from = ap (λ (y : ℕ × ℕ). y.1) same;
        first_holds = both.0;
        second_holds = both.1;
      }

  pub product_in_first : Simulates p a FirstOf (AgreeBelow a.sets)
  product_in_first = record {
    one = λ k q r s t. ap (λ (x : ℕ × ℕ). x.0) (same_Some (q, s.0) (r, t.0) (sym s.1 ∙ t.1));
    step = λ k q e x stands at there holds.
        let both = gone k q stands.0 e x stands.1 at there holds in
        let of = both.of in
        record {
          edge = of.first;
          from = both.first_from;
          there = of.in_first;
          holds = both.first_holds;
          to = (of.second.to, of.to);
          marks = subst (λ ms. AgreeBelow a.sets ms of.first.marks) of.marks (joint_first a.sets of.first.marks of.second.marks);
        };
  }

  pub product_in_second : Simulates p b SecondOf (AgreeRaised a.sets b.sets)
  product_in_second = record {
    one = λ k q r s t. ap (λ (x : ℕ × ℕ). x.1) (same_Some (s.0, q) (t.0, r) (sym s.1 ∙ t.1));
    step = λ k q e x stands at there holds.
        let both = gone k stands.0 q e x stands.1 at there holds in
        let of = both.of in
        record {
          edge = of.second;
          from = both.second_from;
          there = of.in_second;
          holds = both.second_holds;
          to = (of.first.to, of.to);
          marks = subst (λ ms. AgreeRaised a.sets b.sets ms of.second.marks) of.marks (joint_second a.sets b.sets of.first.marks of.second.marks (edge_of_first of.first of.in_first).marks);
        };
  }

  -- and two paths that read the same letters are a path of the product

  pub record PairPath (k : ℕ) (xs : List NameSet) (es fs : List LabelledEdge) (s t : ℕ) : Type 0 where
    pub state : ℕ
    pub edges : List LabelledEdge
    pub goes : IsPath p k xs edges state
    pub to : slice_get pairs state ≡ Some (s, t)
    pub firsts : AllZip (AgreeBelow a.sets) (marks_of edges) (marks_of es)
    pub seconds : AllZip (AgreeRaised a.sets b.sets) (marks_of edges) (marks_of fs)

  there_at : (k : ℕ) (x : ℕ × ℕ) → slice_get pairs k ≡ Some x → Contains pairs x
  there_at k x at = (k, slice_get_within pairs k x at, get_or_from_slice_get pairs k x x at)

  pub pair_path : (k s t s' t' : ℕ) (xs : List NameSet) (es fs : List LabelledEdge) → slice_get pairs k ≡ Some (s, t) → IsPath a s xs es s' → IsPath b t xs fs t' → PairPath k xs es fs s' t'
  pair_path k s t s' t' [] [] [] at one two = record { state = k; edges = []; goes = refl; to = at ∙ (λ i. Some (one i, two i)); firsts = tt; seconds = tt }
  pair_path k s t s' t' [] (e ∷ es) fs at one two = absurd one
  pair_path k s t s' t' [] [] (f ∷ fs) at one two = absurd two
  pair_path k s t s' t' (x ∷ xs) [] fs at one two = absurd one
  pair_path k s t s' t' (x ∷ xs) (e ∷ es) [] at one two = absurd two
  pair_path k s t s' t' (x ∷ xs) (e ∷ es) (f ∷ fs) at one two =
      let here = there_at k (s, t) at in
      let holds = both_hold x e f one.1 two.1 ∙ and_from (truth (holds_at a.names x) e.label) (truth (holds_at b.names x) f.label) one.2 two.2 in
      let some = not_never (length a.names) (holds_at a.names x) (both_labels (length a.names) e.label f.label)
      (label_of_below (length a.names) (λ v. truth_on e.label v && truth_on f.label v)) holds in
      let next = next_there a b pairs listed (s, t) e f here one.1 two.1 (sym one.0) (sym two.0) some in
      let edge : LabelledEdge = numbered pairs (joined (length a.names) a.sets e f) in
      let rest = pair_path edge.to e.to f.to s' t' xs es fs (place_there same_pair pair_tells pairs (pairs_differ a b pairs listed) (e.to, f.to) next) one.3 two.3 in
      let from : slice_get pairs edge.from ≡ Some (s, t) = place_there same_pair pair_tells pairs (pairs_differ a b pairs listed) (e.from, f.from)
      (subst (λ y. Contains pairs y) (λ i. (one.0 i, two.0 i)) here) ∙ (λ i. Some (sym one.0 i, sym two.0 i)) in
      record {
        state = rest.state;
        edges = edge ∷ rest.edges;
        goes = (
          one_place same_pair pair_tells pairs (pairs_differ a b pairs listed) k edge.from (s, t) at from,
          edge_there a b pairs listed (s, t) e f here one.1 two.1 (sym one.0)
              (sym two.0) some,
          holds,
          rest.goes,
        );
        to = rest.to;
        firsts = (joint_first a.sets e.marks f.marks, rest.firsts);
        seconds = (joint_second a.sets b.sets e.marks f.marks (edge_of_first e one.1).marks, rest.seconds);
      }

  same_turns : (u v : List NameSet) (stem_rounds cycle_rounds : ℕ) (r : LassoRun a u v stem_rounds cycle_rounds) (s : LassoRun b u v stem_rounds cycle_rounds)
      → JointRun a b p u v stem_rounds cycle_rounds r.cycle s.cycle
  same_turns u v stem_rounds cycle_rounds r s =
      let differ = pairs_differ a b pairs listed in
      let there = start_there a b pairs listed r.start s.start r.is_start s.is_start in
      let start : ℕ = position_or_len (same_pair (r.start, s.start)) pairs in
      let path_edges = pair_path start r.start s.start r.state s.state (u ++ copies stem_rounds v) r.path_edges s.path_edges
      (place_there same_pair pair_tells pairs differ (r.start, s.start) there) r.leads s.leads in
      let cycle = pair_path path_edges.state r.state s.state r.state s.state (copies cycle_rounds v) r.cycle s.cycle path_edges.to r.returns s.returns in
      let P : ℕ → Type 0 = λ q. IsPath p path_edges.state (copies cycle_rounds v) cycle.edges q in
      record {
        run = record {
          start = start;
          state = path_edges.state;
          path_edges = path_edges.edges;
          cycle = cycle.edges;
          is_start = there_map (λ pair. position_or_len (same_pair pair) pairs) (start_pairs a b) (r.start, s.start) (there_start a b r.start s.start r.is_start s.is_start);
          leads = path_edges.goes;
          returns = subst P (one_place same_pair pair_tells pairs differ cycle.state path_edges.state (r.state, s.state) cycle.to path_edges.to) cycle.goes;
        };
        first = λ f below. met_below a.sets (marks_of cycle.edges) (marks_of r.cycle) cycle.firsts f below;
        second = λ f below. met_raised a.sets b.sets (marks_of cycle.edges) (marks_of s.cycle) cycle.seconds f below;
      }

  -- runs of both over the same word give a run of the product, wherever each of them closes
  pub record Joined (u v : List NameSet) (firsts seconds : List LabelledEdge) : Type 0 where
    pub stem_rounds : ℕ
    pub cycle_rounds : ℕ
    pub positive : 0 < cycle_rounds
    pub joint : JointRun a b p u v stem_rounds cycle_rounds firsts seconds

  pub join_runs : (u v : List NameSet) (i j k l : ℕ) (r : LassoRun a u v i j) (s : LassoRun b u v k l) → 0 < j → 0 < l → Joined u v r.cycle s.cycle
  join_runs u v i j k l r s some_r some_s =
      let one = later a u v i j k l r some_r some_s in
      let two = later b u v k l i j s some_s some_r in
      let stem_rounds : k + i ≡ i + k = omega arith in
      let cycle_rounds : j * l ≡ l * j = mul_comm j l in
      let again : Likewise b u v (i + k) (l * j) s.cycle = subst (λ t. Likewise b u v t (l * j) s.cycle) stem_rounds (subst (λ m. Likewise b u v (k + i) m s.cycle) cycle_rounds two) in
      let both = same_turns u v (i + k) (l * j) one.run again.run in
      let wide : l ≤ l * j = le-mul_of_pos_right l some_r in
      record {
        stem_rounds = i + k;
        cycle_rounds = l * j;
        positive = omega (arith, wide, some_s);
        joint = record {
          run = both.run;
          first = λ f below. both.first f below ∙ one.alike f;
          second = λ f below. both.second f below ∙ again.alike f;
        };
      }

  -- the runs of both of which a run of the product is made
  pub record Parts (u v : List NameSet) (stem_rounds cycle_rounds : ℕ) (cycle : List LabelledEdge) : Type 0 where
    pub first_run : LassoRun a u v stem_rounds cycle_rounds
    pub second_run : LassoRun b u v stem_rounds cycle_rounds
    pub first : (f : FormulaTree) → SetsBelow a.sets f → met (marks_of cycle) f ≡ met (marks_of first_run.cycle) f
    pub second : (f : FormulaTree) → SetsBelow b.sets f → met (marks_of cycle) (shift a.sets f) ≡ met (marks_of second_run.cycle) f

  pub part_runs : (u v : List NameSet) (stem_rounds cycle_rounds : ℕ) (r : LassoRun p u v stem_rounds cycle_rounds) → Parts u v stem_rounds cycle_rounds r.cycle
  part_runs u v stem_rounds cycle_rounds r =
      let start = from_map (λ pair. position_or_len (same_pair pair) pairs) (start_pairs a b) r.start r.is_start in
      let both = from_start a b start.0 start.1 in
      let there = start_there a b pairs listed start.0.0 start.0.1 both.0 both.1 in
      let at : slice_get pairs r.start ≡ Some start.0 = ap (slice_get pairs) (sym start.2) ∙ place_there same_pair pair_tells pairs (pairs_differ a b pairs listed) start.0 there in
      let one = run_image p a FirstOf (AgreeBelow a.sets) product_in_first u v stem_rounds cycle_rounds r start.0.0 both.0 (start.0.1, at) in
      let two = run_image p b SecondOf (AgreeRaised a.sets b.sets) product_in_second u v stem_rounds cycle_rounds r start.0.1 both.1 (start.0.0, at) in
      record {
        first_run = one.run;
        second_run = two.run;
        first = λ f below. met_below a.sets (marks_of r.cycle) (marks_of one.run.cycle) one.marks f below;
        second = λ f below. met_raised a.sets b.sets (marks_of r.cycle) (marks_of two.run.cycle) two.marks f below;
      }
