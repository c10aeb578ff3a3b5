-- The language of a product from one of its states.
use Rattle.std.proofs.Common.{◌≡◌, ◌∙◌, ◌+◌, ◌*◌, ◌≤◌, ℕ, List, [], ◌∷◌, ◌++◌, Contains, Some, ap, arith, inl, inr, refl, slice_get, subst, sym}
use Rattle.std.proofs.Math.Nat.{le-mul_of_pos_right, mul_comm}
use Rattle.std.proofs.lemmas.Bool.{and_from, and_parts}
use Rattle.acc_forms.proofs.JoinLaws.{met-conj}
use Rattle.acc_forms.specs.Joined.{conj}
use Rattle.acc_forms.specs.Shift.{shift}
use Rattle.aut_base.proofs.lists.Members.{first_there, none_there, there_cases}
use Rattle.aut_base.proofs.runs.LassoRuns.{accepts_of, later, marks_of, run_of}
use Rattle.aut_base.proofs.runs.OtherEdges.{path_wider}
use Rattle.aut_base.specs.Acceptance.{Accepts, IsPath}
use Rattle.aut_base.specs.Automaton.{Automaton, IsWellFormed}
use Rattle.aut_base.specs.Formula.{met}
use Rattle.aut_base.specs.Runs.{LassoRun}
use Rattle.aut_base.specs.Word.{NameSet, copies}
use Rattle.aut_ops.proofs.following.CycleMarks.{AgreeBelow, AgreeRaised, met_below, met_raised}
use Rattle.aut_ops.proofs.following.Simulations.{begun_alike, run_image}
use Rattle.aut_ops.proofs.joint_runs.JointEdges.{pairs_differ}
use Rattle.aut_ops.proofs.joint_runs.ProductRuns.{FirstOf, SecondOf, pair_path, product_in_first, product_in_second}
use Rattle.aut_ops.proofs.pairs.Places.{one_place, pair_tells}
use Rattle.aut_ops.specs.Languages.{ArePairwise, begun}
use Rattle.aut_ops.specs.Products.{ArePairs, product_on, same_pair}

alone : (p q : ℕ) → Contains (p ∷ []) q → p ≡ q
alone p q there = elim (there_cases p [] q there) [ inl is ↦ is | inr none ↦ absurd (none_there q none) ]

module _ (a b : Automaton) (names : b.names ≡ a.names) (formed : IsWellFormed a) (also : IsWellFormed b) (pairs : List (ℕ × ℕ)) (listed : ArePairs a b pairs) (k s t : ℕ)
    (at : slice_get pairs k ≡ Some (s, t)) where
  abbrev whole : Automaton
  whole = product_on conj pairs a b

  from_whole : (u v : List NameSet) → Accepts (begun k whole) u v → Accepts (begun s a) u v × Accepts (begun t b) u v
  from_whole u v r =
      let here : slice_get pairs r.start ≡ Some (s, t) = ap (slice_get pairs) (sym (alone k r.start r.is_start)) ∙ at in
      let run = run_of (begun k whole) u v r in
      let one = run_image (begun k whole) (begun s a) (FirstOf conj a b names formed also pairs listed) (AgreeBelow a.sets)
      (begun_alike whole a k s _ _ (product_in_first conj a b names formed also pairs listed)) u v r.stem_rounds r.cycle_rounds run s (first_there s []) (t, here) in
      let two = run_image (begun k whole) (begun t b) (SecondOf conj a b names formed also pairs listed) (AgreeRaised a.sets b.sets)
      (begun_alike whole b k t _ _ (product_in_second conj a b names formed also pairs listed)) u v r.stem_rounds r.cycle_rounds run t (first_there t []) (s, here) in
      let cycle = marks_of r.cycle in
      let both = and_parts (met cycle a.formula) (met cycle (shift a.sets b.formula)) (sym (met-conj cycle a.formula (shift a.sets b.formula)) ∙ r.meets) in (
        accepts_of (begun s a) u v r.stem_rounds r.cycle_rounds one.run r.endless r.positive (sym (met_below a.sets cycle (marks_of one.run.cycle) one.marks a.formula formed.formula) ∙ both.0),
        accepts_of (begun t b) u v r.stem_rounds r.cycle_rounds two.run r.endless r.positive (sym (met_raised a.sets b.sets cycle (marks_of two.run.cycle) two.marks b.formula also.formula) ∙ both.1),
      )

  to_whole : (u v : List NameSet) → Accepts (begun s a) u v → Accepts (begun t b) u v → Accepts (begun k whole) u v
  to_whole u v f g =
      let one = later (begun s a) u v f.stem_rounds f.cycle_rounds g.stem_rounds g.cycle_rounds (run_of (begun s a) u v f) f.positive g.positive in
      let two = later (begun t b) u v g.stem_rounds g.cycle_rounds f.stem_rounds f.cycle_rounds (run_of (begun t b) u v g) g.positive f.positive in
      let stem_rounds : g.stem_rounds + f.stem_rounds ≡ f.stem_rounds + g.stem_rounds = omega arith in
      let cycle_rounds : f.cycle_rounds * g.cycle_rounds ≡ g.cycle_rounds * f.cycle_rounds = mul_comm f.cycle_rounds g.cycle_rounds in
      let first = one.run in
      let second = two.run in
      let word : List NameSet = u ++ copies (f.stem_rounds + g.stem_rounds) v in
      let round : List NameSet = copies (g.cycle_rounds * f.cycle_rounds) v in
      let path_edges : IsPath a s word first.path_edges first.state = path_wider (begun s a) a refl (λ e there. there) s first.state word first.path_edges
      (subst (λ p. IsPath (begun s a) p word first.path_edges first.state) (sym (alone s first.start first.is_start)) first.leads) in
      let way_too : IsPath b t word second.path_edges second.state = path_wider (begun t b) b refl (λ e there. there) t second.state word second.path_edges
      (subst (λ n. IsPath (begun t b) t (u ++ copies n v) second.path_edges second.state) stem_rounds
      (subst (λ p. IsPath (begun t b) p (u ++ copies (g.stem_rounds + f.stem_rounds) v) second.path_edges second.state) (sym (alone t second.start second.is_start)) second.leads)) in
      let back : IsPath a first.state round first.cycle first.state = path_wider (begun s a) a refl (λ e there. there) first.state first.state round first.cycle first.returns in
      let back_too : IsPath b second.state round second.cycle second.state = path_wider (begun t b) b refl (λ e there. there) second.state second.state round second.cycle
      (subst (λ n. IsPath (begun t b) second.state (copies n v) second.cycle second.state) cycle_rounds second.returns) in
      let leads = pair_path conj a b names formed also pairs listed k s t first.state second.state word first.path_edges second.path_edges at path_edges way_too in
      let returns = pair_path conj a b names formed also pairs listed leads.state first.state second.state first.state second.state round first.cycle second.cycle leads.to back back_too in
      let closed : returns.state ≡ leads.state =
      one_place same_pair pair_tells pairs (pairs_differ a b pairs listed) returns.state leads.state (first.state, second.state) returns.to leads.to in
      let run : LassoRun (begun k whole) u v (f.stem_rounds + g.stem_rounds) (g.cycle_rounds * f.cycle_rounds) = record {
        start = k;
        state = leads.state;
        path_edges = leads.edges;
        cycle = returns.edges;
        is_start = first_there k [];
        leads = path_wider whole (begun k whole) refl (λ e there. there) k leads.state word leads.edges leads.goes;
        returns = path_wider whole (begun k whole) refl (λ e there. there) leads.state leads.state round returns.edges
            (subst (λ q. IsPath whole leads.state round returns.edges q) closed returns.goes);
      } in
      let cycle = marks_of returns.edges in
      let wide : g.cycle_rounds ≤ g.cycle_rounds * f.cycle_rounds = le-mul_of_pos_right g.cycle_rounds f.positive in
      accepts_of (begun k whole) u v (f.stem_rounds + g.stem_rounds) (g.cycle_rounds * f.cycle_rounds) run f.endless (omega (arith, wide, g.positive))
      (met-conj cycle a.formula (shift a.sets b.formula) ∙ and_from (met cycle a.formula) (met cycle (shift a.sets b.formula))
      (met_below a.sets cycle (marks_of first.cycle) returns.firsts a.formula formed.formula ∙ (one.alike a.formula ∙ f.meets))
      (met_raised a.sets b.sets cycle (marks_of second.cycle) returns.seconds b.formula also.formula ∙ (two.alike b.formula ∙ g.meets)))

pub product_pairwise : (a b : Automaton) → b.names ≡ a.names → IsWellFormed a → IsWellFormed b → (pairs : List (ℕ × ℕ)) → ArePairs a b pairs → ArePairwise (product_on conj pairs a b) pairs a b
product_pairwise a b names formed also pairs listed k s t at u v =
    (from_whole a b names formed also pairs listed k s t at u v, λ both. to_whole a b names formed also pairs listed k s t at u v both.0 both.1)
