-- A word that the determinised automaton accepts is accepted by the Büchi automaton: the cycle comes back to its tree, and
-- the least priority on it is odd.
use Rattle.std.proofs.Common.{◌≡◌, ◌∙◌, ◌+◌, ◌*◌, ◌<◌, ℕ, zero, suc, true, List, [], ◌∷◌, ◌++◌, Contains, ap, append_assoc, arith, inl, inr, length, map, refl, subst, sym}
use Rattle.std.proofs.lemmas.List.{length-map, map-append}
use Rattle.std.proofs.Math.Nat.{mul-pos}
use Rattle.aut_base.proofs.lists.Copies.{copies-add, copies-copies}
use Rattle.aut_base.proofs.lists.Members.{none_there, there_cases}
use Rattle.aut_base.proofs.runs.Paths.{some_edges}
use Rattle.aut_base.specs.Acceptance.{Accepts, IsPath}
use Rattle.aut_base.specs.Automaton.{Automaton, LabelledEdge}
use Rattle.aut_base.specs.Formula.{met}
use Rattle.aut_base.specs.Word.{NameSet, copies}
use Rattle.acc_forms.specs.Parity.{parity_min_odd}
use Rattle.safra_trees.specs.Trees.{Node, first_tree}
use Rattle.safra_trees.specs.declared.moves.Move.{Move}
use Rattle.safra_laws.proofs.parity.Both.{odd_is_accepted}
use Rattle.safra_laws.proofs.parity.Least.{priorities_are_below}
use Rattle.safra_laws.specs.Priorities.{IsOdd, least_priority, priorities, priority}
use Rattle.safra_laws.specs.Rounds.{IsAccepted, IsMovePath, next_tree, tree_after}
use Rattle.parity_laws.proofs.directions.Trees.{follow, only_start}
use Rattle.parity_laws.proofs.letters.Moves.{accepting_met, edges_of_path}
use Rattle.parity_laws.proofs.letters.Priorities.{met_odd, single}
use Rattle.parity_laws.specs.Buchi.{IsBuchiForm, moves_at}
use Rattle.parity_laws.specs.Determinised.{TracksTrees, tree_at}

map-copies : {X Y : Type 0} (f : X → Y) (k : ℕ) (xs : List X) → copies k (map f xs) ≡ map f (copies k xs)
map-copies f zero xs = refl
map-copies f (suc k) xs = ap (λ ys. map f xs ++ ys) (map-copies f k xs) ∙ sym (map-append f xs (copies k xs))

each_below : (n most : ℕ) (t : List Node) (w : List (List Move)) (m : ℕ) → Contains (priorities n most t w) m → m < most + most + 1
each_below n most t [] m there = absurd (none_there m there)
each_below n most t (ms ∷ w) m there = elim (there_cases (priority n most ms t) (priorities n most (next_tree n ms t) w) m there) [
  | inl here ↦ omega (arith, here, priorities_are_below n most ms t)
  | inr later ↦ each_below n most (next_tree n ms t) w m later
]

-- a word is accepted by the automaton where the moves of its letters are
accepted_of : (b : Automaton) → IsBuchiForm b → (u v : List NameSet) (stem_rounds cycle_rounds : ℕ) → 0 < length v → 0 < cycle_rounds
    → IsAccepted b.starts (map (moves_at b) (u ++ copies stem_rounds v)) (map (moves_at b) (copies cycle_rounds v)) → Accepts b u v
accepted_of b buchi u v stem_rounds cycle_rounds endless positive a =
    let stem = u ++ copies stem_rounds v in
    let w = copies cycle_rounds v in
    let leads = subst (λ z. IsMovePath a.start z a.path_edges a.state) (sym (map-append (moves_at b) stem w)) a.leads in
    let first = edges_of_path b a.start a.state (stem ++ w) a.path_edges leads in
    let returns = subst (λ z. IsMovePath a.state z a.cycle a.state) (map-copies (moves_at b) a.cycle_rounds w) a.returns in
    let second = edges_of_path b a.state a.state (copies a.cycle_rounds w) a.cycle returns in
    record {
      endless = endless;
      start = a.start;
      state = a.state;
      stem_rounds = stem_rounds + cycle_rounds;
      cycle_rounds = a.cycle_rounds * cycle_rounds;
      path_edges = first.edges;
      cycle = second.edges;
      is_start = a.is_start;
      leads = subst (λ z. IsPath b a.start z first.edges a.state) (append_assoc u (copies stem_rounds v) w ∙ ap (λ z. u ++ z) (sym (copies-add stem_rounds cycle_rounds v))) first.path;
      positive = mul-pos a.positive positive;
      returns = subst (λ z. IsPath b a.state z second.edges a.state) (copies-copies a.cycle_rounds cycle_rounds v) second.path;
      meets = accepting_met second.edges a.cycle b.formula buchi.formula second.is a.accepts;
    }

pub from_trees : (b d : Automaton) (trees : List (List Node)) (most : ℕ) → IsBuchiForm b → TracksTrees b d trees most → (u v : List NameSet) → Accepts d u v → Accepts b u v
from_trees b d trees most buchi det u v r =
    let n = b.states in
    let stem = u ++ copies r.stem_rounds v in
    let w = copies r.cycle_rounds v in
    let root = first_tree n b.starts in
    let letters = map (moves_at b) stem in
    let round = map (moves_at b) w in
    let zero_start : r.start ≡ 0 = only_start d.starts r.start det.starts r.is_start in
    let lead = follow b d trees most det 0 r.state stem r.path_edges det.some (subst (λ s. IsPath d s stem r.path_edges r.state) zero_start r.leads) in
    let home = follow b d trees most det r.state r.state w r.cycle lead.below r.returns in
    let t = tree_at trees r.state in
    let all = priorities n most t round in
    let reached : tree_after n root letters ≡ t = ap (λ s. tree_after n s letters) (sym det.first) ∙ lead.tree in
    let returns : tree_after n (tree_after n root letters) round ≡ tree_after n root letters = ap (λ s. tree_after n s round) reached ∙ (home.tree ∙ sym reached) in
    let meets : met (single all) (parity_min_odd (most + most + 1)) ≡ true =
    ap (λ ms. met ms (parity_min_odd (most + most + 1))) (sym home.marks) ∙ (ap (met (map (λ (e : LabelledEdge). e.marks) r.cycle)) (sym det.formula) ∙ r.meets) in
    let steps : length r.cycle ≡ length all =
    sym (length-map r.cycle (λ (e : LabelledEdge). e.marks)) ∙ (ap length home.marks ∙ length-map all (λ (m : ℕ). m ∷ [])) in
    let some : 0 < length all = omega (arith, some_edges d r.state r.state r.cycle_rounds v r.cycle r.endless r.positive r.returns, steps) in
    let odd = met_odd most all some (each_below n most t round) meets in
    let accepted = odd_is_accepted n most b.starts letters round returns (subst (λ s. IsOdd (least_priority n most s round)) (sym reached) odd) in
    accepted_of b buchi u v r.stem_rounds r.cycle_rounds r.endless r.positive accepted
