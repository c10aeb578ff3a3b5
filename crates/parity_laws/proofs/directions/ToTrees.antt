-- A word that the Büchi automaton accepts is accepted by the determinised one. The latter's run over the stem and copies of
-- the cycle reaches a closed path; the Büchi automaton's cycle, repeated as often, reads the same letters, and so the least
-- priority on the path is odd.
use Rattle.std.proofs.Common.{◌≡◌, ◌∙◌, ◌+◌, ◌*◌, ◌<◌, ℕ, true, false, List, [], ◌++◌, Contains, ap, length, map, subst, sym}
use Rattle.std.specs.List.{list_any}
use Rattle.std.proofs.Math.Nat.{mul-pos}
use Rattle.aut_base.proofs.lists.Copies.{copies-copies}
use Rattle.aut_base.proofs.lists.Members.{first_there}
use Rattle.aut_base.proofs.runs.Paths.{path_copies, path_join}
use Rattle.aut_base.proofs.words.SameEdges.{gone_alike, met_alike}
use Rattle.aut_base.specs.Acceptance.{Accepts, IsPath}
use Rattle.aut_base.specs.Automaton.{Automaton, LabelledEdge}
use Rattle.aut_base.specs.Formula.{Inf, met}
use Rattle.aut_base.specs.Word.{NameSet, copies}
use Rattle.aut_base.proofs.words.Turns.{more_turns}
use Rattle.acc_forms.specs.Parity.{parity_min_odd}
use Rattle.safra_trees.specs.Step.{IsTree}
use Rattle.safra_trees.specs.Trees.{Node, first_tree, holds}
use Rattle.safra_trees.specs.declared.moves.Move.{Move}
use Rattle.safra_laws.proofs.TreesAfter.{after_is_tree}
use Rattle.safra_laws.proofs.invariant.FirstTree.{first_is_tree}
use Rattle.safra_laws.proofs.invariant.Root.{root_is_reached}
use Rattle.safra_laws.proofs.parity.Both.{accepted_is_odd}
use Rattle.safra_laws.specs.Priorities.{priorities}
use Rattle.safra_laws.specs.Rounds.{IsReachedByWord, tree_after}
use Rattle.parity_laws.proofs.directions.Trees.{closed, follow}
use Rattle.parity_laws.proofs.letters.Moves.{goals_below, met_buchi, moves_of_path}
use Rattle.parity_laws.proofs.letters.Priorities.{odd_met}
use Rattle.parity_laws.proofs.runs.Runs.{closes, run}
use Rattle.parity_laws.specs.Buchi.{IsBuchiForm, move_of, moves_at}
use Rattle.parity_laws.specs.Determinised.{TracksTrees, tree_at}

-- a cycle that meets the condition, repeated some times, has an accepting move
accepting_copies : (b : Automaton) → IsBuchiForm b → (k : ℕ) (cycle : List LabelledEdge) → 0 < k → met (map (λ e. e.marks) cycle) b.formula ≡ true
    → list_any (λ (m : Move). m.accepting) (map move_of (copies k cycle)) ≡ true
accepting_copies b buchi k cycle positive meets =
    let marks = λ (es : List LabelledEdge). map (λ (e : LabelledEdge). e.marks) es in
    sym (met_buchi (copies k cycle))
    ∙ (met_alike (marks (copies k cycle)) (marks cycle) (gone_alike (λ (e : LabelledEdge). e.marks) k cycle positive) (Inf 0 false)
    ∙ (ap (met (marks cycle)) (sym buchi.formula) ∙ meets))

pub to_trees : (b d : Automaton) (trees : List (List Node)) (most : ℕ) → IsBuchiForm b → TracksTrees b d trees most → (u v : List NameSet) → Accepts b u v → Accepts d u v
to_trees b d trees most buchi det u v a =
    let n = b.states in
    let is_closed = closed b d trees most det in
    let stem = u ++ copies a.stem_rounds v in
    let w = copies a.cycle_rounds v in
    let root = first_tree n b.starts in
    let begun = run d (length trees) is_closed 0 det.some stem in
    let c = closes d (length trees) is_closed begun.stop begun.below w in
    let prefix = stem ++ copies c.before w in
    let letters = map (moves_at b) prefix in
    let path_edges = a.path_edges ++ copies c.before a.cycle in
    let whole : IsPath d 0 prefix (begun.path_edges ++ c.path_edges) c.state = path_join d 0 begun.stop c.state stem (copies c.before w) begun.path_edges c.path_edges begun.leads c.leads in
    let ran : IsPath b a.start prefix path_edges a.state =
    path_join b a.start a.state a.state stem (copies c.before w) a.path_edges (copies c.before a.cycle) a.leads (path_copies b a.state c.before w a.cycle a.returns) in
    let lead = follow b d trees most det 0 c.state prefix (begun.path_edges ++ c.path_edges) det.some whole in
    let t = tree_at trees c.state in
    let reached : tree_after n root letters ≡ t = ap (λ s. tree_after n s letters) (sym det.first) ∙ lead.tree in
    let tree : IsTree t = subst IsTree reached (after_is_tree n root letters (first_is_tree n b.starts)) in
    let found : IsReachedByWord b.starts letters a.state =
    record { start = a.start; path = map move_of path_edges; is_start = a.is_start; leads = moves_of_path b a.start a.state prefix path_edges ran } in
    let rooted : holds t 0 a.state ≡ true = subst (λ s. holds s 0 a.state ≡ true) reached ((root_is_reached n b.starts letters a.state buchi.starts (goals_below b buchi prefix)).1 found) in
    let round = copies c.more w in
    let edges = copies c.more a.cycle in
    let home = follow b d trees most det c.state c.state round c.cycle c.below c.returns in
    let path = moves_of_path b a.state a.state round edges (path_copies b a.state c.more w a.cycle a.returns) in
    let some = accepting_copies b buchi c.more a.cycle c.positive a.meets in
    let odd = accepted_is_odd n most a.state t (map (moves_at b) round) (map move_of edges) tree rooted (goals_below b buchi round) path home.tree home.few some in
    record {
      endless = a.endless;
      start = 0;
      state = c.state;
      stem_rounds = a.stem_rounds + c.before * a.cycle_rounds;
      cycle_rounds = c.more * a.cycle_rounds;
      path_edges = begun.path_edges ++ c.path_edges;
      cycle = c.cycle;
      is_start = subst (λ xs. Contains xs 0) (sym det.starts) (first_there 0 []);
      leads = subst (λ z. IsPath d 0 z (begun.path_edges ++ c.path_edges) c.state) (more_turns a.stem_rounds c.before a.cycle_rounds u v) whole;
      positive = mul-pos c.positive a.positive;
      returns = subst (λ z. IsPath d c.state z c.cycle c.state) (copies-copies c.more a.cycle_rounds v) c.returns;
      meets = ap (met (map (λ (e : LabelledEdge). e.marks) c.cycle)) det.formula
          ∙ (ap (λ ms. met ms (parity_min_odd (most + most + 1))) home.marks ∙ odd_met most (priorities n most t (map (moves_at b) round)) odd);
    }
