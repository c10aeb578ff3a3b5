-- The trees along a path of a determinised automaton.
use Rattle.std.proofs.Common.{◌≡◌, ◌∙◌, ◌<◌, ℕ, List, [], ◌∷◌, Contains, ap, arith, inl, inr, length, map, refl, subst, sym}
use Rattle.aut_base.proofs.lists.Members.{none_there, there_cases}
use Rattle.aut_base.specs.Acceptance.{IsPath}
use Rattle.aut_base.specs.Automaton.{Automaton, LabelledEdge}
use Rattle.aut_base.specs.Word.{NameSet}
use Rattle.safra_trees.specs.Trees.{Node}
use Rattle.safra_laws.specs.Priorities.{priorities, priority}
use Rattle.safra_laws.specs.Rounds.{NamesAtMost, next_tree, tree_after}
use Rattle.parity_laws.proofs.runs.Runs.{IsClosed}
use Rattle.parity_laws.specs.Buchi.{moves_at}
use Rattle.parity_laws.specs.Determinised.{TracksTrees, tree_at}

pub only_start : (xs : List ℕ) (s : ℕ) → xs ≡ 0 ∷ [] → Contains xs s → s ≡ 0
only_start xs s is there = elim (there_cases 0 [] s (subst (λ ys. Contains ys s) is there)) [ inl e ↦ sym e | inr none ↦ absurd (none_there s none) ]

module _ (b d : Automaton) (trees : List (List Node)) (most : ℕ) (det : TracksTrees b d trees most) where
  pub closed : IsClosed d (length trees)
  closed = record {
    total = λ i x less. (let states = det.states in det.complete.edges i (omega (arith, states, less)) x);
    within = λ e x there meets. (det.steps e x there meets).to;
  }

  -- a path of d leads to the tree after the letters, and its marks are the priorities
  pub record Followed (i k : ℕ) (xs : List NameSet) (es : List LabelledEdge) : Type 0 where
    pub below : k < length trees
    pub tree : tree_after b.states (tree_at trees i) (map (moves_at b) xs) ≡ tree_at trees k
    pub marks : map (λ (e : LabelledEdge). e.marks) es ≡ map (λ m. m ∷ []) (priorities b.states most (tree_at trees i) (map (moves_at b) xs))
    pub few : NamesAtMost b.states most (tree_at trees i) (map (moves_at b) xs)

  pub follow : (i k : ℕ) (xs : List NameSet) (es : List LabelledEdge) → i < length trees → IsPath d i xs es k → Followed i k xs es
  follow i k [] [] below path = record { below = subst (λ j. j < length trees) path below; tree = ap (tree_at trees) path; marks = refl; few = tt }
  follow i k [] (e ∷ es) below path = absurd path
  follow i k (x ∷ xs) [] below path = absurd path
  follow i k (x ∷ xs) (e ∷ es) below path =
      let n = b.states in
      let ms = moves_at b x in
      let ws = map (moves_at b) xs in
      let t = tree_at trees i in
      let step = det.steps e x path.1 path.2 in
      let rest = follow e.to k xs es step.to path.3 in
      let same : next_tree n ms t ≡ tree_at trees e.to = ap (λ j. next_tree n ms (tree_at trees j)) path.0 ∙ sym step.tree in
      let here : e.marks ≡ priority n most ms t ∷ [] = step.marks ∙ ap (λ j. priority n most ms (tree_at trees j) ∷ []) (sym path.0) in
      record {
        below = rest.below;
        tree = ap (λ s. tree_after n s ws) same ∙ rest.tree;
        marks = ap (λ m. m ∷ map (λ (f : LabelledEdge). f.marks) es) here
            ∙ ap (λ rs. (priority n most ms t ∷ []) ∷ rs) (rest.marks ∙ ap (λ s. map (λ m. m ∷ []) (priorities n most s ws)) (sym same));
        few = (det.few i below, subst (λ s. NamesAtMost n most s ws) (sym same) rest.few);
      }
