-- Where the trees come back and a name is green while neither it nor a lower one is red, the automaton accepts.
use Rattle.std.proofs.Common.{◌≡◌, ◌∙◌, ◌++◌, ℕ, zero, suc, ◌<◌, true, List, [], ◌∷◌, append_assoc, sym, ap, arith, inl, inr, subst}
use Rattle.std.proofs.lemmas.Bool.{or_cases}
use Rattle.std.proofs.lemmas.List.{append-nil}
use Rattle.std.proofs.lemmas.List.Folds.{list_any-append}
use Rattle.std.specs.List.{list_any}
use Rattle.aut_base.specs.Word.{copies}
use Rattle.safra_trees.specs.Trees.{first_tree}
use Rattle.safra_trees.specs.declared.moves.Move.{Move}
use Rattle.safra_laws.proofs.MovePaths.{accepting_of, accepts_first, accepts_second, path_join, path_split}
use Rattle.safra_laws.proofs.TreesAfter.{after_is_tree}
use Rattle.safra_laws.proofs.backward.Cycles.{green_has_cycle}
use Rattle.safra_laws.proofs.backward.Starts.{first_reached, reached_along}
use Rattle.safra_laws.proofs.invariant.FirstTree.{first_is_tree}
use Rattle.safra_laws.specs.Language.{GreenIsAccepted}
use Rattle.safra_laws.specs.Rounds.{IsAccepted, IsMovePath, IsReachedByWord, tree_after}

copies_rotated : {A : Type 0} (k : ℕ) (v z : List A) → copies k (v ++ z) ++ v ≡ v ++ copies k (z ++ v)
copies_rotated zero v z = sym (append-nil v)
copies_rotated (suc k) v z =
    append_assoc (v ++ z) (copies k (v ++ z)) v
    ∙ (ap (λ w. (v ++ z) ++ w) (copies_rotated k v z)
    ∙ (append_assoc v z (v ++ copies k (z ++ v))
    ∙ ap (λ w. v ++ w) (sym (append_assoc z v (copies k (z ++ v))))))

rotated_accepts : (es fs gs : List Move) → gs ≡ es ++ fs → list_any accepting_of gs ≡ true → list_any accepting_of (fs ++ es) ≡ true
rotated_accepts es fs gs parts h = elim (or_cases (list_any accepting_of es) (list_any accepting_of fs) (sym (list_any-append accepting_of es fs) ∙ (sym (ap (list_any accepting_of) parts) ∙ h))) [
  | inl here ↦ accepts_second fs es here
  | inr there ↦ accepts_first fs es there
]

-- A state that is reached by the stem and then z, and has an accepting cycle over rounds of v and then z, makes the
-- automaton accept the stem with rounds of z and then v: the cycle is rotated.
rotated_some : (starts : List ℕ) (stem z v : List (List Move)) (k q : ℕ) (es : List Move)
    → IsReachedByWord starts (stem ++ z) q → IsMovePath q (copies (suc k) (v ++ z)) es q → list_any accepting_of es ≡ true → IsAccepted starts stem (z ++ v)
rotated_some starts stem z v k q es begun cycle accepts =
    let split = path_split q q v (z ++ copies k (v ++ z)) es (subst (λ w. IsMovePath q w es q) (append_assoc v z (copies k (v ++ z))) cycle) in
    let path_edges = path_join begun.start q split.middle (stem ++ z) v begun.path split.front begun.leads split.first in
    let loop = path_join split.middle q split.middle (z ++ copies k (v ++ z)) v split.back split.front split.second split.first in
    let round : (z ++ copies k (v ++ z)) ++ v ≡ copies (suc k) (z ++ v) =
    append_assoc z (copies k (v ++ z)) v ∙ (ap (λ w. z ++ w) (copies_rotated k v z) ∙ sym (append_assoc z v (copies k (z ++ v)))) in
    record {
      start = begun.start;
      state = split.middle;
      cycle_rounds = suc k;
      path_edges = begun.path ++ split.front;
      cycle = split.back ++ split.front;
      is_start = begun.is_start;
      leads = subst (λ w. IsMovePath begun.start w (begun.path ++ split.front) split.middle) (append_assoc stem z v) path_edges;
      positive = omega arith;
      returns = subst (λ w. IsMovePath split.middle w (split.back ++ split.front) split.middle) round loop;
      accepts = rotated_accepts split.front split.back es split.parts accepts;
    }

rotated : (starts : List ℕ) (stem z v : List (List Move)) (r q : ℕ) (es : List Move) → 0 < r
    → IsReachedByWord starts (stem ++ z) q → IsMovePath q (copies r (v ++ z)) es q → list_any accepting_of es ≡ true → IsAccepted starts stem (z ++ v)
rotated starts stem z v zero q es some begun cycle accepts = absurd (omega (arith, some))
rotated starts stem z v (suc k) q es some begun cycle accepts = rotated_some starts stem z v k q es begun cycle accepts

pub green_is_accepted : GreenIsAccepted
green_is_accepted n starts stem round returns green =
    let first = first_tree n starts in
    let t = tree_after n first stem in
    let z = green.before ++ green.letter ∷ [] in
    let cycle = green_has_cycle n t round (after_is_tree n first stem (first_is_tree n starts)) returns green in
    let all = reached_along n starts stem z t (reached_along n starts [] stem first (first_reached n starts)) in
    let begun = all green.name cycle.state cycle.here in
    let whole : z ++ green.behind ≡ round = append_assoc green.before (green.letter ∷ []) green.behind ∙ sym green.parts in
    subst (λ w. IsAccepted starts stem w) whole (rotated starts stem z green.behind cycle.cycle_rounds cycle.state cycle.path cycle.positive begun cycle.leads cycle.accepts)
