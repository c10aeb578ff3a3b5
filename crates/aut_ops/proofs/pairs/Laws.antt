-- The pairs of a product are unique, and are those to which one list of letters leads in both automata.
use Rattle.std.proofs.Common.{◌≡◌, ◌∙◌, ◌&&◌, ℕ, true, List, [], ◌∷◌, ◌++◌, Contains, ap, arith, length, refl, subst, sym}
use Rattle.std.proofs.lemmas.Bool.{and_from, and_parts}
use Rattle.std.proofs.lemmas.List.Elements.{All-contains}
use Rattle.std.proofs.lemmas.Map.Made.{IsDistinct-from_AllPairs, is_member-Decides, length-le_from_is_member}
use Rattle.std.specs.Cmp.{IsEquivalence}
use Rattle.aut_base.proofs.canonical.CanonicalBelow.{label_of_below}
use Rattle.aut_base.proofs.lists.Members.{from_map, there_map}
use Rattle.aut_base.proofs.runs.Paths.{path_join}
use Rattle.aut_base.proofs.numbers.Truth.{same_truth}
use Rattle.aut_base.specs.Acceptance.{IsPath}
use Rattle.aut_base.specs.Automaton.{Automaton, IsEdgeOf, IsWellFormed, LabelledEdge}
use Rattle.aut_base.specs.Label.{AllBelow, holds_at, truth}
use Rattle.aut_base.specs.Valuation.{letter_of, truth_on}
use Rattle.aut_base.specs.Word.{NameSet}
use Rattle.aut_ops.proofs.pairs.BreadthFirst.{listed_differ, listed_exactly, listed_once, reached_keeps, reached_next, reached_start}
use Rattle.aut_ops.proofs.joint_runs.JointEdges.{from_start, joined, made_of, there_joint, there_start}
use Rattle.aut_ops.proofs.links.Labels.{not_never, some_letter, truth_both}
use Rattle.aut_ops.proofs.pairs.Places.{pair_tells}
use Rattle.aut_ops.specs.BreadthFirst.{IsReachedFrom}
use Rattle.aut_ops.specs.Labels.{both_labels}
use Rattle.aut_ops.specs.Laws.{AreLedTo, FewPairsExcludeMore, PairsAreDetermined, ProductsAreDetermined, ReachedByLetters}
use Rattle.aut_ops.specs.Products.{JointEdge, joint_edges, next_pairs, product_on, same_pair, start_pairs}

pub pairs_are_determined : PairsAreDetermined
pairs_are_determined a b pairs listed = record {
  one = λ others also. listed_once same_pair pair_tells (start_pairs a b) (next_pairs a b) others pairs also listed;
  differ = listed_differ same_pair pair_tells (start_pairs a b) (next_pairs a b) pairs listed;
  exactly = listed_exactly same_pair pair_tells (start_pairs a b) (next_pairs a b) pairs listed;
}

pub products_are_determined : ProductsAreDetermined
products_are_determined join a b made other is also =
    is.is ∙ (ap (λ pairs. product_on join pairs a b) (listed_once same_pair pair_tells (start_pairs a b) (next_pairs a b) is.pairs also.pairs is.in_order also.in_order) ∙ sym also.is)

pair_laws : IsEquivalence same_pair
pair_laws = record {
  refl = λ x. (pair_tells x x).1 refl;
  symm = λ x y. same_truth (same_pair x y) (same_pair y x) (λ e. (pair_tells y x).1 (sym ((pair_tells x y).0 e))) (λ e. (pair_tells x y).1 (sym ((pair_tells y x).0 e)));
  congr = λ x y z e. ap (λ w. same_pair w z) ((pair_tells x y).0 e);
}

pub few_pairs_exclude_more : FewPairsExcludeMore
few_pairs_exclude_more join a b made most is few more =
    let size : made.states ≡ length is.pairs = ap (λ (m : Automaton). m.states) is.is in
    let exactly = listed_exactly same_pair pair_tells (start_pairs a b) (next_pairs a b) is.pairs is.in_order in
    let within = length-le_from_is_member pair_laws more.pairs is.pairs (IsDistinct-from_AllPairs pair_tells more.pairs more.differ) (λ q there.
    (is_member-Decides pair_tells is.pairs q).1
    ((exactly q).1 (All-contains (IsReachedFrom (start_pairs a b) (next_pairs a b)) more.pairs q more.reached ((is_member-Decides pair_tells more.pairs q).0 there)))) in
    absurd (omega (arith, size, few, within, more.more))

module _ (a b : Automaton) (names : b.names ≡ a.names) (formed : IsWellFormed a) (also : IsWellFormed b) where
  first_below : (e : LabelledEdge) → Contains a.edges e → AllBelow (length a.names) e.label
  first_below e there = (All-contains (IsEdgeOf a) a.edges e formed.edges there).label

  second_below : (e : LabelledEdge) → Contains b.edges e → AllBelow (length a.names) e.label
  second_below e there = subst (λ (ns : List (List ℕ)). AllBelow (length ns) e.label) names (All-contains (IsEdgeOf b) b.edges e also.edges there).label

  led_start : (pair : ℕ × ℕ) → Contains (start_pairs a b) pair → AreLedTo a b pair
  led_start pair there =
      let starts = from_start a b pair there in
      record { letters = []; first = pair.0; second = pair.1; is_first = starts.0; is_second = starts.1; path_edges = []; other = []; leads = refl; leads_too = refl }

  led_next : (pair next : ℕ × ℕ) → AreLedTo a b pair → Contains (next_pairs a b pair) next → AreLedTo a b next
  led_next pair next led there =
      let j = from_map (λ (j : JointEdge). j.to) (joint_edges a b pair) next there in
      let of = made_of a b pair j.0 j.1 in
      let to : (of.first.to, of.second.to) ≡ next = ap (λ (j : JointEdge). j.to) of.is ∙ j.2 in
      let label = both_labels (length a.names) of.first.label of.second.label in
      let found = some_letter a.names label formed.names_differ (label_of_below (length a.names) (λ v. truth_on of.first.label v && truth_on of.second.label v)) of.some in
      let letter : NameSet = letter_of a.names found.0 in
      let both = and_parts (truth (holds_at a.names letter) of.first.label) (truth (holds_at a.names letter) of.second.label)
      (sym (truth_both (length a.names) (holds_at a.names letter) of.first.label of.second.label (first_below of.first of.in_first) (second_below of.second of.in_second)) ∙ found.1) in
      record {
        letters = led.letters ++ letter ∷ [];
        first = led.first;
        second = led.second;
        is_first = led.is_first;
        is_second = led.is_second;
        path_edges = led.path_edges ++ of.first ∷ [];
        other = led.other ++ of.second ∷ [];
        leads = path_join a led.first pair.0 next.0 led.letters (letter ∷ []) led.path_edges (of.first ∷ []) led.leads (sym of.first_from, of.in_first, both.0, ap (λ (x : ℕ × ℕ). x.0) to);
        leads_too = path_join b led.second pair.1 next.1 led.letters (letter ∷ []) led.other (of.second ∷ []) led.leads_too
            (sym of.second_from, of.in_second, subst (λ ns. truth (holds_at ns letter) of.second.label ≡ true) (sym names) both.1, ap (λ (x : ℕ × ℕ). x.1) to);
      }

  reached_path : (p q p' q' : ℕ) (xs : List NameSet) (es fs : List LabelledEdge) → IsReachedFrom (start_pairs a b) (next_pairs a b) (p, q) → IsPath a p xs es p' → IsPath b q xs fs q'
      → IsReachedFrom (start_pairs a b) (next_pairs a b) (p', q')
  reached_path p q p' q' [] [] [] here one two = subst (IsReachedFrom (start_pairs a b) (next_pairs a b)) (λ i. (one i, two i)) here
  reached_path p q p' q' [] (e ∷ es) fs here one two = absurd one
  reached_path p q p' q' [] [] (f ∷ fs) here one two = absurd two
  reached_path p q p' q' (x ∷ xs) [] fs here one two = absurd one
  reached_path p q p' q' (x ∷ xs) (e ∷ es) [] here one two = absurd two
  reached_path p q p' q' (x ∷ xs) (e ∷ es) (f ∷ fs) here one two =
      let label = both_labels (length a.names) e.label f.label in
      let holds = truth_both (length a.names) (holds_at a.names x) e.label f.label (first_below e one.1) (second_below f two.1)
      ∙ and_from (truth (holds_at a.names x) e.label) (truth (holds_at a.names x) f.label) one.2 (subst (λ ns. truth (holds_at ns x) f.label ≡ true) names two.2) in
      let some = not_never (length a.names) (holds_at a.names x) label (label_of_below (length a.names) (λ v. truth_on e.label v && truth_on f.label v)) holds in
      let step = there_map (λ (j : JointEdge). j.to) (joint_edges a b (p, q)) (joined (length a.names) a.sets e f) (there_joint a b (p, q) e f one.1 two.1 (sym one.0) (sym two.0) some) in
      reached_path e.to f.to p' q' xs es fs (reached_next (start_pairs a b) (next_pairs a b) (p, q) (e.to, f.to) here step) one.3 two.3

pub reached_by_letters : ReachedByLetters
reached_by_letters a b names formed also pair = (
  reached_keeps (AreLedTo a b) (start_pairs a b) (next_pairs a b) (led_start a b names formed also) (led_next a b names formed also) pair,
  λ led. reached_path a b names formed also led.first led.second pair.0 pair.1 led.letters led.path_edges led.other
      (reached_start (start_pairs a b) (next_pairs a b) (led.first, led.second) (there_start a b led.first led.second led.is_first led.is_second)) led.leads led.leads_too,
)
