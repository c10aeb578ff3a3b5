-- The automaton of the explored pairs and links is the product.
use Rattle.std.proofs.Common.{◌≡◌, ◌≢◌, ◌∙◌, ◌+◌, ◌++◌, ◌∷◌, ℕ, List, [], AllPairs, ap, length, map, refl, subst, sym}
use Rattle.std.specs.List.{AllZip, position_or_len}
use Rattle.std.specs.Prelude.{flat_map}
use Rattle.acc_forms.specs.Shift.{shift}
use Rattle.aut_base.proofs.canonical.CanonicalAutomata.{labels_below}
use Rattle.aut_base.specs.Automaton.{Automaton, IsWellFormed, LabelledEdge}
use Rattle.aut_base.specs.Formula.{FormulaTree, SetsBelow, True}
use Rattle.aut_core.proofs.OtherNames.{AreAmong, over_accepts}
use Rattle.aut_core.specs.SymbolicAutomata.{SymbolicAutomaton, IsWellFormedSymbolic, automaton_of, edge_of}
use Rattle.aut_core.specs.OtherNames.{AcceptTheSame, over_names}
use Rattle.aut_core.specs.declared.link.Link.{Link}
use Rattle.label_guards.specs.Store.{Keeps, Store}
use Rattle.acc_forms.proofs.FormulaSets.{sets_conj, sets_disj}
use Rattle.aut_ops.proofs.joint_runs.JointEdges.{pairs_differ}
use Rattle.aut_ops.proofs.following.Languages.{both_like, either_like}
use Rattle.aut_base.proofs.runs.LassoRuns.{accepts_of, run_of}
use Rattle.aut_ops.proofs.links.Linked.{parts_for}
use Rattle.aut_ops.proofs.pairs.Listings.{places_longer}
use Rattle.aut_ops.proofs.pairs.Places.{pair_tells, place_is}
use Rattle.aut_ops.proofs.joint_runs.ProductFormed.{product_formed}
use Rattle.aut_ops.proofs.joint_runs.ProductLanguages.{product_accepts, product_or_accepts}
use Rattle.aut_base.proofs.runs.OtherEdges.{run_wider}
use Rattle.aut_ops.specs.Products.{ArePairs, JointEdge, joint_edges, numbered, product_on, same_pair, start_pairs}
use Rattle.aut_ops.specs.declared.join.Join.{Join}
use Rattle.aut_ops.specs.declared.join.Join.TheVariants as join
use Rattle.aut_ops.specs.inner.Joins.{IsProductCore, JoinAccepts, join_of}
use Rattle.aut_ops.specs.inner.Pairings.{AreJointEdges, ArePlacesOfPairs, IsJointEdgeAt, PairingStage}
use Rattle.aut_base.specs.Runs.{HasRuns}

sets_join : (j : Join) (n : ℕ) (f g : FormulaTree) → SetsBelow n f → SetsBelow n g → SetsBelow n (join_of j f g)
sets_join join.All n f g one two = sets_conj n f g one two
sets_join join.Any n f g one two = sets_disj n f g one two

module _ (pairs : List (ℕ × ℕ)) (differ : AllPairs (λ p q. p ≢ q) pairs) where
  edges_are : (es : List LabelledEdge) (js : List JointEdge) → AllZip (IsJointEdgeAt pairs) es js → es ≡ map (numbered pairs) js
  edges_are [] [] zip = refl
  edges_are [] (j ∷ js) zip = absurd zip
  edges_are (e ∷ es) [] zip = absurd zip
  edges_are (e ∷ es) (j ∷ js) zip =
      let from = place_is same_pair pair_tells pairs differ e.from j.from zip.0.from in
      let to = place_is same_pair pair_tells pairs differ e.to j.to zip.0.to in
      let here : e ≡ numbered pairs j = λ i. record { from = sym from i; label = zip.0.label i; to = sym to i; marks = zip.0.marks i } in
      let rest = edges_are es js zip.1 in
      λ i. here i ∷ rest i

  places_are : (ks : List ℕ) (xs : List (ℕ × ℕ)) → ArePlacesOfPairs pairs ks xs → ks ≡ map (λ x. position_or_len (same_pair x) pairs) xs
  places_are [] [] zip = refl
  places_are [] (x ∷ xs) zip = absurd zip
  places_are (k ∷ ks) [] zip = absurd zip
  places_are (k ∷ ks) (x ∷ xs) zip =
      let here = place_is same_pair pair_tells pairs differ k x zip.0 in
      let rest = places_are ks xs zip.1 in
      λ i. sym here i ∷ rest i

accepts_by : (j : Join) (a b : Automaton) (names : b.names ≡ a.names) (formed : IsWellFormed a) (also : IsWellFormed b) (pairs : List (ℕ × ℕ)) → ArePairs a b pairs
    → JoinAccepts j (product_on (join_of j) pairs a b) a b
accepts_by join.All a b names formed also pairs listed = product_accepts a b names formed also pairs listed
accepts_by join.Any a b names formed also pairs listed = λ runs others. product_or_accepts a b names formed also pairs listed runs others

pub made_is_product : (j : Join) (a b : SymbolicAutomaton) (stage : PairingStage) (begun : List (ℕ × ℕ)) (names : List (List ℕ)) (starts : List ℕ) (sets seconds : ℕ)
    (formula f g : FormulaTree) (store : Store)
    (links : List Link) → IsWellFormedSymbolic a → IsWellFormedSymbolic b → b.names ≡ a.names → Keeps b.store stage.store
    → ArePairs (automaton_of a) (automaton_of b) stage.pairs → AreJointEdges stage (flat_map (joint_edges (automaton_of a) (automaton_of b)) stage.pairs)
    → (rest : List (ℕ × ℕ)) × (stage.pairs ≡ begun ++ rest) → ArePlacesOfPairs begun starts (start_pairs (automaton_of a) (automaton_of b))
    → names ≡ a.names → sets ≡ a.sets → seconds ≡ b.sets → f ≡ a.formula → g ≡ b.formula → formula ≡ join_of j f (shift sets g)
    → store ≡ stage.store → links ≡ stage.links
    → IsProductCore j a b stage.pairs (record { names = names; starts = starts; states = length stage.pairs; links = links; sets = sets + seconds; formula = formula; store = store })
made_is_product j a b stage begun names starts sets seconds formula f g store links core_a core_b same keeps listed edges longer places same_names at at_b f_is g_is joined store_is links_are =
    let x = automaton_of a in
    let y = automaton_of b in
    let differ = pairs_differ x y stage.pairs listed in
    let core : SymbolicAutomaton = record { names = names; starts = starts; states = length stage.pairs; links = stage.links; sets = sets + seconds; formula = formula; store = stage.store } in
    let is : automaton_of core ≡ product_on (join_of j) stage.pairs x y = λ i. record {
      names = same_names i;
      starts = places_are stage.pairs differ starts (start_pairs x y) (places_longer begun stage.pairs longer.0 starts (start_pairs x y) longer.1 places) i;
      states = length stage.pairs;
      edges = edges_are stage.pairs differ (map (edge_of stage.store) stage.links) (flat_map (joint_edges x y) stage.pairs) edges.edges i;
      sets = at i + at_b i;
      formula = (joined ∙ (λ k. join_of j (f_is k) (shift (at k) (g_is k)))) i;
    } in
    let last : SymbolicAutomaton = record { names = names; starts = starts; states = length stage.pairs; links = links; sets = sets + seconds; formula = formula; store = store } in
    let whole : core ≡ last = λ i. record { names = names; starts = starts; states = length stage.pairs; links = sym links_are i; sets = sets + seconds; formula = formula; store = sym store_is i } in
    subst (IsProductCore j a b stage.pairs) whole (record {
      shape = is;
      accepts = subst (λ (m : Automaton). JoinAccepts j m x y) (sym is) (accepts_by j x y same core_a.well_formed core_b.well_formed stage.pairs listed);
      parts = parts_for core (product_on (join_of j) stage.pairs x y) is (product_formed (join_of j) x y same core_a.well_formed core_b.well_formed stage.pairs listed (sets_join j)) core_a.parts.few
          (keeps.names ∙ (core_b.parts.store_names ∙ ap (λ (ns : List (List ℕ)). length ns) same)) edges.has;
    })

-- runs over other names

pub over_runs : (a : Automaton) (names : List (List ℕ)) → AreAmong a.names names → IsWellFormed a → HasRuns a → HasRuns (over_names names a)
over_runs a names among formed runs u v endless =
    let some = runs u v endless in
    let any : Automaton = record a { formula = True } in
    let one = accepts_of any u v some.stem_rounds some.cycle_rounds (run_wider a any u v refl (λ e there. there) some.stem_rounds some.cycle_rounds some.run some.run.is_start) endless
    some.positive refl in
    let two = (over_accepts any names among (labels_below a formed) u v).1 one in
    record {
      stem_rounds = two.stem_rounds;
      cycle_rounds = two.cycle_rounds;
      positive = two.positive;
      run = run_wider (over_names names any) (over_names names a) u v refl (λ e there. there) two.stem_rounds two.cycle_rounds (run_of (over_names names any) u v two) two.is_start;
    }

-- and the language of a product of automata over more names
pub accepts_over : (j : Join) (m a b c d : Automaton) (names : List (List ℕ)) → AreAmong a.names names → AreAmong b.names names → IsWellFormed a → IsWellFormed b → c ≡ over_names names a
    → d ≡ over_names names b → AcceptTheSame c a → AcceptTheSame d b → JoinAccepts j m c d → JoinAccepts j m a b
accepts_over join.All m a b c d names among others formed also is is_too first second accepts = both_like m c d a b first second accepts
accepts_over join.Any m a b c d names among others formed also is is_too first second accepts = λ runs runs_too.
    either_like m c d a b first second (accepts (subst HasRuns (sym is) (over_runs a names among formed runs)) (subst HasRuns (sym is_too) (over_runs b names others also runs_too)))
