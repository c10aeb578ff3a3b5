-- Runs over a lasso word: a path to a state, and a closed path from there. Its closed path can be taken to begin later, after
-- more turns of the word's cycle, and to be repeated, and still meets the same conditions.
use Rattle.std.proofs.Common.{◌≡◌, ◌∙◌, ℕ, zero, suc, ◌+◌, ◌*◌, ◌<◌, true, List, ◌++◌, Contains, ap, append_assoc, arith, length, map, refl, subst, sym}
use Rattle.std.proofs.lemmas.List.{map-append}
use Rattle.std.proofs.lemmas.List.Folds.{list_all-append, list_any-append}
use Rattle.std.specs.List.{list_all, list_any}
use Rattle.aut_base.proofs.lists.Copies.{copies-copies, copies-push}
use Rattle.aut_base.proofs.runs.Paths.{path_copies, path_join, path_split}
use Rattle.aut_base.proofs.words.SameEdges.{Alike, gone_alike, met_alike}
use Rattle.aut_base.proofs.numbers.Truth.{and_comm, or_comm}
use Rattle.aut_base.specs.Acceptance.{Accepts, IsPath}
use Rattle.aut_base.specs.Automaton.{Automaton, LabelledEdge}
use Rattle.aut_base.specs.Formula.{FormulaTree, met}
use Rattle.aut_base.specs.Word.{NameSet, copies}
use Rattle.aut_base.specs.Runs.{LassoRun}

-- the marks of the edges of a cycle, on which conditions depend
abbrev pub marks_of : List LabelledEdge → List (List ℕ)
marks_of = map (λ e. e.marks)

abbrev pub run_of : (a : Automaton) (u v : List NameSet) (r : Accepts a u v) → LassoRun a u v r.stem_rounds r.cycle_rounds
run_of a u v r = record { start = r.start; state = r.state; path_edges = r.path_edges; cycle = r.cycle; is_start = r.is_start; leads = r.leads; returns = r.returns }

pub accepts_of : (a : Automaton) (u v : List NameSet) (stem_rounds cycle_rounds : ℕ) (r : LassoRun a u v stem_rounds cycle_rounds) → 0 < length v → 0 < cycle_rounds
    → met (marks_of r.cycle) a.formula ≡ true → Accepts a u v
accepts_of a u v stem_rounds cycle_rounds r endless positive meets = record {
  endless = endless;
  start = r.start;
  state = r.state;
  stem_rounds = stem_rounds;
  cycle_rounds = cycle_rounds;
  path_edges = r.path_edges;
  cycle = r.cycle;
  is_start = r.is_start;
  leads = r.leads;
  positive = positive;
  returns = r.returns;
  meets = meets;
}

-- a word that an automaton accepts is accepted by another too, if the run is a run of that one and its cycle meets its condition
pub accepts_too : (a b : Automaton) (u v : List NameSet) (r : Accepts a u v) → Contains b.starts r.start → IsPath b r.start (u ++ copies r.stem_rounds v) r.path_edges r.state
    → IsPath b r.state (copies r.cycle_rounds v) r.cycle r.state → met (marks_of r.cycle) b.formula ≡ true → Accepts b u v
accepts_too a b u v r is_start leads returns meets =
    accepts_of b u v r.stem_rounds r.cycle_rounds
    (record { start = r.start; state = r.state; path_edges = r.path_edges; cycle = r.cycle; is_start = is_start; leads = leads; returns = returns }) r.endless r.positive meets

-- a run whose cycle meets the same conditions
pub record Likewise (a : Automaton) (u v : List NameSet) (stem_rounds cycle_rounds : ℕ) (cycle : List LabelledEdge) : Type 0 where
  pub run : LassoRun a u v stem_rounds cycle_rounds
  pub alike : (f : FormulaTree) → met (marks_of run.cycle) f ≡ met (marks_of cycle) f

swapped_alike : {A : Type 0} (xs ys : List A) → Alike (ys ++ xs) (xs ++ ys)
swapped_alike xs ys = record {
  some = λ p. list_any-append p ys xs ∙ (or_comm (list_any p ys) (list_any p xs) ∙ sym (list_any-append p xs ys));
  each = λ p. list_all-append p ys xs ∙ (and_comm (list_all p ys) (list_all p xs) ∙ sym (list_all-append p xs ys));
}

swapped : (xs ys es : List LabelledEdge) → es ≡ xs ++ ys → (f : FormulaTree) → met (marks_of (ys ++ xs)) f ≡ met (marks_of es) f
swapped xs ys es parts f =
    ap (λ cs. met cs f) (map-append (λ (e : LabelledEdge). e.marks) ys xs)
    ∙ (met_alike (marks_of ys ++ marks_of xs) (marks_of xs ++ marks_of ys) (swapped_alike (marks_of xs) (marks_of ys)) f
    ∙ ap (λ cs. met cs f) (sym (map-append (λ (e : LabelledEdge). e.marks) xs ys) ∙ ap marks_of (sym parts)))

-- the run closes one turn of the cycle later
one_turn : (a : Automaton) (u v : List NameSet) (stem_rounds cycle_rounds : ℕ) (r : LassoRun a u v stem_rounds cycle_rounds) → 0 < cycle_rounds → Likewise a u v (suc stem_rounds) cycle_rounds r.cycle
one_turn a u v stem_rounds zero r some = absurd (omega arith)
one_turn a u v stem_rounds (suc k) r some =
    let parts = path_split a r.state r.state v (copies k v) r.cycle r.returns in
    let word : (u ++ copies stem_rounds v) ++ v ≡ u ++ copies (suc stem_rounds) v = append_assoc u (copies stem_rounds v) v ∙ ap (λ w. u ++ w) (copies-push stem_rounds v) in
    let P : List NameSet → Type 0 = λ w. IsPath a r.start w (r.path_edges ++ parts.front) parts.middle in
    let Q : List NameSet → Type 0 = λ w. IsPath a parts.middle w (parts.back ++ parts.front) parts.middle in
    record {
      run = record {
        start = r.start;
        state = parts.middle;
        path_edges = r.path_edges ++ parts.front;
        cycle = parts.back ++ parts.front;
        is_start = r.is_start;
        leads = subst P word (path_join a r.start r.state parts.middle (u ++ copies stem_rounds v) v r.path_edges parts.front r.leads parts.first);
        returns = subst Q (copies-push k v) (path_join a parts.middle r.state parts.middle (copies k v) v parts.back parts.front parts.second parts.first);
      };
      alike = swapped parts.front parts.back r.cycle parts.parts;
    }

some_turns : (a : Automaton) (u v : List NameSet) (stem_rounds cycle_rounds k : ℕ) (r : LassoRun a u v stem_rounds cycle_rounds) → 0 < cycle_rounds
    → Likewise a u v (stem_rounds + k) cycle_rounds r.cycle
some_turns a u v stem_rounds cycle_rounds zero r some =
    let e : stem_rounds ≡ stem_rounds + 0 = omega arith in
    let P : ℕ → Type 0 = λ n. Likewise a u v n cycle_rounds r.cycle in
    subst P e (record { run = r; alike = λ f. refl })
some_turns a u v stem_rounds cycle_rounds (suc k) r some =
    let once = one_turn a u v stem_rounds cycle_rounds r some in
    let more = some_turns a u v (suc stem_rounds) cycle_rounds k once.run some in
    let e : suc stem_rounds + k ≡ stem_rounds + suc k = omega arith in
    let P : ℕ → Type 0 = λ n. Likewise a u v n cycle_rounds r.cycle in
    subst P e (record { run = more.run; alike = λ f. more.alike f ∙ once.alike f })

more_rounds : (a : Automaton) (u v : List NameSet) (stem_rounds cycle_rounds k : ℕ) (r : LassoRun a u v stem_rounds cycle_rounds) → 0 < k → Likewise a u v stem_rounds (k * cycle_rounds) r.cycle
more_rounds a u v stem_rounds cycle_rounds k r some =
    let P : List NameSet → Type 0 = λ w. IsPath a r.state w (copies k r.cycle) r.state in
    record {
      run = record {
        start = r.start;
        state = r.state;
        path_edges = r.path_edges;
        cycle = copies k r.cycle;
        is_start = r.is_start;
        leads = r.leads;
        returns = subst P (copies-copies k cycle_rounds v) (path_copies a r.state k (copies cycle_rounds v) r.cycle r.returns);
      };
      alike = met_alike (marks_of (copies k r.cycle)) (marks_of r.cycle) (gone_alike (λ (e : LabelledEdge). e.marks) k r.cycle some);
    }

-- k more turns before the run closes, and m times the rounds
pub later : (a : Automaton) (u v : List NameSet) (stem_rounds cycle_rounds k m : ℕ) (r : LassoRun a u v stem_rounds cycle_rounds) → 0 < cycle_rounds → 0 < m
    → Likewise a u v (stem_rounds + k) (m * cycle_rounds) r.cycle
later a u v stem_rounds cycle_rounds k m r some times =
    let first = some_turns a u v stem_rounds cycle_rounds k r some in
    let second = more_rounds a u v (stem_rounds + k) cycle_rounds m first.run times in
    record { run = second.run; alike = λ f. second.alike f ∙ first.alike f }
