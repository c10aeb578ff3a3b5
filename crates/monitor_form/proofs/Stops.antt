-- A path over copies of a list of letters, by the state that it is in after each copy.
use Rattle.std.proofs.Common.{◌≡◌, ◌∙◌, ◌+◌, ◌-◌, ◌<◌, ◌≤◌, ℕ, zero, suc, List, [], ◌++◌, ap, arith, refl, subst, sym}
use Rattle.aut_base.proofs.runs.Paths.{path_join, path_split}
use Rattle.aut_base.specs.Acceptance.{IsPath}
use Rattle.aut_base.specs.Automaton.{Automaton, LabelledEdge}
use Rattle.aut_base.specs.Word.{NameSet, copies}
use Rattle.aut_base.proofs.numbers.Pigeonhole.{pigeons}

abbrev pub first_then : {A : Type 0} → A → (ℕ → A) → ℕ → A
first_then x f zero = x
first_then x f (suc i) = f i

pub record Stops (a : Automaton) (v : List NameSet) (k p : ℕ) : Type 0 where
  pub at : ℕ → ℕ
  pub path_edges : ℕ → List LabelledEdge
  pub first : at 0 ≡ p
  pub leg : (i : ℕ) → i < k → IsPath a (at i) v (path_edges i) (at (suc i))

pub stops : (a : Automaton) (v : List NameSet) (k p q : ℕ) (es : List LabelledEdge) → IsPath a p (copies k v) es q → Stops a v k p
stops a v zero p q es path = record { at = λ i. p; path_edges = λ i. []; first = refl; leg = λ i less. absurd (omega (arith, less)) }
stops a v (suc k) p q es path =
    let parts = path_split a p q v (copies k v) es path in
    let rest = stops a v k parts.middle q parts.back parts.second in
    record {
      at = first_then p rest.at;
      path_edges = first_then parts.front rest.path_edges;
      first = refl;
      leg = legs a v k p parts.front parts.middle parts.first rest;
    }
  where
    legs : (a : Automaton) (v : List NameSet) (k p : ℕ) (front : List LabelledEdge) (middle : ℕ) → IsPath a p v front middle → (rest : Stops a v k middle) → (i : ℕ) → i < suc k
        → IsPath a (first_then p rest.at i) v (first_then front rest.path_edges i) (first_then p rest.at (suc i))
    legs a v k p front middle path rest zero less = subst (λ r. IsPath a p v front r) (sym rest.first) path
    legs a v k p front middle path rest (suc i) less = rest.leg i (omega (arith, less))

pub record Way (a : Automaton) (p : ℕ) (xs : List NameSet) (q : ℕ) : Type 0 where
  pub path_edges : List LabelledEdge
  pub leads : IsPath a p xs path_edges q

-- from one of these states to a later one
pub between : (a : Automaton) (v : List NameSet) (k p : ℕ) (s : Stops a v k p) (i d : ℕ) → i + d ≤ k → Way a (s.at i) (copies d v) (s.at (i + d))
between a v k p s i zero within = let e : i ≡ i + 0 = omega arith in record { path_edges = []; leads = ap s.at e }
between a v k p s i (suc d) within =
    let e : suc i + d ≡ i + suc d = omega arith in
    let rest = between a v k p s (suc i) d (omega (arith, within)) in
    let whole = path_join a (s.at i) (s.at (suc i)) (s.at (suc i + d)) v (copies d v) (s.path_edges i) rest.path_edges (s.leg i (omega (arith, within))) rest.leads in
    record { path_edges = s.path_edges i ++ rest.path_edges; leads = subst (λ n. IsPath a (s.at i) (v ++ copies d v) (s.path_edges i ++ rest.path_edges) (s.at n)) e whole }

-- a path over copies of the list that leads to a closed path over copies of it
pub record Loop (a : Automaton) (v : List NameSet) (p : ℕ) : Type 0 where
  pub before : ℕ
  pub more : ℕ
  pub positive : 0 < more
  pub state : ℕ
  pub path_edges : List LabelledEdge
  pub cycle : List LabelledEdge
  pub leads : IsPath a p (copies before v) path_edges state
  pub returns : IsPath a state (copies more v) cycle state

loop_between : (a : Automaton) (v : List NameSet) (k p : ℕ) (s : Stops a v k p) (i d : ℕ) → 0 < d → i + d ≤ k → s.at i ≡ s.at (i + d) → Loop a v p
loop_between a v k p s i d some within same =
    let lead = between a v k p s 0 i (omega (arith, within)) in
    let round = between a v k p s i d within in
    let e : 0 + i ≡ i = omega arith in
    record {
      before = i;
      more = d;
      positive = some;
      state = s.at i;
      path_edges = lead.path_edges;
      cycle = round.path_edges;
      leads = subst (λ q. IsPath a q (copies i v) lead.path_edges (s.at i)) s.first (subst (λ j. IsPath a (s.at 0) (copies i v) lead.path_edges (s.at j)) e lead.leads);
      returns = subst (λ q. IsPath a (s.at i) (copies d v) round.path_edges q) (sym same) round.leads;
    }

-- a path over at least as many copies as there are states has a loop
pub loop_of : (a : Automaton) (v : List NameSet) (n p : ℕ) (s : Stops a v n p) → ((i : ℕ) → i ≤ n → s.at i < n) → Loop a v p
loop_of a v n p s below =
    let again = pigeons n s.at (suc n) (omega arith) (λ i within. below i (omega (arith, within))) in
    by_cases again.first again.second again.later again.within again.same
  where
    by_cases : (i j : ℕ) → i < j → j < suc n → s.at i ≡ s.at j → Loop a v p
    by_cases i j later within same =
        let e : j ≡ i + (j - i) = omega (arith, later) in
        loop_between a v n p s i (j - i) (omega (arith, later)) (omega (arith, later, within)) (same ∙ ap s.at e)
