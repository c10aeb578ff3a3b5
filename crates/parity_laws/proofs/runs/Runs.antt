-- The runs of an automaton in which each state has a successor at each letter, and where they close over a cycle.
use Rattle.std.proofs.Common.{◌≡◌, ◌∙◌, ◌+◌, ◌-◌, ◌<◌, ℕ, zero, suc, true, List, [], ◌∷◌, ◌++◌, Contains, ap, arith, refl, subst, sym}
use Rattle.aut_base.proofs.runs.Paths.{path_join}
use Rattle.aut_base.proofs.numbers.Pigeonhole.{pigeons}
use Rattle.aut_base.specs.Acceptance.{IsPath}
use Rattle.aut_base.specs.Automaton.{Automaton, LabelledEdge}
use Rattle.aut_base.specs.Word.{NameSet, copies}
use Rattle.aut_core.specs.Deterministic.{HasSuccessor, is_met}

-- each state below `size` has a successor at each letter, and that is below `size` too
pub record IsClosed (d : Automaton) (size : ℕ) : Type 0 where
  pub total : (i : ℕ) (x : NameSet) → i < size → HasSuccessor d i x
  pub within : (e : LabelledEdge) (x : NameSet) → Contains d.edges e → is_met d.names x e ≡ true → e.to < size

module _ (d : Automaton) (size : ℕ) (closed : IsClosed d size) where
  pub record Run (i : ℕ) (xs : List NameSet) : Type 0 where
    pub stop : ℕ
    pub below : stop < size
    pub path_edges : List LabelledEdge
    pub leads : IsPath d i xs path_edges stop

  pub run : (i : ℕ) → i < size → (xs : List NameSet) → Run i xs
  run i below [] = record { stop = i; below = below; path_edges = []; leads = refl }
  run i below (x ∷ xs) =
      let one = closed.total i x below in
      let rest = run one.edge.to (closed.within one.edge x one.is_edge one.meets) xs in
      record { stop = rest.stop; below = rest.below; path_edges = one.edge ∷ rest.path_edges; leads = (sym one.from, one.is_edge, one.meets, rest.leads) }

  pub record Within : Type 0 where
    pub state : ℕ
    pub below : state < size

  -- the state after the letters, and after so many repetitions of them
  abbrev next : List NameSet → Within → Within
  next v a = let r = run a.state a.below v in record { state = r.stop; below = r.below }

  abbrev times : List NameSet → ℕ → Within → Within
  times v zero a = a
  times v (suc k) a = times v k (next v a)

  record Gone (v : List NameSet) (k : ℕ) (a c : Within) : Type 0 where
    path_edges : List LabelledEdge
    leads : IsPath d a.state (copies k v) path_edges c.state

  gone : (v : List NameSet) (k : ℕ) (a : Within) → Gone v k a (times v k a)
  gone v zero a = record { path_edges = []; leads = refl }
  gone v (suc k) a =
      let first = run a.state a.below v in
      let rest = gone v k (next v a) in
      record {
        path_edges = first.path_edges ++ rest.path_edges;
        leads = path_join d a.state first.stop (times v k (next v a)).state v (copies k v) first.path_edges rest.path_edges
            first.leads rest.leads;
      }

  times_more : (v : List NameSet) (j k : ℕ) (a : Within) → times v k (times v j a) ≡ times v (j + k) a
  times_more v zero k a = let e : k ≡ 0 + k = omega arith in ap (λ i. times v i a) e
  times_more v (suc j) k a =
      let e : suc (j + k) ≡ suc j + k = omega arith in
      times_more v j k (next v a) ∙ ap (λ i. times v i a) e

  -- from a state a run over copies of the same letters reaches a closed path
  pub record Closes (i : ℕ) (v : List NameSet) : Type 0 where
    pub before : ℕ
    pub more : ℕ
    pub positive : 0 < more
    pub state : ℕ
    pub below : state < size
    pub path_edges : List LabelledEdge
    pub cycle : List LabelledEdge
    pub leads : IsPath d i (copies before v) path_edges state
    pub returns : IsPath d state (copies more v) cycle state

  pub closes : (i : ℕ) → i < size → (v : List NameSet) → Closes i v
  closes i below v =
      let a : Within = record { state = i; below = below } in
      let again = pigeons size (λ k. (times v k a).state) (suc size) (omega arith) (λ k within. (times v k a).below) in
      let c = times v again.first a in
      let more = again.second - again.first in
      let e : again.first + more ≡ again.second = omega (arith, again.later) in
      let first = gone v again.first a in
      let second = gone v more c in
      let same : (times v more c).state ≡ c.state = ap (λ (w : Within). w.state) (times_more v again.first more a ∙ ap (λ k. times v k a) e) ∙ sym again.same in
      record {
        before = again.first;
        more = more;
        positive = omega (arith, again.later);
        state = c.state;
        below = c.below;
        path_edges = first.path_edges;
        cycle = second.path_edges;
        leads = first.leads;
        returns = subst (λ r. IsPath d c.state (copies more v) second.path_edges r) same second.leads;
      }
