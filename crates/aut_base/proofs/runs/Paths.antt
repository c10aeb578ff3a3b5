-- Concatenation and splitting of paths.
use Rattle.std.proofs.Common.{◌≡◌, ℕ, zero, suc, ◌<◌, List, [], ◌∷◌, ◌++◌, ap, arith, length, refl, subst, sym}
use Rattle.std.proofs.lemmas.Nat.{mul-lt}
use Rattle.aut_base.proofs.lists.Copies.{length-copies}
use Rattle.aut_base.proofs.runs.Walks.{as_long}
use Rattle.aut_base.specs.Acceptance.{IsPath}
use Rattle.aut_base.specs.Automaton.{Automaton, LabelledEdge}
use Rattle.aut_base.specs.Word.{NameSet, copies}

pub path_join : (a : Automaton) (p r q : ℕ) (xs ys : List NameSet) (es fs : List LabelledEdge) → IsPath a p xs es r → IsPath a r ys fs q → IsPath a p (xs ++ ys) (es ++ fs) q
path_join a p r q [] ys [] fs first second = let P : ℕ → Type 0 = λ s. IsPath a s ys fs q in subst P (sym first) second
path_join a p r q [] ys (e ∷ es) fs first second = absurd first
path_join a p r q (x ∷ xs) ys [] fs first second = absurd first
path_join a p r q (x ∷ xs) ys (e ∷ es) fs first second = (first.0, first.1, first.2, path_join a e.to r q xs ys es fs first.3 second)

-- the two parts of a path that reads one list and then another
pub record Halves (a : Automaton) (p q : ℕ) (xs ys : List NameSet) (es : List LabelledEdge) : Type 0 where
  pub middle : ℕ
  pub front : List LabelledEdge
  pub back : List LabelledEdge
  pub parts : es ≡ front ++ back
  pub first : IsPath a p xs front middle
  pub second : IsPath a middle ys back q

pub path_split : (a : Automaton) (p q : ℕ) (xs ys : List NameSet) (es : List LabelledEdge) → IsPath a p (xs ++ ys) es q → Halves a p q xs ys es
path_split a p q [] ys es path = record { middle = p; front = []; back = es; parts = refl; first = refl; second = path }
path_split a p q (x ∷ xs) ys [] path = absurd path
path_split a p q (x ∷ xs) ys (e ∷ es) path =
    let rest = path_split a e.to q xs ys es path.3 in
    record {
      middle = rest.middle;
      front = e ∷ rest.front;
      back = rest.back;
      parts = ap (λ (fs : List LabelledEdge). e ∷ fs) rest.parts;
      first = (path.0, path.1, path.2, rest.first);
      second = rest.second;
    }

-- a closed path, repeated k times
pub path_copies : (a : Automaton) (q : ℕ) (k : ℕ) (xs : List NameSet) (es : List LabelledEdge) → IsPath a q xs es q → IsPath a q (copies k xs) (copies k es) q
path_copies a q zero xs es path = refl
path_copies a q (suc k) xs es path = path_join a q q q xs (copies k xs) es (copies k es) path (path_copies a q k xs es path)

-- a path that reads a cycle isn't empty
pub some_edges : (a : Automaton) (p q k : ℕ) (v : List NameSet) (es : List LabelledEdge) → 0 < length v → 0 < k → IsPath a p (copies k v) es q → 0 < length es
some_edges a p q k v es some positive path = omega (arith, as_long a p (copies k v) es q path, length-copies k v, mul-lt 0 0 k (length v) positive some)
