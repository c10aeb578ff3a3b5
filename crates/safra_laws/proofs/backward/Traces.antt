-- The states of a name that isn't red, traced back along letters, and those of its children by a path with an accepting move.
use Rattle.std.proofs.Common.{◌≡◌, ◌∙◌, ◌⊎◌, ℕ, zero, suc, ◌+◌, ◌-◌, ◌<◌, Bool, true, false, List, [], ◌∷◌, ◌++◌, Contains, append_assoc, inl, inr, length, refl, sym, ap, arith, subst}
use Rattle.std.specs.List.{list_any}
use Rattle.std.proofs.lemmas.Bool.{or_left}
use Rattle.std.proofs.lemmas.List.{append-nil}
use Rattle.aut_base.proofs.numbers.Pigeonhole.{pigeons}
use Rattle.aut_base.specs.Word.{copies}
use Rattle.safra_trees.specs.Trees.{Node, holds, node_at}
use Rattle.safra_trees.specs.declared.moves.Move.{Move}
use Rattle.safra_laws.proofs.MovePaths.{accepts_first, accepts_second, path_join, path_push}
use Rattle.safra_laws.specs.Language.{HasCycle}
use Rattle.safra_laws.specs.Rounds.{IsMovePath, next_tree, tree_after}

-- a move from one of these states to q
pub record Enters (ms : List Move) (set : ℕ → Bool) (q : ℕ) : Type 0 where
  pub move : Move
  pub there : Contains ms move
  pub from : set move.from ≡ true
  pub to : move.to ≡ q

-- an accepting move from one of these states to q
pub record EntersAccepting (ms : List Move) (set : ℕ → Bool) (q : ℕ) : Type 0 where
  pub enters : Enters ms set q
  pub accepting : enters.move.accepting ≡ true

-- c is a child of g
pub record IsChild (t : List Node) (g c : ℕ) : Type 0 where
  pub some : 0 < c
  pub below : c < length t
  pub parent : (node_at t c).parent ≡ g

-- a move to q from a state that a child of g holds
pub record EntersFromChild (ms : List Move) (t : List Node) (g q : ℕ) : Type 0 where
  pub child : ℕ
  pub is : IsChild t g child
  pub enters : Enters ms (holds t child) q

-- an accepting move to q from a state that g holds, or a move from one that a child of g holds
abbrev pub EntersBelow : List Move → List Node → ℕ → ℕ → Type 0
EntersBelow ms t g q = EntersAccepting ms (holds t g) q ⊎ EntersFromChild ms t g q

-- what tracing back needs of a step at which neither g nor a lower name is red
pub record KeepsName (ms : List Move) (old new : List Node) (g : ℕ) : Type 0 where
  pub own : (q : ℕ) → holds new g q ≡ true → Enters ms (holds old g) q
  pub child : (c q : ℕ) → IsChild new g c → holds new c q ≡ true → EntersBelow ms old g q

-- and of a step at which g is green
pub record TurnsGreen (ms : List Move) (old new : List Node) (g : ℕ) : Type 0 where
  pub covered : (q : ℕ) → holds new g q ≡ true → EntersBelow ms old g q
  pub leaf : (c : ℕ) → IsChild new g c → ⊥

-- a path to q from a state of the first set
pub record PathFrom (first : ℕ → Bool) (w : List (List Move)) (q : ℕ) : Type 0 where
  pub state : ℕ
  pub path : List Move
  pub here : first state ≡ true
  pub leads : IsMovePath state w path q

-- such a path with an accepting move
pub record AcceptingPathFrom (first : ℕ → Bool) (w : List (List Move)) (q : ℕ) : Type 0 where
  pub back : PathFrom first w q
  pub accepts : list_any (λ e. e.accepting) back.path ≡ true

-- each state that g holds is reached by a path from the first set, and each that a child of g holds by one with an
-- accepting move
pub record Traced (first : ℕ → Bool) (w : List (List Move)) (s : List Node) (g : ℕ) : Type 0 where
  pub own : (q : ℕ) → holds s g q ≡ true → PathFrom first w q
  pub child : (c q : ℕ) → IsChild s g c → holds s c q ≡ true → AcceptingPathFrom first w q

-- for a name without children, the paths are empty
pub traced_leaf : (s : List Node) (g : ℕ) → ((c : ℕ) → IsChild s g c → ⊥) → Traced (holds s g) [] s g
traced_leaf s g leaf = record {
  own = λ q here. record { state = q; path = []; here = here; leads = refl };
  child = λ c q is here. absurd (leaf c is);
}

-- a path with one move appended
abbrev path_on : (first : ℕ → Bool) (w : List (List Move)) (ms : List Move) (q : ℕ) (set : ℕ → Bool) (a : Enters ms set q)
    → PathFrom first w a.move.from → PathFrom first (w ++ ms ∷ []) q
path_on first w ms q set a b = record {
  state = b.state;
  path = b.path ++ a.move ∷ [];
  here = b.here;
  leads = path_push b.state a.move.from q w ms b.path a.move b.leads a.there refl a.to;
}

pub traced_green : (first : ℕ → Bool) (w : List (List Move)) (ms : List Move) (s : List Node) (g q : ℕ) → Traced first w s g → EntersBelow ms s g q
    → AcceptingPathFrom first (w ++ ms ∷ []) q
traced_green first w ms s g q traced (inl a) =
    let b = traced.own a.enters.move.from a.enters.from in
    record {
      back = path_on first w ms q (holds s g) a.enters b;
      accepts = accepts_second b.path (a.enters.move ∷ []) (or_left a.enters.move.accepting false a.accepting);
    }
traced_green first w ms s g q traced (inr a) =
    let b = traced.child a.child a.enters.move.from a.is a.enters.from in
    record {
      back = path_on first w ms q (holds s a.child) a.enters b.back;
      accepts = accepts_first b.back.path (a.enters.move ∷ []) b.accepts;
    }

pub traced_step : (first : ℕ → Bool) (w : List (List Move)) (ms : List Move) (old new : List Node) (g : ℕ) → Traced first w old g → KeepsName ms old new g → Traced first (w ++ ms ∷ []) new g
traced_step first w ms old new g traced keeps = record {
  own = λ q here. (let a = keeps.own q here in path_on first w ms q (holds old g) a (traced.own a.move.from a.from));
  child = λ c q is here. traced_green first w ms old g q traced (keeps.child c q is here);
}

-- every step along w keeps g
abbrev pub KeepsNameAlong : ℕ → ℕ → List Node → List (List Move) → Type 0
KeepsNameAlong n g t [] = Unit {0}
KeepsNameAlong n g t (ms ∷ w) = KeepsName ms t (next_tree n ms t) g × KeepsNameAlong n g (next_tree n ms t) w

pub traced_along : (first : ℕ → Bool) (n g : ℕ) (w v : List (List Move)) (t : List Node) → Traced first w t g → KeepsNameAlong n g t v → Traced first (w ++ v) (tree_after n t v) g
traced_along first n g w [] t traced kept_along = let P : List (List Move) → Type 0 = λ x. Traced first x t g in subst P (sym (append-nil w)) traced
traced_along first n g w (ms ∷ v) t traced kept_along =
    let P : List (List Move) → Type 0 = λ x. Traced first x (tree_after n (next_tree n ms t) v) g in
    subst P (append_assoc w (ms ∷ []) v) (traced_along first n g (w ++ ms ∷ []) v (next_tree n ms t) (traced_step first w ms t (next_tree n ms t) g traced kept_along.0) kept_along.1)

-- from each state back to one of the set, a round earlier; two of the states so found are the same
module _ (set : ℕ → Bool) (round : List (List Move)) (back : (q : ℕ) → set q ≡ true → AcceptingPathFrom set round q) where
  pub record Held : Type 0 where
    pub state : ℕ
    pub here : set state ≡ true

  abbrev one_earlier : Held → Held
  one_earlier a = let b = back a.state a.here in record { state = b.back.state; here = b.back.here }

  abbrev earlier : ℕ → Held → Held
  earlier zero a = a
  earlier (suc k) a = one_earlier (earlier k a)

  pub record ReturnsBy (k : ℕ) (a b : Held) : Type 0 where
    pub path : List Move
    pub leads : IsMovePath b.state (copies k round) path a.state
    pub accepts : 0 < k → list_any (λ e. e.accepting) path ≡ true

  returns : (k : ℕ) (a : Held) → ReturnsBy k a (earlier k a)
  returns zero a = record { path = []; leads = refl; accepts = λ h. absurd (omega (arith, h)) }
  returns (suc k) a =
      let rest = returns k a in
      let b = back (earlier k a).state (earlier k a).here in
      record {
        path = b.back.path ++ rest.path;
        leads = path_join b.back.state (earlier k a).state a.state round (copies k round) b.back.path rest.path b.back.leads rest.leads;
        accepts = λ h. accepts_first b.back.path rest.path b.accepts;
      }

  earlier_more : (j i : ℕ) (a : Held) → earlier j (earlier i a) ≡ earlier (j + i) a
  earlier_more zero i a = let e : i ≡ 0 + i = omega arith in ap (λ k. earlier k a) e
  earlier_more (suc j) i a =
      let e : suc (j + i) ≡ suc j + i = omega arith in
      ap one_earlier (earlier_more j i a) ∙ ap (λ k. earlier k a) e

  pub find_cycle : (g : ℕ) (t : List Node) (n : ℕ) → set ≡ holds t g → ((q : ℕ) → set q ≡ true → q < n) → Held → HasCycle g t round
  find_cycle g t n is below a =
      let again = pigeons n (λ i. (earlier i a).state) (suc n) (omega arith) (λ i within. below (earlier i a).state (earlier i a).here) in
      let b = earlier again.first a in
      let d = again.second - again.first in
      let e : d + again.first ≡ again.second = omega (arith, again.later) in
      let found = returns d b in
      let same : (earlier d b).state ≡ b.state = ap (λ c. c.state) (earlier_more d again.first a ∙ ap (λ k. earlier k a) e) ∙ sym again.same in
      let positive : 0 < d = omega (arith, again.later) in
      let P : ℕ → Type 0 = λ p. IsMovePath p (copies d round) found.path b.state in
      record {
        state = b.state;
        cycle_rounds = d;
        path = found.path;
        here = ap (λ f. f b.state) (sym is) ∙ b.here;
        positive = positive;
        leads = subst P same found.leads;
        accepts = found.accepts positive;
      }
