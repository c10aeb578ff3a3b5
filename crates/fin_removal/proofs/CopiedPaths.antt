-- Paths of an automaton, and those of it with its copies.
use Rattle.std.proofs.Common.{◌≡◌, ◌∙◌, ◌+◌, ◌*◌, ◌<◌, ◌⊎◌, ℕ, true, List, [], ◌∷◌, Contains, ap, arith, map, refl, subst, sym, inl, inr, ⊎_elim}
use Rattle.std.proofs.lemmas.Nat.{same_from_place}
use Rattle.aut_base.proofs.lists.Members.{first_there, later_there, there_cases}
use Rattle.aut_base.specs.Acceptance.{IsPath}
use Rattle.aut_base.specs.Automaton.{Automaton, IsWellFormed, LabelledEdge}
use Rattle.aut_base.specs.Label.{holds_at, truth}
use Rattle.aut_base.specs.Word.{NameSet}
use Rattle.acc_forms.specs.Terms.{terms}
use Rattle.fin_removal.proofs.CopiedEdges.{Enters, Stays, Within, comes_from, edge_bounds, has_enter, has_stay, has_within}
use Rattle.fin_removal.specs.Copies.{copied, term_copies}
use Rattle.fin_removal.proofs.Parts.{allows, edge_in, enter, state_in, stay}
use Rattle.fin_removal.specs.declared.term_copy.TermCopy.{TermCopy}
use Rattle.fin_removal.proofs.CopyNumbers.{is_among, same_number}

abbrev pub copies_of : Automaton → List TermCopy
copies_of a = term_copies (terms a.formula)

-- a path in the main copy
pub main_path : (a : Automaton) (p q : ℕ) (xs : List NameSet) (es : List LabelledEdge) → IsPath a p xs es q → IsPath (copied a) p xs (map stay es) q
main_path a p q [] [] path = path
main_path a p q [] (e ∷ es) path = absurd path
main_path a p q (x ∷ xs) [] path = absurd path
main_path a p q (x ∷ xs) (e ∷ es) path = (path.0, has_stay a (copies_of a) e path.1, path.2, main_path a e.to q xs es path.3)

-- the edges of the main copy, of which the last one leads into another copy
abbrev pub entered : ℕ → TermCopy → LabelledEdge → List LabelledEdge → List LabelledEdge
entered n copy e [] = enter n e copy ∷ []
entered n copy e (f ∷ fs) = stay e ∷ entered n copy f fs

-- a path into a copy
pub entering_path : (a : Automaton) (copy : TermCopy) → Contains (copies_of a) copy → (p q : ℕ) (xs : List NameSet) (e : LabelledEdge) (es : List LabelledEdge) → IsPath a p xs (e ∷ es) q
    → IsPath (copied a) p xs (entered a.states copy e es) (state_in a.states copy.number q)
entering_path a copy listed p q [] e es path = absurd path
entering_path a copy listed p q (x ∷ []) e [] path = (path.0, has_enter a (copies_of a) e copy path.1 listed, path.2, ap (state_in a.states copy.number) path.3)
entering_path a copy listed p q (x ∷ y ∷ ys) e [] path = absurd path.3
entering_path a copy listed p q (x ∷ xs) e (f ∷ fs) path = (path.0, has_stay a (copies_of a) e path.1, path.2, entering_path a copy listed e.to q xs f fs path.3)

-- a path in a copy, along edges that it allows
pub copy_path : (a : Automaton) (copy : TermCopy) → Contains (copies_of a) copy → (p q : ℕ) (xs : List NameSet) (es : List LabelledEdge)
    → ((e : LabelledEdge) → Contains es e → allows copy e.marks ≡ true) → IsPath a p xs es q
    → IsPath (copied a) (state_in a.states copy.number p) xs (map (edge_in a.states copy) es) (state_in a.states copy.number q)
copy_path a copy listed p q [] [] allowed path = ap (state_in a.states copy.number) path
copy_path a copy listed p q [] (e ∷ es) allowed path = absurd path
copy_path a copy listed p q (x ∷ xs) [] allowed path = absurd path
copy_path a copy listed p q (x ∷ xs) (e ∷ es) allowed path = (
  ap (state_in a.states copy.number) path.0,
  has_within a (copies_of a) e copy path.1 listed (allowed e (first_there e es)),
  path.2,
  copy_path a copy listed e.to q xs es (λ f there. allowed f (later_there e es f there)) path.3,
)

-- a path within a copy is the copy's image of a path of the automaton
pub record InCopy (a : Automaton) (copy : TermCopy) (p : ℕ) (xs : List NameSet) (fs : List LabelledEdge) (state : ℕ) : Type 0 where
  pub edges : List LabelledEdge
  pub end : ℕ
  pub path : IsPath a p xs edges end
  pub at : state ≡ state_in a.states copy.number end
  pub below : end < a.states
  pub allowed : (e : LabelledEdge) → Contains edges e → allows copy e.marks ≡ true
  pub is : fs ≡ map (edge_in a.states copy) edges

-- no copy has the number of the main one
pub not_main : (a : Automaton) (copy : TermCopy) → Contains (copies_of a) copy → (p e : ℕ) → p < a.states → e < a.states → state_in a.states copy.number p ≡ e → ⊥
not_main a copy listed p e below bound same =
    let among = is_among 1 0 (terms a.formula) copy listed in
    let z : copy.number * a.states + p ≡ 0 * a.states + e = omega (arith, same) in
    let numbers = same_from_place copy.number p 0 e a.states below bound z in
    omega (arith, among.number_from, numbers.0)

allowed_more : (copy : TermCopy) (e : LabelledEdge) (es : List LabelledEdge) → allows copy e.marks ≡ true → ((f : LabelledEdge) → Contains es f → allows copy f.marks ≡ true) → (f : LabelledEdge)
    → Contains (e ∷ es) f → allows copy f.marks ≡ true
allowed_more copy e es here rest f there = ⊎_elim (λ (same : e ≡ f). ap (λ (g : LabelledEdge). allows copy g.marks) (sym same) ∙ here) (rest f) (there_cases e es f there)

module _ (a : Automaton) (formed : IsWellFormed a) where
  -- a path from a state of a copy stays in that copy
  pub from_copy : (copy : TermCopy) → Contains (copies_of a) copy → (p : ℕ) → p < a.states → (xs : List NameSet) (fs : List LabelledEdge) (state : ℕ)
      → IsPath (copied a) (state_in a.states copy.number p) xs fs state → InCopy a copy p xs fs state
  from_copy copy listed p below [] [] state path = record { edges = []; end = p; path = refl; at = sym path; below = below; allowed = λ e there. absurd (omega (arith, there.1)); is = refl }
  from_copy copy listed p below [] (f ∷ fs) state path = absurd path
  from_copy copy listed p below (x ∷ xs) [] state path = absurd path
  from_copy copy listed p below (x ∷ xs) (f ∷ fs) state path = ⊎_elim
      (λ (s : Stays a f). absurd (not_main a copy listed p s.edge.from below (edge_bounds a formed s.edge s.there).from (path.0 ∙ ap (λ (g : LabelledEdge). g.from) (sym s.is))))
      (⊎_elim
      (λ (s : Enters a (copies_of a) f). absurd (not_main a copy listed p s.edge.from below (edge_bounds a formed s.edge s.there).from (path.0 ∙ ap (λ (g : LabelledEdge). g.from) (sym s.is))))
      (λ (s : Within a (copies_of a) f).
      let e = s.edge in
      let bounds = edge_bounds a formed e s.there in
      let places = same_from_place copy.number p s.copy.number e.from a.states below bounds.from (path.0 ∙ ap (λ (g : LabelledEdge). g.from) (sym s.is)) in
      let one : s.copy ≡ copy = same_number 1 0 (terms a.formula) s.copy copy s.listed listed (sym places.0) in
      let is : f ≡ edge_in a.states copy e = sym s.is ∙ ap (λ (k : TermCopy). edge_in a.states k e) one in
      let rest = from_copy copy listed e.to bounds.to xs fs state (subst (λ (t : ℕ). IsPath (copied a) t xs fs state) (ap (λ (g : LabelledEdge). g.to) is) path.3) in
      record {
        edges = e ∷ rest.edges;
        end = rest.end;
        path = (places.1, s.there, ap (λ (g : LabelledEdge). truth (holds_at a.names x) g.label) (sym is) ∙ path.2, rest.path);
        at = rest.at;
        below = rest.below;
        allowed = allowed_more copy e rest.edges (ap (λ (k : TermCopy). allows k e.marks) (sym one) ∙ s.allowed) rest.allowed;
        is = ap (λ (g : LabelledEdge). g ∷ fs) is ∙ ap (λ (gs : List LabelledEdge). edge_in a.states copy e ∷ gs) rest.is;
      }))
      (comes_from a (copies_of a) f path.1)

  -- the path was in the main copy all the time, or is in another one now
  pub record IsMain (q : ℕ) (es fs : List LabelledEdge) (state : ℕ) : Type 0 where
    pub at : state ≡ q
    pub is : fs ≡ map stay es

  pub record IsElsewhere (q state : ℕ) : Type 0 where
    pub copy : TermCopy
    pub listed : Contains (copies_of a) copy
    pub at : state ≡ state_in a.states copy.number q

  pub record FromMain (p : ℕ) (xs : List NameSet) (fs : List LabelledEdge) (state : ℕ) : Type 0 where
    pub edges : List LabelledEdge
    pub end : ℕ
    pub path : IsPath a p xs edges end
    pub below : end < a.states
    pub place : IsMain end edges fs state ⊎ IsElsewhere end state

  pub from_main : (p : ℕ) → p < a.states → (xs : List NameSet) (fs : List LabelledEdge) (state : ℕ) → IsPath (copied a) p xs fs state → FromMain p xs fs state
  from_main p below [] [] state path = record { edges = []; end = p; path = refl; below = below; place = inl (record { at = sym path; is = refl }) }
  from_main p below [] (f ∷ fs) state path = absurd path
  from_main p below (x ∷ xs) [] state path = absurd path
  from_main p below (x ∷ xs) (f ∷ fs) state path = ⊎_elim
      (λ (s : Stays a f).
      let e = s.edge in
      let bounds = edge_bounds a formed e s.there in
      let rest = from_main e.to bounds.to xs fs state (subst (λ (t : ℕ). IsPath (copied a) t xs fs state) (ap (λ (g : LabelledEdge). g.to) (sym s.is)) path.3) in
      record {
        edges = e ∷ rest.edges;
        end = rest.end;
        path = (path.0 ∙ ap (λ (g : LabelledEdge). g.from) (sym s.is), s.there, ap (λ (g : LabelledEdge). truth (holds_at a.names x) g.label) s.is ∙ path.2, rest.path);
        below = rest.below;
        place = ⊎_elim
            (λ (m : IsMain rest.end rest.edges fs state). inl (record { at = m.at; is = ap (λ (g : LabelledEdge). g ∷ fs) (sym s.is) ∙ ap (λ (gs : List LabelledEdge). stay e ∷ gs) m.is }))
            (λ (m : IsElsewhere rest.end state). inr m)
            rest.place;
      })
      (⊎_elim
      (λ (s : Enters a (copies_of a) f).
      let e = s.edge in
      let bounds = edge_bounds a formed e s.there in
      let rest = from_copy s.copy s.listed e.to bounds.to xs fs state (subst (λ (t : ℕ). IsPath (copied a) t xs fs state) (ap (λ (g : LabelledEdge). g.to) (sym s.is)) path.3) in
      record {
        edges = e ∷ rest.edges;
        end = rest.end;
        path = (path.0 ∙ ap (λ (g : LabelledEdge). g.from) (sym s.is), s.there, ap (λ (g : LabelledEdge). truth (holds_at a.names x) g.label) s.is ∙ path.2, rest.path);
        below = rest.below;
        place = inr (record { copy = s.copy; listed = s.listed; at = rest.at });
      })
      (λ (s : Within a (copies_of a) f). absurd (not_main a s.copy s.listed s.edge.from p (edge_bounds a formed s.edge s.there).from below (ap (λ (g : LabelledEdge). g.from) s.is ∙ sym path.0))))
      (comes_from a (copies_of a) f path.1)
