-- Edges that letters meet, the moves that they are, and paths of both.
use Rattle.std.proofs.Common.{◌≡◌, ◌∙◌, ◌<◌, ℕ, true, false, List, [], ◌∷◌, Contains, ap, filter, map, refl, subst, sym}
use Rattle.std.proofs.lemmas.List.Elements.{All-contains}
use Rattle.std.specs.List.{list_any}
use Rattle.aut_base.proofs.lists.Lists.{list_any-map}
use Rattle.aut_base.proofs.lists.Members.{from_filter, from_map, there_filter, there_map}
use Rattle.aut_base.specs.Acceptance.{IsPath}
use Rattle.aut_base.specs.Automaton.{Automaton, IsEdgeOf, LabelledEdge}
use Rattle.aut_base.specs.Formula.{FormulaTree, Inf, met}
use Rattle.aut_base.specs.Marks.{is_in}
use Rattle.aut_base.specs.Word.{NameSet}
use Rattle.aut_core.specs.Deterministic.{is_met}
use Rattle.safra_trees.specs.declared.moves.Move.{Move}
use Rattle.safra_laws.specs.Rounds.{GoalsBelow, IsMovePath}
use Rattle.parity_laws.specs.Buchi.{IsBuchiForm, WellFormedIsBuchi, move_of, moves_at}

pub well_formed_is_buchi : WellFormedIsBuchi
well_formed_is_buchi b formed formula = record {
  formula = formula;
  starts = λ s there. All-contains (λ q. q < b.states) b.starts s formed.starts there;
  ends = λ e there. (All-contains (IsEdgeOf b) b.edges e formed.edges there).to;
}

pub move_there : (b : Automaton) (x : NameSet) (e : LabelledEdge) → Contains b.edges e → is_met b.names x e ≡ true → Contains (moves_at b x) (move_of e)
move_there b x e there meets = there_map move_of (filter (is_met b.names x) b.edges) e (there_filter (is_met b.names x) b.edges e there meets)

-- a move of a letter is an edge that the letter meets
pub record EdgeOf (b : Automaton) (x : NameSet) (m : Move) : Type 0 where
  pub edge : LabelledEdge
  pub there : Contains b.edges edge
  pub meets : is_met b.names x edge ≡ true
  pub is : move_of edge ≡ m

pub edge_of : (b : Automaton) (x : NameSet) (m : Move) → Contains (moves_at b x) m → EdgeOf b x m
edge_of b x m there =
    let found = from_map move_of (filter (is_met b.names x) b.edges) m there in
    let parts = from_filter (is_met b.names x) b.edges found.0 found.1 in
    record { edge = found.0; there = parts.0; meets = parts.1; is = found.2 }

pub goals_below : (b : Automaton) → IsBuchiForm b → (xs : List NameSet) → GoalsBelow b.states (map (moves_at b) xs)
goals_below b buchi [] = tt
goals_below b buchi (x ∷ xs) = (
  (λ m there. (let e = edge_of b x m there in subst (λ (w : Move). w.to < b.states) e.is (buchi.ends e.edge e.there))),
  goals_below b buchi xs,
)

-- a path of edges, as one of moves
pub moves_of_path : (b : Automaton) (p q : ℕ) (xs : List NameSet) (es : List LabelledEdge) → IsPath b p xs es q → IsMovePath p (map (moves_at b) xs) (map move_of es) q
moves_of_path b p q [] [] path = path
moves_of_path b p q [] (e ∷ es) path = absurd path
moves_of_path b p q (x ∷ xs) [] path = absurd path
moves_of_path b p q (x ∷ xs) (e ∷ es) path = (path.0, move_there b x e path.1 path.2, moves_of_path b e.to q xs es path.3)

-- and a path of moves, as one of edges
pub record EdgePath (b : Automaton) (p q : ℕ) (xs : List NameSet) (ms : List Move) : Type 0 where
  pub edges : List LabelledEdge
  pub path : IsPath b p xs edges q
  pub is : map move_of edges ≡ ms

pub edges_of_path : (b : Automaton) (p q : ℕ) (xs : List NameSet) (ms : List Move) → IsMovePath p (map (moves_at b) xs) ms q → EdgePath b p q xs ms
edges_of_path b p q [] [] path = record { edges = []; path = path; is = refl }
edges_of_path b p q [] (m ∷ ms) path = absurd path
edges_of_path b p q (x ∷ xs) [] path = absurd path
edges_of_path b p q (x ∷ xs) (m ∷ ms) path =
    let e = edge_of b x m path.1 in
    let rest = edges_of_path b m.to q xs ms path.2 in
    let begins : p ≡ e.edge.from = path.0 ∙ ap (λ (w : Move). w.from) (sym e.is) in
    let behind : m.to ≡ e.edge.to = ap (λ (w : Move). w.to) (sym e.is) in
    record {
      edges = e.edge ∷ rest.edges;
      path = (begins, e.there, e.meets, subst (λ r. IsPath b r xs rest.edges q) behind rest.path);
      is = ap (λ (w : Move). w ∷ map move_of rest.edges) e.is ∙ ap (λ ws. m ∷ ws) rest.is;
    }

-- a cycle is in set 0 exactly where one of its moves is accepting
pub met_buchi : (es : List LabelledEdge) → met (map (λ (e : LabelledEdge). e.marks) es) (Inf 0 false) ≡ list_any (λ (m : Move). m.accepting) (map move_of es)
met_buchi es = list_any-map (is_in 0) (λ (e : LabelledEdge). e.marks) es ∙ sym (list_any-map (λ (m : Move). m.accepting) move_of es)

pub accepting_met : (es : List LabelledEdge) (ms : List Move) (f : FormulaTree) → f ≡ Inf 0 false → map move_of es ≡ ms → list_any (λ (m : Move). m.accepting) ms ≡ true
    → met (map (λ (e : LabelledEdge). e.marks) es) f ≡ true
accepting_met es ms f formula is accepts = ap (met (map (λ (e : LabelledEdge). e.marks) es)) formula ∙ (met_buchi es ∙ (ap (list_any (λ (m : Move). m.accepting)) is ∙ accepts))
