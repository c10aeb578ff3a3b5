-- Simulation of one automaton by another, edge by edge, along a relation of their states.
use Rattle.std.proofs.Common.{◌≡◌, ℕ, true, List, [], ◌∷◌, ◌++◌, Contains, refl, subst}
use Rattle.std.specs.List.{AllZip}
use Rattle.aut_base.specs.Acceptance.{IsPath}
use Rattle.aut_base.specs.Automaton.{Automaton, LabelledEdge}
use Rattle.aut_base.specs.Label.{holds_at, truth}
use Rattle.aut_base.specs.Word.{NameSet, copies}
use Rattle.aut_base.proofs.runs.LassoRuns.{marks_of}
use Rattle.aut_base.specs.Runs.{LassoRun}
use Rattle.aut_ops.specs.Languages.{begun}

-- an edge of the automaton b that answers one of the other: it leaves the state q, and its label holds of the letter
pub record Answer (b : Automaton) (Stands : ℕ → ℕ → Type 0) (Marked : List ℕ → List ℕ → Type 0) (x : NameSet) (q : ℕ) (e : LabelledEdge) : Type 0 where
  pub edge : LabelledEdge
  pub from : q ≡ edge.from
  pub there : Contains b.edges edge
  pub holds : truth (holds_at b.names x) edge.label ≡ true
  pub to : Stands e.to edge.to
  pub marks : Marked e.marks edge.marks

-- Where a state of the first is related to one of the second, each edge from it whose label holds of a letter is answered from
-- there. A state is related to at most one.
pub record Simulates (a b : Automaton) (Stands : ℕ → ℕ → Type 0) (Marked : List ℕ → List ℕ → Type 0) : Type 0 where
  pub one : (p q r : ℕ) → Stands p q → Stands p r → q ≡ r
  pub step : (p q : ℕ) (e : LabelledEdge) (x : NameSet) → Stands p q → p ≡ e.from → Contains a.edges e → truth (holds_at a.names x) e.label ≡ true → Answer b Stands Marked x q e

-- the path of the second that answers one of the first
pub record Image (b : Automaton) (Stands : ℕ → ℕ → Type 0) (Marked : List ℕ → List ℕ → Type 0) (q : ℕ) (xs : List NameSet) (es : List LabelledEdge) (p' : ℕ) : Type 0 where
  pub state : ℕ
  pub edges : List LabelledEdge
  pub goes : IsPath b q xs edges state
  pub to : Stands p' state
  pub marks : AllZip Marked (marks_of es) (marks_of edges)

pub image : (a b : Automaton) (Stands : ℕ → ℕ → Type 0) (Marked : List ℕ → List ℕ → Type 0) → Simulates a b Stands Marked → (p q p' : ℕ) (xs : List NameSet) (es : List LabelledEdge) → Stands p q
    → IsPath a p xs es p' → Image b Stands Marked q xs es p'
image a b Stands Marked sim p q p' [] [] stands path = record { state = q; edges = []; goes = refl; to = subst (λ s. Stands s q) path stands; marks = tt }
image a b Stands Marked sim p q p' [] (e ∷ es) stands path = absurd path
image a b Stands Marked sim p q p' (x ∷ xs) [] stands path = absurd path
image a b Stands Marked sim p q p' (x ∷ xs) (e ∷ es) stands path =
    let first = sim.step p q e x stands path.0 path.1 path.2 in
    let rest = image a b Stands Marked sim e.to first.edge.to p' xs es first.to path.3 in
    record {
      state = rest.state;
      edges = first.edge ∷ rest.edges;
      goes = (first.from, first.there, first.holds, rest.goes);
      to = rest.to;
      marks = (first.marks, rest.marks);
    }

-- the run of the second that answers one of the first
pub record RunImage (b : Automaton) (Marked : List ℕ → List ℕ → Type 0) (u v : List NameSet) (stem_rounds cycle_rounds : ℕ) (cycle : List LabelledEdge) : Type 0 where
  pub run : LassoRun b u v stem_rounds cycle_rounds
  pub marks : AllZip Marked (marks_of cycle) (marks_of run.cycle)

pub run_image : (a b : Automaton) (Stands : ℕ → ℕ → Type 0) (Marked : List ℕ → List ℕ → Type 0) → Simulates a b Stands Marked
    → (u v : List NameSet) (stem_rounds cycle_rounds : ℕ) (r : LassoRun a u v stem_rounds cycle_rounds) (start : ℕ) → Contains b.starts start → Stands r.start start
    → RunImage b Marked u v stem_rounds cycle_rounds r.cycle
run_image a b Stands Marked sim u v stem_rounds cycle_rounds r start is_start stands =
    let path_edges = image a b Stands Marked sim r.start start r.state (u ++ copies stem_rounds v) r.path_edges stands r.leads in
    let cycle = image a b Stands Marked sim r.state path_edges.state r.state (copies cycle_rounds v) r.cycle path_edges.to r.returns in
    let P : ℕ → Type 0 = λ s. IsPath b path_edges.state (copies cycle_rounds v) cycle.edges s in
    record {
      run = record {
        start = start;
        state = path_edges.state;
        path_edges = path_edges.edges;
        cycle = cycle.edges;
        is_start = is_start;
        leads = path_edges.goes;
        returns = subst P (sim.one r.state cycle.state path_edges.state cycle.to path_edges.to) cycle.goes;
      };
      marks = cycle.marks;
    }

-- a simulation is one whatever the starts of the two automata are
pub begun_alike : (a b : Automaton) (p q : ℕ) (Stands : ℕ → ℕ → Type 0) (Marked : List ℕ → List ℕ → Type 0) → Simulates a b Stands Marked → Simulates (begun p a) (begun q b) Stands Marked
begun_alike a b p q Stands Marked sim = record {
  one = sim.one;
  step = λ k l e x stands from there holds.
      let answer = sim.step k l e x stands from there holds in
      record { edge = answer.edge; from = answer.from; there = answer.there; holds = answer.holds; to = answer.to; marks = answer.marks };
}
