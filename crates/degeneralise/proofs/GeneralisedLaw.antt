-- A generalised Büchi condition asks of a cycle that each of its literals is met.
use Rattle.std.proofs.Common.{◌≡◌, ◌∙◌, ◌↔◌, ◌<◌, ◌&&◌, ℕ, zero, suc, true, false, Some, List, [], ◌∷◌, ◌≤◌, Contains, ap, arith, flat_map, length, refl, subst, sym}
use Rattle.std.specs.List.{list_all, list_any}
use Rattle.std.proofs.lemmas.Bool.{false≢true}
use Rattle.std.proofs.lemmas.List.{length-map}
use Rattle.std.proofs.lemmas.Option.{none-some, same_Some}
use Rattle.aut_base.proofs.lists.Members.{each_from, each_is, first_there, from_flat_map, there_flat_map}
use Rattle.aut_base.proofs.numbers.Truth.{and-true}
use Rattle.aut_base.proofs.runs.LassoRuns.{marks_of}
use Rattle.aut_base.specs.Acceptance.{IsPath}
use Rattle.aut_base.specs.Automaton.{Automaton, IsWellFormed, LabelledEdge}
use Rattle.aut_base.specs.Formula.{FormulaTree, FormulaTrees, True, False, And, Or, none, more, met, all_met}
use Rattle.aut_base.specs.Formula as formula
use Rattle.aut_base.specs.Word.{NameSet}
use Rattle.aut_core.specs.OtherNames.{AcceptTheSame}
use Rattle.acc_forms.specs.Joined.{conjuncts, parts_list}
use Rattle.acc_forms.specs.declared.literal.Literal.{Literal}
use Rattle.acc_forms.specs.declared.literal.Literal.TheVariants.{Inf}
use Rattle.fin_removal.proofs.CopiedEdges.{edge_bounds}
use Rattle.fin_removal.proofs.TermMet.{each_passed, passes_each}
use Rattle.fin_removal.specs.Meeting.{meets}
use Rattle.degeneralise.specs.Buchi.{Watch, inf_literals, is_generalised_buchi, with_counters, levels, watch_of}
use Rattle.degeneralise.specs.inner.Parts.{is_inf_atom}
use Rattle.degeneralise.proofs.LevelledLaw.{PassesAll, levelled_accepts_the_same}
use Rattle.degeneralise.proofs.WatchLists.{watch_first}

-- the truth of a condition, by its conjuncts
all-listed : (cycle : List (List ℕ)) (fs : FormulaTrees) → list_all (met cycle) (parts_list fs) ≡ all_met cycle fs
all-listed cycle none = refl
all-listed cycle (more f fs) = ap (λ b. met cycle f && b) (all-listed cycle fs)

all-conjuncts : (cycle : List (List ℕ)) (f : FormulaTree) → list_all (met cycle) (conjuncts f) ≡ met cycle f
all-conjuncts cycle True = refl
all-conjuncts cycle False = refl
all-conjuncts cycle (formula.Inf set neg) = and-true (met cycle (formula.Inf set neg))
all-conjuncts cycle (formula.Fin set neg) = and-true (met cycle (formula.Fin set neg))
all-conjuncts cycle (And a b cs) = ap (λ rest. met cycle a && (met cycle b && rest)) (all-listed cycle cs)
all-conjuncts cycle (Or a b cs) = and-true (met cycle (Or a b cs))

-- an Inf of the parts and its literal
met_literal : (cycle : List (List ℕ)) (f : FormulaTree) (l : Literal) → Contains (inf_literals f) l → met cycle f ≡ list_any (λ marks. meets marks l) cycle
met_literal cycle True l there = absurd (omega (arith, there.1))
met_literal cycle False l there = absurd (omega (arith, there.1))
met_literal cycle (formula.Inf set false) l (zero, within, is) = ap (λ m. list_any (λ marks. meets marks m) cycle) is
met_literal cycle (formula.Inf set true) l (zero, within, is) = ap (λ m. list_any (λ marks. meets marks m) cycle) is
met_literal cycle (formula.Inf set neg) l (suc k, within, is) = absurd (omega (arith, within))
met_literal cycle (formula.Fin set neg) l there = absurd (omega (arith, there.1))
met_literal cycle (And a b cs) l there = absurd (omega (arith, there.1))
met_literal cycle (Or a b cs) l there = absurd (omega (arith, there.1))

literal_of : (f : FormulaTree) → is_inf_atom f ≡ true → (l : Literal) × Contains (inf_literals f) l
literal_of True inf = absurd (false≢true inf)
literal_of False inf = absurd (false≢true inf)
literal_of (formula.Inf set neg) inf = (Inf set neg, first_there (Inf set neg) [])
literal_of (formula.Fin set neg) inf = absurd (false≢true inf)
literal_of (And a b cs) inf = absurd (false≢true inf)
literal_of (Or a b cs) inf = absurd (false≢true inf)

pub generalised_asks : (f : FormulaTree) (es : List LabelledEdge) → is_generalised_buchi f ≡ true → 0 < length es → (met (marks_of es) f ≡ true) ↔ PassesAll (flat_map inf_literals (conjuncts f)) es
generalised_asks f es generalised some = (
  λ holds level within. passes_each (flat_map inf_literals (conjuncts f)) (marks_of es) (omega (arith, some, length-map es (λ (e : LabelledEdge). e.marks))) (λ l there.
      (let part = from_flat_map inf_literals (conjuncts f) l there in
      sym (met_literal (marks_of es) part.0 l part.2) ∙ each_is (met (marks_of es)) (conjuncts f) part.0 (all-conjuncts (marks_of es) f ∙ holds) part.1)) level,
  λ passes. sym (all-conjuncts (marks_of es) f) ∙ each_from (met (marks_of es)) (conjuncts f) (λ part there.
      (let l = literal_of part (each_is is_inf_atom (conjuncts f) part generalised there) in
      met_literal (marks_of es) part l.0 l.1 ∙ each_passed (flat_map inf_literals (conjuncts f)) (marks_of es) passes l.0 (there_flat_map inf_literals (conjuncts f) part l.0 there l.1))),
)

-- a path that isn't empty begins with an edge
pub record Begins (a : Automaton) (p : ℕ) : Type 0 where
  pub edge : LabelledEdge
  pub there : Contains a.edges edge
  pub from : p ≡ edge.from

pub begins : (a : Automaton) (p q : ℕ) (xs : List NameSet) (es : List LabelledEdge) → 0 < length es → IsPath a p xs es q → Begins a p
begins a p q xs [] some path = absurd (omega (arith, some))
begins a p q [] (e ∷ es) some path = absurd path
begins a p q (x ∷ xs) (e ∷ es) some path = record { edge = e; there = path.1; from = path.0 }

pub generalised_accepts_the_same : (k : ℕ) (a : Automaton) → IsWellFormed a → is_generalised_buchi a.formula ≡ true
    → ((state : ℕ) → levels (watch_of a.states (Some (flat_map inf_literals (conjuncts a.formula)) ∷ []) state) ≤ k)
    → AcceptTheSame (with_counters k (watch_of a.states (Some (flat_map inf_literals (conjuncts a.formula)) ∷ [])) a) a
generalised_accepts_the_same k a formed generalised room =
    let ls : List Literal = flat_map inf_literals (conjuncts a.formula) in
    let watch : ℕ → Watch = watch_of a.states (Some ls ∷ []) in
    let waits_for : (q : ℕ) → q < a.states → watch q ≡ Some ls = λ q below. watch_first a.states q (Some ls) [] below in
    levelled_accepts_the_same k watch a
    (record {
      formed = formed;
      room = room;
      settled = λ e there its waits. (let bounds = edge_bounds a formed e there in waits_for e.to bounds.to ∙ (sym (waits_for e.from bounds.from) ∙ waits));
    })
    (record {
      waits = λ q its xs es some path waits.
          (let first = begins a q q xs es some path in
          let below : q < a.states = omega (arith, first.from, (edge_bounds a formed first.edge first.there).from) in
          let same : ls ≡ its = same_Some ls its (sym (waits_for q below) ∙ waits) in
          subst (λ (those : List Literal). (met (marks_of es) a.formula ≡ true) ↔ PassesAll those es) same (generalised_asks a.formula es generalised some));
      never = λ q xs es some path waits holds.
          (let first = begins a q q xs es some path in
          let below : q < a.states = omega (arith, first.from, (edge_bounds a formed first.edge first.there).from) in
          none-some ls (sym waits ∙ waits_for q below));
    })
