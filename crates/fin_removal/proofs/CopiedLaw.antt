-- An automaton accepts the same lasso words with its copies.
use Rattle.std.proofs.Common.{◌≡◌, ◌∙◌, ◌+◌, ◌-◌, ◌<◌, ℕ, true, false, List, [], ◌∷◌, ◌++◌, Contains, ap, arith, length, map, refl, subst, sym, ⊎_elim}
use Rattle.std.specs.List.{list_all, list_any}
use Rattle.std.proofs.lemmas.Bool.{false≢true}
use Rattle.std.proofs.lemmas.List.{append_assoc, length-map}
use Rattle.std.proofs.lemmas.List.Elements.{All-contains}
use Rattle.std.proofs.lemmas.Nat.{same_from_place}
use Rattle.acc_forms.proofs.TermLaws.{met-of_terms, met-terms}
use Rattle.acc_forms.specs.Terms.{literal_formula, terms}
use Rattle.aut_base.proofs.lists.Copies.{copies-add}
use Rattle.aut_base.proofs.lists.Members.{any_found, any_from, from_map, there_map}
use Rattle.aut_base.proofs.runs.LassoRuns.{accepts_of, marks_of}
use Rattle.aut_base.proofs.runs.Paths.{some_edges, path_join}
use Rattle.aut_base.specs.Acceptance.{Accepts, IsPath}
use Rattle.aut_base.specs.Automaton.{Automaton, IsWellFormed, LabelledEdge}
use Rattle.aut_base.specs.Formula.{met}
use Rattle.aut_base.specs.Marks.{is_in}
use Rattle.aut_base.specs.Runs.{LassoRun}
use Rattle.aut_base.specs.Word.{NameSet, copies}
use Rattle.aut_core.specs.OtherNames.{AcceptTheSame}
use Rattle.fin_removal.specs.Copies.{copied, owned, owned_sets}
use Rattle.fin_removal.proofs.Parts.{allows, edge_in, state_in, stay}
use Rattle.fin_removal.specs.Meeting.{meets_at}
use Rattle.fin_removal.specs.declared.term_copy.TermCopy.{TermCopy}
use Rattle.fin_removal.proofs.CopiedPaths.{IsElsewhere, IsMain, copies_of, copy_path, entered, entering_path, from_copy, from_main, main_path, not_main}
use Rattle.fin_removal.proofs.CopyNumbers.{Owns, copy_for, same_set, term_for}
use Rattle.fin_removal.proofs.TermMet.{IsMetIn, in_marks, of_marks, owned_is_met, owned_met, term_is_met, term_met}

-- the copy of a term that the cycle meets
record MetCopy (a : Automaton) (es : List LabelledEdge) : Type 0 where
  copy : TermCopy
  listed : Contains (copies_of a) copy
  met : IsMetIn copy (marks_of es)

met_copy : (a : Automaton) (es : List LabelledEdge) → 0 < length es → met (marks_of es) a.formula ≡ true → MetCopy a es
met_copy a es some holds =
    let found = any_found (λ term. list_all (λ l. met (marks_of es) (literal_formula l)) term) (terms a.formula) (sym (met-terms (marks_of es) a.formula) ∙ holds) in
    let its = copy_for 1 0 (terms a.formula) found.0 found.1 in
    record { copy = its.copy; listed = its.there; met = term_met (marks_of es) found.0 its.copy (omega (arith, some, length-map es (λ (e : LabelledEdge). e.marks))) its.fins its.infs found.2 }

copy_met : (a : Automaton) (es : List LabelledEdge) (copy : TermCopy) → Contains (copies_of a) copy → IsMetIn copy (marks_of es) → met (marks_of es) a.formula ≡ true
copy_met a es copy listed holds =
    let its = term_for 1 0 (terms a.formula) copy listed in
    met-terms (marks_of es) a.formula ∙ any_from (λ term. list_all (λ l. met (marks_of es) (literal_formula l)) term) (terms a.formula) its.term its.there
    (term_is_met (marks_of es) its.term copy its.fins its.infs holds)

-- where a cycle meets a term, its copy's cycle has all sets of the copy
sets_met : (n : ℕ) (copy : TermCopy) (es : List LabelledEdge) → IsMetIn copy (marks_of es) → (set : ℕ) → Owns copy set → list_any (is_in set) (marks_of (map (edge_in n copy) es)) ≡ true
sets_met n copy es holds set own =
    let begins = own.from in
    let place : ℕ = set - copy.first in
    let at : copy.first + place ≡ set = omega arith in
    let passed = holds.passed place (omega (arith, own.to)) in
    let edge = from_map (λ (e : LabelledEdge). e.marks) es passed.marks passed.there in
    any_from (is_in set) (marks_of (map (edge_in n copy) es)) (edge_in n copy edge.0).marks
    (there_map (λ (e : LabelledEdge). e.marks) (map (edge_in n copy) es) (edge_in n copy edge.0) (there_map (edge_in n copy) es edge.0 edge.1))
    (ap (λ s. is_in s (edge_in n copy edge.0).marks) (sym at) ∙ in_marks copy edge.0.marks place (omega (arith, own.to)) (ap (λ marks. meets_at copy.infs place marks) edge.2 ∙ passed.meets))

-- some path into the copy
record Entering (a : Automaton) (copy : TermCopy) (p : ℕ) (xs : List NameSet) (q : ℕ) : Type 0 where
  edges : List LabelledEdge
  path : IsPath (copied a) p xs edges (state_in a.states copy.number q)

entering : (a : Automaton) (copy : TermCopy) → Contains (copies_of a) copy → (p q : ℕ) (xs : List NameSet) (es : List LabelledEdge) → 0 < length es → IsPath a p xs es q → Entering a copy p xs q
entering a copy listed p q xs [] some path = absurd (omega (arith, some))
entering a copy listed p q xs (e ∷ es) some path = record { edges = entered a.states copy e es; path = entering_path a copy listed p q xs e es path }

-- once more round the cycle
pub gone_on : (u v : List NameSet) (m n : ℕ) → (u ++ copies m v) ++ copies n v ≡ u ++ copies (m + n) v
gone_on u v m n = append_assoc u (copies m v) (copies n v) ∙ ap (λ w. u ++ w) (sym (copies-add m n v))

-- a cycle with all sets of a copy meets the condition
pub own_sets_met : (a : Automaton) (copy : TermCopy) → Contains (copies_of a) copy → (cycle : List LabelledEdge) → ((set : ℕ) → Owns copy set → list_any (is_in set) (marks_of cycle) ≡ true)
    → met (marks_of cycle) (copied a).formula ≡ true
own_sets_met a copy listed cycle carried =
    met-of_terms (marks_of cycle) (owned_sets (terms a.formula))
    ∙ any_from (λ term. list_all (λ l. met (marks_of cycle) (literal_formula l)) term) (owned_sets (terms a.formula)) (owned copy) (there_map owned (copies_of a) copy listed)
    (owned_met (marks_of cycle) copy carried)

with_copies : (a : Automaton) (u v : List NameSet) → Accepts a u v → Accepts (copied a) u v
with_copies a u v r =
    let some = some_edges a r.state r.state r.cycle_rounds v r.cycle r.endless r.positive r.returns in
    let found = met_copy a r.cycle some r.meets in
    let copy = found.copy in
    let cycle : List LabelledEdge = map (edge_in a.states copy) r.cycle in
    let into = entering a copy found.listed r.state r.state (copies r.cycle_rounds v) r.cycle some r.returns in
    let state : ℕ = state_in a.states copy.number r.state in
    record {
      endless = r.endless;
      start = r.start;
      state = state;
      stem_rounds = r.stem_rounds + r.cycle_rounds;
      cycle_rounds = r.cycle_rounds;
      path_edges = map stay r.path_edges ++ into.edges;
      cycle = cycle;
      is_start = r.is_start;
      leads = subst (λ (w : List NameSet). IsPath (copied a) r.start w (map stay r.path_edges ++ into.edges) state) (gone_on u v r.stem_rounds r.cycle_rounds)
          (path_join (copied a) r.start r.state state (u ++ copies r.stem_rounds v) (copies r.cycle_rounds v) (map stay r.path_edges) into.edges
          (main_path a r.start r.state (u ++ copies r.stem_rounds v) r.path_edges r.leads) into.path);
      positive = r.positive;
      returns = copy_path a copy found.listed r.state r.state (copies r.cycle_rounds v) r.cycle
          (λ e there. found.met.allowed e.marks (there_map (λ (d : LabelledEdge). d.marks) r.cycle e there)) r.returns;
      meets = own_sets_met a copy found.listed cycle (sets_met a.states copy r.cycle found.met);
    }

-- a cycle that meets the condition has every set of some copy
record Owner (a : Automaton) (cycle : List LabelledEdge) : Type 0 where
  copy : TermCopy
  listed : Contains (copies_of a) copy
  carried : (set : ℕ) → Owns copy set → list_any (is_in set) (marks_of cycle) ≡ true

owner : (a : Automaton) (cycle : List LabelledEdge) → met (marks_of cycle) (copied a).formula ≡ true → Owner a cycle
owner a cycle holds =
    let found = any_found (λ term. list_all (λ l. met (marks_of cycle) (literal_formula l)) term) (owned_sets (terms a.formula))
    (sym (met-of_terms (marks_of cycle) (owned_sets (terms a.formula))) ∙ holds) in
    let its = from_map owned (copies_of a) found.0 found.1 in
    record { copy = its.0; listed = its.1; carried = owned_is_met (marks_of cycle) its.0 (ap (λ term. list_all (λ l. met (marks_of cycle) (literal_formula l)) term) its.2 ∙ found.2) }

first_set : (copy : TermCopy) → Owns copy copy.first
first_set copy = record { from = omega arith; to = omega arith }

unmarked : (set : ℕ) (es : List LabelledEdge) → list_any (is_in set) (marks_of (map stay es)) ≡ false
unmarked set [] = refl
unmarked set (e ∷ es) = unmarked set es

-- no cycle of the main copy meets the condition
pub not_in_main : (a : Automaton) (es : List LabelledEdge) → met (marks_of (map stay es)) (copied a).formula ≡ true → ⊥
not_in_main a es holds =
    let its = owner a (map stay es) holds in
    false≢true (sym (unmarked its.copy.first es) ∙ its.carried its.copy.first (first_set its.copy))

-- an edge of a copy's cycle that has a set
record Carrier (n : ℕ) (copy : TermCopy) (es : List LabelledEdge) (set : ℕ) : Type 0 where
  edge : LabelledEdge
  there : Contains es edge
  carries : is_in set (edge_in n copy edge).marks ≡ true

carrier : (n : ℕ) (copy : TermCopy) (es : List LabelledEdge) (set : ℕ) → list_any (is_in set) (marks_of (map (edge_in n copy) es)) ≡ true → Carrier n copy es set
carrier n copy es set any =
    let found = any_found (is_in set) (marks_of (map (edge_in n copy) es)) any in
    let edge = from_map (λ (e : LabelledEdge). e.marks) (map (edge_in n copy) es) found.0 found.1 in
    let old = from_map (edge_in n copy) es edge.0 edge.1 in
    record { edge = old.0; there = old.1; carries = ap (λ (e : LabelledEdge). is_in set e.marks) old.2 ∙ (ap (is_in set) edge.2 ∙ found.2) }

-- a cycle of a copy that meets the condition has all sets of the copy
pub own_sets : (a : Automaton) (copy : TermCopy) → Contains (copies_of a) copy → (es : List LabelledEdge) → met (marks_of (map (edge_in a.states copy) es)) (copied a).formula ≡ true → (set : ℕ)
    → Owns copy set → list_any (is_in set) (marks_of (map (edge_in a.states copy) es)) ≡ true
own_sets a copy listed es holds =
    let its = owner a (map (edge_in a.states copy) es) holds in
    let any = carrier a.states copy es its.copy.first (its.carried its.copy.first (first_set its.copy)) in
    let here = of_marks copy any.edge.marks its.copy.first any.carries in
    let within = here.within in
    let same : its.copy ≡ copy = same_set 1 0 (terms a.formula) its.copy.first its.copy copy its.listed listed (first_set its.copy)
    (record { from = omega (arith, here.is); to = omega (arith, here.is) }) in
    λ set own. its.carried set (subst (λ (k : TermCopy). Owns k set) (sym same) own)

-- and meets the copy's term
in_copy : (a : Automaton) (copy : TermCopy) → Contains (copies_of a) copy → (es : List LabelledEdge) → ((e : LabelledEdge) → Contains es e → allows copy e.marks ≡ true)
    → met (marks_of (map (edge_in a.states copy) es)) (copied a).formula ≡ true → IsMetIn copy (marks_of es)
in_copy a copy listed es allowed holds = record {
  allowed = λ marks there. (let edge = from_map (λ (e : LabelledEdge). e.marks) es marks there in ap (allows copy) (sym edge.2) ∙ allowed edge.0 edge.1);
  passed = λ place below.
      (let at = carrier a.states copy es (copy.first + place) (own_sets a copy listed es holds (copy.first + place) (record { from = omega arith; to = omega (arith, below) })) in
      let met_at = of_marks copy at.edge.marks (copy.first + place) at.carries in
      let place_is : met_at.place ≡ place = omega (arith, met_at.is) in
      record { marks = at.edge.marks; there = there_map (λ (e : LabelledEdge). e.marks) es at.edge at.there; meets = ap (λ s. meets_at copy.infs s at.edge.marks) (sym place_is) ∙ met_at.meets });
}

without_copies : (a : Automaton) → IsWellFormed a → (u v : List NameSet) → Accepts (copied a) u v → Accepts a u v
without_copies a formed u v r =
    let path_edges = from_main a formed r.start (All-contains (λ p. p < a.states) a.starts r.start formed.starts r.is_start) (u ++ copies r.stem_rounds v) r.path_edges r.state r.leads in
    ⊎_elim
    (λ (m : IsMain a formed path_edges.end path_edges.edges r.path_edges r.state).
    let cycle = from_main a formed path_edges.end path_edges.below (copies r.cycle_rounds v) r.cycle r.state
    (subst (λ (s : ℕ). IsPath (copied a) s (copies r.cycle_rounds v) r.cycle r.state) m.at r.returns) in
    ⊎_elim
    (λ (n : IsMain a formed cycle.end cycle.edges r.cycle r.state). absurd (not_in_main a cycle.edges (subst (λ (es : List LabelledEdge). met (marks_of es) (copied a).formula ≡ true) n.is r.meets)))
    (λ (n : IsElsewhere a formed cycle.end r.state). absurd (not_main a n.copy n.listed cycle.end path_edges.end cycle.below path_edges.below (sym n.at ∙ m.at)))
    cycle.place)
    (λ (m : IsElsewhere a formed path_edges.end r.state).
    let cycle = from_copy a formed m.copy m.listed path_edges.end path_edges.below (copies r.cycle_rounds v) r.cycle r.state
    (subst (λ (s : ℕ). IsPath (copied a) s (copies r.cycle_rounds v) r.cycle r.state) m.at r.returns) in
    let closed = same_from_place m.copy.number cycle.end m.copy.number path_edges.end a.states cycle.below path_edges.below (sym cycle.at ∙ m.at) in
    let returns = subst (λ (q : ℕ). IsPath a path_edges.end (copies r.cycle_rounds v) cycle.edges q) closed.1 cycle.path in
    let run : LassoRun a u v r.stem_rounds r.cycle_rounds =
    record { start = r.start; state = path_edges.end; path_edges = path_edges.edges; cycle = cycle.edges; is_start = r.is_start; leads = path_edges.path; returns = returns } in
    accepts_of a u v r.stem_rounds r.cycle_rounds run r.endless r.positive
    (copy_met a cycle.edges m.copy m.listed (in_copy a m.copy m.listed cycle.edges cycle.allowed (subst (λ (es : List LabelledEdge). met (marks_of es) (copied a).formula ≡ true) cycle.is r.meets))))
    path_edges.place

pub copied_accepts_the_same : (a : Automaton) → IsWellFormed a → AcceptTheSame (copied a) a
copied_accepts_the_same a formed u v = (without_copies a formed u v, with_copies a u v)
