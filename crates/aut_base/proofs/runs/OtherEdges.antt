-- An automaton accepts what another accepts if, for each edge of that one and each letter of its label, it has an edge between the
-- same states and with the same marks whose label holds of that letter too.
use Rattle.std.proofs.Common.{◌≡◌, ◌∙◌, ◌↔◌, ◌<◌, ℕ, true, List, [], ◌∷◌, ◌++◌, length, map, get_or, Contains, refl, sym, ap, subst, arith}
use Rattle.std.proofs.lemmas.List.{get_or-map, length-map}
use Rattle.std.proofs.lemmas.List.Elements.{Contains-get_or}
use Rattle.aut_base.specs.Acceptance.{Accepts, IsPath}
use Rattle.aut_base.specs.Automaton.{LabelledEdge, Automaton}
use Rattle.aut_base.specs.Formula.{met}
use Rattle.aut_base.specs.Label.{LabelTree, holds_at, truth}
use Rattle.aut_base.specs.Runs.{LassoRun}
use Rattle.aut_base.specs.Word.{NameSet, copies}
use Rattle.aut_base.proofs.runs.LassoRuns.{accepts_of, marks_of, run_of}

-- ---- the same edges

-- a path of an automaton is one of another over the same names that has its edges
pub path_wider : (a b : Automaton) → a.names ≡ b.names → ((e : LabelledEdge) → Contains a.edges e → Contains b.edges e) → (p q : ℕ) (xs : List NameSet) (es : List LabelledEdge) → IsPath a p xs es q
    → IsPath b p xs es q
path_wider a b names has p q [] [] path = path
path_wider a b names has p q [] (e ∷ es) path = absurd path
path_wider a b names has p q (x ∷ xs) [] path = absurd path
path_wider a b names has p q (x ∷ xs) (e ∷ es) path =
    (path.0, has e path.1, subst (λ ns. truth (holds_at ns x) e.label ≡ true) names path.2, path_wider a b names has e.to q xs es path.3)

-- and so is a run that begins at a start of the other
abbrev pub run_wider : (a b : Automaton) (u v : List NameSet) → a.names ≡ b.names → ((e : LabelledEdge) → Contains a.edges e → Contains b.edges e)
    → (stem_rounds cycle_rounds : ℕ) (r : LassoRun a u v stem_rounds cycle_rounds)
    → Contains b.starts r.start → LassoRun b u v stem_rounds cycle_rounds
run_wider a b u v names has stem_rounds cycle_rounds r is_start = record {
  start = r.start;
  state = r.state;
  path_edges = r.path_edges;
  cycle = r.cycle;
  is_start = is_start;
  leads = path_wider a b names has r.start r.state (u ++ copies stem_rounds v) r.path_edges r.leads;
  returns = path_wider a b names has r.state r.state (copies cycle_rounds v) r.cycle r.returns;
}

-- a word that the automaton accepts is accepted by the other if the run's cycle meets its condition
pub accepts_wider : (a b : Automaton) → a.names ≡ b.names → ((e : LabelledEdge) → Contains a.edges e → Contains b.edges e) → (u v : List NameSet) (r : Accepts a u v) → Contains b.starts r.start
    → met (marks_of r.cycle) b.formula ≡ true → Accepts b u v
accepts_wider a b names has u v r is_start meets = accepts_of b u v r.stem_rounds r.cycle_rounds (run_wider a b u v names has r.stem_rounds r.cycle_rounds (run_of a u v r) is_start)
    r.endless r.positive meets

-- ---- edges for the same letters

-- an edge of the automaton between the same states and with the same marks as this one, whose label holds of the letter
pub record Twin (b : Automaton) (x : NameSet) (e : LabelledEdge) : Type 0 where
  pub twin : LabelledEdge
  pub there : Contains b.edges twin
  pub from : twin.from ≡ e.from
  pub to : twin.to ≡ e.to
  pub marks : twin.marks ≡ e.marks
  pub holds : truth (holds_at b.names x) twin.label ≡ true

abbrev pub Follows : Automaton → Automaton → Type 0
Follows a b = (e : LabelledEdge) (x : NameSet) → Contains a.edges e → truth (holds_at a.names x) e.label ≡ true → Twin b x e

-- a path of the other automaton, with the same marks
pub record Path (b : Automaton) (p : ℕ) (xs : List NameSet) (es : List LabelledEdge) (q : ℕ) : Type 0 where
  pub edges : List LabelledEdge
  pub goes : IsPath b p xs edges q
  pub marks : map (λ (e : LabelledEdge). e.marks) edges ≡ map (λ (e : LabelledEdge). e.marks) es

pub path_follows : (a b : Automaton) → Follows a b → (p : ℕ) (xs : List NameSet) (es : List LabelledEdge) (q : ℕ) → IsPath a p xs es q → Path b p xs es q
path_follows a b follows p [] [] q path = record { edges = []; goes = path; marks = refl }
path_follows a b follows p [] (e ∷ es) q path = absurd path
path_follows a b follows p (x ∷ xs) [] q path = absurd path
path_follows a b follows p (x ∷ xs) (e ∷ es) q path =
    let step = follows e x path.1 path.2 in
    let rest = path_follows a b follows e.to xs es q path.3 in
    let P : ℕ → Type 0 = λ r. IsPath b r xs rest.edges q in
    record {
      edges = step.twin ∷ rest.edges;
      goes = (path.0 ∙ sym step.from, step.there, step.holds, subst P (sym step.to) rest.goes);
      marks = cc (step.marks, rest.marks);
    }

pub accepts_follows : (a b : Automaton) → Follows a b → ((s : ℕ) → Contains a.starts s → Contains b.starts s) → a.formula ≡ b.formula → (u v : List NameSet) → Accepts a u v → Accepts b u v
accepts_follows a b follows starts formula u v r =
    let path_edges = path_follows a b follows r.start (u ++ copies r.stem_rounds v) r.path_edges r.state r.leads in
    let cycle = path_follows a b follows r.state (copies r.cycle_rounds v) r.cycle r.state r.returns in
    let run : LassoRun b u v r.stem_rounds r.cycle_rounds = record {
      start = r.start;
      state = r.state;
      path_edges = path_edges.edges;
      cycle = cycle.edges;
      is_start = starts r.start r.is_start;
      leads = path_edges.goes;
      returns = cycle.goes;
    } in
    accepts_of b u v r.stem_rounds r.cycle_rounds run r.endless r.positive (ap (λ marks. met marks b.formula) cycle.marks ∙ (ap (met (marks_of r.cycle)) (sym formula) ∙ r.meets))

-- the edges of one automaton are those of the other under labels that are true at the same letters
pub record Relabels (a b : Automaton) (f : LabelledEdge → LabelledEdge) : Type 0 where
  pub edges : b.edges ≡ map f a.edges
  pub starts : b.starts ≡ a.starts
  pub formula : b.formula ≡ a.formula
  pub from : (e : LabelledEdge) → (f e).from ≡ e.from
  pub to : (e : LabelledEdge) → (f e).to ≡ e.to
  pub marks : (e : LabelledEdge) → (f e).marks ≡ e.marks
  pub says : (e : LabelledEdge) (x : NameSet) → Contains a.edges e → truth (holds_at b.names x) (f e).label ≡ truth (holds_at a.names x) e.label

old_follows : (a b : Automaton) (f : LabelledEdge → LabelledEdge) → Relabels a b f → Follows a b
old_follows a b f new e x there holds =
    let k = there.0 in
    let within : k < length a.edges = there.1 in
    let at : get_or (map f a.edges) k (f e) ≡ f e = get_or-map f a.edges k e (f e) within ∙ ap f there.2 in
    record {
      twin = f e;
      there = subst (λ es. Contains es (f e)) (sym new.edges) (k, omega (arith, length-map a.edges f), at);
      from = new.from e;
      to = new.to e;
      marks = new.marks e;
      holds = new.says e x there ∙ holds;
    }

new_follows : (a b : Automaton) (f : LabelledEdge → LabelledEdge) → Relabels a b f → Follows b a
new_follows a b f new e x there holds =
    let mapped : Contains (map f a.edges) e = subst (λ es. Contains es e) new.edges there in
    let k = mapped.0 in
    let within : k < length a.edges = omega (arith, length-map a.edges f, mapped.1) in
    let old : LabelledEdge = get_or a.edges k e in
    let is : f old ≡ e = sym (get_or-map f a.edges k e e within) ∙ mapped.2 in
    let listed : Contains a.edges old = Contains-get_or a.edges k e within in
    record {
      twin = old;
      there = listed;
      from = sym (new.from old) ∙ ap (λ (d : LabelledEdge). d.from) is;
      to = sym (new.to old) ∙ ap (λ (d : LabelledEdge). d.to) is;
      marks = sym (new.marks old) ∙ ap (λ (d : LabelledEdge). d.marks) is;
      holds = sym (new.says old x listed) ∙ (ap (λ (d : LabelledEdge). truth (holds_at b.names x) d.label) is ∙ holds);
    }

pub relabelled_accepts : (a b : Automaton) (f : LabelledEdge → LabelledEdge) → Relabels a b f → (u v : List NameSet) → Accepts b u v ↔ Accepts a u v
relabelled_accepts a b f new u v = (
  accepts_follows b a (new_follows a b f new) (λ s. subst (λ starts. Contains starts s) new.starts) new.formula u v,
  accepts_follows a b (old_follows a b f new) (λ s. subst (λ starts. Contains starts s) (sym new.starts)) (sym new.formula) u v,
)

-- the same edges under other labels, which are true over these names at the same letters
pub other_labels_accept : (a : Automaton) (names : List (List ℕ)) (label : LabelledEdge → LabelTree)
    → ((e : LabelledEdge) (x : NameSet) → Contains a.edges e → truth (holds_at names x) (label e) ≡ truth (holds_at a.names x) e.label)
    → (u v : List NameSet) → Accepts (record a { names = names; edges = map (λ (e : LabelledEdge). record e { label = label e }) a.edges }) u v ↔ Accepts a u v
other_labels_accept a names label says =
    relabelled_accepts a (record a { names = names; edges = map (λ (e : LabelledEdge). record e { label = label e }) a.edges }) (λ (e : LabelledEdge). record e { label = label e }) (record {
      edges = refl;
      starts = refl;
      formula = refl;
      from = λ e. refl;
      to = λ e. refl;
      marks = λ e. refl;
      says = λ e x there. says e x there;
    })
