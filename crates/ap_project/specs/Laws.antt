-- Laws on automata and languages with a name hidden.
use Rattle.std.specs.Prelude.{◌≡◌, ◌↔◌, ◌<◌, ℕ, true, List, Contains, length, map}
use Rattle.std.specs.FinSet.{insert, remove}
use Rattle.aut_base.specs.Acceptance.{Accepts}
use Rattle.aut_base.specs.Automaton.{Automaton, IsWellFormed, LabelledEdge}
use Rattle.aut_base.specs.Label.{LabelTree, holds_at, truth}
use Rattle.aut_base.specs.Word.{NameSet}
use Rattle.ap_project.specs.Hiding.{AcceptsHidden, AgreeOff, SomeWord, hidden, hidden_truth}
use Rattle.ap_project.specs.declared.hide.Hide.{Hide}
use Rattle.ap_project.specs.declared.hide.Hide.TheVariants.{Any, Absent, Present}

-- both edges lead between the same states and are in the same acceptance sets
pub record IsTwin (e f : LabelledEdge) : Type 0 where
  pub from : e.from ≡ f.from
  pub to : e.to ≡ f.to
  pub marks : e.marks ≡ f.marks

-- h has a twin of the edge, and the label of that twin is true at the letter
pub record Forth (h : Automaton) (e : LabelledEdge) (x : NameSet) : Type 0 where
  pub edge : LabelledEdge
  pub there : Contains h.edges edge
  pub twin : IsTwin edge e
  pub holds : truth (holds_at h.names x) edge.label ≡ true

-- a has a twin of the edge, and the label of that twin, with the name hidden, is true at the letter
pub record Back (how : Hide) (name : List ℕ) (a : Automaton) (f : LabelledEdge) (x : NameSet) : Type 0 where
  pub edge : LabelledEdge
  pub there : Contains a.edges edge
  pub twin : IsTwin edge f
  pub holds : hidden_truth how name a.names edge.label x ≡ true

-- h is a with the name hidden, up to equivalent labels. It may have its edges in another order, and leave out those whose
-- label is unsatisfiable.
pub record IsHidden (how : Hide) (name : List ℕ) (a h : Automaton) : Type 0 where
  pub starts : h.starts ≡ a.starts
  pub formula : h.formula ≡ a.formula
  pub forth : (e : LabelledEdge) (x : NameSet) → Contains a.edges e → hidden_truth how name a.names e.label x ≡ true → Forth h e x
  pub back : (f : LabelledEdge) (x : NameSet) → Contains h.edges f → truth (holds_at h.names x) f.label ≡ true → Back how name a f x

-- The language of h: under `Any` for words with a non-empty cycle, and below under `Absent` and `Present` for all stems and
-- cycles.
abbrev pub HiddenAny : Type 0
HiddenAny = (name : List ℕ) (a h : Automaton) → IsHidden Any name a h → (u v : List NameSet) → 0 < length v
    → Accepts h u v ↔ SomeWord (λ x y. Accepts a x y) (AgreeOff name u v)

abbrev pub HiddenAbsent : Type 0
HiddenAbsent = (name : List ℕ) (a h : Automaton) → IsHidden Absent name a h → (u v : List NameSet)
    → Accepts h u v ↔ Accepts a (map (λ x. remove x name) u) (map (λ x. remove x name) v)

abbrev pub HiddenPresent : Type 0
HiddenPresent = (name : List ℕ) (a h : Automaton) → IsHidden Present name a h → (u v : List NameSet)
    → Accepts h u v ↔ Accepts a (map (λ x. insert x name) u) (map (λ x. insert x name) v)

-- h is a with each label replaced by one that is true exactly where the original with the name hidden is
pub record IsRelabelled (how : Hide) (name : List ℕ) (a h : Automaton) : Type 0 where
  pub label : LabelledEdge → LabelTree
  pub starts : h.starts ≡ a.starts
  pub formula : h.formula ≡ a.formula
  pub edges : h.edges ≡ map (λ (e : LabelledEdge). record e { label = label e }) a.edges
  pub says : (e : LabelledEdge) (x : NameSet) → Contains a.edges e → truth (holds_at h.names x) (label e) ≡ hidden_truth how name a.names e.label x

abbrev pub RelabelledIsHidden : Type 0
RelabelledIsHidden = (how : Hide) (name : List ℕ) (a h : Automaton) → IsRelabelled how name a h → IsHidden how name a h

abbrev pub HiddenAccepts : Type 0
HiddenAccepts = (how : Hide) (name : List ℕ) (a : Automaton) → IsWellFormed a → AcceptsHidden how name a (hidden how name a)

-- both languages have the same lasso words, among those with a non-empty cycle
abbrev pub SayTheSame : (one other : List NameSet → List NameSet → Type 0) → Type 0
SayTheSame one other = (u v : List NameSet) → 0 < length v → one u v ↔ other u v
