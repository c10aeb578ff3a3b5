-- Hiding of one atomic proposition, in a letter, a label, an automaton and a language.
use Rattle.std.specs.Prelude.{◌≡◌, ◌≢◌, ◌↔◌, ◌<◌, ◌||◌, ℕ, Bool, not, List, Some, filter, if◌then◌else◌, length, map}
use Rattle.std.specs.FinSet.{contains, insert, remove}
use Rattle.aut_base.specs.Acceptance.{Accepts}
use Rattle.aut_base.specs.Automaton.{Automaton, LabelledEdge}
use Rattle.aut_base.specs.CanonicalLabel.{label_of_truth}
use Rattle.aut_base.specs.Label.{LabelTree, holds_at, truth}
use Rattle.aut_base.specs.Text.{same_text}
use Rattle.aut_base.specs.Valuation.{letter_of}
use Rattle.aut_base.specs.Word.{NameSet, letter_at}
use Rattle.aut_core.specs.OtherNames.{is_among}
use Rattle.ap_project.specs.declared.hide.Hide.{Hide}
use Rattle.ap_project.specs.declared.hide.Hide.TheVariants.{Any, Absent, Present}

-- the truth with a proposition hidden, from the truth where the proposition is false (`fails`) and where it is true
-- (`holds`)
abbrev pub hidden_value : Hide → Bool → Bool → Bool
hidden_value Any fails holds = fails || holds
hidden_value Absent fails holds = fails
hidden_value Present fails holds = holds

-- the truth of a label over these names at a letter, with the name hidden
abbrev pub hidden_truth : Hide → List ℕ → List (List ℕ) → LabelTree → NameSet → Bool
hidden_truth how name names t x = hidden_value how (truth (holds_at names (remove x name)) t) (truth (holds_at names (insert x name)) t)

-- the names but for this one, in order
abbrev pub names_without : List ℕ → List (List ℕ) → List (List ℕ)
names_without name names = filter (λ other. not (same_text name other)) names

-- The label with the name hidden, as a canonical label over the other names: it is true on a valuation exactly where
-- `hidden_truth` is at the letter of that valuation.
abbrev pub hidden_label : Hide → List ℕ → List (List ℕ) → LabelTree → LabelTree
hidden_label how name names t = label_of_truth (length (names_without name names)) (λ v. hidden_truth how name names t (letter_of (names_without name names) v))

-- The automaton with the name hidden. One that doesn't have the name is unchanged. Else only names and labels change: all
-- edges stay, in order, those too whose label becomes `f`.
abbrev pub hidden : Hide → List ℕ → Automaton → Automaton
hidden how name a =
    if is_among a.names name then record a { names = names_without name a.names; edges = map (λ (e : LabelledEdge). record e { label = hidden_label how name a.names e.label }) a.edges }
    else a

-- The lasso words agree off the name: at each position, their letters have the same other names. Their stems and cycles may
-- differ in length.
abbrev pub AgreeOff : List ℕ → List NameSet → List NameSet → List NameSet → List NameSet → Type 0
AgreeOff name u v x y = (n : ℕ) (a b : NameSet) → letter_at u v n ≡ Some a → letter_at x y n ≡ Some b
    → (other : List ℕ) → other ≢ name → contains a other ≡ contains b other

-- Some lasso word that is in the language, and that `Like` says to be like a given one. A language is given by the statement, of
-- each stem and cycle, that the lasso word is in it.
pub record SomeWord (says Like : List NameSet → List NameSet → Type 0) : Type 0 where
  pub stem : List NameSet
  pub cycle : List NameSet
  pub some : 0 < length cycle
  pub said : says stem cycle
  pub same : Like stem cycle

-- the language with the name hidden
abbrev pub HiddenSays : Hide → List ℕ → (List NameSet → List NameSet → Type 0) → List NameSet → List NameSet → Type 0
HiddenSays Any name says u v = SomeWord says (AgreeOff name u v)
HiddenSays Absent name says u v = says (map (λ x. remove x name) u) (map (λ x. remove x name) v)
HiddenSays Present name says u v = says (map (λ x. insert x name) u) (map (λ x. insert x name) v)

-- among the lasso words with a non-empty cycle, h accepts exactly those of a's language with the name hidden
abbrev pub AcceptsHidden : Hide → List ℕ → Automaton → Automaton → Type 0
AcceptsHidden how name a h = (u v : List NameSet) → 0 < length v → Accepts h u v ↔ HiddenSays how name (λ x y. Accepts a x y) u v
