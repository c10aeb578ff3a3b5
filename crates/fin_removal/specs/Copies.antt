-- Removal of Fin, by a copy of the automaton for each term of its condition in disjunctive normal form. The automaton
-- itself, without marks, is the main copy. A run moves from it into the copy of a term at any edge; that copy has only the
-- edges that meet the term's Fin literals.
use Rattle.std.specs.Prelude.{ℕ, ◌+◌, ◌*◌, ◌^◌, ◌<◌, ◌≤◌, false, if◌then◌else◌, List, [], ◌∷◌, ◌++◌, length, map, filter, flat_map}
use Rattle.std.specs.List.{list_all, range_with_len, sum_by}
use Rattle.aut_base.specs.Automaton.{Automaton, LabelledEdge}
use Rattle.aut_base.specs.declared.limit.TheConstants.{MOST_TERMS}
use Rattle.acc_forms.specs.Atoms.{has_fin}
use Rattle.acc_forms.specs.Terms.{count, of_terms, terms}
use Rattle.acc_forms.specs.declared.literal.Literal.{Literal}
use Rattle.acc_forms.specs.declared.literal.Literal.TheVariants.{Inf}
use Rattle.fin_removal.specs.Meeting.{fins, infs, meets, meets_at, literal_places}
use Rattle.fin_removal.specs.declared.term_copy.TermCopy.{TermCopy}

-- the type of the copy for a term, under a name that other crates can use
abbrev pub CopyOfTerm : Type 0
CopyOfTerm = TermCopy

-- how many acceptance sets the copy of a term owns
abbrev pub sets_of : List Literal → ℕ
sets_of term = literal_places (infs term)

-- The copies of these terms, numbered from `number` on. Each owns its sets, numbered from `first` on.
abbrev pub copies_from : ℕ → ℕ → List (List Literal) → List TermCopy
copies_from number first [] = []
copies_from number first (term ∷ terms) = record { number = number; first = first; fins = fins term; infs = infs term } ∷ copies_from (number + 1) (first + sets_of term) terms

-- the copies of a condition's terms; number 0 is the automaton itself, the main copy
abbrev pub term_copies : List (List Literal) → List TermCopy
term_copies terms = copies_from 1 0 terms

-- The edge in the main copy, and then from there into each of the others, unmarked. Where each copy has n states, state q of
-- the copy of number k has the number k * n + q.
abbrev pub main_edges : ℕ → List TermCopy → LabelledEdge → List LabelledEdge
main_edges n copies e = record e { marks = [] } ∷ map (λ (copy : TermCopy). record e { to = copy.number * n + e.to; marks = [] }) copies

-- The marks that an edge with these marks has in the copy: the set of each Inf literal that it meets, or the one set of a
-- term without Inf literals.
abbrev pub marks_in : TermCopy → List ℕ → List ℕ
marks_in copy marks = map (λ place. copy.first + place) (filter (λ place. meets_at copy.infs place marks) (range_with_len 0 (literal_places copy.infs)))

-- the edges within a copy: those that meet every Fin literal of its term
abbrev pub copy_edges : ℕ → List LabelledEdge → TermCopy → List LabelledEdge
copy_edges n edges copy =
    map (λ (e : LabelledEdge). record e { from = copy.number * n + e.from; to = copy.number * n + e.to; marks = marks_in copy e.marks })
    (filter (λ e. list_all (meets e.marks) copy.fins) edges)

-- Inf of each of the copy's sets
abbrev pub owned : TermCopy → List Literal
owned copy = map (λ set. Inf set false) (range_with_len copy.first (literal_places copy.infs))

-- the terms of the new condition: for each term, Inf of each of its sets
abbrev pub owned_sets : List (List Literal) → List (List Literal)
owned_sets terms = map owned (term_copies terms)

-- The automaton with its copies. Law: it accepts the same lasso words, and has no Fin.
abbrev pub copied : Automaton → Automaton
copied a = record {
  names = a.names;
  starts = a.starts;
  states = (1 + length (terms a.formula)) * a.states;
  edges = flat_map (main_edges a.states (term_copies (terms a.formula))) a.edges ++ flat_map (copy_edges a.states a.edges) (term_copies (terms a.formula));
  sets = sum_by sets_of (terms a.formula);
  formula = of_terms (owned_sets (terms a.formula));
}

-- the automaton itself where its condition has no Fin, else with its copies
abbrev pub without_fin : Automaton → Automaton
without_fin a = if has_fin a.formula then copied a else a

-- the condition has more terms than may be listed
abbrev pub HasTooManyTerms : Automaton → Type 0
HasTooManyTerms a = MOST_TERMS < count (terms a.formula)

-- Where the terms are listed at all, the states of the copies can be numbered by 32 bits. A caller knows it from the number
-- of states and `count`, which is no less than the number of terms.
abbrev pub CopiesFit : Automaton → Type 0
CopiesFit a = count (terms a.formula) ≤ MOST_TERMS → (copied a).states < 2 ^ 32
