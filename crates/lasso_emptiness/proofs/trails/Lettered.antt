-- Letters that satisfy labels, and paths that read them.
use Rattle.std.proofs.Common.{◌≡◌, ◌∙◌, ◌⊎◌, ℕ, zero, suc, ◌<◌, Bool, true, false, List, [], ◌∷◌, ◌++◌, length, get_or, map, Some, slice_get, inl, inr, ap, arith, refl, subst, sym}
use Rattle.std.specs.List.{Contains}
use Rattle.std.proofs.lemmas.Bool.{true≢false}
use Rattle.std.proofs.lemmas.List.{get_or-map, get_or_default, length-map}
use Rattle.std.proofs.lemmas.Option.{get_or_from_slice_get, slice_get_within}
use Rattle.aut_base.proofs.words.LetterNames.{contains_listed}
use Rattle.aut_base.proofs.lists.Lists.{slice_get-at}
use Rattle.aut_base.proofs.lists.Members.{first_there, from_map, later_there, none_there, placed_there, there_cases, there_map}
use Rattle.aut_base.proofs.canonical.ValuationLetters.{letter_of_holds, valuation_at, valuation_at_holds}
use Rattle.aut_base.specs.Acceptance.{IsPath}
use Rattle.aut_base.specs.Automaton.{LabelledEdge}
use Rattle.aut_base.specs.Label.{LabelTree, holds_at, truth}
use Rattle.aut_base.specs.Valuation.{holds_in, letter_of, names_on, truth_on}
use Rattle.aut_base.specs.Word.{NameSet}
use Rattle.aut_core.specs.SymbolicAutomata.{SymbolicAutomaton, IsWellFormedSymbolic, automaton_of, edge_of}
use Rattle.aut_core.specs.declared.link.Link.{Link}
use Rattle.label_guards.specs.Guards.{IsNeverMet}
use Rattle.label_guards.specs.Leasts.{IsLeastLetter}
use Rattle.label_guards.specs.Store.{Store, label_in}
use Rattle.lasso_emptiness.specs.declared.live.EdgeRef.{EdgeRef}
use Rattle.lasso_emptiness.specs.inner.Edges.{IsEdgeInRange, marks_of}
use Rattle.lasso_emptiness.specs.inner.Letters.{AreLettersOf, IsLetterOf}
use Rattle.lasso_emptiness.specs.inner.Live.{IsEdgeAt, IsPassable}
use Rattle.lasso_emptiness.specs.inner.Trails.{IsTrail}
use Rattle.word_syntax.specs.Printing.{HoldsOnly}

-- the truth of a label under functions that agree
truth_agrees : (on other : ℕ → Bool) (t : LabelTree) → ((i : ℕ) → on i ≡ other i) → truth on t ≡ truth other t
truth_agrees on other t same = λ i. truth (λ k. same k i) t

own_names : (names : List (List ℕ)) (v : List Bool) (name : List ℕ) → Contains (names_on names v) name → Contains names name
own_names [] v name here = absurd (none_there name here)
own_names (n ∷ names) [] name here = absurd (none_there name here)
own_names (n ∷ names) (false ∷ v) name here = later_there n names name (own_names names v name here)
own_names (n ∷ names) (true ∷ v) name here = elim (there_cases n (names_on names v) name here) [
  | inl same ↦ subst (Contains (n ∷ names)) same (first_there n names)
  | inr rest ↦ later_there n names name (own_names names v name rest)
]

-- the letter of a valuation that satisfies a link's label is one for its edge
letter_of_valuation : (c : SymbolicAutomaton) → IsWellFormedSymbolic c → (e : EdgeRef) (l : Link) → IsEdgeAt c e l → (v : List Bool) → length v ≡ c.store.names
    → truth_on (label_in c.store l.guard) v ≡ true
    → IsLetterOf c e (letter_of c.names v)
letter_of_valuation c is e l at v size met =
    let all : length v ≡ length c.names = size ∙ is.parts.store_names in
    record {
      link = l;
      at = at;
      meets = truth_agrees (holds_at c.names (letter_of c.names v)) (holds_in v) (label_in c.store l.guard) (λ i. letter_of_holds c.names v i is.well_formed.names_differ all) ∙ met;
      own_names = λ name holds. own_names c.names v name ((contains_listed (names_on c.names v) name).0 holds);
    }

-- the least letter of a link's label is one for its edge
pub least_letter_of : (c : SymbolicAutomaton) → IsWellFormedSymbolic c → (e : EdgeRef) (l : Link) (letter : NameSet) → IsEdgeAt c e l → IsLeastLetter c.store c.names l.guard letter
    → IsLetterOf c e letter
least_letter_of c is e l letter at least =
    subst (IsLetterOf c e) (sym least.letter_of) (letter_of_valuation c is e l at least.valuation least.least.size least.least.is_true)

-- some valuation passes a test, or none does
some_valuation : (n : ℕ) (p : List Bool → Bool) → ((v : List Bool) × (length v ≡ n) × (p v ≡ true)) ⊎ ((v : List Bool) → length v ≡ n → p v ≡ false)
some_valuation zero p = go (p []) refl
  where
    go : (b : Bool) → p [] ≡ b → ((v : List Bool) × (length v ≡ 0) × (p v ≡ true)) ⊎ ((v : List Bool) → length v ≡ 0 → p v ≡ false)
    go true is = inl ([], refl, is)
    go false is = inr (λ v empty. none v empty)
      where
        none : (v : List Bool) → length v ≡ 0 → p v ≡ false
        none [] empty = is
        none (b ∷ v) empty = absurd (omega (arith, empty))
some_valuation (suc n) p = elim (some_valuation n (λ v. p (true ∷ v))) [
  | inl found ↦ inl (true ∷ found.0, ap suc found.1, found.2)
  | inr none ↦ elim (some_valuation n (λ v. p (false ∷ v))) [
    | inl found ↦ inl (false ∷ found.0, ap suc found.1, found.2)
    | inr neither ↦ inr (λ v size. each none neither v size)
  ]
]
  where
    each : ((v : List Bool) → length v ≡ n → p (true ∷ v) ≡ false) → ((v : List Bool) → length v ≡ n → p (false ∷ v) ≡ false) → (v : List Bool) → length v ≡ suc n → p v ≡ false
    each on off [] size = absurd (omega (arith, size))
    each on off (true ∷ v) size = on v (omega (arith, size))
    each on off (false ∷ v) size = off v (omega (arith, size))

-- a letter for an edge whose label is satisfiable
pub letter_for : (c : SymbolicAutomaton) → IsWellFormedSymbolic c → (e : EdgeRef) → IsPassable c e → (letter : NameSet) × IsLetterOf c e letter
letter_for c is e passable =
    let l = passable.link in
    elim (some_valuation c.store.names (truth_on (label_in c.store l.guard))) [
      | inl found ↦ (letter_of c.names found.0, letter_of_valuation c is e l passable.at found.0 found.1 found.2)
      | inr none ↦ absurd (passable.some none)
    ]

-- a label that some letter satisfies is satisfiable
pub met_by_letter : (c : SymbolicAutomaton) → IsWellFormedSymbolic c → (l : Link) (letter : NameSet) → truth (holds_at c.names letter) (label_in c.store l.guard) ≡ true
    → IsNeverMet c.store l.guard → ⊥
met_by_letter c is l letter meets never =
    let size : length (valuation_at c.names letter) ≡ c.store.names = length-map c.names _ ∙ sym is.parts.store_names in
    true≢false (sym meets ∙ truth_agrees (holds_at c.names letter) (holds_in (valuation_at c.names letter)) (label_in c.store l.guard) (valuation_at_holds c.names letter)
    ∙ never (valuation_at c.names letter) size)

-- an edge's marks are those of its link
marks_at : (c : SymbolicAutomaton) (e : EdgeRef) (l : Link) → IsEdgeAt c e l → l.marks ≡ marks_of c.links e
marks_at c e l at =
    let within = slice_get_within c.links e.link l at.stands in
    let inside : e.link < length (map (λ (m : Link). m.marks) c.links) = omega (arith, within, length-map c.links (λ (m : Link). m.marks)) in
    sym (get_or_default (map (λ (m : Link). m.marks) c.links) e.link [] l.marks inside ∙ get_or-map (λ (m : Link). m.marks) c.links e.link l _ within
    ∙ ap (λ (m : Link). m.marks) (get_or_from_slice_get c.links e.link l l at.stands))

-- another letter
pub letters_push : (c : SymbolicAutomaton) (es : List EdgeRef) (xs : List NameSet) (e : EdgeRef) (x : NameSet) → AreLettersOf c es xs → IsLetterOf c e x → AreLettersOf c (es ++ e ∷ []) (xs ++ x ∷ [])
letters_push c [] [] e x all one = (one, tt)
letters_push c [] (y ∷ ys) e x all one = absurd all
letters_push c (d ∷ ds) [] e x all one = absurd all
letters_push c (d ∷ ds) (y ∷ ys) e x all one = (all.0, letters_push c ds ys e x all.1 one)

pub letters_own : (c : SymbolicAutomaton) (es : List EdgeRef) (xs : List NameSet) → AreLettersOf c es xs → (x : NameSet) → Contains xs x → HoldsOnly c.names x
letters_own c [] [] all x here = absurd (none_there x here)
letters_own c [] (y ∷ ys) all x here = absurd all
letters_own c (e ∷ es) [] all x here = absurd all
letters_own c (e ∷ es) (y ∷ ys) all x here = elim (there_cases y ys x here) [
  | inl same ↦ subst (HoldsOnly c.names) same all.0.own_names
  | inr rest ↦ letters_own c es ys all.1 x rest
]

pub letters_long : (c : SymbolicAutomaton) (es : List EdgeRef) (xs : List NameSet) → AreLettersOf c es xs → length xs ≡ length es
letters_long c [] [] all = refl
letters_long c [] (y ∷ ys) all = absurd all
letters_long c (e ∷ es) [] all = absurd all
letters_long c (e ∷ es) (y ∷ ys) all = ap suc (letters_long c es ys all.1)

-- a path of the automaton that reads these letters along these edges
pub record ReadsAlong (c : SymbolicAutomaton) (p q : ℕ) (es : List EdgeRef) (xs : List NameSet) : Type 0 where
  pub trees : List LabelledEdge
  pub path : IsPath (automaton_of c) p xs trees q
  pub marks : map (λ (t : LabelledEdge). t.marks) trees ≡ map (marks_of c.links) es

pub reads_along : (c : SymbolicAutomaton) (Kind : EdgeRef → Type 0) (p q : ℕ) (es : List EdgeRef) (xs : List NameSet) → IsTrail Kind p es q → AreLettersOf c es xs → ReadsAlong c p q es xs
reads_along c Kind p q [] [] trail letters = record { trees = []; path = trail; marks = refl }
reads_along c Kind p q [] (x ∷ xs) trail letters = absurd letters
reads_along c Kind p q (e ∷ es) [] trail letters = absurd letters
reads_along c Kind p q (e ∷ es) (x ∷ xs) trail letters =
    let rest = reads_along c Kind e.to q es xs trail.2 letters.1 in
    let l = letters.0.link in
    let at = letters.0.at in
    record {
      trees = edge_of c.store l ∷ rest.trees;
      path = (
        sym trail.1 ∙ at.from,
        there_map (edge_of c.store) c.links l (placed_there c.links e.link l at.stands),
        letters.0.meets,
        subst (λ x. IsPath (automaton_of c) x xs rest.trees q) at.to rest.path,
      );
      marks = ap (λ (ms : List ℕ). ms ∷ map (λ (t : LabelledEdge). t.marks) rest.trees) (marks_at c e l at) ∙ ap (λ mss. marks_of c.links e ∷ mss) rest.marks;
    }

-- the edges of a path of the automaton
pub record TrailOf (c : SymbolicAutomaton) (p q : ℕ) (trees : List LabelledEdge) : Type 0 where
  pub edges : List EdgeRef
  pub trail : IsTrail (IsPassable c) p edges q
  pub marks : map (λ (t : LabelledEdge). t.marks) trees ≡ map (marks_of c.links) edges
  pub long : length edges ≡ length trees

pub trail_of : (c : SymbolicAutomaton) → IsWellFormedSymbolic c → (p q : ℕ) (xs : List NameSet) (trees : List LabelledEdge) → IsPath (automaton_of c) p xs trees q → TrailOf c p q trees
trail_of c is p q [] [] path = record { edges = []; trail = path; marks = refl; long = refl }
trail_of c is p q [] (t ∷ ts) path = absurd path
trail_of c is p q (x ∷ xs) [] path = absurd path
trail_of c is p q (x ∷ xs) (t ∷ ts) path =
    let rest = trail_of c is t.to q xs ts path.3 in
    let found = from_map (edge_of c.store) c.links t path.1 in
    let l = found.0 in
    let place = found.1.0 in
    let stands : slice_get c.links place ≡ Some l = slice_get-at c.links place l found.1.1 (sym found.1.2) in
    let e : EdgeRef = record { from = l.from; to = l.to; link = place } in
    let at : IsEdgeAt c e l = record { stands = stands; from = refl; to = refl } in
    let from : l.from ≡ t.from = ap (λ (u : LabelledEdge). u.from) found.2 in
    let to : l.to ≡ t.to = ap (λ (u : LabelledEdge). u.to) found.2 in
    let marks : l.marks ≡ t.marks = ap (λ (u : LabelledEdge). u.marks) found.2 in
    let meets : truth (holds_at c.names x) (label_in c.store l.guard) ≡ true = ap (λ (u : LabelledEdge). truth (holds_at c.names x) u.label) found.2 ∙ path.2 in
    record {
      edges = e ∷ rest.edges;
      trail = (record { link = l; at = at; some = met_by_letter c is l x meets }, from ∙ sym path.0, subst (λ y. IsTrail (IsPassable c) y rest.edges q) (sym to) rest.trail);
      marks = ap (λ (ms : List ℕ). ms ∷ map (λ (u : LabelledEdge). u.marks) ts) (sym marks ∙ marks_at c e l at) ∙ ap (λ mss. marks_of c.links e ∷ mss) rest.marks;
      long = ap suc rest.long;
    }

-- the edge of a link is in range
pub passable_within : (c : SymbolicAutomaton) → IsWellFormedSymbolic c → (e : EdgeRef) → IsPassable c e → IsEdgeInRange (length c.links) c.states e
passable_within c is e passable =
    let l = passable.link in
    let within = slice_get_within c.links e.link l passable.at.stands in
    let link = is.parts.links e.link l within in
    let same : get_or c.links e.link l ≡ l = get_or_from_slice_get c.links e.link l l passable.at.stands in
    record {
      link = within;
      from = subst (λ x. x < c.states) (ap (λ (m : Link). m.from) same ∙ sym passable.at.from) link.from;
      to = subst (λ x. x < c.states) (ap (λ (m : Link). m.to) same ∙ sym passable.at.to) link.to;
    }

link_read : (c : SymbolicAutomaton) (e : EdgeRef) (passable : IsPassable c e) (links : List Link) (l : Link) → links ≡ c.links → l ≡ get_or links e.link l → l ≡ passable.link
link_read c e passable links l links_are read =
    read ∙ ap (λ (ls : List Link). get_or ls e.link l) links_are ∙ get_or_from_slice_get c.links e.link passable.link l passable.at.stands

-- the letter that was found for the guard of an edge's link, in the automaton's store and over its names, is one for the edge
pub picked_letter : (c : SymbolicAutomaton) → IsWellFormedSymbolic c → (e : EdgeRef) → IsPassable c e
    → (links : List Link) (l : Link) (store : Store) (names : List (List ℕ)) (letter : NameSet) → links ≡ c.links
    → l ≡ get_or links e.link l → store ≡ c.store → names ≡ c.names → IsLeastLetter store names l.guard letter → IsLetterOf c e letter
picked_letter c is e passable links l store names letter links_are read store_is names_are least =
    least_letter_of c is e passable.link letter passable.at
    (subst (λ (m : Link). IsLeastLetter c.store c.names m.guard letter) (link_read c e passable links l links_are read)
    (subst (λ ns. IsLeastLetter c.store ns l.guard letter) names_are (subst (λ (s : Store). IsLeastLetter s names l.guard letter) store_is least)))

pub never_picked : (c : SymbolicAutomaton) (e : EdgeRef) → IsPassable c e → (links : List Link) (l : Link) (store : Store) → links ≡ c.links → l ≡ get_or links e.link l → store ≡ c.store
    → IsNeverMet store l.guard → ⊥
never_picked c e passable links l store links_are read store_is never =
    passable.some (subst (λ (m : Link). IsNeverMet c.store m.guard) (link_read c e passable links l links_are read) (subst (λ (s : Store). IsNeverMet s l.guard) store_is never))
