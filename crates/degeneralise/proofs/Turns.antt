-- Levels along edges that leave states which all wait for the same literals.
use Rattle.std.proofs.Common.{◌≡◌, ◌∙◌, ◌+◌, ◌<◌, ◌≤◌, ◌==◌, ℕ, Bool, true, false, cond, ◌||◌, List, [], ◌∷◌, ◌++◌, Some, ap, arith, refl, sym, inl, inr}
use Rattle.std.specs.List.{list_any}
use Rattle.std.proofs.lemmas.Bool.{cases_Bool, cases_eq, cases_lt, eqb-false, false≢true, ne_eqb, or_from, or_parts}
use Rattle.aut_base.specs.Automaton.{LabelledEdge}
use Rattle.aut_base.specs.Marks.{is_in}
use Rattle.acc_forms.specs.declared.literal.Literal.{Literal}
use Rattle.fin_removal.specs.Meeting.{meets_at, literal_places}
use Rattle.degeneralise.specs.Buchi.{level_after, marks_at_level}

abbrev pub turn : List Literal → ℕ → List LabelledEdge → ℕ
turn ls level [] = level
turn ls level (e ∷ es) = turn ls (level_after (Some ls) level e.marks) es

-- whether some edge has the mark
abbrev pub marked : List Literal → ℕ → List LabelledEdge → Bool
marked ls level [] = false
marked ls level (e ∷ es) = is_in 0 (marks_at_level (Some ls) level e.marks) || marked ls (level_after (Some ls) level e.marks) es

-- the literal of the level is met by some of the edges
abbrev pub met_on : List Literal → ℕ → List LabelledEdge → Bool
met_on ls level es = list_any (λ (e : LabelledEdge). meets_at ls level e.marks) es

-- What an edge does at a level: it leaves the level as it is, leads to the next one, or leads from the last to the first
-- with the mark.
waits_after : (ls : List Literal) (level : ℕ) (marks : List ℕ) → meets_at ls level marks ≡ false → level_after (Some ls) level marks ≡ level
waits_after ls level marks e = ap (λ b. cond b (cond (level + 1 == literal_places ls) 0 (level + 1)) level) e

waits_mark : (ls : List Literal) (level : ℕ) (marks : List ℕ) → meets_at ls level marks ≡ false → marks_at_level (Some ls) level marks ≡ []
waits_mark ls level marks e = ap (λ b. cond b (cond (level + 1 == literal_places ls) (0 ∷ []) []) []) e

goes_after : (ls : List Literal) (level : ℕ) (marks : List ℕ) → meets_at ls level marks ≡ true → (level + 1 == literal_places ls) ≡ false → level_after (Some ls) level marks ≡ level + 1
goes_after ls level marks e f = ap (λ b. cond b (cond (level + 1 == literal_places ls) 0 (level + 1)) level) e ∙ ap (λ b. cond b 0 (level + 1)) f

goes_mark : (ls : List Literal) (level : ℕ) (marks : List ℕ) → meets_at ls level marks ≡ true → (level + 1 == literal_places ls) ≡ false → marks_at_level (Some ls) level marks ≡ []
goes_mark ls level marks e f = ap (λ b. cond b (cond (level + 1 == literal_places ls) (0 ∷ []) []) []) e ∙ ap (λ b. cond b (0 ∷ []) []) f

wraps_after : (ls : List Literal) (level : ℕ) (marks : List ℕ) → meets_at ls level marks ≡ true → (level + 1 == literal_places ls) ≡ true → level_after (Some ls) level marks ≡ 0
wraps_after ls level marks e f = ap (λ b. cond b (cond (level + 1 == literal_places ls) 0 (level + 1)) level) e ∙ ap (λ b. cond b 0 (level + 1)) f

wraps_mark : (ls : List Literal) (level : ℕ) (marks : List ℕ) → meets_at ls level marks ≡ true → (level + 1 == literal_places ls) ≡ true → marks_at_level (Some ls) level marks ≡ 0 ∷ []
wraps_mark ls level marks e f = ap (λ b. cond b (cond (level + 1 == literal_places ls) (0 ∷ []) []) []) e ∙ ap (λ b. cond b (0 ∷ []) []) f

pub turn_below : (ls : List Literal) (level : ℕ) (marks : List ℕ) → level < literal_places ls → level_after (Some ls) level marks < literal_places ls
turn_below ls level marks below = elim (cases_Bool (meets_at ls level marks)) [
  | inr waits ↦ omega (arith, waits_after ls level marks waits, below)
  | inl meets ↦ (elim (cases_Bool (level + 1 == literal_places ls)) [
    | inl last ↦ omega (arith, wraps_after ls level marks meets last)
    | inr other ↦ omega (arith, goes_after ls level marks meets other, eqb-false (level + 1) (literal_places ls) other, below)
  ])
]

pub turn_then : (ls : List Literal) (level : ℕ) (es fs : List LabelledEdge) → turn ls level (es ++ fs) ≡ turn ls (turn ls level es) fs
turn_then ls level [] fs = refl
turn_then ls level (e ∷ es) fs = turn_then ls (level_after (Some ls) level e.marks) es fs

-- the level after a list of edges, from that after its first edge
rest_of : (ls : List Literal) (level next : ℕ) (e : LabelledEdge) (es : List LabelledEdge) → level_after (Some ls) level e.marks ≡ next → turn ls level (e ∷ es) ≡ turn ls next es
rest_of ls level next e es is = ap (λ l. turn ls l es) is

marked_rest : (ls : List Literal) (level next : ℕ) (e : LabelledEdge) (es : List LabelledEdge) → level_after (Some ls) level e.marks ≡ next → marks_at_level (Some ls) level e.marks ≡ []
    → marked ls level (e ∷ es) ≡ marked ls next es
marked_rest ls level next e es is none = ap (λ marks. is_in 0 marks || marked ls (level_after (Some ls) level e.marks) es) none ∙ ap (λ l. marked ls l es) is

marked_here : (ls : List Literal) (level : ℕ) (e : LabelledEdge) (es : List LabelledEdge) → marks_at_level (Some ls) level e.marks ≡ 0 ∷ [] → marked ls level (e ∷ es) ≡ true
marked_here ls level e es one = ap (λ marks. is_in 0 marks || marked ls (level_after (Some ls) level e.marks) es) one

-- Without a mark the level never falls, and where it is the same again its literal was not met.
pub record Rises (ls : List Literal) (level : ℕ) (es : List LabelledEdge) : Type 0 where
  pub up : level ≤ turn ls level es
  pub still : turn ls level es ≡ level → met_on ls level es ≡ false

pub rises : (ls : List Literal) (level : ℕ) (es : List LabelledEdge) → level < literal_places ls → marked ls level es ≡ false → Rises ls level es
rises ls level [] below none = record { up = omega arith; still = λ e. refl }
rises ls level (e ∷ es) below none = elim (cases_Bool (meets_at ls level e.marks)) [
  | inr waits ↦ (let after = waits_after ls level e.marks waits in
      let rest = rises ls level es below (sym (marked_rest ls level level e es after (waits_mark ls level e.marks waits)) ∙ none) in
      let is = rest_of ls level level e es after in
      record { up = omega (arith, is, rest.up); still = λ same. or_from (meets_at ls level e.marks) (met_on ls level es) waits (rest.still (sym is ∙ same)) })
  | inl meets ↦ (elim (cases_Bool (level + 1 == literal_places ls)) [
    | inl last ↦ absurd (false≢true (sym none ∙ marked_here ls level e es (wraps_mark ls level e.marks meets last)))
    | inr other ↦ (let after = goes_after ls level e.marks meets other in
        let within : level + 1 < literal_places ls = omega (arith, eqb-false (level + 1) (literal_places ls) other, below) in
        let rest = rises ls (level + 1) es within (sym (marked_rest ls level (level + 1) e es after (goes_mark ls level e.marks meets other)) ∙ none) in
        let is = rest_of ls level (level + 1) e es after in
        record { up = omega (arith, is, rest.up); still = λ same. absurd (omega (arith, is, rest.up, same)) })
  ])
]

-- A level whose literal is not met is not passed.
pub record Stuck (ls : List Literal) (level j : ℕ) (es : List LabelledEdge) : Type 0 where
  pub below : turn ls level es ≤ j
  pub unmarked : marked ls level es ≡ false

pub stuck : (ls : List Literal) (level j : ℕ) (es : List LabelledEdge) → j < literal_places ls → level ≤ j → met_on ls j es ≡ false → Stuck ls level j es
stuck ls level j [] within low none = record { below = low; unmarked = refl }
stuck ls level j (e ∷ es) within low none =
    let parts = or_parts (meets_at ls j e.marks) (met_on ls j es) none in
    elim (cases_Bool (meets_at ls level e.marks)) [
      | inr waits ↦ (let after = waits_after ls level e.marks waits in
          let rest = stuck ls level j es within low parts.1 in
          record { below = omega (arith, rest_of ls level level e es after, rest.below); unmarked = marked_rest ls level level e es after (waits_mark ls level e.marks waits) ∙ rest.unmarked })
      | inl meets ↦ (let lower : level < j = not_here level j low (λ same. false≢true (sym parts.0 ∙ (ap (λ l. meets_at ls l e.marks) (sym same) ∙ meets))) in
          let other : (level + 1 == literal_places ls) ≡ false = ne_eqb (level + 1) (literal_places ls) (λ f. omega (arith, f, lower, within)) in
          let after = goes_after ls level e.marks meets other in
          let rest = stuck ls (level + 1) j es within (omega (arith, lower)) parts.1 in
          record {
            below = omega (arith, rest_of ls level (level + 1) e es after, rest.below);
            unmarked = marked_rest ls level (level + 1) e es after (goes_mark ls level e.marks meets other)
                ∙ rest.unmarked;
          })
    ]
  where
    not_here : (level j : ℕ) → level ≤ j → (level ≡ j → ⊥) → level < j
    not_here level j low other = elim (cases_eq level j) [ inl e ↦ absurd (other e) | inr f ↦ omega (arith, low, f) ]

-- From a level above one whose literal is not met, edges with a mark lead to that one or below it.
pub falls : (ls : List Literal) (level j : ℕ) (es : List LabelledEdge) → level < literal_places ls → j < level → met_on ls j es ≡ false → marked ls level es ≡ true → turn ls level es ≤ j
falls ls level j [] within high none some = absurd (false≢true some)
falls ls level j (e ∷ es) within high none some =
    let parts = or_parts (meets_at ls j e.marks) (met_on ls j es) none in
    elim (cases_Bool (meets_at ls level e.marks)) [
      | inr waits ↦ (let after = waits_after ls level e.marks waits in
          let rest = falls ls level j es within high parts.1 (sym (marked_rest ls level level e es after (waits_mark ls level e.marks waits)) ∙ some) in
          omega (arith, rest_of ls level level e es after, rest))
      | inl meets ↦ (elim (cases_Bool (level + 1 == literal_places ls)) [
        | inl last ↦ (let rest = stuck ls 0 j es (omega (arith, high, within)) (omega arith) parts.1 in omega (arith, rest_of ls level 0 e es (wraps_after ls level e.marks meets last), rest.below))
        | inr other ↦ (let after = goes_after ls level e.marks meets other in
            let rest = falls ls (level + 1) j es (omega (arith, eqb-false (level + 1) (literal_places ls) other, within)) (omega (arith, high)) parts.1
            (sym (marked_rest ls level (level + 1) e es after (goes_mark ls level e.marks meets other)) ∙ some) in
            omega (arith, rest_of ls level (level + 1) e es after, rest))
      ])
    ]

-- Where edges with a mark lead back to the level from which they came, the literal of each level is met.
pub all_passed : (ls : List Literal) (level : ℕ) (es : List LabelledEdge) → level < literal_places ls → turn ls level es ≡ level → marked ls level es ≡ true → (j : ℕ) → j < literal_places ls
    → met_on ls j es ≡ true
all_passed ls level es below closed some j within = elim (cases_Bool (met_on ls j es)) [
  | inl met ↦ met
  | inr none ↦ (elim (cases_lt j level) [
    | inl high ↦ absurd (omega (arith, falls ls level j es below high none some, closed, high))
    | inr low ↦ (let s = stuck ls level j es within low none in absurd (false≢true (sym s.unmarked ∙ some)))
  ])
]
