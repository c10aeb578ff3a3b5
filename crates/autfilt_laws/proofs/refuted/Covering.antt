-- Lists of edges each of whose marks are those of an edge in another list, and the number of edges with marks that were seen.
use Rattle.std.proofs.Common.{◌≡◌, ◌∙◌, ◌≤◌, ℕ, zero, suc, Bool, true, false, cond, List, [], ◌∷◌, Contains, ap, arith, drop, inl, inr, length, nat_eq, refl, subst, sym, take}
use Rattle.std.proofs.lemmas.Bool.{true≢false}
use Rattle.std.proofs.lemmas.Cmp.{nat_list_eq_equiv}
use Rattle.std.proofs.lemmas.List.{take-append-drop}
use Rattle.std.proofs.lemmas.List.Elements.{Contains-append_left, Contains-append_right}
use Rattle.std.specs.Cmp.Lexicographic.{pointwise}
use Rattle.std.specs.List.{list_all, list_any}
use Rattle.aut_base.proofs.runs.LassoRuns.{marks_of}
use Rattle.aut_base.proofs.lists.Members.{any_found, any_from, each_from, each_is, first_there, from_map, later_there, none_there, there_cases, there_map}
use Rattle.aut_base.proofs.words.SameEdges.{Alike, met_alike}
use Rattle.aut_base.proofs.words.Texts.{same_text}
use Rattle.aut_base.proofs.numbers.Truth.{same_truth}
use Rattle.aut_base.specs.Automaton.{LabelledEdge}
use Rattle.aut_base.specs.Formula.{FormulaTree, met}

-- ---- how many items pass a test

abbrev pub tally : {A : Type 0} → (A → Bool) → List A → ℕ
tally p [] = 0
tally p (x ∷ xs) = cond (p x) (suc (tally p xs)) (tally p xs)

counted_at_most : (b : Bool) (m n : ℕ) → m ≤ n → cond b (suc m) m ≤ suc n
counted_at_most true m n h = omega (arith, h)
counted_at_most false m n h = omega (arith, h)

pub tally_most : {A : Type 0} (p : A → Bool) (xs : List A) → tally p xs ≤ length xs
tally_most p [] = omega arith
tally_most p (x ∷ xs) = counted_at_most (p x) (tally p xs) (length xs) (tally_most p xs)

both_more : (b c : Bool) (m n : ℕ) → (b ≡ true → c ≡ true) → m ≤ n → cond b (suc m) m ≤ cond c (suc n) n
both_more true true m n f h = omega (arith, h)
both_more true false m n f h = absurd (true≢false (sym (f refl)))
both_more false true m n f h = omega (arith, h)
both_more false false m n f h = h

tally_rises : {A : Type 0} (p q : A → Bool) → ((x : A) → p x ≡ true → q x ≡ true) → (xs : List A) → tally p xs ≤ tally q xs
tally_rises p q f [] = omega arith
tally_rises p q f (x ∷ xs) = both_more (p x) (q x) (tally p xs) (tally q xs) (f x) (tally_rises p q f xs)

neither_more : (b c : Bool) (m n : ℕ) → (b ≡ true → c ≡ true) → m ≤ n → cond b (suc m) m ≡ cond c (suc n) n → (c ≡ true → b ≡ true) × (m ≡ n)
neither_more true true m n f h e = let same : suc m ≡ suc n = e in ((λ t. t), omega (arith, same))
neither_more true false m n f h e = absurd (true≢false (sym (f refl)))
neither_more false true m n f h e = let same : m ≡ suc n = e in absurd (omega (arith, h, same))
neither_more false false m n f h e = ((λ t. t), e)

-- where a weaker test passes as many items, it passes the same ones
pub tally_same : {A : Type 0} (p q : A → Bool) → ((x : A) → p x ≡ true → q x ≡ true) → (xs : List A) → tally p xs ≡ tally q xs
    → (x : A) → Contains xs x → q x ≡ true → p x ≡ true
tally_same p q f [] e x there passes = absurd (none_there x there)
tally_same p q f (y ∷ ys) e x there passes =
    let both = neither_more (p y) (q y) (tally p ys) (tally q ys) (f y) (tally_rises p q f ys) e in
    elim (there_cases y ys x there) [
      | inl here ↦ ap p (sym here) ∙ both.0 (ap q here ∙ passes)
      | inr later ↦ tally_same p q f ys both.1 x later passes
    ]

-- ---- items of a prefix of a list

pub in_front : {A : Type 0} (n : ℕ) (xs : List A) (x : A) → Contains (take n xs) x → Contains xs x
in_front n xs x there = subst (λ ys. Contains ys x) (take-append-drop n xs) (Contains-append_left (take n xs) (drop n xs) x there)

pub in_back : {A : Type 0} (n : ℕ) (xs : List A) (x : A) → Contains (drop n xs) x → Contains xs x
in_back n xs x there = subst (λ ys. Contains ys x) (take-append-drop n xs) (Contains-append_right (take n xs) (drop n xs) x there)

pub in_longer : {A : Type 0} (m n : ℕ) (xs : List A) (x : A) → m ≤ n → Contains (take m xs) x → Contains (take n xs) x
in_longer zero n xs x less there = absurd (none_there x there)
in_longer (suc m) n [] x less there = absurd (none_there x there)
in_longer (suc m) zero (y ∷ ys) x less there = absurd (omega (arith, less))
in_longer (suc m) (suc n) (y ∷ ys) x less there = elim (there_cases y (take m ys) x there) [
  | inl here ↦ subst (Contains (y ∷ take n ys)) here (first_there y (take n ys))
  | inr later ↦ later_there y (take n ys) x (in_longer m n ys x (omega (arith, less)) later)
]

-- ---- the same marks

-- each edge of the first list has the marks of one in the second
abbrev pub Covers : List LabelledEdge → List LabelledEdge → Type 0
Covers es fs = (e : LabelledEdge) → Contains es e → (f : LabelledEdge) × Contains fs f × (f.marks ≡ e.marks)

pub covers_itself : (es : List LabelledEdge) → Covers es es
covers_itself es e there = (e, there, refl)

pub covers_on : (es fs gs : List LabelledEdge) → Covers es fs → Covers fs gs → Covers es gs
covers_on es fs gs first second e there =
    let f = first e there in
    let g = second f.0 f.1 in
    (g.0, g.1, g.2 ∙ f.2)

-- an edge of the list has the marks of this one
abbrev pub is_seen : List LabelledEdge → LabelledEdge → Bool
is_seen es e = list_any (λ (f : LabelledEdge). pointwise nat_eq f.marks e.marks) es

pub seen_there : (es : List LabelledEdge) (e : LabelledEdge) → Contains es e → is_seen es e ≡ true
seen_there es e there = any_from (λ (f : LabelledEdge). pointwise nat_eq f.marks e.marks) es e there (nat_list_eq_equiv.refl e.marks)

pub there_seen : (es : List LabelledEdge) (e : LabelledEdge) → is_seen es e ≡ true → (f : LabelledEdge) × Contains es f × (f.marks ≡ e.marks)
there_seen es e seen =
    let found = any_found (λ (f : LabelledEdge). pointwise nat_eq f.marks e.marks) es seen in
    (found.0, found.1, same_text found.0.marks e.marks found.2)

any_there : {A : Type 0} (p : A → Bool) (xs ys : List A) → ((x : A) → Contains xs x → Contains ys x) → list_any p xs ≡ true → list_any p ys ≡ true
any_there p xs ys within some = let found = any_found p xs some in any_from p ys found.0 (within found.0 found.1) found.2

pub seen_longer : (es fs : List LabelledEdge) → ((e : LabelledEdge) → Contains es e → Contains fs e) → (e : LabelledEdge) → is_seen es e ≡ true → is_seen fs e ≡ true
seen_longer es fs within e seen = any_there (λ (f : LabelledEdge). pointwise nat_eq f.marks e.marks) es fs within seen

all_there : {A : Type 0} (p : A → Bool) (xs ys : List A) → ((x : A) → Contains ys x → Contains xs x) → list_all p xs ≡ true → list_all p ys ≡ true
all_there p xs ys within all = each_from p ys (λ y there. each_is p xs y all (within y there))

same_items : {A : Type 0} (xs ys : List A) → ((x : A) → Contains xs x → Contains ys x) → ((x : A) → Contains ys x → Contains xs x) → Alike xs ys
same_items xs ys to from = record {
  some = λ p. same_truth (list_any p xs) (list_any p ys) (any_there p xs ys to) (any_there p ys xs from);
  each = λ p. same_truth (list_all p xs) (list_all p ys) (all_there p xs ys from) (all_there p ys xs to);
}

marks_there : (es fs : List LabelledEdge) → Covers es fs → (m : List ℕ) → Contains (marks_of es) m → Contains (marks_of fs) m
marks_there es fs covers m there =
    let e = from_map (λ (d : LabelledEdge). d.marks) es m there in
    let f = covers e.0 e.1 in
    subst (Contains (marks_of fs)) (f.2 ∙ e.2) (there_map (λ (d : LabelledEdge). d.marks) fs f.0 f.1)

-- lists that cover each other meet the same conditions
pub met_covering : (es fs : List LabelledEdge) → Covers es fs → Covers fs es → (f : FormulaTree) → met (marks_of es) f ≡ met (marks_of fs) f
met_covering es fs to from = met_alike (marks_of es) (marks_of fs) (same_items (marks_of es) (marks_of fs) (marks_there es fs to) (marks_there fs es from))
