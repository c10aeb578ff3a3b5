-- The numbers of terms and literals of joins.
use Rattle.std.proofs.Common.{◌≡◌, ◌∙◌, ℕ, ◌+◌, ◌*◌, ◌-◌, ◌^◌, min, List, length, map, take, ◌++◌, [], ◌∷◌, Some, slice_get, sym, ap}
use Rattle.std.specs.List.{flat_map}
use Rattle.std.proofs.lemmas.List.{map-append, append-nil}
use Rattle.std.proofs.lemmas.List.Concat.{flat_map-append}
use Rattle.aut_base.specs.Formula.{FormulaTree}
use Rattle.acc_forms.specs.Terms.{pairs, literals, choices, terms}
use Rattle.acc_forms.specs.inner.Tally.{joined_terms, part_terms, tally_of}
use Rattle.acc_forms.specs.declared.join.Join.{Join}
use Rattle.acc_forms.specs.declared.join.Join.TheVariants.{All, Any}
use Rattle.acc_forms.specs.declared.literal.Literal.{Literal}
use Rattle.acc_forms.specs.declared.tally.Tally.{Tally}
use Rattle.aut_base.proofs.lists.Lists.{take-slice_get}
use Rattle.aut_base.proofs.numbers.Capped.{capped_add, capped_mul}
use Rattle.acc_forms.proofs.TermLists.{length-pairs, literals-pairs, choices-push}

pub times_tally : (a b : Tally) (xs ys : List (List Literal)) (number first second all : ℕ) →
    a ≡ tally_of xs → b ≡ tally_of ys →
    number ≡ min (a.terms * b.terms) (2 ^ 128 - 1) →
    first ≡ min (a.literals * b.terms) (2 ^ 128 - 1) →
    second ≡ min (b.literals * a.terms) (2 ^ 128 - 1) →
    all ≡ min (first + second) (2 ^ 128 - 1) →
    ◌≡◌ {A = Tally} (record { terms = number; literals = all }) (tally_of (pairs xs ys))
times_tally a b xs ys number first second all is_a is_b is_number is_first is_second is_all =
    let s : ℕ = 2 ^ 128 - 1 in
    let t1 : a.terms ≡ min (length xs) s = ap (λ (t : Tally). t.terms) is_a in
    let t2 : b.terms ≡ min (length ys) s = ap (λ (t : Tally). t.terms) is_b in
    let l1 : a.literals ≡ min (literals xs) s = ap (λ (t : Tally). t.literals) is_a in
    let l2 : b.literals ≡ min (literals ys) s = ap (λ (t : Tally). t.literals) is_b in
    let product : number ≡ min (length (pairs xs ys)) s =
    is_number ∙ ap (λ n. min (n * b.terms) s) t1 ∙ ap (λ n. min (min (length xs) s * n) s) t2
    ∙ capped_mul s (length xs) (length ys) ∙ sym (ap (λ n. min n s) (length-pairs xs ys)) in
    let one : first ≡ min (literals xs * length ys) s =
    is_first ∙ ap (λ n. min (n * b.terms) s) l1 ∙ ap (λ n. min (min (literals xs) s * n) s) t2 ∙ capped_mul s (literals xs) (length ys) in
    let two : second ≡ min (literals ys * length xs) s =
    is_second ∙ ap (λ n. min (n * a.terms) s) l2 ∙ ap (λ n. min (min (literals ys) s * n) s) t1 ∙ capped_mul s (literals ys) (length xs) in
    let sum : all ≡ min (literals (pairs xs ys)) s =
    is_all ∙ ap (λ n. min (n + second) s) one ∙ ap (λ n. min (min (literals xs * length ys) s + n) s) two
    ∙ capped_add s (literals xs * length ys) (literals ys * length xs) ∙ sym (ap (λ n. min n s) (literals-pairs xs ys)) in
    let make : ℕ → ℕ → Tally = λ (t : ℕ) (l : ℕ). record { terms = t; literals = l } in
    ap (λ n. make n all) product ∙ ap (λ n. make (min (length (pairs xs ys)) s) n) sum

-- the choices of terms, and the terms, once a part is added
pub choices_more : (fs : List FormulaTree) (place : ℕ) (f : FormulaTree) → slice_get fs place ≡ Some f
    → choices (map terms (take (place + 1) fs)) ≡ pairs (choices (map terms (take place fs))) (terms f)
choices_more fs place f is =
    ap (λ gs. choices (map terms gs)) (take-slice_get fs place f is)
    ∙ ap choices (map-append terms (take place fs) (f ∷ []))
    ∙ choices-push (map terms (take place fs)) (terms f)

pub terms_more : (fs : List FormulaTree) (place : ℕ) (f : FormulaTree) → slice_get fs place ≡ Some f → flat_map terms (take (place + 1) fs) ≡ flat_map terms (take place fs) ++ terms f
terms_more fs place f is =
    ap (flat_map terms) (take-slice_get fs place f is)
    ∙ flat_map-append terms (take place fs) (f ∷ [])
    ∙ ap (λ ts. flat_map terms (take place fs) ++ ts) (append-nil (terms f))

pub part_terms_more : (j : Join) (fs : List FormulaTree) (place : ℕ) (f : FormulaTree) → slice_get fs place ≡ Some f
    → part_terms j (take (place + 1) fs) ≡ joined_terms j (part_terms j (take place fs)) (terms f)
part_terms_more All = choices_more
part_terms_more Any = terms_more
