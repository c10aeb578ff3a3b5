-- The marks that an edge has in a copy, and the edges of a copy, one by one.
use Rattle.std.proofs.Common.{◌≡◌, ◌∙◌, ℕ, zero, suc, ◌+◌, ◌<◌, Bool, true, false, cond, List, [], ◌∷◌, ◌++◌, All, ap, arith, filter, get_or, length, map, refl, subst, sym, take}
use Rattle.std.specs.List.{range_with_len}
use Rattle.std.proofs.lemmas.List.{append-nil, map-append}
use Rattle.std.proofs.lemmas.List.Elements.{All-append, All-nil, All-cons, All-weaker, filter-append}
use Rattle.aut_base.proofs.lists.Lists.{range_more, take-push}
use Rattle.aut_base.specs.Automaton.{LabelledEdge}
use Rattle.fin_removal.specs.Copies.{copy_edges}
use Rattle.fin_removal.proofs.Parts.{allows, edge_in}
use Rattle.fin_removal.specs.Meeting.{meets_at}
use Rattle.fin_removal.specs.declared.term_copy.TermCopy.{TermCopy}

-- the marks for the first n sets of the copy
abbrev pub marks_to : TermCopy → List ℕ → ℕ → List ℕ
marks_to copy marks n = map (λ place. copy.first + place) (filter (λ place. meets_at copy.infs place marks) (range_with_len 0 n))

one_mark : (first n : ℕ) (b : Bool) → map (λ place. first + place) (cond b ((0 + n) ∷ []) []) ≡ cond b ((first + n) ∷ []) []
one_mark first n true = let z : first + (0 + n) ≡ first + n = omega arith in ap (λ x. x ∷ []) z
one_mark first n false = refl

pub marks_more : (copy : TermCopy) (marks : List ℕ) (n : ℕ) → marks_to copy marks (n + 1) ≡ marks_to copy marks n ++ cond (meets_at copy.infs n marks) ((copy.first + n) ∷ []) []
marks_more copy marks n =
    let p : ℕ → Bool = λ place. meets_at copy.infs place marks in
    let f : ℕ → ℕ = λ place. copy.first + place in
    let z : 0 + n ≡ n = omega arith in
    ap (λ xs. map f (filter p xs)) (range_more 0 n)
    ∙ (ap (map f) (filter-append p (range_with_len 0 n) ((0 + n) ∷ []))
    ∙ (map-append f (filter p (range_with_len 0 n)) (filter p ((0 + n) ∷ []))
    ∙ (ap (λ ys. marks_to copy marks n ++ ys) (one_mark copy.first n (p (0 + n)))
    ∙ ap (λ m. marks_to copy marks n ++ cond (meets_at copy.infs m marks) ((copy.first + n) ∷ []) []) z)))

one_below : (m k : ℕ) (b : Bool) → m < k → All (λ x. x < k) (cond b (m ∷ []) [])
one_below m k true h = All-cons (λ x. x < k) m [] h (All-nil (λ x. x < k))
one_below m k false h = All-nil (λ x. x < k)

pub marks_below : (copy : TermCopy) (marks : List ℕ) (n : ℕ) → All (λ x. x < copy.first + n) (marks_to copy marks n)
marks_below copy marks zero = All-nil (λ x. x < copy.first + zero)
marks_below copy marks (suc n) =
    let m : n + 1 ≡ suc n = omega arith in
    let before : All (λ x. x < copy.first + suc n) (marks_to copy marks n) = All-weaker (λ x. x < copy.first + n) (λ x. x < copy.first + suc n) (λ x h. omega (arith, h))
    (marks_to copy marks n) (marks_below copy marks n) in
    let one : All (λ x. x < copy.first + suc n) (cond (meets_at copy.infs n marks) ((copy.first + n) ∷ []) []) =
    one_below (copy.first + n) (copy.first + suc n) (meets_at copy.infs n marks) (omega arith) in
    subst (λ k. All (λ x. x < copy.first + suc n) (marks_to copy marks k)) m
    (subst (λ (xs : List ℕ). All (λ x. x < copy.first + suc n) xs) (sym (marks_more copy marks n)) (All-append (λ x. x < copy.first + suc n) _ _ before one))

pub marks_skip : (copy : TermCopy) (marks found : List ℕ) (n : ℕ) → found ≡ marks_to copy marks n → meets_at copy.infs n marks ≡ false → found ≡ marks_to copy marks (n + 1)
marks_skip copy marks found n so_far fails =
    so_far ∙ sym (marks_more copy marks n ∙ (ap (λ b. marks_to copy marks n ++ cond b ((copy.first + n) ∷ []) []) fails ∙ append-nil (marks_to copy marks n)))

pub marks_push : (copy : TermCopy) (marks found new : List ℕ) (n : ℕ) → found ≡ marks_to copy marks n → meets_at copy.infs n marks ≡ true → new ≡ found ++ (copy.first + n) ∷ []
    → new ≡ marks_to copy marks (n + 1)
marks_push copy marks found new n so_far passes pushed =
    pushed ∙ (ap (λ xs. xs ++ (copy.first + n) ∷ []) so_far ∙ sym (marks_more copy marks n ∙ ap (λ b. marks_to copy marks n ++ cond b ((copy.first + n) ∷ []) []) passes))

-- the edges of a copy after one more edge of the automaton
one_edge : (n : ℕ) (copy : TermCopy) (e : LabelledEdge) (b : Bool) → map (edge_in n copy) (cond b (e ∷ []) []) ≡ cond b (edge_in n copy e ∷ []) []
one_edge n copy e true = refl
one_edge n copy e false = refl

pub copy_edges_more : {X : Type 0} (f : X → LabelledEdge) (n : ℕ) (copy : TermCopy) (xs : List X) (i : ℕ) (x : X) → i < length xs → x ≡ get_or xs i x
    → copy_edges n (map f (take (i + 1) xs)) copy ≡ copy_edges n (map f (take i xs)) copy ++ cond (allows copy (f x).marks) (edge_in n copy (f x) ∷ []) []
copy_edges_more f n copy xs i x within is =
    let p : LabelledEdge → Bool = λ e. allows copy e.marks in
    ap (λ es. map (edge_in n copy) (filter p es)) (ap (map f) (take-push xs i x within is) ∙ map-append f (take i xs) (x ∷ []))
    ∙ (ap (map (edge_in n copy)) (filter-append p (map f (take i xs)) (f x ∷ []))
    ∙ (map-append (edge_in n copy) (filter p (map f (take i xs))) (filter p (f x ∷ []))
    ∙ ap (λ es. copy_edges n (map f (take i xs)) copy ++ es) (one_edge n copy (f x) (p (f x)))))
