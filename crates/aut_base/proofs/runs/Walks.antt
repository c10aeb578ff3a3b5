-- Paths that read an infinite word from some position on, and how they split and join.
use Rattle.std.proofs.Common.{◌≡◌, ◌∙◌, ℕ, zero, suc, ◌+◌, ◌*◌, ◌<◌, true, List, [], ◌∷◌, ◌++◌, length, Option, Some, Contains, slice_get, refl, sym, ap, subst, arith}
use Rattle.std.proofs.lemmas.Option.{same_Some}
use Rattle.aut_base.specs.Acceptance.{IsPath}
use Rattle.aut_base.specs.Automaton.{LabelledEdge, Automaton}
use Rattle.aut_base.specs.Label.{truth, holds_at}
use Rattle.aut_base.specs.Word.{NameSet, copies}

-- the path reads the letters of `w` from position n on
abbrev pub Reads : Automaton → (ℕ → Option NameSet) → ℕ → ℕ → List LabelledEdge → ℕ → Type 0
Reads a w n p [] q = p ≡ q
Reads a w n p (e ∷ es) q =
    (p ≡ e.from) × Contains a.edges e × ((x : NameSet) → w n ≡ Some x → truth (holds_at a.names x) e.label ≡ true) × Reads a w (n + 1) e.to es q

-- these letters are those of `w` from position n on
abbrev pub Agrees : (ℕ → Option NameSet) → ℕ → List NameSet → Type 0
Agrees w n xs = (k : ℕ) → k < length xs → w (n + k) ≡ slice_get xs k

agrees_first : (w : ℕ → Option NameSet) (n : ℕ) (x : NameSet) (xs : List NameSet) → Agrees w n (x ∷ xs) → w n ≡ Some x
agrees_first w n x xs agrees = let at : n ≡ n + 0 = omega arith in ap w at ∙ agrees 0 (omega arith)

agrees_rest : (w : ℕ → Option NameSet) (n : ℕ) (x : NameSet) (xs : List NameSet) → Agrees w n (x ∷ xs) → Agrees w (n + 1) xs
agrees_rest w n x xs agrees k within = let at : n + 1 + k ≡ n + suc k = omega arith in ap w at ∙ agrees (suc k) (omega arith)

pub as_long : (a : Automaton) (p : ℕ) (xs : List NameSet) (es : List LabelledEdge) (q : ℕ) → IsPath a p xs es q → length es ≡ length xs
as_long a p [] [] q path = refl
as_long a p [] (e ∷ es) q path = absurd path
as_long a p (x ∷ xs) [] q path = absurd path
as_long a p (x ∷ xs) (e ∷ es) q path = ap suc (as_long a e.to xs es q path.3)

pub reads_word : (a : Automaton) (w : ℕ → Option NameSet) (n p : ℕ) (xs : List NameSet) (es : List LabelledEdge) (q : ℕ) → Agrees w n xs → IsPath a p xs es q → Reads a w n p es q
reads_word a w n p [] [] q agrees path = path
reads_word a w n p [] (e ∷ es) q agrees path = absurd path
reads_word a w n p (x ∷ xs) [] q agrees path = absurd path
reads_word a w n p (x ∷ xs) (e ∷ es) q agrees path = (
  path.0,
  path.1,
  λ y is. subst (λ s. truth (holds_at a.names s) e.label ≡ true) (same_Some x y (sym (agrees_first w n x xs agrees) ∙ is)) path.2,
  reads_word a w (n + 1) e.to xs es q (agrees_rest w n x xs agrees) path.3,
)

pub reads_path : (a : Automaton) (w : ℕ → Option NameSet) (n p : ℕ) (xs : List NameSet) (es : List LabelledEdge) (q : ℕ) → Agrees w n xs → length es ≡ length xs → Reads a w n p es q
    → IsPath a p xs es q
reads_path a w n p [] [] q agrees long reads = reads
reads_path a w n p [] (e ∷ es) q agrees long reads = absurd (omega arith)
reads_path a w n p (x ∷ xs) [] q agrees long reads = absurd (omega arith)
reads_path a w n p (x ∷ xs) (e ∷ es) q agrees long reads =
    (reads.0, reads.1, reads.2 x (agrees_first w n x xs agrees), reads_path a w (n + 1) e.to xs es q (agrees_rest w n x xs agrees) (omega arith) reads.3)

-- the state at which a path from p ends
abbrev pub ends : ℕ → List LabelledEdge → ℕ
ends p [] = p
ends p (e ∷ es) = ends e.to es

pub join : (a : Automaton) (w : ℕ → Option NameSet) (n m p r q : ℕ) (es fs : List LabelledEdge) → m ≡ n + length es → Reads a w n p es r → Reads a w m r fs q → Reads a w n p (es ++ fs) q
join a w n m p r q [] fs at first second =
    let same : m ≡ n = omega arith in
    let P : ℕ → Type 0 = λ s. Reads a w n s fs q in
    let Q : ℕ → Type 0 = λ t. Reads a w t r fs q in
    subst P (sym first) (subst Q same second)
join a w n m p r q (e ∷ es) fs at first second =
    (first.0, first.1, first.2, join a w (n + 1) m e.to r q es fs (omega arith) first.3 second)

pub split_first : (a : Automaton) (w : ℕ → Option NameSet) (n p q : ℕ) (es fs : List LabelledEdge) → Reads a w n p (es ++ fs) q → Reads a w n p es (ends p es)
split_first a w n p q [] fs reads = refl
split_first a w n p q (e ∷ es) fs reads = (reads.0, reads.1, reads.2, split_first a w (n + 1) e.to q es fs reads.3)

pub split_second : (a : Automaton) (w : ℕ → Option NameSet) (n m p q : ℕ) (es fs : List LabelledEdge) → m ≡ n + length es → Reads a w n p (es ++ fs) q → Reads a w m (ends p es) fs q
split_second a w n m p q [] fs at reads =
    let same : n ≡ m = omega arith in
    let Q : ℕ → Type 0 = λ t. Reads a w t p fs q in
    subst Q same reads
split_second a w n m p q (e ∷ es) fs at reads = split_second a w (n + 1) m e.to q es fs (omega arith) reads.3

-- A closed path of j times l edges that can read the word from each position o + s * l on can be repeated there.
pub repeated : (a : Automaton) (w : ℕ → Option NameSet) (o l j q : ℕ) (cycle : List LabelledEdge) → length cycle ≡ j * l → ((s : ℕ) → Reads a w (o + s * l) q cycle q) → (k s : ℕ)
    → Reads a w (o + s * l) q (copies k cycle) q
repeated a w o l j q cycle long round zero s = refl
repeated a w o l j q cycle long round (suc k) s =
    join a w (o + s * l) (o + (s + j) * l) q q q cycle (copies k cycle) (omega arith) (round s) (repeated a w o l j q cycle long round k (s + j))
