-- Words whose letters are related position by position, and how a run of one automaton over one of them gives a run of
-- another over the other.
use Rattle.std.proofs.Common.{◌≡◌, ◌∙◌, ◌+◌, ◌*◌, ◌<◌, ℕ, zero, suc, true, List, [], ◌∷◌, ◌++◌, Contains, Some, ap, arith, length, map, refl, slice_get, subst, sym}
use Rattle.std.proofs.lemmas.Option.{none-some, same_Some, slice_get-get_or}
use Rattle.std.specs.FinSet as set
use Rattle.aut_base.specs.Acceptance.{Accepts, IsPath}
use Rattle.aut_base.specs.Automaton.{Automaton, LabelledEdge}
use Rattle.aut_base.specs.Formula.{met}
use Rattle.aut_base.specs.Label.{holds_at, truth}
use Rattle.aut_base.specs.Word.{NameSet, SpellsSame, copies, letter_at}
use Rattle.aut_base.proofs.words.Turns.{covers, letter_in, more_turns}
use Rattle.ap_project.specs.Laws.{Forth}

-- lists of letters of the same length, related position by position
abbrev pub Related : (NameSet → NameSet → Type 0) → List NameSet → List NameSet → Type 0
Related R [] [] = Unit {0}
Related R [] (y ∷ ys) = ⊥
Related R (x ∷ xs) [] = ⊥
Related R (x ∷ xs) (y ∷ ys) = R x y × Related R xs ys

pub related_append : (R : NameSet → NameSet → Type 0) (xs ys us vs : List NameSet) → Related R xs ys → Related R us vs → Related R (xs ++ us) (ys ++ vs)
related_append R [] [] us vs first second = second
related_append R [] (y ∷ ys) us vs first second = absurd first
related_append R (x ∷ xs) [] us vs first second = absurd first
related_append R (x ∷ xs) (y ∷ ys) us vs first second = (first.0, related_append R xs ys us vs first.1 second)

pub related_copies : (R : NameSet → NameSet → Type 0) (k : ℕ) (xs ys : List NameSet) → Related R xs ys → Related R (copies k xs) (copies k ys)
related_copies R zero xs ys are = tt
related_copies R (suc k) xs ys are = related_append R xs ys (copies k xs) (copies k ys) are (related_copies R k xs ys are)

pub as_many : (R : NameSet → NameSet → Type 0) (xs ys : List NameSet) → Related R xs ys → length ys ≡ length xs
as_many R [] [] are = refl
as_many R [] (y ∷ ys) are = absurd are
as_many R (x ∷ xs) [] are = absurd are
as_many R (x ∷ xs) (y ∷ ys) are = ap suc (as_many R xs ys are.1)

related_at : (R : NameSet → NameSet → Type 0) (xs ys : List NameSet) → Related R xs ys → (k : ℕ) (x y : NameSet) → slice_get xs k ≡ Some x → slice_get ys k ≡ Some y → R x y
related_at R [] ys are k x y first second = absurd (none-some x first)
related_at R (a ∷ xs) [] are k x y first second = absurd are
related_at R (a ∷ xs) (b ∷ ys) are zero x y first second = subst (R x) (same_Some b y second) (subst (λ z. R z b) (same_Some a x first) are.0)
related_at R (a ∷ xs) (b ∷ ys) are (suc k) x y first second = related_at R xs ys are.1 k x y first second

pub related_map : (R : NameSet → NameSet → Type 0) (f : NameSet → NameSet) → ((x : NameSet) → R x (f x)) → (xs : List NameSet) → Related R xs (map f xs)
related_map R f is [] = tt
related_map R f is (x ∷ xs) = (is x, related_map R f is xs)

pub map_related : (R : NameSet → NameSet → Type 0) (f : NameSet → NameSet) → ((x : NameSet) → R (f x) x) → (xs : List NameSet) → Related R (map f xs) xs
map_related R f is [] = tt
map_related R f is (x ∷ xs) = (is x, map_related R f is xs)

-- the letters of lasso words
pub related_letters : (R : NameSet → NameSet → Type 0) (u v x y : List NameSet) → Related R u x → Related R v y → 0 < length v → (n : ℕ) (a b : NameSet) → letter_at u v n ≡ Some a
    → letter_at x y n ≡ Some b → R a b
related_letters R u v x y stems cycle_rounds some n a b first second =
    let long = as_many R v y cycle_rounds in
    let some_y : 0 < length y = omega (arith, long, some) in
    let one = covers (suc n) u v some in
    let two = covers (suc n) x y some_y in
    related_at R (u ++ copies (suc n) v) (x ++ copies (suc n) y) (related_append R u x (copies (suc n) v) (copies (suc n) y) stems (related_copies R (suc n) v y cycle_rounds)) n a b
    (sym (letter_in u v (suc n) n some (omega (arith, one))) ∙ first) (sym (letter_in x y (suc n) n some_y (omega (arith, two))) ∙ second)

pub some_letter : (u v : List NameSet) (n : ℕ) → 0 < length v → (a : NameSet) × (letter_at u v n ≡ Some a)
some_letter u v n some =
    let one = covers (suc n) u v some in
    let within : n < length (u ++ copies (suc n) v) = omega (arith, one) in
    let all = slice_get-get_or (u ++ copies (suc n) v) n (set.from_list []) within in
    (_, letter_in u v (suc n) n some within ∙ all)

-- a word with some turns of its cycle in its stem, and some in its cycle
pub unrolled : (t k : ℕ) (u v : List NameSet) → 0 < length v → 0 < length (copies k v) → SpellsSame u v (u ++ copies t v) (copies k v)
unrolled t k u v some more n =
    let stem = u ++ copies t v in
    let all = covers (suc n) stem (copies k v) more in
    let e = more_turns t (suc n) k u v in
    let long = ap length e in
    letter_in u v (t + suc n * k) n some (omega (arith, all, long)) ∙ (sym (ap (λ w. slice_get w n) e) ∙ sym (letter_in stem (copies k v) (suc n) n more (omega (arith, all))))

-- where one automaton has an edge at a letter, the other has one with the same ends and marks at a related letter
abbrev pub Carries : (NameSet → NameSet → Type 0) → Automaton → Automaton → Type 0
Carries R a b = (e : LabelledEdge) (x y : NameSet) → R x y → Contains a.edges e → truth (holds_at a.names x) e.label ≡ true → Forth b e y

record Carried (b : Automaton) (p : ℕ) (ys : List NameSet) (es : List LabelledEdge) (q : ℕ) : Type 0 where
  path_edges : List LabelledEdge
  leads : IsPath b p ys path_edges q
  marks : map (λ (e : LabelledEdge). e.marks) path_edges ≡ map (λ (e : LabelledEdge). e.marks) es

carried : (R : NameSet → NameSet → Type 0) (a b : Automaton) → Carries R a b → (p q : ℕ) (xs ys : List NameSet) (es : List LabelledEdge) → Related R xs ys → IsPath a p xs es q → Carried b p ys es q
carried R a b carries p q [] [] [] are path = record { path_edges = []; leads = path; marks = refl }
carried R a b carries p q [] [] (e ∷ es) are path = absurd path
carried R a b carries p q [] (y ∷ ys) es are path = absurd are
carried R a b carries p q (x ∷ xs) [] es are path = absurd are
carried R a b carries p q (x ∷ xs) (y ∷ ys) [] are path = absurd path
carried R a b carries p q (x ∷ xs) (y ∷ ys) (e ∷ es) are path =
    let step = carries e x y are.0 path.1 path.2 in
    let rest = carried R a b carries e.to q xs ys es are.1 path.3 in
    record {
      path_edges = step.edge ∷ rest.path_edges;
      leads = (path.0 ∙ sym step.twin.from, step.there, step.holds, subst (λ r. IsPath b r ys rest.path_edges q) (sym step.twin.to) rest.leads);
      marks = cc (step.twin.marks, rest.marks);
    }

pub accepts_carried : (R : NameSet → NameSet → Type 0) (a b : Automaton) → Carries R a b → ((s : ℕ) → Contains a.starts s → Contains b.starts s) → a.formula ≡ b.formula
    → (u v x y : List NameSet) → Related R u x → Related R v y → Accepts a u v → Accepts b x y
accepts_carried R a b carries starts formula u v x y stems cycle_rounds r =
    let path_edges = carried R a b carries r.start r.state (u ++ copies r.stem_rounds v) (x ++ copies r.stem_rounds y) r.path_edges
    (related_append R u x (copies r.stem_rounds v) (copies r.stem_rounds y) stems (related_copies R r.stem_rounds v y cycle_rounds)) r.leads in
    let cycle = carried R a b carries r.state r.state (copies r.cycle_rounds v) (copies r.cycle_rounds y) r.cycle (related_copies R r.cycle_rounds v y cycle_rounds) r.returns in
    record {
      endless = omega (arith, r.endless, as_many R v y cycle_rounds);
      start = r.start;
      state = r.state;
      stem_rounds = r.stem_rounds;
      cycle_rounds = r.cycle_rounds;
      path_edges = path_edges.path_edges;
      cycle = cycle.path_edges;
      is_start = starts r.start r.is_start;
      leads = path_edges.leads;
      positive = r.positive;
      returns = cycle.leads;
      meets = ap (λ marks. met marks b.formula) cycle.marks ∙ (ap (met (map (λ (e : LabelledEdge). e.marks) r.cycle)) (sym formula) ∙ r.meets);
    }
