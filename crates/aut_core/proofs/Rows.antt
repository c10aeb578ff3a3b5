-- The items of a sorted list that have one key: the part of it between two indices.
use Rattle.std.proofs.Common.{◌≡◌, ◌≢◌, ◌∙◌, ◌++◌, ⊎_elim, ◌==◌, ◌+◌, ◌-◌, ◌<◌, ◌≤◌, ℕ, zero, suc, cond, List, [], ◌∷◌, arith, ap, sym, drop, filter, get_or, length, map, refl, subst, take}
use Rattle.std.proofs.lemmas.Bool.{cases_lt, eq-eqb, ne_eqb}
use Rattle.std.proofs.lemmas.List.{get_or_append_left, get_or-append_right, get_or_default, get_or-map, length-append, length-map}
use Rattle.std.specs.List.{slice_range}
use Rattle.std.specs.List.Sorted.{IsNonDecreasing, IsNonDecreasingBy}
use Rattle.aut_core.specs.Index.{IsRowStart, IsIndex}
use Rattle.aut_core.specs.declared.link.Link.{Link}

pub by_key : {X : Type 0} (key : X → ℕ) (xs : List X) → IsNonDecreasing (map key xs) → IsNonDecreasingBy key xs
by_key key xs rises i j d order within =
    let size = length-map xs key in
    let first = get_or-map key xs i d 0 (omega arith) in
    let second = get_or-map key xs j d 0 within in
    let less = rises i j 0 order (omega arith) in
    omega arith

-- The keys are below q before the index a, and at least q from there on. They are at most q before the index b, and above q from
-- there on.
pub record Surrounds {X : Type 0} (key : X → ℕ) (q : ℕ) (xs : List X) (a b : ℕ) : Type 0 where
  pub low : (k : ℕ) (d : X) → k < a → k < length xs → key (get_or xs k d) < q
  pub from : (k : ℕ) (d : X) → a ≤ k → k < length xs → q ≤ key (get_or xs k d)
  pub high : (k : ℕ) (d : X) → k < b → k < length xs → key (get_or xs k d) ≤ q
  pub later : (k : ℕ) (d : X) → b ≤ k → k < length xs → q < key (get_or xs k d)

rest : {X : Type 0} (key : X → ℕ) (q : ℕ) (x : X) (xs : List X) (a b c d : ℕ) → Surrounds key q (x ∷ xs) a b → c ≡ a - 1 → d ≡ b - 1 → Surrounds key q xs c d
rest key q x xs a b c d s e f = record {
  low = λ k o l w. s.low (suc k) o (omega arith) (omega (arith, w));
  from = λ k o l w. s.from (suc k) o (omega arith) (omega (arith, w));
  high = λ k o l w. s.high (suc k) o (omega arith) (omega (arith, w));
  later = λ k o l w. s.later (suc k) o (omega arith) (omega (arith, w));
}

taken_of_none : {X : Type 0} (n : ℕ) (xs : List X) → xs ≡ [] → take n xs ≡ []
taken_of_none zero xs e = refl
taken_of_none (suc n) xs e = ap (take (suc n)) e

-- the items with the key q are those between the two indices
pub between : {X : Type 0} (key : X → ℕ) (q : ℕ) (xs : List X) (a b : ℕ) → Surrounds key q xs a b → slice_range xs a b ≡ filter (λ x. key x == q) xs
between key q [] zero b s = taken_of_none (b - 0) [] refl
between key q [] (suc a) b s = taken_of_none (b - suc a) [] refl
between key q (x ∷ xs) zero zero s =
    let here = s.later 0 x (omega arith) (omega arith) in
    between key q xs zero zero (rest key q x xs 0 0 0 0 s refl refl) ∙ sym (ap (λ t. cond t (x ∷ filter (λ y. key y == q) xs) (filter (λ y. key y == q) xs)) (ne_eqb (key x) q (λ e. omega arith)))
between key q (x ∷ xs) zero (suc b) s =
    let low = s.from 0 x (omega arith) (omega arith) in
    let high = s.high 0 x (omega arith) (omega arith) in
    let e : suc b - 0 ≡ suc (b - 0) = omega arith in
    ap (λ n. take n (x ∷ xs)) e ∙ ap (λ ys. x ∷ ys) (between key q xs zero b (rest key q x xs 0 (suc b) 0 b s refl (omega arith)))
    ∙ sym (ap (λ t. cond t (x ∷ filter (λ y. key y == q) xs) (filter (λ y. key y == q) xs)) (eq-eqb (key x) q (omega arith)))
between key q (x ∷ xs) (suc a) zero s =
    let low = s.low 0 x (omega arith) (omega arith) in
    let high = s.later 0 x (omega arith) (omega arith) in
    absurd (omega arith)
between key q (x ∷ xs) (suc a) (suc b) s =
    let here = s.low 0 x (omega arith) (omega arith) in
    let e : suc b - suc a ≡ b - a = omega arith in
    ap (λ n. take n (drop a xs)) e ∙ (between key q xs a b (rest key q x xs (suc a) (suc b) a b s (omega arith) (omega arith))
    ∙ sym (ap (λ t. cond t (x ∷ filter (λ y. key y == q) xs) (filter (λ y. key y == q) xs)) (ne_eqb (key x) q (λ e. omega arith))))

pub in_order : {X : Type 0} (key : X → ℕ) (q : ℕ) (xs : List X) (a b : ℕ) → a ≤ length xs → Surrounds key q xs a b → a ≤ b
in_order key q [] a b most s = omega arith
in_order key q (x ∷ xs) zero b most s = omega arith
in_order key q (x ∷ xs) (suc a) zero most s =
    let low = s.low 0 x (omega arith) (omega arith) in
    let high = s.later 0 x (omega arith) (omega arith) in
    absurd (omega arith)
in_order key q (x ∷ xs) (suc a) (suc b) most s =
    let fewer = in_order key q xs a b (omega (arith, most)) (rest key q x xs (suc a) (suc b) a b s (omega arith) (omega arith)) in
    omega arith

-- The links of one state.

-- the links of a state are between the index where they begin and that where those of the next state do
pub surrounds : {links : List Link} {state a b : ℕ} → IsRowStart links state a → IsRowStart links (state + 1) b → Surrounds (λ (l : Link). l.from) state links a b
surrounds {links} {state} {a} {b} first second = record {
  low = λ k d l w. first.before k d l;
  from = λ k d l w. first.behind k d l w;
  high = λ k d l w. omega (arith, second.before k d l);
  later = λ k d l w. omega (arith, second.behind k d l w);
}

pub row_between : {links : List Link} {state a b : ℕ} → IsRowStart links state a → IsRowStart links (state + 1) b → slice_range links a b ≡ filter (λ l. l.from == state) links
row_between {links} {state} {a} {b} first second = between (λ (l : Link). l.from) state links a b (surrounds first second)

pub row_in_order : {links : List Link} {state a b : ℕ} → IsRowStart links state a → IsRowStart links (state + 1) b → a ≤ b
row_in_order {links} {state} {a} {b} first second = in_order (λ (l : Link). l.from) state links a b first.within (surrounds first second)

-- the links from `start` to before `end` leave the state or earlier ones
pub record IsInRow (links : List Link) (state start end : ℕ) : Type 0 where
  pub low : start ≤ end
  pub within : end ≤ length links
  pub before : (k : ℕ) (d : Link) → k < end → (get_or links k d).from ≤ state

pub row_ends : (links : List Link) (state start end : ℕ) (d : Link) → IsNonDecreasing (map (λ l. l.from) links) → IsRowStart links state start → IsInRow links state start end
    → end < length links → (get_or links end d).from ≢ state → IsRowStart links (state + 1) end
row_ends links state start end d rises begins row more other =
    let high : state ≤ (get_or links end d).from = begins.behind end d row.low more in
    record {
      within = row.within;
      before = λ k e l. omega (arith, row.before k e l);
      behind = λ k e l w.
          let order = by_key (λ (x : Link). x.from) links rises end k d l w in
          let same : (get_or links k d).from ≡ (get_or links k e).from = ap (λ (x : Link). x.from) (get_or_default links k d e w) in
          omega (arith, order, same, other);
    }

read_last : (rows : List ℕ) (end n : ℕ) → length rows ≡ n → get_or (rows ++ end ∷ []) n 0 ≡ end
read_last rows end n is =
    let zeroth : n - n ≡ 0 = omega arith in
    get_or-append_right rows (end ∷ []) n n 0 is (omega arith) ∙ ap (λ k. get_or (end ∷ []) k 0) zeroth

pub index_more : (links : List Link) (states end : ℕ) (rows more : List ℕ) → IsIndex links states rows → IsRowStart links (states + 1) end → more ≡ rows ++ end ∷ [] → IsIndex links (states + 1) more
index_more links states end rows more index last is = record {
  count = ap length is ∙ (length-append rows (end ∷ []) ∙ omega (arith, index.count));
  begins = λ state l. subst (λ (ps : List ℕ). IsRowStart links state (get_or ps state 0)) (sym is)
      (⊎_elim
      (λ (old : state < states + 1). subst (λ place. IsRowStart links state place) (sym (get_or_append_left rows (end ∷ []) 0 state (omega (arith, index.count, old))))
      (index.begins state (omega (arith, old))))
      (λ (new : states + 1 ≤ state).
      let e : states + 1 ≡ state = omega (arith, new, l) in
      subst (λ s. IsRowStart links s (get_or (rows ++ end ∷ []) s 0)) e (subst (λ place. IsRowStart links (states + 1) place) (sym (read_last rows end (states + 1) index.count)) last))
      (cases_lt state (states + 1)));
}

-- the links of a state, by the index
pub row_indexed : {links : List Link} {states : ℕ} {rows : List ℕ} (state a b : ℕ) → IsIndex links states rows → state < states → get_or rows state 0 ≡ a → get_or rows (state + 1) 0 ≡ b
    → (a ≤ b) × (slice_range links a b ≡ filter (λ l. l.from == state) links)
row_indexed {links} {states} {rows} state a b index within start end =
    let first = subst (λ place. IsRowStart links state place) start (index.begins state (omega (arith, within))) in
    let second = subst (λ place. IsRowStart links (state + 1) place) end (index.begins (state + 1) (omega (arith, within))) in
    (row_in_order first second, row_between first second)
