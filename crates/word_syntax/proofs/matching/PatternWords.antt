-- The automaton of a pattern accepts the words that match, and for each word that it accepts, a lasso word of the same infinite word
-- matches.
use Rattle.std.proofs.Common.{◌≡◌, ◌∙◌, ◌∷◌, ◌++◌, ◌+◌, ◌-◌, ◌*◌, ◌/◌, ◌%◌, ◌<◌, ◌≤◌, ◌↔◌, Contains, List, Option, Some, [], ap, arith, drop, inl}
use Rattle.std.proofs.Common.{inr, length, length-append, length-drop, refl, slice_get, subst, suc, sym, take, true, zero, ℕ}
use Rattle.std.proofs.Math.Nat.{add-mul-mod_self_left, mod-eq_of_lt, mod-lt, mul-pos}
use Rattle.std.proofs.lemmas.Bool.{cases_lt}
use Rattle.std.proofs.lemmas.List.{append_assoc, append-nil, length-take-le}
use Rattle.std.proofs.lemmas.Nat.{div-add-mod'}
use Rattle.std.proofs.lemmas.Option.{same_Some, slice_get_within}
use Rattle.aut_base.proofs.lists.Copies.{copies-add, copies-copies, length-copies}
use Rattle.aut_base.proofs.lists.Lists.{slice_get-append_left, slice_get-append_right}
use Rattle.aut_base.proofs.runs.Paths.{path_copies, path_join}
use Rattle.aut_base.proofs.words.SameWord as same_word
use Rattle.aut_base.proofs.words.Spelled.{stem_letter, word_letter}
use Rattle.aut_base.specs.Acceptance.{Accepts, IsPath}
use Rattle.aut_base.specs.Automaton.{Automaton}
use Rattle.aut_base.specs.Label.{LabelTree, holds_at, truth}
use Rattle.aut_base.specs.Word.{NameSet, SpellsSame, copies, letter_at}
use Rattle.word_syntax.proofs.lassos.Cyclic.{at_cycle, copies_at, slice_get-drop, slice_get-take}
use Rattle.word_syntax.proofs.lassos.OneReduced.{Repeats, cycle_repeats, same_at}
use Rattle.word_syntax.proofs.matching.PatternWalks.{MeetsFrom, labels, state_at, state_in_cycle, state_in_stem, walk, walked}
use Rattle.word_syntax.specs.Grammar.{WordPattern}
use Rattle.word_syntax.specs.Matching.{AcceptTogether, AcceptsPattern, AllMeet, Matches, word_automaton}
use Rattle.word_syntax.specs.inner.Periods.{cyclic}

-- letters that satisfy formulas, by index
pub all_meet_length : (names : List (List ℕ)) (xs : List NameSet) (ts : List LabelTree) → AllMeet names xs ts → length xs ≡ length ts
all_meet_length names [] [] m = refl
all_meet_length names [] (t ∷ ts) m = absurd m
all_meet_length names (x ∷ xs) [] m = absurd m
all_meet_length names (x ∷ xs) (t ∷ ts) m = ap suc (all_meet_length names xs ts m.1)

pub all_meet_get : (names : List (List ℕ)) (xs : List NameSet) (ts : List LabelTree) → AllMeet names xs ts → (i : ℕ) (x : NameSet) (t : LabelTree) → slice_get xs i ≡ Some x
    → slice_get ts i ≡ Some t → truth (holds_at names x) t ≡ true
all_meet_get names [] [] m i x t h k = absurd (let w = slice_get_within [] i x h in omega arith)
all_meet_get names [] (u ∷ ts) m i x t h k = absurd m
all_meet_get names (y ∷ xs) [] m i x t h k = absurd m
all_meet_get names (y ∷ xs) (u ∷ ts) m zero x t h k = ap (λ (z : NameSet). truth (holds_at names z) t) (sym (same_Some y x h)) ∙ (ap (truth (holds_at names y)) (sym (same_Some u t k)) ∙ m.0)
all_meet_get names (y ∷ xs) (u ∷ ts) m (suc i) x t h k = all_meet_get names xs ts m.1 i x t h k

pub all_meet_from : (names : List (List ℕ)) (xs : List NameSet) (ts : List LabelTree) → length xs ≡ length ts
    → ((i : ℕ) (x : NameSet) (t : LabelTree) → slice_get xs i ≡ Some x → slice_get ts i ≡ Some t → truth (holds_at names x) t ≡ true) → AllMeet names xs ts
all_meet_from names [] [] long each = tt
all_meet_from names [] (t ∷ ts) long each = absurd (omega arith)
all_meet_from names (x ∷ xs) [] long each = absurd (omega arith)
all_meet_from names (x ∷ xs) (t ∷ ts) long each = (each 0 x t refl refl, all_meet_from names xs ts (omega arith) (λ i. each (suc i)))

meets_get : (p : WordPattern) (k : ℕ) (xs : List NameSet) → MeetsFrom p k xs → (i : ℕ) (x : NameSet) (t : LabelTree) → slice_get xs i ≡ Some x
    → slice_get (labels p) (state_at p (k + i)) ≡ Some t → truth (holds_at p.names x) t ≡ true
meets_get p k [] m i x t h s = absurd (let w = slice_get_within [] i x h in omega arith)
meets_get p k (y ∷ xs) m zero x t h s =
    let z : k ≡ k + 0 = omega arith in
    ap (λ (w : NameSet). truth (holds_at p.names w) t) (sym (same_Some y x h)) ∙ m.0 t (ap (λ (n : ℕ). slice_get (labels p) (state_at p n)) z ∙ s)
meets_get p k (y ∷ xs) m (suc i) x t h s =
    let z : k + 1 + i ≡ k + suc i = omega arith in
    meets_get p (k + 1) xs m.1 i x t h (ap (λ (n : ℕ). slice_get (labels p) (state_at p n)) z ∙ s)

meets_from : (p : WordPattern) (k : ℕ) (xs : List NameSet)
    → ((i : ℕ) (x : NameSet) (t : LabelTree) → slice_get xs i ≡ Some x → slice_get (labels p) (state_at p (k + i)) ≡ Some t → truth (holds_at p.names x) t ≡ true) → MeetsFrom p k xs
meets_from p k [] each = tt
meets_from p k (x ∷ xs) each =
    let z : k + 0 ≡ k = omega arith in (
      (λ t h. each 0 x t refl (ap (λ (n : ℕ). slice_get (labels p) (state_at p n)) z ∙ h)),
      meets_from p (k + 1) xs (λ i y t h s. let f : k + suc i ≡ k + 1 + i = omega arith in each (suc i) y t h (ap (λ (n : ℕ). slice_get (labels p) (state_at p n)) f ∙ s)),
    )

-- the formula after k letters
label_in_stem : (p : WordPattern) (k : ℕ) → k < length p.stem → slice_get (labels p) (state_at p k) ≡ slice_get p.stem k
label_in_stem p k h = ap (slice_get (labels p)) (state_in_stem p k h) ∙ slice_get-append_left p.stem p.cycle k h

label_in_cycle : (p : WordPattern) (k : ℕ) → length p.stem ≤ k → slice_get (labels p) (state_at p k) ≡ slice_get p.cycle ((k - length p.stem) % length p.cycle)
label_in_cycle p k h = slice_get-append_right p.stem p.cycle ((k - length p.stem) % length p.cycle) (state_at p k) (state_in_cycle p k h)

-- in the stem and copies of the cycle
label_at : (p : WordPattern) (stem_rounds k : ℕ) → k < length p.stem + stem_rounds * length p.cycle → slice_get (labels p) (state_at p k) ≡ slice_get (p.stem ++ copies stem_rounds p.cycle) k
label_at p stem_rounds k h = elim (cases_lt k (length p.stem)) [
  | inl inside ↦ label_in_stem p k inside ∙ sym (slice_get-append_left p.stem (copies stem_rounds p.cycle) k inside)
  | inr past ↦ (let e : k ≡ length p.stem + (k - length p.stem) = omega arith in
      label_in_cycle p k past ∙ (sym (copies_at stem_rounds p.cycle (k - length p.stem) (omega arith)) ∙ sym (slice_get-append_right p.stem (copies stem_rounds p.cycle) (k - length p.stem) k e)))
]

-- after the stem and some copies of the cycle
label_behind : (p : WordPattern) (stem_rounds cycle_rounds i : ℕ) → i < cycle_rounds * length p.cycle
    → slice_get (labels p) (state_at p (length p.stem + stem_rounds * length p.cycle + i)) ≡ slice_get (copies cycle_rounds p.cycle) i
label_behind p stem_rounds cycle_rounds i h =
    let e : length p.stem + stem_rounds * length p.cycle + i - length p.stem ≡ i + length p.cycle * stem_rounds = omega arith in
    label_in_cycle p (length p.stem + stem_rounds * length p.cycle + i) (omega arith)
    ∙ (ap (λ (n : ℕ). slice_get p.cycle (n % length p.cycle)) e ∙ (ap (slice_get p.cycle) (add-mul-mod_self_left i (length p.cycle) stem_rounds) ∙ sym (copies_at cycle_rounds p.cycle i h)))

pattern_length : (p : WordPattern) (stem_rounds : ℕ) → length (p.stem ++ copies stem_rounds p.cycle) ≡ length p.stem + stem_rounds * length p.cycle
pattern_length p stem_rounds = length-append p.stem (copies stem_rounds p.cycle) ∙ ap (λ (n : ℕ). length p.stem + n) (length-copies stem_rounds p.cycle)

first_state : (p : WordPattern) → 0 < length p.cycle → state_at p 0 ≡ 0
first_state p some = elim (cases_lt 0 (length p.stem)) [
  | inl h ↦ state_in_stem p 0 h
  | inr h ↦ (let z : (0 - length p.stem) % length p.cycle ≡ 0 = let e : 0 - length p.stem ≡ 0 = omega arith in ap (λ (n : ℕ). n % length p.cycle) e
      ∙ mod-eq_of_lt some in omega (arith, state_in_cycle p 0 h))
]

again : (p : WordPattern) (k cycle_rounds : ℕ) → length p.stem ≤ k → state_at p (k + cycle_rounds * length p.cycle) ≡ state_at p k
again p k cycle_rounds h =
    let e : k + cycle_rounds * length p.cycle - length p.stem ≡ k - length p.stem + length p.cycle * cycle_rounds = omega arith in
    state_in_cycle p (k + cycle_rounds * length p.cycle) (omega arith)
    ∙ (ap (λ (n : ℕ). length p.stem + n % length p.cycle) e
    ∙ (ap (λ (n : ℕ). length p.stem + n) (add-mul-mod_self_left (k - length p.stem) (length p.cycle) cycle_rounds) ∙ sym (state_in_cycle p k h)))

-- a word that matches is accepted
pub matching_accepted : (p : WordPattern) → 0 < length p.cycle → (u v : List NameSet) → Matches p u v → Accepts (word_automaton p) u v
matching_accepted p some u v m =
    let k : ℕ = length p.stem + m.stem_rounds * length p.cycle in
    let stem : length u ≡ length p.stem + m.stem_rounds * length p.cycle = all_meet_length p.names u (p.stem ++ copies m.stem_rounds p.cycle) m.stem ∙ pattern_length p m.stem_rounds in
    let cycle : length v ≡ m.cycle_rounds * length p.cycle = all_meet_length p.names v (copies m.cycle_rounds p.cycle) m.cycle ∙ length-copies m.cycle_rounds p.cycle in
    let first = walk p some 0 u (meets_from p 0 u (λ i x t h s.
    let inside = slice_get_within u i x h in
    let z : i ≡ 0 + i = omega arith in
    all_meet_get p.names u (p.stem ++ copies m.stem_rounds p.cycle) m.stem i x t h (sym (label_at p m.stem_rounds i (omega arith)) ∙ (ap (λ (n : ℕ). slice_get (labels p) (state_at p n)) z ∙ s)))) in
    let second = walk p some (length p.stem + m.stem_rounds * length p.cycle) v (meets_from p (length p.stem + m.stem_rounds * length p.cycle) v (λ i x t h s.
    let inside = slice_get_within v i x h in
    all_meet_get p.names v (copies m.cycle_rounds p.cycle) m.cycle i x t h (sym (label_behind p m.stem_rounds m.cycle_rounds i (omega arith)) ∙ s))) in
    let P : ℕ → Type 0 = λ n. IsPath (word_automaton p) n (u ++ []) first.path_edges (state_at p (length p.stem + m.stem_rounds * length p.cycle)) in
    let Q : ℕ → Type 0 = λ n. IsPath (word_automaton p) (state_at p 0) (u ++ []) first.path_edges (state_at p n) in
    let R : List NameSet → Type 0 = λ xs. IsPath (word_automaton p) (state_at p 0) xs first.path_edges (state_at p (0 + length u)) in
    let S : List NameSet → Type 0 = λ xs. IsPath (word_automaton p) (state_at p (length p.stem + m.stem_rounds * length p.cycle)) xs second.path_edges
    (state_at p (length p.stem + m.stem_rounds * length p.cycle + length v)) in
    let T : ℕ → Type 0 = λ n. IsPath (word_automaton p) (state_at p (length p.stem + m.stem_rounds * length p.cycle)) (v ++ []) second.path_edges n in
    let far : 0 + length u ≡ length p.stem + m.stem_rounds * length p.cycle = omega arith in
    let back : state_at p (length p.stem + m.stem_rounds * length p.cycle + length v) ≡ state_at p (length p.stem + m.stem_rounds * length p.cycle) =
    ap (λ (n : ℕ). state_at p (length p.stem + m.stem_rounds * length p.cycle + n)) cycle ∙ again p (length p.stem + m.stem_rounds * length p.cycle) m.cycle_rounds (omega arith) in
    record {
      endless = omega (arith, cycle, mul-pos m.some some);
      start = 0;
      state = state_at p (length p.stem + m.stem_rounds * length p.cycle);
      stem_rounds = 0;
      cycle_rounds = 1;
      path_edges = first.path_edges;
      cycle = second.path_edges;
      is_start = (0, omega arith, refl);
      leads = subst P (first_state p some) (subst Q far (subst R (sym (append-nil u)) first.path));
      positive = omega arith;
      returns = subst T back (subst S (sym (append-nil v)) second.path);
      meets = refl;
    }

-- any number of letters of an accepted word satisfy the formulas
meets_far : (p : WordPattern) → 0 < length p.cycle → (u v : List NameSet) (a : Accepts (word_automaton p) u v) (n : ℕ) → MeetsFrom p 0 (u ++ copies (a.stem_rounds + n * a.cycle_rounds) v)
meets_far p some u v a n =
    let A = word_automaton p in
    let start : a.start ≡ 0 = only_start a.start a.is_start in
    let long = path_join (word_automaton p) a.start a.state a.state (u ++ copies a.stem_rounds v) (copies n (copies a.cycle_rounds v)) a.path_edges (copies n a.cycle) a.leads
    (path_copies (word_automaton p) a.state n (copies a.cycle_rounds v) a.cycle a.returns) in
    let same : (u ++ copies a.stem_rounds v) ++ copies n (copies a.cycle_rounds v) ≡ u ++ copies (a.stem_rounds + n * a.cycle_rounds) v =
    append_assoc u (copies a.stem_rounds v) (copies n (copies a.cycle_rounds v))
    ∙ ap (λ (x : List NameSet). u ++ x) (ap (λ (x : List NameSet). copies a.stem_rounds v ++ x) (copies-copies n a.cycle_rounds v) ∙ sym (copies-add a.stem_rounds (n * a.cycle_rounds) v)) in
    let P : List NameSet → Type 0 = λ xs. IsPath (word_automaton p) a.start xs (a.path_edges ++ copies n a.cycle) a.state in
    let Q : ℕ → Type 0 = λ s. IsPath (word_automaton p) s (u ++ copies (a.stem_rounds + n * a.cycle_rounds) v) (a.path_edges ++ copies n a.cycle) a.state in
    (walked p some 0 a.state (u ++ copies (a.stem_rounds + n * a.cycle_rounds) v) (a.path_edges ++ copies n a.cycle) (subst Q (start ∙ sym (first_state p some)) (subst P same long))).0
  where
    only_start : (s : ℕ) → Contains (0 ∷ []) s → s ≡ 0
    only_start s (zero, within, is) = sym is
    only_start s (suc i, within, is) = absurd (omega arith)

grows : (n l : ℕ) → 0 < l → n ≤ n * l
grows zero l some = omega arith
grows (suc n) l some = let h = grows n l some in omega arith

repeats_times : (w : ℕ → Option NameSet) (from e : ℕ) → Repeats w from e → (t k : ℕ) → from ≤ k → w (k + t * e) ≡ w k
repeats_times w from e r zero k h = let z : k + 0 * e ≡ k = omega arith in same_at w (k + 0 * e) k z
repeats_times w from e r (suc t) k h = let z : k + suc t * e ≡ k + t * e + e = omega arith in same_at w (k + suc t * e) (k + t * e + e) z
    ∙ (r (k + t * e) (omega arith) ∙ repeats_times w from e r t k h)

-- a lasso word of the same infinite word that matches
pub record Respelled (p : WordPattern) (u v : List NameSet) : Type 0 where
  pub stem : List NameSet
  pub cycle : List NameSet
  pub some : 0 < length cycle
  pub matches : Matches p stem cycle
  pub same : SpellsSame u v stem cycle

-- there is one where enough letters of the word satisfy the formulas
pub respelled : (p : WordPattern) → 0 < length p.cycle → (u v : List NameSet) (stem_rounds : ℕ) → 0 < length v
    → length p.stem + length u * length p.cycle + length v * length p.cycle ≤ length u + stem_rounds * length v → MeetsFrom p 0 (u ++ copies stem_rounds v) → Respelled p u v
respelled p some u v stem_rounds endless room meets =
    let d = length p.cycle in
    let X : ℕ = length p.stem + length u * length p.cycle in
    let Y : ℕ = length v * length p.cycle in
    let W : List NameSet = u ++ copies stem_rounds v in
    let long : length (u ++ copies stem_rounds v) ≡ length u + stem_rounds * length v = length-append u (copies stem_rounds v) ∙ ap (λ (n : ℕ). length u + n) (length-copies stem_rounds v) in
    let stem : List NameSet = take (length p.stem + length u * length p.cycle) (u ++ copies stem_rounds v) in
    let cycle : List NameSet = take (length v * length p.cycle) (drop (length p.stem + length u * length p.cycle) (u ++ copies stem_rounds v)) in
    let left : length (drop (length p.stem + length u * length p.cycle) (u ++ copies stem_rounds v)) ≡ length u + stem_rounds * length v - (length p.stem + length u * length p.cycle) =
    length-drop (length p.stem + length u * length p.cycle) (u ++ copies stem_rounds v) ∙ ap (λ (n : ℕ). n - (length p.stem + length u * length p.cycle)) long in
    let stem_long : length (take (length p.stem + length u * length p.cycle) (u ++ copies stem_rounds v)) ≡ length p.stem + length u * length p.cycle =
    length-take-le (length p.stem + length u * length p.cycle) (u ++ copies stem_rounds v) (omega arith) in
    let cycle_long : length (take (length v * length p.cycle) (drop (length p.stem + length u * length p.cycle) (u ++ copies stem_rounds v))) ≡ length v * length p.cycle =
    length-take-le (length v * length p.cycle) (drop (length p.stem + length u * length p.cycle) (u ++ copies stem_rounds v)) (omega arith) in
    let some_cycle : 0 < length v * length p.cycle = mul-pos endless some in
    let behind : length u ≤ length p.stem + length u * length p.cycle = let h = grows (length u) (length p.cycle) some in omega arith in
    let in_stem : (i : ℕ) → i < length p.stem + length u * length p.cycle
    → slice_get stem i ≡ slice_get (u ++ copies stem_rounds v) i = λ i h. slice_get-take (length p.stem + length u * length p.cycle) (u ++ copies stem_rounds v) i h in
    let in_cycle : (i : ℕ) → i < length v * length p.cycle
    → slice_get cycle i ≡ slice_get (u ++ copies stem_rounds v) (length p.stem + length u * length p.cycle + i) =
    λ i h. slice_get-take (length v * length p.cycle) (drop (length p.stem + length u * length p.cycle) (u ++ copies stem_rounds v)) i h
    ∙ slice_get-drop (length p.stem + length u * length p.cycle) (u ++ copies stem_rounds v) i in
    record {
      stem = stem;
      cycle = cycle;
      some = omega arith;
      matches = record {
        stem_rounds = length u;
        cycle_rounds = length v;
        some = endless;
        stem = all_meet_from p.names stem (p.stem ++ copies (length u) p.cycle) (stem_long ∙ sym (pattern_length p (length u))) (λ i x t h s.
            let inside = slice_get_within stem i x h in
            let within : i < length p.stem + length u * length p.cycle = omega arith in
            let z : 0 + i ≡ i = omega arith in
            meets_get p 0 (u ++ copies stem_rounds v) meets i x t (sym (in_stem i within) ∙ h) (ap (λ (n : ℕ). slice_get (labels p) (state_at p n)) z ∙ (label_at p (length u) i within ∙ s)));
        cycle = all_meet_from p.names cycle (copies (length v) p.cycle) (cycle_long ∙ sym (length-copies (length v) p.cycle)) (λ i x t h s.
            let inside = slice_get_within cycle i x h in
            let within : i < length v * length p.cycle = omega arith in
            let z : 0 + (length p.stem + length u * length p.cycle + i) ≡ length p.stem + length u * length p.cycle + i = omega arith in
            meets_get p 0 (u ++ copies stem_rounds v) meets (length p.stem + length u * length p.cycle + i) x t (sym (in_cycle i within) ∙ h) (ap (λ (n : ℕ). slice_get (labels p) (state_at p n)) z
            ∙ (label_behind p (length u) (length v) i within ∙ s)));
      };
      same = λ n. elim (cases_lt n (length p.stem + length u * length p.cycle)) [
        | inl inside ↦ word_letter u v stem_rounds n endless (omega arith) ∙ (sym (in_stem n inside) ∙ sym (stem_letter stem cycle n (omega arith)))
        | inr past ↦ (let r : ℕ = (n - (length p.stem + length u * length p.cycle)) % (length v * length p.cycle) in
            let below : (n - (length p.stem + length u * length p.cycle)) % (length v * length p.cycle) < length v * length p.cycle =
            mod-lt (n - (length p.stem + length u * length p.cycle)) some_cycle in
            let times : ℕ = (n - (length p.stem + length u * length p.cycle)) / (length v * length p.cycle) in
            let parts : (n - (length p.stem + length u * length p.cycle)) / (length v * length p.cycle) * (length v * length p.cycle) + (n - (length p.stem + length u * length p.cycle)) %
            (length v * length p.cycle) ≡ n - (length p.stem + length u * length p.cycle) = div-add-mod' (n - (length p.stem + length u * length p.cycle)) (length v * length p.cycle) in
            let turned : times * (length v * length p.cycle) ≡ times * length p.cycle * length v = omega arith in
            let split : n ≡ length p.stem + length u * length p.cycle + r + times * length p.cycle * length v = omega arith in
            same_at (letter_at u v) n (length p.stem + length u * length p.cycle + r + times * length p.cycle * length v) split
            ∙ (repeats_times (letter_at u v) (length u) (length v) (cycle_repeats (letter_at u v) u v (λ k. refl)) (times * length p.cycle) (length p.stem + length u * length p.cycle + r)
            (omega arith)
            ∙ (word_letter u v stem_rounds (length p.stem + length u * length p.cycle + r) endless (omega arith) ∙ (sym (in_cycle r below)
            ∙ (ap (λ (k : ℕ). slice_get cycle ((n - (length p.stem + length u * length p.cycle)) % k)) (sym cycle_long)
            ∙ (ap (cyclic cycle) (ap (λ (k : ℕ). n - k) (sym stem_long)) ∙ sym (at_cycle stem cycle n (omega arith))))))))
      ];
    }

-- for an accepted word there is one
pub accepted_matching : (p : WordPattern) → 0 < length p.cycle → (u v : List NameSet) → Accepts (word_automaton p) u v → Respelled p u v
accepted_matching p some u v a =
    let n : ℕ = length p.stem + length u * length p.cycle + length v * length p.cycle in
    let first = grows n a.cycle_rounds a.positive in
    let second = grows (a.stem_rounds + n * a.cycle_rounds) (length v) a.endless in
    respelled p some u v (a.stem_rounds + n * a.cycle_rounds) a.endless (omega (arith, first, second)) (meets_far p some u v a n)

pub pattern_accepted : (p : WordPattern) → 0 < length p.cycle → (b : Automaton) → AcceptTogether (word_automaton p) b ↔ AcceptsPattern p b
pattern_accepted p some b = (
  λ t. (let r = accepted_matching p some t.stem t.cycle t.first in
      record { stem = r.stem; cycle = r.cycle; matches = r.matches; accepts = (same_word.same_word_same_verdict b t.stem t.cycle r.stem r.cycle t.first.endless r.some r.same).0 t.second }),
  λ m. record { stem = m.stem; cycle = m.cycle; first = matching_accepted p some m.stem m.cycle m.matches; second = m.accepts },
)
