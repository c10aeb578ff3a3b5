-- A path over many copies of a word can be replaced by one over few copies with the same marks: where a state comes again,
-- and no edge between has marks that weren't seen before, the part between is left out.
use Rattle.std.proofs.Common.{◌≡◌, ◌∙◌, ◌+◌, ◌-◌, ◌*◌, ◌<◌, ◌≤◌, ℕ, zero, suc, List, [], ◌∷◌, ◌++◌, Contains, ap, arith, drop, inl, inr, length, refl, subst, sym, take}
use Rattle.std.proofs.Math.Nat.{mul-le-mul_right}
use Rattle.std.proofs.lemmas.Bool.{cases_lt}
use Rattle.std.proofs.lemmas.List.{take-append-drop}
use Rattle.std.proofs.lemmas.List.Elements.{Contains-append_cases, Contains-append_left, Contains-append_right}
use Rattle.std.proofs.lemmas.Nat.{mul-add-lt, same_from_place}
use Rattle.aut_base.proofs.lists.Copies.{copies-add, length-copies}
use Rattle.aut_base.proofs.lists.Members.{none_there, there_cases}
use Rattle.aut_base.proofs.runs.Paths.{path_join}
use Rattle.aut_base.proofs.numbers.Pigeonhole.{pigeons}
use Rattle.aut_base.proofs.runs.Walks.{ends}
use Rattle.aut_base.specs.Acceptance.{IsPath}
use Rattle.aut_base.specs.Automaton.{Automaton, LabelledEdge}
use Rattle.aut_base.specs.Word.{NameSet, copies}
use Rattle.autfilt_laws.proofs.refuted.Covering.{Covers, covers_itself, covers_on, in_back, in_front, in_longer, is_seen, seen_longer, seen_there, tally, tally_most, tally_same, there_seen}

-- ---- paths

-- a path cut in two, after the first list of letters
record Cut (a : Automaton) (p q : ℕ) (xs ys : List NameSet) (es : List LabelledEdge) : Type 0 where
  first : IsPath a p xs (take (length xs) es) (ends p (take (length xs) es))
  second : IsPath a (ends p (take (length xs) es)) ys (drop (length xs) es) q

cut : (a : Automaton) (p q : ℕ) (xs ys : List NameSet) (es : List LabelledEdge) → IsPath a p (xs ++ ys) es q → Cut a p q xs ys es
cut a p q [] ys es path = record { first = refl; second = path }
cut a p q (x ∷ xs) ys [] path = absurd path
cut a p q (x ∷ xs) ys (e ∷ es) path =
    let rest = cut a e.to q xs ys es path.3 in
    record { first = (path.0, path.1, path.2, rest.first); second = rest.second }

own_edges : (a : Automaton) (p q : ℕ) (xs : List NameSet) (es : List LabelledEdge) → IsPath a p xs es q → (e : LabelledEdge) → Contains es e → Contains a.edges e
own_edges a p q [] [] path e there = absurd (none_there e there)
own_edges a p q [] (d ∷ es) path e there = absurd path
own_edges a p q (x ∷ xs) [] path e there = absurd path
own_edges a p q (x ∷ xs) (d ∷ es) path e there = elim (there_cases d es e there) [
  | inl here ↦ subst (Contains a.edges) here path.1
  | inr later ↦ own_edges a d.to q xs es path.3 e later
]

-- edges lead to states of the automaton
abbrev pub StaysBelow : Automaton → Type 0
StaysBelow a = (e : LabelledEdge) → Contains a.edges e → e.to < a.states

pub end_below : (a : Automaton) → StaysBelow a → (p q : ℕ) (xs : List NameSet) (es : List LabelledEdge) → p < a.states → IsPath a p xs es q → q < a.states
end_below a stays p q [] [] below path = subst (λ s. s < a.states) path below
end_below a stays p q [] (e ∷ es) below path = absurd path
end_below a stays p q (x ∷ xs) [] below path = absurd path
end_below a stays p q (x ∷ xs) (e ∷ es) below path = end_below a stays e.to q xs es (stays e path.1) path.3

-- ---- rounds

-- a bound: the number of pairs of a state and of a number of edges whose marks were seen
abbrev pub bound : Automaton → ℕ
bound a = (length a.edges + 1) * a.states

abbrev front : List NameSet → ℕ → List LabelledEdge → List LabelledEdge
front v i es = take (length (copies i v)) es

abbrev back : List NameSet → ℕ → List LabelledEdge → List LabelledEdge
back v i es = drop (length (copies i v)) es

-- the state after so many rounds, and the number of the automaton's edges whose marks were seen by then
abbrev state_at : List NameSet → ℕ → List LabelledEdge → ℕ → ℕ
state_at v p es i = ends p (front v i es)

abbrev seen_at : Automaton → List NameSet → List LabelledEdge → ℕ → ℕ
seen_at a v es i = tally (is_seen (front v i es)) a.edges

abbrev moment : Automaton → List NameSet → ℕ → List LabelledEdge → ℕ → ℕ
moment a v p es i = state_at v p es (i + 1) * (length a.edges + 1) + seen_at a v es (i + 1)

seen_few : (a : Automaton) (v : List NameSet) (es : List LabelledEdge) (i : ℕ) → seen_at a v es i < length a.edges + 1
seen_few a v es i = omega (arith, tally_most (is_seen (front v i es)) a.edges)

-- the path cut in two, after so many rounds
cut_at : (a : Automaton) (v : List NameSet) (p q k i : ℕ) (es : List LabelledEdge) → i ≤ k → IsPath a p (copies k v) es q → Cut a p q (copies i v) (copies (k - i) v) es
cut_at a v p q k i es less path =
    let e : k ≡ i + (k - i) = omega (arith, less) in
    cut a p q (copies i v) (copies (k - i) v) es (subst (λ xs. IsPath a p xs es q) (ap (λ n. copies n v) e ∙ copies-add i (k - i) v) path)

moment_below : (a : Automaton) → StaysBelow a → (v : List NameSet) (p q k : ℕ) (es : List LabelledEdge) → p < a.states → IsPath a p (copies k v) es q
    → (i : ℕ) → i < k → moment a v p es i < bound a
moment_below a stays v p q k es below path i less =
    let here = cut_at a v p q k (i + 1) es (omega (arith, less)) path in
    let state : state_at v p es (i + 1) < a.states = end_below a stays p (state_at v p es (i + 1)) (copies (i + 1) v) (front v (i + 1) es) below here.first in
    mul-add-lt (state_at v p es (i + 1)) (length a.edges + 1) (seen_at a v es (i + 1)) a.states state (seen_few a v es (i + 1))

front_longer : (v : List NameSet) (i j : ℕ) (es : List LabelledEdge) → i ≤ j → (e : LabelledEdge) → Contains (front v i es) e → Contains (front v j es) e
front_longer v i j es less e there =
    let wide : i * length v ≤ j * length v = mul-le-mul_right (length v) less in
    in_longer (length (copies i v)) (length (copies j v)) es e (omega (arith, wide, length-copies i v, length-copies j v)) there

-- what is left out has no new marks
left_out_seen : (a : Automaton) (v : List NameSet) (p q i j : ℕ) (es : List LabelledEdge) → i ≤ j → IsPath a p (copies j v) (front v j es) q
    → seen_at a v es i ≡ seen_at a v es j → Covers es (front v i es ++ back v j es)
left_out_seen a v p q i j es less path same e there =
    elim (Contains-append_cases (front v j es) (back v j es) e (subst (λ ds. Contains ds e) (sym (take-append-drop (length (copies j v)) es)) there)) [
      | inl early ↦ (
          let longer = seen_longer (front v i es) (front v j es) (front_longer v i j es less) in
          let own = own_edges a p q (copies j v) (front v j es) path e early in
          let seen = tally_same (is_seen (front v i es)) (is_seen (front v j es)) longer a.edges same e own (seen_there (front v j es) e early) in
          let f = there_seen (front v i es) e seen in
          (f.0, Contains-append_left (front v i es) (back v j es) f.0 f.1, f.2))
      | inr late ↦ (e, Contains-append_right (front v i es) (back v j es) e late, refl)
    ]

what_is_left : (v : List NameSet) (i j : ℕ) (es : List LabelledEdge) → Covers (front v i es ++ back v j es) es
what_is_left v i j es e there = elim (Contains-append_cases (front v i es) (back v j es) e there) [
  | inl early ↦ (e, in_front (length (copies i v)) es e early, refl)
  | inr late ↦ (e, in_back (length (copies j v)) es e late, refl)
]

-- a path of fewer rounds, at least one, with the same marks
record Fewer (a : Automaton) (v : List NameSet) (p q k : ℕ) (es : List LabelledEdge) : Type 0 where
  cycle_rounds : ℕ
  fewer : cycle_rounds < k
  some : 0 < cycle_rounds
  path : List LabelledEdge
  leads : IsPath a p (copies cycle_rounds v) path q
  to : Covers path es
  from : Covers es path

leave_out : (a : Automaton) (v : List NameSet) (p q k i j : ℕ) (es : List LabelledEdge) → 0 < i → i < j → j ≤ k → IsPath a p (copies k v) es q
    → state_at v p es i ≡ state_at v p es j → seen_at a v es i ≡ seen_at a v es j → Fewer a v p q k es
leave_out a v p q k i j es some later inside path state seen =
    let one = cut_at a v p q k i es (omega (arith, later, inside)) path in
    let two = cut_at a v p q k j es inside path in
    let rest : IsPath a (state_at v p es i) (copies (k - j) v) (back v j es) q = subst (λ s. IsPath a s (copies (k - j) v) (back v j es) q) (sym state) two.second in
    let joined = path_join a p (state_at v p es i) q (copies i v) (copies (k - j) v) (front v i es) (back v j es) one.first rest in
    record {
      cycle_rounds = i + (k - j);
      fewer = omega (arith, later, inside);
      some = omega (arith, some);
      path = front v i es ++ back v j es;
      leads = subst (λ xs. IsPath a p xs (front v i es ++ back v j es) q) (sym (copies-add i (k - j) v)) joined;
      to = what_is_left v i j es;
      from = left_out_seen a v p (state_at v p es j) i j es (omega (arith, later)) two.first seen;
    }

fewer : (a : Automaton) → StaysBelow a → (v : List NameSet) (p q k : ℕ) (es : List LabelledEdge) → p < a.states → bound a < k → IsPath a p (copies k v) es q → Fewer a v p q k es
fewer a stays v p q k es below many path =
    let again = pigeons (bound a) (moment a v p es) k many (moment_below a stays v p q k es below path) in
    let i = again.first + 1 in
    let j = again.second + 1 in
    let same = same_from_place (state_at v p es i) (seen_at a v es i) (state_at v p es j) (seen_at a v es j) (length a.edges + 1) (seen_few a v es i) (seen_few a v es j) again.same in
    leave_out a v p q k i j es (omega arith) (omega (arith, again.later)) (omega (arith, again.within)) path same.0 same.1

-- a path of few rounds with the same marks
pub record Short (a : Automaton) (v : List NameSet) (p q k : ℕ) (es : List LabelledEdge) : Type 0 where
  pub cycle_rounds : ℕ
  pub few : cycle_rounds ≤ bound a
  pub some : 0 < k → 0 < cycle_rounds
  pub path : List LabelledEdge
  pub leads : IsPath a p (copies cycle_rounds v) path q
  pub to : Covers path es
  pub from : Covers es path

as_it_is : (a : Automaton) (v : List NameSet) (p q k : ℕ) (es : List LabelledEdge) → k ≤ bound a → IsPath a p (copies k v) es q → Short a v p q k es
as_it_is a v p q k es few path = record { cycle_rounds = k; few = few; some = λ h. h; path = es; leads = path; to = covers_itself es; from = covers_itself es }

pub shortened : (a : Automaton) → StaysBelow a → (v : List NameSet) (fuel p q k : ℕ) (es : List LabelledEdge) → k ≤ fuel → p < a.states → IsPath a p (copies k v) es q → Short a v p q k es
shortened a stays v zero p q k es less below path = as_it_is a v p q k es (omega (arith, less)) path
shortened a stays v (suc fuel) p q k es less below path = elim (cases_lt (bound a) k) [
  | inl many ↦ (
      let f = fewer a stays v p q k es below many path in
      let s = shortened a stays v fuel p q f.cycle_rounds f.path (omega (arith, less, f.fewer)) below f.leads in
      record {
        cycle_rounds = s.cycle_rounds;
        few = s.few;
        some = λ h. s.some f.some;
        path = s.path;
        leads = s.leads;
        to = covers_on s.path f.path es s.to f.to;
        from = covers_on es f.path s.path f.from s.from;
      })
  | inr few ↦ as_it_is a v p q k es few path
]
