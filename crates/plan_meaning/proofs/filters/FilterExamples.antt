-- The worked examples of filters and of verdicts.
use Rattle.std.proofs.Common.{◌≡◌, ◌∙◌, ℕ, zero, suc, ◌<◌, ◌≤◌, Bool, true, false, not, ◌&&◌, ◌||◌, refl, sym, ap, subst, lit<, lit≤, List, ◌∷◌, [], ◌++◌, map, length, Contains, get_or, arith}
use Rattle.std.specs.FinSet.{contains}
use Rattle.std.specs.List.{AllPairs, list_any, list_all, slice_index_or}
use Rattle.std.proofs.lemmas.Bool.{false≢true}
use Rattle.std.proofs.lemmas.Option.{same_Some}
use Rattle.aut_base.proofs.lists.Members.{one_of_two}
use Rattle.aut_base.proofs.runs.Examples.{off_a, on_a, worked_examples}
use Rattle.aut_base.proofs.runs.OneState.{marks_at, marks_if, one_state_accepts}
use Rattle.aut_base.proofs.words.SameEdges.{gone_alike, met_alike}
use Rattle.aut_base.specs.Acceptance.{Accepts, IsPath}
use Rattle.aut_base.specs.Automaton.{Automaton, LabelledEdge}
use Rattle.aut_base.specs.Examples.{a, again, alternating, edge, either_way, ever_after, name_a, never, off, on, so_often}
use Rattle.aut_base.specs.Formula.{FormulaTree, met}
use Rattle.aut_base.specs.Label.{LabelTree, holds_at, truth}
use Rattle.aut_base.specs.Marks.{is_in}
use Rattle.aut_base.specs.Word.{NameSet, copies}
use Rattle.aut_base.specs.declared.limit.Limit.{Limit}
use Rattle.aut_core.specs.Deterministic as core
use Rattle.aut_core.specs.Deterministic.{AreApart, HasSuccessor}
use Rattle.plan_meaning.specs.FilterExamples.{FilterExamples, OneFilter, Verdicts, always_a, any_word, just}
use Rattle.plan_meaning.specs.Filters.{AllHold, FailsAtFilter, Filter, Holds, HoldsWithin, IsComplete, IsDeterministic, IsEmpty, PassesLimitOf, States}
use Rattle.unambiguous.proofs.tracks.Accepted.{accepting}
use Rattle.unambiguous.proofs.tracks.Deterministic.{deterministic_is_unambiguous}
use Rattle.unambiguous.specs.Runs.{AcceptingRun, IsUnambiguous}
use Rattle.word_syntax.specs.Matching.{AcceptsPattern, AllMeet}

-- ---- words of `again` and of `so_often`

-- what each says of the marks along the cycle of a word
again_says : (u v : List NameSet) → Accepts again u v → list_any (is_in 0) (map (marks_at (0 ∷ []) []) v) ≡ true
again_says u v r = (one_state_accepts (0 ∷ []) [] 1 (FormulaTree.Inf 0 false) u v r.endless).0 r

so_often_says : (u v : List NameSet) → Accepts so_often u v → list_all (λ marks. not (is_in 0 marks)) (map (marks_at (0 ∷ []) []) v) ≡ true
so_often_says u v r = (one_state_accepts (0 ∷ []) [] 1 (FormulaTree.Fin 0 false) u v r.endless).0 r

-- some are in set 0, or none is
not_both : (cycle : List (List ℕ)) → list_any (is_in 0) cycle ≡ true → list_all (λ marks. not (is_in 0 marks)) cycle ≡ true → ⊥
not_both [] some none = false≢true some
not_both (marks ∷ cycle) some none = go (is_in 0 marks) (not_both cycle) some none
  where
    go : (b : Bool) → (list_any (is_in 0) cycle ≡ true → list_all (λ marks. not (is_in 0 marks)) cycle ≡ true → ⊥) → (b || list_any (is_in 0) cycle) ≡ true
        → (not b && list_all (λ marks. not (is_in 0 marks)) cycle) ≡ true → ⊥
    go true rest h k = false≢true k
    go false rest h k = rest h k

-- a word that matches `cycle{a}` begins its cycle with `a`
begins_on : (u v : List NameSet) (k : ℕ) → AllMeet (name_a ∷ []) v (copies k (a ∷ [])) → Accepts so_often u v → ⊥
begins_on u [] k meets r = let none : 0 < 0 = r.endless in absurd (omega arith)
begins_on u (x ∷ xs) zero meets r = absurd meets
begins_on u (x ∷ xs) (suc k) meets r =
    false≢true (sym (ap (λ b. list_all (λ marks. not (is_in 0 marks)) (marks_if (0 ∷ []) [] b ∷ map (marks_at (0 ∷ []) []) xs)) meets.0) ∙ so_often_says u (x ∷ xs) r)

so_often_lacks : AcceptsPattern always_a so_often → ⊥
so_often_lacks h = begins_on h.stem h.cycle h.matches.cycle_rounds h.matches.cycle h.accepts

so_often_has : AcceptsPattern any_word so_often
so_often_has = record {
  stem = [];
  cycle = off ∷ [];
  matches = record { stem_rounds = 0; cycle_rounds = 1; some = lit< tt; stem = tt; cycle = (refl, tt) };
  accepts = worked_examples.so_often_off;
}

again_has : AcceptsPattern always_a again
again_has = record {
  stem = [];
  cycle = on ∷ [];
  matches = record { stem_rounds = 0; cycle_rounds = 1; some = lit< tt; stem = tt; cycle = (on_a, tt) };
  accepts = worked_examples.again_on;
}

-- ---- words of `ever_after`

one_of_three : (P : LabelledEdge → Type 0) (d e f x : LabelledEdge) → Contains (d ∷ e ∷ f ∷ []) x → P d → P e → P f → P x
one_of_three P d e f x there first second third = go there.0 there.1 there.2
  where
    go : (k : ℕ) → k < 3 → get_or (d ∷ e ∷ f ∷ []) k x ≡ x → P x
    go zero within is = subst P is first
    go (suc zero) within is = subst P is second
    go (suc (suc zero)) within is = subst P is third
    go (suc (suc (suc k))) within is = absurd (omega arith)

-- its edge in set 0 reads `a`
marked_reads : (x : NameSet) (e : LabelledEdge) → Contains ever_after.edges e → truth (holds_at (name_a ∷ []) x) e.label ≡ true → is_in 0 e.marks ≡ true
    → is_in 0 (marks_at (0 ∷ []) [] x) ≡ true
marked_reads x e there =
    one_of_three (λ d. truth (holds_at (name_a ∷ []) x) d.label ≡ true → is_in 0 d.marks ≡ true → is_in 0 (marks_at (0 ∷ []) [] x) ≡ true)
    (edge 0 LabelTree.True 0 []) (edge 0 a 1 []) (edge 1 a 1 (0 ∷ [])) e there
    (λ reads marked. absurd (false≢true marked)) (λ reads marked. absurd (false≢true marked)) (λ reads marked. ap (λ b. is_in 0 (marks_if (0 ∷ []) [] b)) reads)

or_mono : (p q r s : Bool) → (p ≡ true → r ≡ true) → (q ≡ true → s ≡ true) → (p || q) ≡ true → (r || s) ≡ true
or_mono true q r s f g h = ap (λ b. b || s) (f refl)
or_mono false q r s f g h = go r (g h)
  where
    go : (b : Bool) → s ≡ true → (b || s) ≡ true
    go true e = refl
    go false e = e

some_reads : (p : ℕ) (xs : List NameSet) (es : List LabelledEdge) (q : ℕ) → IsPath ever_after p xs es q → list_any (is_in 0) (map (λ e. e.marks) es) ≡ true
    → list_any (is_in 0) (map (marks_at (0 ∷ []) []) xs) ≡ true
some_reads p [] [] q path some = some
some_reads p [] (e ∷ es) q path some = absurd path
some_reads p (x ∷ xs) [] q path some = absurd path
some_reads p (x ∷ xs) (e ∷ es) q path some = or_mono _ _ _ _ (marked_reads x e path.1 path.2) (some_reads e.to xs es q path.3) some

included : (u v : List NameSet) → Accepts ever_after u v → Accepts again u v
included u v r =
    let gone = some_reads r.state (copies r.cycle_rounds v) r.cycle r.state r.returns r.meets in
    let once : met (map (marks_at (0 ∷ []) []) (copies r.cycle_rounds v)) (FormulaTree.Inf 0 false) ≡ met (map (marks_at (0 ∷ []) []) v) (FormulaTree.Inf 0 false) =
    met_alike _ _ (gone_alike (marks_at (0 ∷ []) []) r.cycle_rounds v r.positive) (FormulaTree.Inf 0 false) in
    (one_state_accepts (0 ∷ []) [] 1 (FormulaTree.Inf 0 false) u v r.endless).1 (sym once ∙ gone)

-- ---- deterministic, complete and unambiguous automata

pair_of_two : (R : LabelledEdge → LabelledEdge → Type 0) (x y : LabelledEdge) → R x y → AllPairs R (x ∷ y ∷ [])
pair_of_two R x y r i j d before within = go i j before within
  where
    go : (i j : ℕ) → i < j → j < 2 → R (slice_index_or (x ∷ y ∷ []) i d) (slice_index_or (x ∷ y ∷ []) j d)
    go zero zero before within = absurd (omega arith)
    go zero (suc zero) before within = r
    go zero (suc (suc j)) before within = absurd (omega arith)
    go (suc i) zero before within = absurd (omega arith)
    go (suc i) (suc zero) before within = absurd (omega arith)
    go (suc i) (suc (suc j)) before within = absurd (omega arith)

-- no letter meets both edges, where they leave one state
abbrev Apart : LabelledEdge → LabelledEdge → Type 0
Apart d e = d.from ≡ e.from → AreApart (name_a ∷ []) d e

again_deterministic : core.IsDeterministic again
again_deterministic = record {
  start = lit≤ tt;
  edges = pair_of_two Apart (edge 0 a 0 (0 ∷ [])) (edge 0 (LabelTree.Not a) 0 []) (λ same letter first second. false≢true (sym (ap not first) ∙ second));
}

-- its edges leave two states
either_way_deterministic : (starts : List ℕ) → length starts ≤ 1 → core.IsDeterministic (either_way starts)
either_way_deterministic starts few = record {
  start = few;
  edges = pair_of_two Apart (edge 0 a 0 []) (edge 1 (LabelTree.Not a) 1 []) (λ same. absurd (omega (arith, same)));
}

alternating_deterministic : core.IsDeterministic alternating
alternating_deterministic = record {
  start = lit≤ tt;
  edges = pair_of_two Apart (edge 0 LabelTree.True 1 []) (edge 1 LabelTree.True 0 (0 ∷ [])) (λ same. absurd (omega (arith, same)));
}

ever_after_deterministic : core.IsDeterministic ever_after → ⊥
ever_after_deterministic h = h.edges 0 1 (edge 0 a 1 []) (lit< tt) (lit< tt) refl on refl on_a

again_goes : (state : ℕ) (letter : NameSet) (b : Bool) → contains letter name_a ≡ b → 0 ≡ state → HasSuccessor again state letter
again_goes state letter true reads at = record { edge = edge 0 a 0 (0 ∷ []); is_edge = (0, lit< tt, refl); from = at; meets = reads }
again_goes state letter false reads at = record { edge = edge 0 (LabelTree.Not a) 0 []; is_edge = (1, lit< tt, refl); from = at; meets = ap not reads }

again_complete : core.IsComplete again
again_complete = record {
  start = lit< tt;
  edges = λ state within letter. again_goes state letter (contains letter name_a) refl (let one : state < 1 = within in omega arith);
}

alternating_complete : core.IsComplete alternating
alternating_complete = record { start = lit< tt; edges = goes }
  where
    goes : (state : ℕ) → state < 2 → (letter : NameSet) → HasSuccessor alternating state letter
    goes zero within letter = record { edge = edge 0 LabelTree.True 1 []; is_edge = (0, lit< tt, refl); from = refl; meets = refl }
    goes (suc zero) within letter = record { edge = edge 1 LabelTree.True 0 (0 ∷ []); is_edge = (1, lit< tt, refl); from = refl; meets = refl }
    goes (suc (suc state)) within letter = absurd (omega arith)

-- at its state 0 nothing is met without `a`
either_way_complete : core.IsComplete (either_way (0 ∷ [])) → ⊥
either_way_complete h =
    let next = h.edges 0 (lit< tt) off in
    one_of_two (λ d. d.from ≡ 0 → truth (holds_at (name_a ∷ []) off) d.label ≡ true → ⊥) (edge 0 a 0 []) (edge 1 (LabelTree.Not a) 1 []) next.edge next.is_edge
    (λ from meets. false≢true (sym off_a ∙ meets)) (λ from meets. absurd (omega (arith, from))) next.from next.meets

-- two runs of `ever_after`, which leave its state 0 at once and one letter later
leaves_at_once : AcceptingRun ever_after [] (on ∷ [])
leaves_at_once = accepting ever_after [] (on ∷ []) 1 1 (record {
  start = 0;
  state = 1;
  path_edges = 1 ∷ [];
  cycle = 2 ∷ [];
  is_start = (0, lit< tt, refl);
  leads = (edge 0 a 1 [], refl, refl, on_a, refl);
  returns = (edge 1 a 1 (0 ∷ []), refl, refl, on_a, refl);
}) (lit< tt) (lit< tt) refl

leaves_later : AcceptingRun ever_after [] (on ∷ [])
leaves_later = accepting ever_after [] (on ∷ []) 2 1 (record {
  start = 0;
  state = 1;
  path_edges = 0 ∷ 1 ∷ [];
  cycle = 2 ∷ [];
  is_start = (0, lit< tt, refl);
  leads = (edge 0 LabelTree.True 0 [], refl, refl, refl, (edge 0 a 1 [], refl, refl, on_a, refl));
  returns = (edge 1 a 1 (0 ∷ []), refl, refl, on_a, refl);
}) (lit< tt) (lit< tt) refl

ever_after_unambiguous : IsUnambiguous ever_after → ⊥
unfolding leaves_at_once leaves_later
ever_after_unambiguous alone =
    let same : 1 ≡ 0 = same_Some 1 0 (alone [] (on ∷ []) leaves_at_once leaves_later 0) in
    absurd (omega (arith, same))

-- ---- one filter

no_more : {m n : ℕ} → n < m → m ≤ n → ⊥
no_more less more = absurd (omega arith)

one_filter : OneFilter
one_filter = record {
  accepts = again_has;
  accepts_late = record {
    stem = off ∷ [];
    cycle = on ∷ [];
    matches = record { stem_rounds = 0; cycle_rounds = 1; some = lit< tt; stem = (ap not off_a, tt); cycle = (on_a, tt) };
    accepts = worked_examples.ever_after_late;
  };
  accepts_some = so_often_has;
  accepts_none = so_often_lacks;
  rejects = so_often_lacks;
  rejects_not_all = λ h. h so_often_has;
  rejects_not = λ h. h again_has;
  empty = worked_examples.never_any;
  empty_without_start = worked_examples.no_start_any;
  not_empty = λ h. h [] (on ∷ []) worked_examples.again_on;
  included = included;
  included_never = λ u v r. absurd (worked_examples.never_any u v r);
  included_itself = λ x u v r. r;
  not_included = λ h. worked_examples.ever_after_on_off (h [] (on ∷ off ∷ []) worked_examples.again_on_off);
  not_included_apart = λ h. worked_examples.so_often_on (h [] (on ∷ []) worked_examples.again_on);
  equivalent = λ u v. (λ r. absurd (worked_examples.never_any u v r), λ r. absurd (worked_examples.no_start_any u v r));
  equivalent_itself = λ x u v. (λ r. r, λ r. r);
  not_equivalent = λ h. worked_examples.ever_after_on_off ((h [] (on ∷ off ∷ [])).1 worked_examples.again_on_off);
  not_equivalent_back = λ h. worked_examples.ever_after_on_off ((h [] (on ∷ off ∷ [])).0 worked_examples.again_on_off);
  not_equivalent_apart = λ h. worked_examples.so_often_on ((h [] (on ∷ [])).0 worked_examples.again_on);
  intersects = record { stem = []; cycle = on ∷ []; first = worked_examples.again_on; second = worked_examples.ever_after_on };
  intersects_in_some = record { stem = []; cycle = on ∷ off ∷ []; first = worked_examples.again_on_off; second = worked_examples.off_again_on_off };
  not_intersects = λ h. not_both (map (marks_at (0 ∷ []) []) h.cycle) (again_says h.stem h.cycle h.first) (so_often_says h.stem h.cycle h.second);
  not_intersects_never = λ h. worked_examples.never_any h.stem h.cycle h.second;
  deterministic = again_deterministic;
  deterministic_without_start = either_way_deterministic [] (lit≤ tt);
  not_deterministic = ever_after_deterministic;
  not_deterministic_starts = λ h. no_more (lit< tt) h.start;
  complete = again_complete;
  complete_everywhere = alternating_complete;
  not_complete = either_way_complete;
  not_complete_without_start = λ h. no_more (lit< tt) h.start;
  unambiguous = deterministic_is_unambiguous again again_deterministic;
  not_unambiguous = ever_after_unambiguous;
  states = (lit≤ tt, lit≤ tt);
  states_from = (lit≤ tt, tt);
  not_states = λ h. no_more (lit< tt) h.1;
  edges = (lit≤ tt, lit≤ tt);
  not_edges = λ h. no_more (lit< tt) h.0;
  sets = (lit≤ tt, lit≤ tt);
  not_sets = λ h. no_more (lit< tt) h.1;
  names = (lit≤ tt, lit≤ tt);
  not_names = λ h. no_more (lit< tt) h.1;
  no_number = λ h. no_more (lit< tt) h.0;
}

-- ---- verdicts

holds : (f : Filter) (x : Automaton) → ((which : Limit) → PassesLimitOf which f x → ⊥) → Holds f x → HoldsWithin f x
holds f x within h = record { within = within; holds = h }

-- where the first filters hold and the next doesn't
fails_behind : (before : List Filter) (f : Filter) (after : List Filter) (x : Automaton) → AllHold before x → ((which : Limit) → PassesLimitOf which f x → ⊥) → (Holds f x → ⊥)
    → FailsAtFilter (before ++ f ∷ after) x
fails_behind before f after x held within fails = (f, record { before = before; after = after; all = refl; earlier = held }, record { within = within; fails = fails })

no_end : (before : List Filter) (f : Filter) (after : List Filter) → [] ≡ before ++ f ∷ after → ⊥
no_end [] f after is = let lengths = ap length is in absurd (omega (arith, lengths))
no_end (g ∷ before) f after is = let lengths = ap length is in absurd (omega (arith, lengths))

again_fails : FailsAtFilter (IsEmpty ∷ []) again
again_fails = fails_behind [] IsEmpty [] again tt (λ which none. none) one_filter.not_empty

never_holds : AllHold (IsEmpty ∷ []) never
never_holds = (holds IsEmpty never (λ which none. none) one_filter.empty, tt)

abbrev first_of : List Filter → Filter
first_of [] = IsEmpty
first_of (f ∷ fs) = f

abbrev rest_of : List Filter → List Filter
rest_of [] = []
rest_of (f ∷ fs) = fs

never_fails : FailsAtFilter (IsEmpty ∷ []) never → ⊥
never_fails h = go h.1.before h.0 h.1.after h.1.all h.2.fails
  where
    go : (before : List Filter) (f : Filter) (after : List Filter) → IsEmpty ∷ [] ≡ before ++ f ∷ after → (Holds f never → ⊥) → ⊥
    go [] f after is fails = fails (subst (λ g. Holds g never) (ap first_of is) one_filter.empty)
    go (g ∷ before) f after is fails = no_end before f after (ap rest_of is)

again_holds : AllHold (IsDeterministic ∷ IsComplete ∷ States (just 1) ∷ []) again
again_holds = (
  holds IsDeterministic again (λ which none. none) again_deterministic,
  (holds IsComplete again (λ which none. none) again_complete, (holds (States (just 1)) again (λ which none. none) (lit≤ tt, lit≤ tt), tt)),
)

alternating_fails : FailsAtFilter (IsDeterministic ∷ IsComplete ∷ States (just 1) ∷ []) alternating
alternating_fails = fails_behind (IsDeterministic ∷ IsComplete ∷ []) (States (just 1)) [] alternating
    (holds IsDeterministic alternating (λ which none. none) alternating_deterministic, (holds IsComplete alternating (λ which none. none) alternating_complete, tt))
    (λ which none. none) (λ h. no_more (lit< tt) h.1)

verdicts : Verdicts
verdicts = record {
  kept_by_none = λ x. tt;
  dropped_by_none = λ x. tt;
  not_kept_by_none = λ x h. no_end h.1.before h.0 h.1.after h.1.all;
  kept = never_holds;
  not_dropped = never_fails;
  dropped = again_fails;
  not_kept = λ h. one_filter.not_empty h.0.holds;
  kept_inverted = again_fails;
  dropped_inverted = never_holds;
  all_hold = again_holds;
  first_fails = fails_behind [] IsDeterministic (IsComplete ∷ States (just 1) ∷ []) ever_after tt (λ which none. none) ever_after_deterministic;
  second_fails = fails_behind (IsDeterministic ∷ []) IsComplete (States (just 1) ∷ []) (either_way (0 ∷ []))
      (holds IsDeterministic (either_way (0 ∷ [])) (λ which none. none) (either_way_deterministic (0 ∷ []) (lit≤ tt)), tt) (λ which none. none) either_way_complete;
  last_fails = alternating_fails;
  not_all = λ h. no_more (lit< tt) h.1.1.0.holds.1;
  fails_inverted = alternating_fails;
  all_inverted = again_holds;
  operands = refl;
  first_operand = refl;
}

pub filter_examples : FilterExamples
filter_examples = record { one = one_filter; verdicts = verdicts }
