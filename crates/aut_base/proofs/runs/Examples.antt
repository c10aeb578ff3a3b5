-- Which words the example automata accept.
use Rattle.std.proofs.Common.{◌≡◌, ◌∙◌, ◌⊎◌, inl, inr, ℕ, zero, suc, ◌<◌, Bool, true, false, not, if◌then◌else◌, refl, sym, ap, subst, lit<, List, ◌∷◌, [], map, length, Contains, get_or, arith}
use Rattle.std.specs.FinSet as set
use Rattle.std.specs.List.{list_any}
use Rattle.std.specs.Cmp.Lexicographic.{slice_cmp}
use Rattle.std.specs.Ordering.{nat_cmp}
use Rattle.std.proofs.lemmas.Bool.{false≢true, cases_eq, and_left, or_from}
use Rattle.std.proofs.lemmas.Cmp.{nat_list_cmp_total}
use Rattle.aut_base.proofs.lists.Members.{one_of_two}
use Rattle.aut_base.specs.Acceptance.{Accepts, IsPath}
use Rattle.aut_base.specs.Automaton.{LabelledEdge}
use Rattle.aut_base.specs.Examples.{name_a, name_b, on, off, on_and_foreign, foreign, edge, a, again, one_state, either_way, ever_after, never, barred, WorkedExamples}
use Rattle.aut_base.specs.Formula.{FormulaTree, met}
use Rattle.aut_base.specs.Label.{truth, holds_at, LabelTree}
use Rattle.aut_base.specs.Marks.{is_in}
use Rattle.aut_base.specs.Word.{NameSet, copies}
use Rattle.aut_base.proofs.runs.OneState.{marks_at, marks_if, one_state_accepts}

pub on_a : set.contains on name_a ≡ true
on_a = set.contains-insert nat_list_cmp_total set.empty name_a name_a

pub off_a : set.contains off name_a ≡ false
off_a = set.contains-empty (slice_cmp nat_cmp) name_a

-- the letter, by whether `a` holds
abbrev letter : Bool → NameSet
letter true = on
letter false = off

marks_of : (at_on at_off : List ℕ) (b : Bool) → marks_at at_on at_off (letter b) ≡ marks_if at_on at_off b
marks_of at_on at_off true = ap (marks_if at_on at_off) on_a
marks_of at_on at_off false = ap (marks_if at_on at_off) off_a

marks_of_word : (at_on at_off : List ℕ) (bs : List Bool) → map (marks_at at_on at_off) (map letter bs) ≡ map (marks_if at_on at_off) bs
marks_of_word at_on at_off [] = refl
marks_of_word at_on at_off (b ∷ bs) = cc (marks_of at_on at_off b, marks_of_word at_on at_off bs)

yes_at : (at_on at_off : List ℕ) (sets : ℕ) (f : FormulaTree) (u : List NameSet) (bs : List Bool) → 0 < length (map letter bs) → met (map (marks_if at_on at_off) bs) f ≡ true
    → Accepts (one_state at_on at_off sets f) u (map letter bs)
yes_at at_on at_off sets f u bs endless h =
    (one_state_accepts at_on at_off sets f u (map letter bs) endless).1 (ap (λ marks. met marks f) (marks_of_word at_on at_off bs) ∙ h)

no_at : (at_on at_off : List ℕ) (sets : ℕ) (f : FormulaTree) (u : List NameSet) (bs : List Bool) → met (map (marks_if at_on at_off) bs) f ≡ false
    → ¬ Accepts (one_state at_on at_off sets f) u (map letter bs)
no_at at_on at_off sets f u bs h r =
    false≢true (sym h ∙ (ap (λ marks. met marks f) (sym (marks_of_word at_on at_off bs)) ∙ (one_state_accepts at_on at_off sets f u (map letter bs) r.endless).0 r))

-- `never` has no edge outside set 0
inside_at : (b : Bool) → not (is_in 0 (marks_if (0 ∷ 1 ∷ []) (0 ∷ []) b)) ≡ false
inside_at true = refl
inside_at false = refl

inside : (v : List NameSet) → list_any (λ marks. not (is_in 0 marks)) (map (marks_at (0 ∷ 1 ∷ []) (0 ∷ [])) v) ≡ false
inside [] = refl
inside (x ∷ xs) = or_from _ _ (inside_at (set.contains x name_a)) (inside xs)

never_any : (u v : List NameSet) → ¬ Accepts never u v
never_any u v r =
    false≢true (sym (and_left _ _ (inside v)) ∙ (one_state_accepts (0 ∷ 1 ∷ []) (0 ∷ []) 2 barred u v r.endless).0 r)

-- Once in its state 1, `ever_after` stays there, and reads `a` alone.
AllOn : List NameSet → Type 0
AllOn [] = Unit {0}
AllOn (x ∷ xs) = (set.contains x name_a ≡ true) × AllOn xs

one_of_three : (P : LabelledEdge → Type 0) (d e f x : LabelledEdge) → Contains (d ∷ e ∷ f ∷ []) x → P d → P e → P f → P x
one_of_three P d e f x there first second third = go there.0 there.1 there.2
  where
    go : (k : ℕ) → k < 3 → get_or (d ∷ e ∷ f ∷ []) k x ≡ x → P x
    go zero within is = subst P is first
    go (suc zero) within is = subst P is second
    go (suc (suc zero)) within is = subst P is third
    go (suc (suc (suc k))) within is = absurd (omega arith)

record StaysOn (x : NameSet) (e : LabelledEdge) : Type 0 where
  reads : set.contains x name_a ≡ true
  stays : e.to ≡ 1

stays_on : (x : NameSet) (p : ℕ) (e : LabelledEdge) → p ≡ 1 → p ≡ e.from → Contains ever_after.edges e → truth (holds_at (name_a ∷ []) x) e.label ≡ true → StaysOn x e
stays_on x p e at from there =
    one_of_three (λ d. p ≡ d.from → truth (holds_at (name_a ∷ []) x) d.label ≡ true → StaysOn x d) (edge 0 LabelTree.True 0 []) (edge 0 a 1 []) (edge 1 a 1 (0 ∷ [])) e there
    (λ is h. absurd (omega arith)) (λ is h. absurd (omega arith)) (λ is h. record { reads = h; stays = refl }) from

stays : (p : ℕ) (xs : List NameSet) (es : List LabelledEdge) (q : ℕ) → p ≡ 1 → IsPath ever_after p xs es q → (q ≡ 1) × AllOn xs
unfolding AllOn
stays p [] [] q at path = (sym path ∙ at, tt)
stays p [] (e ∷ es) q at path = absurd path
stays p (x ∷ xs) [] q at path = absurd path
stays p (x ∷ xs) (e ∷ es) q at path =
    let s = stays_on x p e at path.0 path.1 path.2 in
    let rest = stays e.to xs es q s.stays path.3 in
    (rest.0, (s.reads, rest.1))

-- elsewhere it has no mark
unmarked : (e : LabelledEdge) → Contains ever_after.edges e → (e.to ≡ 1 → ⊥) → is_in 0 e.marks ≡ false
unmarked e there =
    one_of_three (λ d. (d.to ≡ 1 → ⊥) → is_in 0 d.marks ≡ false) (edge 0 LabelTree.True 0 []) (edge 0 a 1 []) (edge 1 a 1 (0 ∷ [])) e there
    (λ h. refl) (λ h. refl) (λ h. absurd (h refl))

no_mark : (p : ℕ) (xs : List NameSet) (es : List LabelledEdge) (q : ℕ) → (q ≡ 1 → ⊥) → IsPath ever_after p xs es q → list_any (is_in 0) (map (λ e. e.marks) es) ≡ false
no_mark p [] [] q away path = refl
no_mark p [] (e ∷ es) q away path = absurd path
no_mark p (x ∷ xs) [] q away path = absurd path
no_mark p (x ∷ xs) (e ∷ es) q away path =
    or_from _ _ (unmarked e path.1 (λ at. away (stays e.to xs es q at path.3).0)) (no_mark e.to xs es q away path.3)

no_round : (k : ℕ) → 0 < k → AllOn (copies k (on ∷ off ∷ [])) → ⊥
unfolding AllOn
no_round zero some h = absurd (omega arith)
no_round (suc k) some h = false≢true (sym off_a ∙ h.1.0)

ever_after_on_off : ¬ Accepts ever_after [] (on ∷ off ∷ [])
ever_after_on_off r = go (cases_eq r.state 1)
  where
    go : (r.state ≡ 1) ⊎ (r.state ≡ 1 → ⊥) → ⊥
    go (inl at) = no_round r.cycle_rounds r.positive (stays r.state (copies r.cycle_rounds (on ∷ off ∷ [])) r.cycle r.state at r.returns).1
    go (inr away) = false≢true (sym (no_mark r.state (copies r.cycle_rounds (on ∷ off ∷ [])) r.cycle r.state away r.returns) ∙ r.meets)

-- The letters at which the foreign proposition holds.
on_and_foreign_a : set.contains on_and_foreign name_a ≡ true
on_and_foreign_a = set.contains-insert nat_list_cmp_total (set.from_list (name_b ∷ [])) name_a name_a

foreign_a : set.contains foreign name_a ≡ false
foreign_a = set.contains-insert nat_list_cmp_total set.empty name_b name_a ∙ off_a

-- Each edge of `either_way` is a loop: for letters with `a` at state 0, for those without at state 1.
record IsLoop (x : NameSet) (e : LabelledEdge) : Type 0 where
  stays : e.to ≡ e.from
  reads : e.from ≡ (if set.contains x name_a then 0 else 1)

is_loop : (starts : List ℕ) (x : NameSet) (e : LabelledEdge) → Contains (either_way starts).edges e → truth (holds_at (name_a ∷ []) x) e.label ≡ true → IsLoop x e
is_loop starts x e there =
    one_of_two (λ d. truth (holds_at (name_a ∷ []) x) d.label ≡ true → IsLoop x d) (edge 0 a 0 []) (edge 1 (LabelTree.Not a) 1 []) e there
    (λ h. record { stays = refl; reads = ap (λ b. if b then 0 else 1) (sym h) }) (λ h. record { stays = refl; reads = ap (λ b. if b then 0 else 1) (sym (is_off (set.contains x name_a) h)) })
  where
    is_off : (b : Bool) → not b ≡ true → b ≡ false
    is_off false h = refl
    is_off true h = sym h

stays_there : (starts : List ℕ) (p : ℕ) (xs : List NameSet) (es : List LabelledEdge) (q : ℕ) → IsPath (either_way starts) p xs es q → q ≡ p
stays_there starts p [] [] q path = sym path
stays_there starts p [] (e ∷ es) q path = absurd path
stays_there starts p (x ∷ xs) [] q path = absurd path
stays_there starts p (x ∷ xs) (e ∷ es) q path =
    stays_there starts e.to xs es q path.3 ∙ ((is_loop starts x e path.1 path.2).stays ∙ sym path.0)

-- the state at which a path can read this letter
stands : (starts : List ℕ) (p : ℕ) (x : NameSet) (xs : List NameSet) (es : List LabelledEdge) (q : ℕ) → IsPath (either_way starts) p (x ∷ xs) es q → p ≡ (if set.contains x name_a then 0 else 1)
stands starts p x xs [] q path = absurd path
stands starts p x xs (e ∷ es) q path = path.0 ∙ (is_loop starts x e path.1 path.2).reads

stands_second : (starts : List ℕ) (p : ℕ) (x y : NameSet) (xs : List NameSet) (es : List LabelledEdge) (q : ℕ) → IsPath (either_way starts) p (x ∷ y ∷ xs) es q
    → p ≡ (if set.contains y name_a then 0 else 1)
stands_second starts p x y xs [] q path = absurd path
stands_second starts p x y xs (e ∷ es) q path =
    path.0 ∙ (sym (is_loop starts x e path.1 path.2).stays ∙ stands starts e.to y xs es q path.3)

two_starts_on_off : ¬ Accepts (either_way (0 ∷ 1 ∷ [])) [] (on ∷ off ∷ [])
two_starts_on_off r = go r.cycle_rounds r.positive r.returns
  where
    go : (k : ℕ) → 0 < k → IsPath (either_way (0 ∷ 1 ∷ [])) r.state (copies k (on ∷ off ∷ [])) r.cycle r.state → ⊥
    go zero some path = absurd (omega arith)
    go (suc k) some path =
        let first = stands (0 ∷ 1 ∷ []) r.state on (off ∷ copies k (on ∷ off ∷ [])) r.cycle r.state path ∙ ap (λ b. if b then 0 else 1) on_a in
        let second = stands_second (0 ∷ 1 ∷ []) r.state on off (copies k (on ∷ off ∷ [])) r.cycle r.state path ∙ ap (λ b. if b then 0 else 1) off_a in
        absurd (omega arith)

second_start_on : ¬ Accepts (either_way (1 ∷ [])) [] (on ∷ [])
second_start_on r = go r.cycle_rounds r.positive r.returns
  where
    is_one : (k : ℕ) → k < 1 → get_or (1 ∷ []) k r.start ≡ r.start → r.start ≡ 1
    is_one zero within is = sym is
    is_one (suc k) within is = absurd (omega arith)

    at_one : r.state ≡ 1
    at_one = stays_there (1 ∷ []) r.start (copies r.stem_rounds (on ∷ [])) r.path_edges r.state r.leads ∙ is_one r.is_start.0 r.is_start.1 r.is_start.2

    go : (k : ℕ) → 0 < k → IsPath (either_way (1 ∷ [])) r.state (copies k (on ∷ [])) r.cycle r.state → ⊥
    go zero some path = absurd (omega arith)
    go (suc k) some path =
        let first = stands (1 ∷ []) r.state on (copies k (on ∷ [])) r.cycle r.state path ∙ ap (λ b. if b then 0 else 1) on_a in
        let one = at_one in
        absurd (omega arith)

no_start_any : (u v : List NameSet) → ¬ Accepts (either_way []) u v
no_start_any u v r = let none = r.is_start.1 in absurd (omega arith)

no_cycle : (u : List NameSet) → ¬ Accepts again u []
no_cycle u r = let none = r.endless in absurd (omega arith)

pub worked_examples : WorkedExamples
worked_examples = record {
  again_on = yes_at (0 ∷ []) [] 1 (FormulaTree.Inf 0 false) [] (true ∷ []) (lit< tt) refl;
  again_on_off = yes_at (0 ∷ []) [] 1 (FormulaTree.Inf 0 false) [] (true ∷ false ∷ []) (lit< tt) refl;
  again_late = yes_at (0 ∷ []) [] 1 (FormulaTree.Inf 0 false) (off ∷ off ∷ []) (false ∷ true ∷ []) (lit< tt) refl;
  again_off = no_at (0 ∷ []) [] 1 (FormulaTree.Inf 0 false) [] (false ∷ []) refl;
  again_early = no_at (0 ∷ []) [] 1 (FormulaTree.Inf 0 false) (on ∷ on ∷ []) (false ∷ []) refl;
  so_often_on = no_at (0 ∷ []) [] 1 (FormulaTree.Fin 0 false) [] (true ∷ []) refl;
  so_often_on_off = no_at (0 ∷ []) [] 1 (FormulaTree.Fin 0 false) [] (true ∷ false ∷ []) refl;
  so_often_late = no_at (0 ∷ []) [] 1 (FormulaTree.Fin 0 false) (off ∷ off ∷ []) (false ∷ true ∷ []) refl;
  so_often_off = yes_at (0 ∷ []) [] 1 (FormulaTree.Fin 0 false) [] (false ∷ []) (lit< tt) refl;
  so_often_early = yes_at (0 ∷ []) [] 1 (FormulaTree.Fin 0 false) (on ∷ on ∷ []) (false ∷ []) (lit< tt) refl;
  ever_after_on = record {
    endless = lit< tt;
    start = 0;
    state = 1;
    stem_rounds = 1;
    cycle_rounds = 1;
    path_edges = edge 0 a 1 [] ∷ [];
    cycle = edge 1 a 1 (0 ∷ []) ∷ [];
    is_start = (0, lit< tt, refl);
    leads = (refl, (1, lit< tt, refl), on_a, refl);
    positive = lit< tt;
    returns = (refl, (2, lit< tt, refl), on_a, refl);
    meets = refl;
  };
  ever_after_late = record {
    endless = lit< tt;
    start = 0;
    state = 1;
    stem_rounds = 1;
    cycle_rounds = 1;
    path_edges = edge 0 LabelTree.True 0 [] ∷ edge 0 a 1 [] ∷ [];
    cycle = edge 1 a 1 (0 ∷ []) ∷ [];
    is_start = (0, lit< tt, refl);
    leads = (refl, (0, lit< tt, refl), refl, (refl, (1, lit< tt, refl), on_a, refl));
    positive = lit< tt;
    returns = (refl, (2, lit< tt, refl), on_a, refl);
    meets = refl;
  };
  ever_after_on_off = ever_after_on_off;
  off_again_off = yes_at (0 ∷ 1 ∷ []) (1 ∷ []) 2 barred [] (false ∷ []) (lit< tt) refl;
  off_again_on_off = yes_at (0 ∷ 1 ∷ []) (1 ∷ []) 2 barred [] (true ∷ false ∷ []) (lit< tt) refl;
  off_again_on = no_at (0 ∷ 1 ∷ []) (1 ∷ []) 2 barred [] (true ∷ []) refl;
  never_any = never_any;
  alternating_on = record {
    endless = lit< tt;
    start = 0;
    state = 0;
    stem_rounds = 0;
    cycle_rounds = 2;
    path_edges = [];
    cycle = edge 0 LabelTree.True 1 [] ∷ edge 1 LabelTree.True 0 (0 ∷ []) ∷ [];
    is_start = (0, lit< tt, refl);
    leads = refl;
    positive = lit< tt;
    returns = (refl, (0, lit< tt, refl), refl, (refl, (1, lit< tt, refl), refl, refl));
    meets = refl;
  };
  alternating_on_off_on = record {
    endless = lit< tt;
    start = 0;
    state = 0;
    stem_rounds = 0;
    cycle_rounds = 2;
    path_edges = [];
    cycle = edge 0 LabelTree.True 1 [] ∷ edge 1 LabelTree.True 0 (0 ∷ []) ∷ edge 0 LabelTree.True 1 [] ∷ edge 1 LabelTree.True 0 (0 ∷ []) ∷ edge 0 LabelTree.True 1 [] ∷ edge 1 LabelTree.True
        0 (0 ∷ []) ∷ [];
    is_start = (0, lit< tt, refl);
    leads = refl;
    positive = lit< tt;
    returns = (
      refl,
      (0, lit< tt, refl),
      refl,
      (refl, (1, lit< tt, refl), refl, (refl, (0, lit< tt, refl), refl, (refl, (1, lit< tt, refl), refl, (refl, (0, lit< tt, refl), refl, (refl, (1, lit< tt, refl), refl, refl))))),
    );
    meets = refl;
  };
  two_starts_on = record {
    endless = lit< tt;
    start = 0;
    state = 0;
    stem_rounds = 0;
    cycle_rounds = 1;
    path_edges = [];
    cycle = edge 0 a 0 [] ∷ [];
    is_start = (0, lit< tt, refl);
    leads = refl;
    positive = lit< tt;
    returns = (refl, (0, lit< tt, refl), on_a, refl);
    meets = refl;
  };
  two_starts_off = record {
    endless = lit< tt;
    start = 1;
    state = 1;
    stem_rounds = 0;
    cycle_rounds = 1;
    path_edges = [];
    cycle = edge 1 (LabelTree.Not a) 1 [] ∷ [];
    is_start = (1, lit< tt, refl);
    leads = refl;
    positive = lit< tt;
    returns = (refl, (1, lit< tt, refl), ap not off_a, refl);
    meets = refl;
  };
  two_starts_on_off = two_starts_on_off;
  second_start_on = second_start_on;
  no_start_any = no_start_any;
  foreign_beside = (one_state_accepts (0 ∷ []) [] 1 (FormulaTree.Inf 0 false) [] (on_and_foreign ∷ []) (lit< tt)).1
      (ap (λ b. met (marks_if (0 ∷ []) [] b ∷ []) (FormulaTree.Inf 0 false)) on_and_foreign_a);
  foreign_alone = λ r. false≢true (sym (ap (λ b. met (marks_if (0 ∷ []) [] b ∷ []) (FormulaTree.Inf 0 false)) foreign_a)
      ∙ (one_state_accepts (0 ∷ []) [] 1 (FormulaTree.Inf 0 false) [] (foreign ∷ []) r.endless).0 r);
  no_cycle = no_cycle;
}
