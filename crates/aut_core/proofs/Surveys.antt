-- Surveys of the links of one state, by halves.
use Rattle.std.proofs.Common.{◌≡◌, ◌∙◌, ◌↔◌, ◌+◌, ◌-◌, ◌/◌, ◌<◌, ℕ, Bool, true, false, ◌&&◌, ◌||◌, IfOk, IsTrue, List, [], ◌∷◌, ◌++◌, All, Err}
use Rattle.std.proofs.Common.{Ok, Result, ap, arith, drop, length, length-append, map, refl, subst, sym, take}
use Rattle.std.proofs.lemmas.Bool.{and_from, false≢true, or_left}
use Rattle.std.proofs.lemmas.List.{get_or_append_left, get_or-append-add, get_or_default, length-drop, length-take, take-append-drop, take_all}
use Rattle.std.proofs.lemmas.List.Elements.{All-drop, All-take, All-weaker}
use Rattle.std.proofs.lemmas.List.Folds.{Any-from_list_any, list_any-append, list_any_at}
use Rattle.aut_base.proofs.lists.Lists.{list_any-map}
use Rattle.aut_base.proofs.order.AllPairsOf.{pairs_append}
use Rattle.std.specs.List.{list_any}
use Rattle.aut_base.specs.Automaton.{LabelledEdge}
use Rattle.aut_base.specs.Label.{holds_at, truth}
use Rattle.aut_base.specs.Word.{NameSet}
use Rattle.label_guards.specs.Guards.{IsGuardOf, truth_in}
use Rattle.label_guards.specs.Store.{Has, Keeps, Store}
use Rattle.label_guards.specs.declared.guard.Guard.{Guard}
use Rattle.aut_core.specs.SymbolicAutomata.{edge_of}
use Rattle.aut_core.specs.Surveys.{AreAllApart, AreMetApart, IsUnionSurveyed, IsMetAlways, IsSurvey}
use Rattle.aut_core.specs.Deterministic.{AreApart, is_met}
use Rattle.aut_core.specs.declared.link.Link.{Link}
use Rattle.aut_core.specs.declared.survey.Met.{Met}
use Rattle.aut_core.specs.declared.survey.GuardSurvey.{GuardSurvey}
use Rattle.aut_core.proofs.Growth.{kept_edges}

false_true : (b : Bool) → b ≡ false → b ≡ true → ⊥
false_true b e f = cc

both_false : (p q : Bool) → (p ≡ true → q ≡ true → ⊥) → (p && q) ≡ false
both_false false q h = refl
both_false true false h = refl
both_false true true h = absurd (h refl refl)

or_right : (a b : Bool) → b ≡ true → (a || b) ≡ true
or_right true b e = refl
or_right false b e = e

weaker : (a b c : Bool) → (a ≡ true → b ≡ true) → (a || c) ≡ true → (b || c) ≡ true
weaker true b c f e = or_left b c (f refl)
weaker false b c f e = or_right b c e

-- no letter meets one of the edges and one of the others
abbrev IsApartFrom : List (List ℕ) → List LabelledEdge → List LabelledEdge → Type 0
IsApartFrom names es fs = (letter : NameSet) → (list_any (is_met names letter) es && list_any (is_met names letter) fs) ≡ false

apart_both : (names : List (List ℕ)) (es fs : List LabelledEdge) → AreAllApart names es → AreAllApart names fs → IsApartFrom names es fs → AreAllApart names (es ++ fs)
apart_both names es fs first second across = pairs_append (AreApart names) es fs first second
    (λ k d within m e there letter here other.
    false_true _ (across letter) (and_from _ _ (list_any_at (is_met names letter) es k d within here) (list_any_at (is_met names letter) fs m e there other)))

apart_front : (names : List (List ℕ)) (es more : List LabelledEdge) → AreAllApart names (es ++ more) → AreAllApart names es
apart_front names es more all i j d less within letter first second =
    let size = length-append es more in
    let left = get_or_append_left es more d i (omega arith) in
    let right = get_or_append_left es more d j within in
    all i j d less (omega (arith, size)) letter (ap (is_met names letter) left ∙ first) (ap (is_met names letter) right ∙ second)

apart_back : (names : List (List ℕ)) (es more : List LabelledEdge) → AreAllApart names (es ++ more) → AreAllApart names more
apart_back names es more all i j d less within letter first second =
    let size = length-append es more in
    let left = get_or-append-add es more i d in
    let right = get_or-append-add es more j d in
    all (length es + i) (length es + j) d (omega (arith, less)) (omega (arith, size, within)) letter (ap (is_met names letter) left ∙ first) (ap (is_met names letter) right ∙ second)

apart_from : (names : List (List ℕ)) (es fs : List LabelledEdge) → AreAllApart names (es ++ fs) → IsApartFrom names es fs
apart_from names es fs all letter =
    both_false _ _ (λ some other.
    let found = Any-from_list_any (is_met names letter) es some in
    let next = Any-from_list_any (is_met names letter) fs other in
    let size = length-append es fs in
    let left = get_or_append_left es fs found.1 found.0 found.2 ∙ found.3 in
    let right = get_or-append-add es fs next.0 found.1 ∙ (get_or_default fs next.0 found.1 next.1 next.2 ∙ next.3) in
    all found.0 (length es + next.0) found.1 (omega (arith, found.2)) (omega (arith, size, next.2)) letter (ap (is_met names letter) left ∙ found.4) (ap (is_met names letter) right ∙ next.4))

-- Where edges that aren't disjoint were found before, only the disjunction is needed.
pub in_turn_met : (names : List (List ℕ)) (s now : Store) (links : List Link) (known : GuardSurvey) (met : Met) → known.disjoint ≡ false → met.disjoint ≡ false
    → IsGuardOf now (λ on. list_any (λ l. truth_in s l.guard on) links) met.guard → IsUnionSurveyed names now (map (edge_of s) links) known met
in_turn_met names s now links known met before disjoint guard = record {
  has = guard.has;
  truth = λ asked on. guard.truth on ∙ sym (list_any-map (λ (e : LabelledEdge). truth on e.label) (edge_of s) links);
  disjoint = (λ e. absurd (false≢true (sym disjoint ∙ e)), λ h. absurd (false≢true (sym before ∙ h.0)));
}

-- Two halves, of which the second was surveyed given what the first found.
pub halves_met : (names : List (List ℕ)) (s t now : Store) (es fs : List LabelledEdge) (known : GuardSurvey) (first second met : Met) → IsUnionSurveyed names s es known first → Keeps s t
    → IsUnionSurveyed names t fs (record { disjoint = first.disjoint; exhaustive = known.exhaustive }) second → Has now met.guard
    → (IsTrue (second.disjoint || known.exhaustive) → IsGuardOf now (λ on. truth_in t first.guard on || truth_in t second.guard on) met.guard)
    → (IsTrue met.disjoint ↔ (IsTrue second.disjoint × AreMetApart t names first.guard second.guard)) → IsUnionSurveyed names now (es ++ fs) known met
halves_met names s t now es fs known first second met is_first keeps is_second has guard disjoint = record {
  has = has;
  truth = λ asked on.
      let more = weaker met.disjoint second.disjoint known.exhaustive (λ e. (disjoint.0 e).0) asked in
      let most = weaker second.disjoint first.disjoint known.exhaustive (λ e. (is_second.disjoint.0 e).0) more in
      (guard more).truth on ∙ ((λ i. first_there most on i || is_second.truth more on i) ∙ sym (list_any-append (λ (e : LabelledEdge). truth on e.label) es fs));
  disjoint = (
    (λ e.
        let parts = disjoint.0 e in
        let later = is_second.disjoint.0 parts.0 in
        let earlier = is_first.disjoint.0 later.0 in
        (earlier.0, apart_both names es fs earlier.1 later.1 (λ letter. sym (here later.0 parts.0 letter) ∙ parts.1 letter))),
    (λ h.
        let earlier = is_first.disjoint.1 (h.0, apart_front names es fs h.1) in
        let later = is_second.disjoint.1 (earlier, apart_back names es fs h.1) in
        disjoint.1 (later, λ letter. here earlier later letter ∙ apart_from names es fs h.1 letter)),
  );
}
  where
    first_there : IsTrue (first.disjoint || known.exhaustive) → (on : ℕ → Bool) → truth_in t first.guard on ≡ list_any (λ (e : LabelledEdge). truth on e.label) es
    first_there asked on = ap (truth on) (keeps.labels first.guard is_first.has) ∙ is_first.truth asked on

    here : IsTrue first.disjoint → IsTrue second.disjoint → (letter : NameSet)
        → (truth_in t first.guard (holds_at names letter) && truth_in t second.guard (holds_at names letter)) ≡ (list_any (is_met names letter) es && list_any (is_met names letter) fs)
    here e f letter i =
        first_there (or_left first.disjoint known.exhaustive e) (holds_at names letter) i && is_second.truth (or_left second.disjoint known.exhaustive f) (holds_at names letter) i

-- The survey once the links of a state are added, by the disjunction of their guards.
pub met_survey : (names : List (List ℕ)) (s : Store) (es : List LabelledEdge) (known found : GuardSurvey) (met : Met) → IsUnionSurveyed names s es known met → found.disjoint ≡ met.disjoint
    → (IsTrue found.exhaustive ↔ (IsTrue known.exhaustive × IsMetAlways s names met.guard)) → IsSurvey names es known found
met_survey names s es known found met is disjoint exhaustive = record {
  disjoint = (λ e. is.disjoint.0 (sym disjoint ∙ e), λ h. disjoint ∙ is.disjoint.1 h);
  exhaustive = (
    (λ e.
        let parts = exhaustive.0 e in
        (parts.0, λ letter. sym (is.truth (or_right met.disjoint known.exhaustive parts.0) (holds_at names letter)) ∙ parts.1 letter)),
    (λ h. exhaustive.1 (h.0, λ letter. is.truth (or_right met.disjoint known.exhaustive h.0) (holds_at names letter) ∙ h.1 letter)),
  );
}

pub no_link : (xs : List Link) → length xs < 1 → [] ≡ xs
no_link [] none = refl
no_link (x ∷ xs) none = absurd (omega (arith, none))

-- Without links, the edges of a state are disjoint, and not exhaustive.
pub none_surveyed : (names : List (List ℕ)) (s : Store) (never : Guard) (known found : GuardSurvey) → IsGuardOf s (λ on. false) never → found.disjoint ≡ known.disjoint
    → (IsTrue found.exhaustive ↔ (IsTrue known.exhaustive × IsMetAlways s names never)) → IsSurvey names [] known found
none_surveyed names s never known found is disjoint exhaustive = record {
  disjoint = (
    (λ e. (sym disjoint ∙ e, λ i j d less within. absurd (omega (arith, within)))),
    (λ h. disjoint ∙ h.0),
  );
  exhaustive = (
    (λ e. (let parts = exhaustive.0 e in (parts.0, λ letter. sym (is.truth (holds_at names letter)) ∙ parts.1 letter))),
    (λ h. exhaustive.1 (h.0, λ letter. is.truth (holds_at names letter) ∙ h.1 letter)),
  );
}

-- A survey stays right in a store that keeps the labels.
pub kept_survey : (names : List (List ℕ)) (s t : Store) (links : List Link) (known found : GuardSurvey) → Keeps s t → All (λ l. Has s l.guard) links
    → IsSurvey names (map (edge_of t) links) known found → IsSurvey names (map (edge_of s) links) known found
kept_survey names s t links known found keeps has = subst (λ (es : List LabelledEdge). IsSurvey names es known found) (kept_edges links keeps has)

-- the second half of the links
abbrev pub rest_of : List Link → List Link
rest_of links = take (length links - length links / 2) (drop (length links / 2) links)

pub length-rest_of : (links : List Link) → length (rest_of links) ≡ length links - length links / 2
length-rest_of links =
    let whole = length-drop (length links / 2) links in
    let part = length-take (length links - length links / 2) (drop (length links / 2) links) in
    omega (arith, whole, part)

pub both_halves : (links : List Link) → take (length links / 2) links ++ rest_of links ≡ links
both_halves links =
    let whole = length-drop (length links / 2) links in
    ap (λ ls. take (length links / 2) links ++ ls) (take_all (length links - length links / 2) (drop (length links / 2) links) (omega (arith, whole))) ∙ take-append-drop (length links / 2) links

pub rest_has : {s t : Store} (links : List Link) → Keeps s t → All (λ l. Has s l.guard) links → All (λ l. Has t l.guard) (rest_of links)
rest_has {s} {t} links keeps has =
    All-weaker (λ (l : Link). Has s l.guard) (λ (l : Link). Has t l.guard) (λ l h. keeps.has l.guard h) (rest_of links)
    (All-take (λ (l : Link). Has s l.guard) (length links - length links / 2) (drop (length links / 2) links) (All-drop (λ (l : Link). Has s l.guard) (length links / 2) links has))

-- two facts of an answer combined
pub of_two : {E : Type 0} {P Q R : Met → Type 0} (r : Result Met E) → ((m : Met) → P m → Q m → R m) → IfOk r P → IfOk r Q → IfOk r R
of_two (Ok m) f p q = f m p q
of_two (Err e) f p q = tt

-- three facts of an answer combined
pub of_three : {E : Type 0} {P Q R T : Met → Type 0} (r : Result Met E) → ((m : Met) → P m → Q m → R m → T m) → IfOk r P → IfOk r Q → IfOk r R → IfOk r T
of_three (Ok m) f p q r = f m p q r
of_three (Err e) f p q r = tt
