-- The language of an automaton with a name hidden under `Any`.
use Rattle.std.proofs.Common.{◌≡◌, ◌∙◌, ◌*◌, ◌<◌, ◌≤◌, ℕ, true, List, [], ◌∷◌, ◌++◌, ◌||◌, Bool, Contains, Some, ap, arith, inl, inr, length, map, refl, subst, sym}
use Rattle.std.proofs.lemmas.Bool.{cases_Bool, or_cases, or_left, or_right}
use Rattle.std.proofs.lemmas.List.{append-nil, length-map}
use Rattle.std.specs.FinSet as set
use Rattle.aut_base.proofs.lists.Copies.{length-copies}
use Rattle.std.proofs.Math.Nat.{le-mul_of_pos_right}
use Rattle.aut_base.proofs.words.SameWord.{same_word_same_verdict}
use Rattle.aut_base.specs.Acceptance.{Accepts, IsPath}
use Rattle.aut_base.specs.Automaton.{Automaton, LabelledEdge}
use Rattle.aut_base.specs.Formula.{met}
use Rattle.aut_base.specs.Label.{LabelTree, holds_at, truth}
use Rattle.aut_base.specs.Word.{NameSet, SpellsSame, copies}
use Rattle.ap_project.proofs.Letters.{SameBut, absent_itself, but_including, but_without, including, including_again, present_itself, without, without_same, without_twice}
use Rattle.ap_project.proofs.Related.{Carries, Related, accepts_carried, as_many, map_related, related_letters, related_map, some_letter, unrolled}
use Rattle.ap_project.specs.Hiding.{AgreeOff, SomeWord, hidden_truth}
use Rattle.ap_project.specs.Laws.{Forth, HiddenAny, IsHidden}
use Rattle.ap_project.specs.declared.hide.Hide.TheVariants.{Any}

-- where a label is true at a letter, the hidden label is true at the letter without the name
holds_without : (name : List ℕ) (names : List (List ℕ)) (l : LabelTree) (x : NameSet) → truth (holds_at names x) l ≡ true → hidden_truth Any name names l (without name x) ≡ true
holds_without name names l x holds =
    let at : NameSet → Bool = λ z. truth (holds_at names z) l in
    elim (cases_Bool (set.contains x name)) [
      | inl present ↦ or_right _ _ (ap at (including_again name x ∙ present_itself name x present) ∙ holds)
      | inr absent ↦ or_left _ _ (ap at (without_twice name x ∙ absent_itself name x absent) ∙ holds)
    ]

-- and the hidden label has the same truth at the letter with the name and without it
holds_itself : (name : List ℕ) (names : List (List ℕ)) (l : LabelTree) (x : NameSet) → hidden_truth Any name names l (without name x) ≡ hidden_truth Any name names l x
holds_itself name names l x =
    let at : NameSet → Bool = λ z. truth (holds_at names z) l in
    (λ i. at (without_twice name x i) || at (including_again name x i))

-- words that agree off the name spell the same word once the name is taken out
spells_without : (name : List ℕ) (u v x y : List NameSet) → 0 < length v → 0 < length y → AgreeOff name u v x y
    → SpellsSame (map (without name) x) (map (without name) y) (map (without name) u) (map (without name) v)
spells_without name u v x y some_v some_y same n =
    let f = without name in
    let old = some_letter u v n some_v in
    let new = some_letter x y n some_y in
    let old_f = some_letter (map f u) (map f v) n (omega (arith, some_v, length-map v f)) in
    let new_f = some_letter (map f x) (map f y) n (omega (arith, some_y, length-map y f)) in
    let R : NameSet → NameSet → Type 0 = λ s t. f s ≡ t in
    let one : f old.0 ≡ old_f.0 = related_letters R u v (map f u) (map f v) (related_map R f (λ s. refl) u) (related_map R f (λ s. refl) v) some_v n old.0 old_f.0 old.1 old_f.1 in
    let two : f new.0 ≡ new_f.0 = related_letters R x y (map f x) (map f y) (related_map R f (λ s. refl) x) (related_map R f (λ s. refl) y) some_y n new.0 new_f.0 new.1 new_f.1 in
    let but = without_same name old.0 new.0 (same n old.0 new.0 old.1 new.1) in
    new_f.1 ∙ (ap Some (sym two ∙ (sym but ∙ one)) ∙ sym old_f.1)

module _ (name : List ℕ) (a h : Automaton) (is : IsHidden Any name a h) where
  forgotten : Carries (λ s t. without name s ≡ t) a h
  forgotten e s t same there holds =
      is.forth e t there (subst (λ z. hidden_truth Any name a.names e.label z ≡ true) same (holds_without name a.names e.label s holds))

  forget : (x y : List NameSet) → Accepts a x y → Accepts h (map (without name) x) (map (without name) y)
  forget x y r =
      let R : NameSet → NameSet → Type 0 = λ s t. without name s ≡ t in
      let mapped : (xs : List NameSet) → Related R xs (map (without name) xs) = related_map R (without name) (λ s. refl) in
      accepts_carried R a h forgotten (λ s. subst (λ ss. Contains ss s) (sym is.starts)) (sym is.formula) x y _ _ (mapped x) (mapped y) r

  recall : (u v : List NameSet) → Accepts h (map (without name) u) (map (without name) v) → Accepts h u v
  recall u v r =
      let R : NameSet → NameSet → Type 0 = λ s t. s ≡ without name t in
      accepts_carried R h h step (λ s there. there) refl _ _ u v (map_related R (without name) (λ s. refl) u) (map_related R (without name) (λ s. refl) v) r
    where
      step : (f : LabelledEdge) (s t : NameSet) → s ≡ without name t → Contains h.edges f → truth (holds_at h.names s) f.label ≡ true → Forth h f t
      step f s t same there holds =
          let old = is.back f s there holds in
          let at_without = subst (λ z. hidden_truth Any name a.names old.edge.label z ≡ true) same old.holds in
          let new = is.forth old.edge t old.there (sym (holds_itself name a.names old.edge.label t) ∙ at_without) in
          let same_from = new.twin.from ∙ old.twin.from in
          let same_to = new.twin.to ∙ old.twin.to in
          let same_marks = new.twin.marks ∙ old.twin.marks in
          record { edge = new.edge; there = new.there; twin = record { from = same_from; to = same_to; marks = same_marks }; holds = new.holds }

  -- a path of a over letters that agree off the name
  record Chosen (p : ℕ) (xs : List NameSet) (es : List LabelledEdge) (q : ℕ) : Type 0 where
    letters : List NameSet
    path_edges : List LabelledEdge
    same : Related (SameBut name) xs letters
    leads : IsPath a p letters path_edges q
    marks : map (λ (e : LabelledEdge). e.marks) path_edges ≡ map (λ (e : LabelledEdge). e.marks) es

  record Letter (x : NameSet) (l : LabelTree) : Type 0 where
    letter : NameSet
    same : SameBut name x letter
    holds : truth (holds_at a.names letter) l ≡ true

  letter_of : (x : NameSet) (l : LabelTree) → hidden_truth Any name a.names l x ≡ true → Letter x l
  letter_of x l holds = elim (or_cases (truth (holds_at a.names (without name x)) l) (truth (holds_at a.names (including name x)) l) holds) [
    | inl absent ↦ record { letter = without name x; same = but_without name x; holds = absent }
    | inr present ↦ record { letter = including name x; same = but_including name x; holds = present }
  ]

  chosen : (p q : ℕ) (xs : List NameSet) (es : List LabelledEdge) → IsPath h p xs es q → Chosen p xs es q
  chosen p q [] [] path = record { letters = []; path_edges = []; same = tt; leads = path; marks = refl }
  chosen p q [] (e ∷ es) path = absurd path
  chosen p q (x ∷ xs) [] path = absurd path
  chosen p q (x ∷ xs) (e ∷ es) path =
      let old = is.back e x path.1 path.2 in
      let one = letter_of x old.edge.label old.holds in
      let rest = chosen e.to q xs es path.3 in
      record {
        letters = one.letter ∷ rest.letters;
        path_edges = old.edge ∷ rest.path_edges;
        same = (one.same, rest.same);
        leads = (path.0 ∙ sym old.twin.from, old.there, one.holds, subst (λ r. IsPath a r rest.letters rest.path_edges q) (sym old.twin.to) rest.leads);
        marks = cc (old.twin.marks, rest.marks);
      }

  choose : (u v : List NameSet) → Accepts h u v → SomeWord (λ x y. Accepts a x y) (AgreeOff name u v)
  choose u v r =
      let stem = u ++ copies r.stem_rounds v in
      let round = copies r.cycle_rounds v in
      let path_edges = chosen r.start r.state stem r.path_edges r.leads in
      let cycle = chosen r.state r.state round r.cycle r.returns in
      let wide : r.cycle_rounds ≤ r.cycle_rounds * length v = le-mul_of_pos_right r.cycle_rounds r.endless in
      let some : 0 < length round = omega (arith, r.positive, wide, length-copies r.cycle_rounds v) in
      record {
        stem = path_edges.letters;
        cycle = cycle.letters;
        some = omega (arith, some, as_many (SameBut name) round cycle.letters cycle.same);
        said = record {
          endless = omega (arith, some, as_many (SameBut name) round cycle.letters cycle.same);
          start = r.start;
          state = r.state;
          stem_rounds = 0;
          cycle_rounds = 1;
          path_edges = path_edges.path_edges;
          cycle = cycle.path_edges;
          is_start = subst (λ ss. Contains ss r.start) is.starts r.is_start;
          leads = subst (λ w. IsPath a r.start w path_edges.path_edges r.state) (sym (append-nil path_edges.letters)) path_edges.leads;
          positive = omega arith;
          returns = subst (λ w. IsPath a r.state w cycle.path_edges r.state) (sym (append-nil cycle.letters)) cycle.leads;
          meets = ap (λ marks. met marks a.formula) cycle.marks ∙ (ap (met (map (λ (e : LabelledEdge). e.marks) r.cycle)) (sym is.formula) ∙ r.meets);
        };
        same = λ n s t first second. related_letters (SameBut name) stem round path_edges.letters cycle.letters path_edges.same cycle.same some n s t
            (sym (unrolled r.stem_rounds r.cycle_rounds u v r.endless some n) ∙ first) second;
      }

  back_to : (u v : List NameSet) → 0 < length v → SomeWord (λ x y. Accepts a x y) (AgreeOff name u v) → Accepts h u v
  back_to u v some s =
      let f = without name in
      let some_f : 0 < length (map f v) = omega (arith, some, length-map v f) in
      let other_f : 0 < length (map f s.cycle) = omega (arith, s.some, length-map s.cycle f) in
      let spells = spells_without name u v s.stem s.cycle some s.some s.same in
      let alike = same_word_same_verdict h (map f s.stem) (map f s.cycle) (map f u) (map f v) other_f some_f spells in
      recall u v (alike.0 (forget s.stem s.cycle s.said))

pub hidden_any : HiddenAny
hidden_any name a h is u v some = (choose name a h is u v, back_to name a h is u v some)
