-- Lists with the same guards, of which one has each guard once.
use Rattle.std.proofs.Common.{◌≡◌, ◌∙◌, ◌+◌, ◌<◌, ◌&&◌, ℕ, All, Bool, true, false, Contains, List, [], ◌∷◌, ◌++◌, ap, length, map, refl, sym, take}
use Rattle.std.proofs.lemmas.Bool.{eqb-true, lt-ltb, ltb-true, true≢false}
use Rattle.std.proofs.lemmas.List.{append_assoc}
use Rattle.std.proofs.lemmas.List.Elements.{All-contains}
use Rattle.std.proofs.lemmas.List.Folds.{list_all-append}
use Rattle.std.proofs.Math.Dec.{eqb, ltb}
use Rattle.std.specs.List.{list_all, list_any}
use Rattle.std.specs.Prelude.{get_or}
use Rattle.aut_base.proofs.lists.Members.{any_found, each_from, each_is, each_there}
use Rattle.aut_base.proofs.lists.Steps.{map_on}
use Rattle.aut_base.proofs.numbers.Truth.{and-true}
use Rattle.aut_core.specs.declared.link.Link.{Link}
use Rattle.label_guards.specs.Store.{Has, Store, places}
use Rattle.label_guards.specs.declared.guard.Guard.{Guard}
use Rattle.letter_classes.specs.SetClasses.{TellTheSame}

-- guards with one index are the same
pub same_place : (g h : Guard) → eqb g.place h.place ≡ true → g ≡ h
same_place g h e = λ i. record { place = eqb-true g.place h.place e i }

-- a guard that is in the list needn't be added
there_again : (list : List Guard) (g : Guard) → list_any (λ (y : Guard). eqb y.place g.place) list ≡ true → TellTheSame list (list ++ g ∷ [])
there_again list g there p =
    let found = any_found (λ (y : Guard). eqb y.place g.place) list there in
    let is : found.0 ≡ g = same_place found.0 g found.2 in
    by_cases (list_all p list) refl found.0 found.1 is ∙ sym (list_all-append p list (g ∷ []) ∙ ap (λ b. list_all p list && b) (and-true (p g)))
  where
    by_cases : (b : Bool) → list_all p list ≡ b → (h : Guard) → Contains list h → h ≡ g → list_all p list ≡ (list_all p list && p g)
    by_cases true all h at is = all ∙ sym (ap (λ b. b && p g) all ∙ (ap p (sym is) ∙ each_is p list h all at))
    by_cases false all h at is = all ∙ sym (ap (λ b. b && p g) all)

-- another link
module _ (links : List Link) (i : ℕ) (l : Link) (within : i < length links) (at : l ≡ get_or links i l) (old now : List Guard)
    (so : TellTheSame now (old ++ map (λ (x : Link). x.guard) (take i links))) where
  next : old ++ map (λ (x : Link). x.guard) (take (i + 1) links) ≡ (old ++ map (λ (x : Link). x.guard) (take i links)) ++ l.guard ∷ []
  next = ap (λ gs. old ++ gs) (sym (map_on (λ (x : Link). x.guard) links i l within at)) ∙ sym (append_assoc old (map (λ (x : Link). x.guard) (take i links)) (l.guard ∷ []))

  pub pushed : (new : List Guard) → new ≡ now ++ l.guard ∷ [] → TellTheSame new (old ++ map (λ (x : Link). x.guard) (take (i + 1) links))
  pushed new e p =
      ap (list_all p) e ∙ (list_all-append p now (l.guard ∷ []) ∙ (ap (λ b. b && list_all p (l.guard ∷ [])) (so p)
      ∙ (sym (list_all-append p (old ++ map (λ (x : Link). x.guard) (take i links)) (l.guard ∷ [])) ∙ ap (list_all p) (sym next))))

  pub listed : list_any (λ (y : Guard). eqb y.place l.guard.place) now ≡ true → TellTheSame now (old ++ map (λ (x : Link). x.guard) (take (i + 1) links))
  listed there p = there_again now l.guard there p ∙ pushed (now ++ l.guard ∷ []) refl p

-- guards are in a store where those of a list with the same guards are
pub told_has : (s : Store) (list all : List Guard) → TellTheSame list all → All (Has s) all → All (Has s) list
told_has s list all told has =
    let p : Guard → Bool = λ (g : Guard). ltb g.place (places s) in
    let passes : list_all p list ≡ true = told p ∙ each_from p all (λ g at. lt-ltb g.place (places s) (All-contains (Has s) all g has at)) in
    each_there (Has s) list (λ g at. ltb-true g.place (places s) (each_is p list g passes at))
