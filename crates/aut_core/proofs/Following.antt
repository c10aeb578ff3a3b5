-- Links of given edges, made one by one.
use Rattle.std.proofs.Common.{All, List, [], ap, arith, get_or, length, map, refl, subst, suc, sym, take, zero, ℕ, ◌++◌, ◌+◌, ◌<◌, ◌∙◌, ◌∷◌, ◌≡◌, ◌≤◌}
use Rattle.std.proofs.lemmas.List.{map-append, take_all}
use Rattle.std.proofs.lemmas.List.Elements.{All-append, All-weaker}
use Rattle.aut_base.proofs.lists.Lists.{take-push}
use Rattle.aut_base.specs.Automaton.{LabelledEdge}
use Rattle.label_guards.specs.Store.{Has, Keeps, Store}
use Rattle.aut_core.specs.SymbolicAutomata.{edge_of}
use Rattle.aut_core.specs.Links.{StandFor}
use Rattle.aut_core.specs.declared.link.Link.{Link}
use Rattle.aut_core.proofs.Growth.{kept_edges}

pub stand_itself : (s : Store) (links : List Link) → All (λ l. Has s l.guard) links → StandFor s links (map (edge_of s) links)
stand_itself s links has = record { has = has; edges = refl }

pub stand_kept : (s t : Store) (links : List Link) (es : List LabelledEdge) → Keeps s t → StandFor s links es → StandFor t links es
stand_kept s t links es keeps so_far = record {
  has = All-weaker (λ (l : Link). Has s l.guard) (λ (l : Link). Has t l.guard) (λ l h. keeps.has l.guard h) links so_far.has;
  edges = kept_edges links keeps so_far.has ∙ so_far.edges;
}

pub stand_append : (s : Store) (links more new : List Link) (es fs : List LabelledEdge) → StandFor s links es → StandFor s more fs → new ≡ links ++ more → StandFor s new (es ++ fs)
stand_append s links more new es fs first second is = record {
  has = subst (All (λ (l : Link). Has s l.guard)) (sym is) (All-append (λ (l : Link). Has s l.guard) links more first.has second.has);
  edges = ap (map (edge_of s)) is ∙ (map-append (edge_of s) links more ∙ (ap (λ es. es ++ map (edge_of s) more) first.edges ∙ ap (λ fs. es ++ fs) second.edges));
}

pub stand_one : (s : Store) (l : Link) (e : LabelledEdge) → Has s l.guard → edge_of s l ≡ e → StandFor s (l ∷ []) (e ∷ [])
stand_one s l e has is = record { has = only; edges = ap (λ (d : LabelledEdge). d ∷ []) is }
  where
    only : All (λ (m : Link). Has s m.guard) (l ∷ [])
    only zero d within = has
    only (suc k) d within = absurd (omega (arith, within))

pub stand_push : (s : Store) (links new : List Link) (l : Link) (es : List LabelledEdge) (e : LabelledEdge) → StandFor s links es → Has s l.guard → edge_of s l ≡ e → new ≡ links ++ l ∷ []
    → StandFor s new (es ++ e ∷ [])
stand_push s links new l es e so_far has is pushed = stand_append s links (l ∷ []) new es (e ∷ []) so_far (stand_one s l e has is) pushed

-- another link, for the edge of the next item of a list
pub stand_more : {X : Type 0} (f : X → LabelledEdge) (xs : List X) (k : ℕ) (x : X) (s t : Store) (old new : List Link) (l : Link) → k < length xs → x ≡ get_or xs k x
    → StandFor s old (map f (take k xs)) → Keeps s t → Has t l.guard → edge_of t l ≡ f x → new ≡ old ++ l ∷ [] → StandFor t new (map f (take (k + 1) xs))
stand_more f xs k x s t old new l within is so_far keeps has e pushed =
    subst (StandFor t new) (sym (map-append f (take k xs) (x ∷ [])) ∙ sym (ap (map f) (take-push xs k x within is)))
    (stand_push t old new l (map f (take k xs)) (f x) (stand_kept s t old (map f (take k xs)) keeps so_far) has e pushed)

pub stand_all : {X : Type 0} (f : X → LabelledEdge) (xs : List X) (k : ℕ) (s : Store) (links : List Link) → length xs ≤ k → StandFor s links (map f (take k xs)) → map (edge_of s) links ≡ map f xs
stand_all f xs k s links end so_far = so_far.edges ∙ ap (map f) (take_all k xs end)
