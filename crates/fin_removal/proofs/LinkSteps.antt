-- The loops that add links one by one, and the edges that these links are.
use Rattle.std.proofs.Common.{◌≡◌, ◌∙◌, ◌+◌, ◌<◌, List, [], ◌∷◌, ◌++◌, All, ap, map, subst, sym}
use Rattle.std.proofs.lemmas.List.{append_assoc, map-append}
use Rattle.std.proofs.lemmas.List.Elements.{All-push}
use Rattle.aut_base.specs.Automaton.{LabelledEdge}
use Rattle.aut_core.specs.SymbolicAutomata.{edge_of}
use Rattle.aut_core.specs.declared.link.Link.{Link}
use Rattle.label_guards.specs.Store.{Has, Store}
use Rattle.fin_removal.specs.inner.Links.{AddsLinks}

pub adds_then : {s : Store} {old mid new : List Link} {es fs : List LabelledEdge} → AddsLinks s old mid es → AddsLinks s mid new fs → AddsLinks s old new (es ++ fs)
adds_then {s = s} {old = old} {mid = mid} {new = new} {es = es} {fs = fs} f g = record {
  has = λ h. g.has (f.has h);
  edges = g.edges ∙ (ap (λ ds. ds ++ fs) f.edges ∙ append_assoc (map (edge_of s) old) es fs);
}

pub adds_one : (s : Store) (old new : List Link) (l : Link) (e : LabelledEdge) → new ≡ old ++ l ∷ [] → Has s l.guard → edge_of s l ≡ e → AddsLinks s old new (e ∷ [])
adds_one s old new l e pushed has is = record {
  has = λ all. subst (λ (ls : List Link). All (λ m. Has s m.guard) ls) (sym pushed) (All-push (λ (m : Link). Has s m.guard) old l all has);
  edges = ap (map (edge_of s)) pushed ∙ (map-append (edge_of s) old (l ∷ []) ∙ ap (λ d. map (edge_of s) old ++ d ∷ []) is);
}
