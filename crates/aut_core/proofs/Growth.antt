-- Stores that grow keep their guards, so links keep their labels.
use Rattle.std.proofs.Common.{◌≡◌, ◌∙◌, suc, List, [], ◌∷◌, All, ap, arith, map, refl}
use Rattle.label_guards.specs.Store.{Has, Keeps, Store}
use Rattle.aut_core.specs.SymbolicAutomata.{edge_of}
use Rattle.aut_core.specs.declared.link.Link.{Link}

pub keeps_none : (s : Store) → Keeps s s
keeps_none s = record { names = refl; has = λ g h. h; labels = λ g h. refl }

pub keeps_on : {r s t : Store} → Keeps r s → Keeps s t → Keeps r t
keeps_on f g = record { names = g.names ∙ f.names; has = λ x h. g.has x (f.has x h); labels = λ x h. g.labels x (f.has x h) ∙ f.labels x h }

pub kept_edges : {s t : Store} (links : List Link) → Keeps s t → All (λ l. Has s l.guard) links → map (edge_of t) links ≡ map (edge_of s) links
kept_edges [] keeps has = refl
kept_edges {s = s} {t = t} (l ∷ ls) keeps has =
    let first : edge_of t l ≡ edge_of s l = ap (λ label. record { from = l.from; label = label; to = l.to; marks = l.marks }) (keeps.labels l.guard (has 0 l (omega arith))) in
    let others = kept_edges ls keeps (λ k d within. has (suc k) d (omega (arith, within))) in
    ap (λ e. e ∷ map (edge_of t) ls) first ∙ ap (λ es. edge_of s l ∷ es) others
