-- What was at a place is there still when nodes were added.
use Rattle.std.proofs.Common.{◌≡◌, ℕ, ◌+◌, ◌≤◌, ◌∙◌, Bool, List, [], ◌∷◌, ◌++◌, length, sym, refl, ap, arith, length-append, append_assoc}
use Rattle.label_guards.specs.declared.nodes.Node.{Node}
use Rattle.label_guards.specs.Nodes.{level_among, level, Grows}
use Rattle.label_guards.specs.Store.{Store, HasPlace, places, outcome}
use Rattle.label_guards.proofs.diagrams.Outcomes.{outcome_grows}
use Rattle.label_guards.proofs.diagrams.Reduced.{level_grows}

pub places_kept : {old new : Store} → Grows old new → places old ≤ places new
places_kept {old} {new} grows =
    let size : length new.nodes ≡ length old.nodes + length grows.more = ap length grows.nodes ∙ length-append old.nodes grows.more in
    omega arith

pub has_kept : {old new : Store} → Grows old new → (p : ℕ) → HasPlace old p → HasPlace new p
has_kept {old} {new} grows p h = let more = places_kept grows in omega arith

pub level_kept : {old new : Store} → Grows old new → (p : ℕ) → HasPlace old p → level new p ≡ level old p
level_kept {old} {new} grows p h = (λ i. level_among (grows.names i) (grows.nodes i) p) ∙ level_grows old.names old.nodes grows.more p h

pub outcome_kept : {old new : Store} → Grows old new → (on : ℕ → Bool) (p : ℕ) → HasPlace old p → outcome new.nodes on p ≡ outcome old.nodes on p
outcome_kept {old} {new} grows on p h = ap (λ (ns : List Node). outcome ns on p) grows.nodes ∙ outcome_grows old.nodes grows.more on p h

pub grows_on : {a b c : Store} → Grows a b → Grows b c → Grows a c
grows_on {a} {b} {c} first second = record {
  names = second.names ∙ first.names;
  more = first.more ++ second.more;
  nodes = second.nodes ∙ (ap (λ (ns : List Node). ns ++ second.more) first.nodes ∙ append_assoc a.nodes first.more second.more);
}

pub grows_none : (s : Store) → Grows s s
grows_none s = record {
  names = refl;
  more = [];
  nodes = sym (append_nil s.nodes);
}
  where
    append_nil : {A : Type 0} (xs : List A) → xs ++ [] ≡ xs
    append_nil [] = refl
    append_nil (x ∷ xs) = ap (λ l. x ∷ l) (append_nil xs)
