-- Classes of guards are classes of their labels.
use Rattle.std.proofs.Common.{◌≡◌, ◌∙◌, ℕ, Bool, List, [], ◌∷◌, ap, map, refl, slice_get, subst, sym}
use Rattle.std.proofs.lemmas.List.Elements.{All-contains}
use Rattle.aut_base.proofs.lists.Members.{each_there, from_map, there_map}
use Rattle.aut_base.specs.Label.{LabelTree, truth}
use Rattle.label_guards.specs.Guards.{truth_in}
use Rattle.label_guards.specs.Store.{Store, label_in}
use Rattle.label_guards.specs.declared.guard.Guard.{Guard}
use Rattle.parity_laws.specs.Classes.{ClassesOfGuards}

truths : (s : Store) (on : ℕ → Bool) (gs : List Guard) → map (truth on) (map (label_in s) gs) ≡ map (λ g. truth_in s g on) gs
truths s on [] = refl
truths s on (g ∷ gs) = ap (λ xs. truth_in s g on ∷ xs) (truths s on gs)

pub classes_of_guards : ClassesOfGuards
classes_of_guards s list most classes are = record {
  every = λ on. (let found = are.every on in (found.0, ap (λ xs. slice_get xs found.0) (truths s on classes) ∙ found.1));
  alike = λ on also i j one two. (
      let first = sym (ap (λ xs. slice_get xs i) (truths s on classes)) ∙ one in
      let second = sym (ap (λ xs. slice_get xs j) (truths s also classes)) ∙ two in
      let both = are.alike on also i j first second in
      let P : LabelTree → Type 0 = λ l. truth on l ≡ truth also l in
      let Q : Guard → Type 0 = λ g. truth_in s g on ≡ truth_in s g also in (
        (λ same. each_there P (map (label_in s) list) (λ l there. (let found = from_map (label_in s) list l there in subst P found.2 (All-contains Q list found.0 (both.0 same) found.1)))),
        (λ each. both.1 (each_there Q list (λ g there. All-contains P (map (label_in s) list) (label_in s g) each (there_map (label_in s) list g there)))),
      ));
}
